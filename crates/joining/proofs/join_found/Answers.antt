-- `join_found` meets its contract: the place decides between growing and opening. Assumes nothing.
use Prim.Native.Nat.{◌≤◌}
use mathlib.Core.Path.{◌≡◌, refl, ◌∙◌, ap}
use native.Mathlib.Omega.{arith}
use Rattle.rules.specs.Limits.{last_clock}
use Rattle.rules.specs.Words.{Moment, Opener, moment, State}
use Rattle.words.specs.Meaning.{block_of}
use Rattle.store.specs.Decode.{state_of}
use Rattle.tallies.specs.Meaning.{voters_of, author_of, moment_of, with_voters}
use Rattle.tallies.specs.declared.Moment as code
use Rattle.joining.proofs.Joining.{opened_fits, place_within, room_left, joined_there, joined_new, voters_apart, empty_grown}
use Rattle.joining.proofs.join_found.Goals as goal

-- the moment's clock is the station's
in-time : (k : code.Moment) (o : Opener) (s : State) → moment_of k ≡ moment o s → s.clock ≤ last_clock → k.clock ≤ last_clock
unfolding moment_of
in-time k o s e l = omega (arith, ap (λ (m : Moment). m.clock) e)

pub moment_in-moment-requires : goal.moment_in-moment-requires
moment_in-moment-requires c = (c.requires.0, c.requires.4)

pub join_at-requires : goal.join_at-requires
join_at-requires c = (
  c.requires.0,
  place_within c.args.store.now (author_of c.args.voters) (block_of c.args.block) _ c.requires.2 _ c.in-Some.is,
  in-time c.moment_in-moment.result (author_of c.args.voters) (state_of c.args.store.now) c.moment_in-moment.ensures c.requires.3,
  c.requires.4,
)

pub joined-requires : goal.joined-requires
joined-requires c = c.requires.4

pub open_tally-requires : goal.open_tally-requires
open_tally-requires c =
    let a = c.args in
    let m = voters_of a.voters in
    let opened = empty_grown (moment (author_of a.voters) (state_of a.store.now)) (block_of a.block) m (rw c.moment_in-moment.ensures at c.empty.ensures) (rw c.moment_in-moment.ensures at c.joined.ensures) in
    (c.requires.0, room_left a.store.now (author_of a.voters) (with_voters m (block_of a.block)) _ (c.requires.2 ∙ voters_apart m (block_of a.block) _) c.in-None.is c.requires.1, opened_fits _ _ a.voters c.joined.result opened c.requires.3 c.requires.4 refl)

pub returns-in-Some : goal.returns-in-Some
returns-in-Some c =
    let a = c.args in
    let m = voters_of a.voters in
    joined_there a.store.now (author_of a.voters) (with_voters m (block_of a.block)) _ (c.requires.2 ∙ voters_apart m (block_of a.block) _) _ c.in-Some.is
    (rw c.moment_in-moment.ensures at c.join_at.ensures)

pub returns-in-None : goal.returns-in-None
returns-in-None c =
    let a = c.args in
    let m = voters_of a.voters in
    let opened = empty_grown (moment (author_of a.voters) (state_of a.store.now)) (block_of a.block) m (rw c.moment_in-moment.ensures at c.empty.ensures) (rw c.moment_in-moment.ensures at c.joined.ensures) in
    joined_new a.store.now (author_of a.voters) (with_voters m (block_of a.block)) _ (c.requires.2 ∙ voters_apart m (block_of a.block) _) c.in-None.is c.open_tally.ensures.0 (rw (← opened) c.open_tally.ensures.1)
