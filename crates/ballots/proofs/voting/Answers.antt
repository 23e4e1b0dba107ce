-- `ballots::voting` meets its contract. Assumes nothing.
use Rattle.fields.specs.Names.{name_of}
use Rattle.acts.proofs.Votes.{voting_below, voting_cast, ballot_is, loaded_own, own_small, loaded_below}
use Rattle.tallies.specs.Meaning.{with_voters}
use Rattle.storing.proofs.Statements.{voter_block, sendable_certifies}
use Rattle.acts.proofs.Places.{sendable_linked, place_sendable, place_voted, place_room, place_clock, place_found}
use Rattle.acts.proofs.Works.{formed_parts, ballot_bytes, works_is, works_none, works_saying}
use Rattle.kept.proofs.Facts.{clocks_of}
use Rattle.store.proofs.Loaded.{loaded_clock}
use Rattle.store.proofs.Forms.{form_long}
use Rattle.store.specs.Decode.{state_of}
use Rattle.wire.specs.Meaning.{statement_of, message_of}
use Rattle.rules.specs.Inputs.{ballot}
use Rattle.rules.specs.Words.{own_block}
use Rattle.rules.specs.Sizes.{only}
use Rattle.words.specs.Meaning.{block_of}
use mathlib.Core.Option.{none, some}
use native.Mathlib.Omega.{arith}
use Prim.Native.Nat.{ℕ}
use mathlib.Core.Path.{refl, sym, ap, ◌∙◌}
use Rattle.ballots.proofs.voting.Goals as goal

pub load-station-requires : goal.load-station-requires
load-station-requires c =
    omega (arith, form_long _ c.requires.0.form)

pub below_lock-requires : goal.below_lock-requires
below_lock-requires c =
    let args = c.args in let pre = c.requires in
    sendable_certifies (state_of args.store.now).settings args.x (place_sendable pre.0 pre.1)

pub returns-then-below_lock : goal.returns-then-below_lock
returns-then-below_lock c =
    let args = c.args in let pre = c.requires in let load = c.load-station in
    let b = args.store.now in
    works_is (voting_below (statement_of args.x none) (state_of b) (sym (loaded_below pre.0 load.result load.ensures (statement_of args.x none)) ∙ sym c.below_lock.ensures ∙ c.if-below_lock.true))
    (works_none args.out.now args.at (record { form = pre.0.form; is = refl }))

pub note_vote-requires : goal.note_vote-requires
note_vote-requires c =
    let load = c.load-station in
    (c.requires.0.form, c.requires.1.within, omega (arith, loaded_clock load.result c.args.store.now load.ensures, (clocks_of (formed_parts c.requires.0).formed).last))

pub join_found-requires : goal.join_found-requires
join_found-requires c =
    let args = c.args in let p = c.requires in
    let load = c.load-station in
    let vote = c.note_vote in
    let block = c.own_block in
    let x = statement_of args.x none in
    let m = only load.result.settings.own in
    let own = own_small p.0 load.result load.ensures in
    (vote.ensures.form, place_room p.0 p.1 _ _ m (with_voters m (block_of block.result)) (voter_block x m block.ensures) vote.ensures, place_found p.0 p.1 _ _ (block_of block.result) _ block.ensures p.2 vote.ensures, place_clock p.0 p.1 _ vote.ensures, own)

pub overflow_cast-vote : goal.overflow_cast-vote
overflow_cast-vote c =
    let load = c.load-station in
    record { fits = omega (arith, own_small c.requires.0 load.result load.ensures) }

pub send_both-requires : goal.send_both-requires
unfolding message_of
send_both-requires c =
    let load = c.load-station in
    let a = c.args in
    (sendable_linked (state_of a.store.now).settings a.x (place_sendable c.requires.0 c.requires.1), tt, omega (arith, ballot_bytes (statement_of a.x none) a.x.view a.x.height (name_of a.x.name) load.result.settings.own, c.requires.3))

pub returns : goal.returns
returns c =
    let load = c.load-station in
    let below-lock = c.below_lock in
    let if1 = c.if-below_lock in
    let vote = c.note_vote in
    let block = c.own_block in
    let join-found = c.join_found in
    let a = c.args in
    let k = c.requires.0 in
    let s = state_of a.store.now in
    let x = statement_of a.x none in
    let own = loaded_own k load.result load.ensures in
    let m = only load.result.settings.own in
    works_is (voting_cast x s (sym (loaded_below k load.result load.ensures x) ∙ sym below-lock.ensures ∙ if1.false))
    (works_saying (ballot x s)
    (place_voted k c.requires.1 (some load.result.settings.own) load.result.clock (with_voters m (block_of block.result)) (loaded_clock load.result a.store.now load.ensures) (voter_block x m block.ensures ∙ ap (λ (i : ℕ). own_block x (only i)) own) vote.ensures join-found.ensures.left)
    (rw (← ballot_is a.x s load.result.settings.own own) c.send_both.ensures))
