-- A tick adds records in its leader's new-view alone: whether it has room is known before it acts. Assumes nothing.
use Prim.Native.Nat.{ℕ, ◌+◌, ◌-◌, ◌*◌, ◌≤◌}
use mathlib.Core.Path.{◌≡◌, refl, sym, ap, ◌∙◌}
use mathlib.Core.Bool.{true, false, not, ◌&&◌}
use mathlib.Core.List.{List, [], ◌∷◌, Memᴰ as Mem}
use mathlib.Core.Option.{none}
use native.Mathlib.Omega.{arith}
use native.Mathlib.Nat.{mul_comm, mul-le-mul_left}
use lib.Dec.{leb, eqb}
use borrow.Author.Tests.{eqb-true, leb-true}
use Rattle.rules.specs.Lists.{first, any}
use Rattle.rules.specs.Sizes.{only, holds}
use Rattle.rules.specs.Messages.{Effect, to_all, blame_set}
use Rattle.rules.specs.Words.{Statement, same_statement, conflict, own_block, of_block, highest, State, moment}
use Rattle.rules.specs.Inputs.{Work, saying, ◌▸◌, with_phase, with_tables, with_blames, with_log, is_in, quit, below_lock, voted_for, voting, certificate_joined, stored, statement, handled, blames_of, blamed, blame_full, blaming, leads, logging, votes, overdue, complain, leads_now, own_new_view, lead, enters_now, next_lock, entering, entered, current, pair, in_order, voting_all, arrive, enter}
use Rattle.rules.specs.Refusals.{has_room}
use Rattle.rules.specs.WellFormed.{tallies_there, linked}
use Rattle.laws.proofs.Tests.{by_bool, by_option}
use Rattle.laws.proofs.Truths.{and_2, and_3}
use Rattle.laws.proofs.Statements.{mem_order}
use Rattle.kept.specs.Parts.{Formed}
use Rattle.kept.specs.Said.{Each}
use Rattle.kept.proofs.Lists.{mem_each, all_mem}
use Rattle.kept.proofs.Tallies.{join_any}
use Rattle.kept.proofs.Ticks.{logging_keeps, complain_keeps, lead_keeps}
use Rattle.acts.proofs.Rooms.{voting_room}
use Rattle.turns.proofs.Parts.{complain_calm}
use Rattle.turns.proofs.Leading.{lead_never}

-- ---- what adds no record

blaming_room : (v m : ℕ) (s : State) → has_room (blaming v m s).now ≡ has_room s
unfolding blaming quit saying with_phase blamed with_blames has_room
blaming_room v m s =
    by_bool (is_in v (blamed v m s) && blame_full v (blamed v m s)) (λ q. rw (q, blaming)) (λ q. rw (q, blaming))

pub complain_room : (s : State) → has_room (complain s).now ≡ has_room s
unfolding complain saying ◌▸◌
complain_room s =
    by_bool (overdue s) (λ q. rw (q, complain) (blaming_room s.view (only s.settings.own) s)) (λ q. rw (q, complain))

-- a vote joins a tally that is there, and loses none
abbrev Opened : State → Statement → Type 0
Opened s x = any (of_block (own_block x 0)) s.tallies ≡ true

voting_opened : (x y : Statement) (s : State) → Opened s y → Opened (voting x s).now y
unfolding voting saying voted_for with_tables
voting_opened x y s h =
    by_bool (below_lock x s) (λ q. rw (q, voting) h)
    (λ q. rw (q, voting) (join_any (moment none s) (own_block x (only s.settings.own)) (own_block y 0) s.tallies h))

still_opened : (x : Statement) (xs : List Statement) (s : State) → Each (Opened s) xs → Each (Opened (voting x s).now) xs
still_opened x [] s h = tt
still_opened x (y ∷ ys) s h = (voting_opened x y s h.0, still_opened x ys s h.1)

voting_all_room : (xs : List Statement) (s : State) → Each (Opened s) xs → has_room (voting_all xs s).now ≡ has_room s
unfolding voting_all saying ◌▸◌
voting_all_room [] s h = refl
voting_all_room (x ∷ xs) s h = voting_all_room xs (voting x s).now (still_opened x xs s h.1) ∙ voting_room x s h.0

current_opened : (s : State) → ((x : Statement) → Mem x s.statements → Opened s x) → Each (Opened s) (in_order (current s))
current_opened s f = mem_each (Opened s) (in_order (current s)) (λ x m. f x (mem_order s x m).0)

arrive_room : (s : State) → ((x : Statement) → Mem x s.statements → Opened s x) → has_room (arrive s).now ≡ has_room s
unfolding arrive quit saying with_phase has_room
arrive_room s f =
    by_bool (blame_full s.view s) (λ q. rw (q, arrive))
    (λ q.
    by_option (pair (current s)) (λ o. rw (q, o, arrive) (voting_all_room (in_order (current s)) s (current_opened s f))) (λ p o. rw (q, o, arrive)))

formed_opened : {s : State} → Formed s → (x : Statement) → Mem x s.statements → Opened s x
unfolding tallies_there
formed_opened {s} f x m = (and_2 (any (of_block (own_block x 0)) s.tallies) _ (all_mem (tallies_there s.tallies) f.tables.opened m)).0

pub enter_room : {s : State} → Formed s → has_room (enter s).now ≡ has_room s
unfolding enter entered saying entering ◌▸◌ has_room
enter_room {s} f =
    by_bool (enters_now s) (λ q. rw (q, enter) (arrive_room (entering (s.view + 1) (next_lock s) s) (formed_opened f))) (λ q. rw (q, enter))

-- ---- at its leader's moment a view is not overdue

pub overdue_late : (s : State) → overdue s ≡ true → leads_now s ≡ false
unfolding overdue leads_now
overdue_late s q =
    by_bool (leads_now s)
    (λ l.
    let t = and_3 (is_in s.view s) (not (holds (blames_of s.view s) s.settings.own)) (leb ((2 * votes s + 6) * s.settings.D + 2) (s.clock - s.entry)) q in
    let late : (2 * votes s + 6) * s.settings.D + 2 ≤ s.clock - s.entry = leb-true _ _ t.2 in
    let at : s.clock ≡ s.entry + 2 * s.settings.D + 1 = eqb-true _ _ (and_2 (leads s) (eqb s.clock (s.entry + 2 * s.settings.D + 1)) l).1 in
    let more : s.settings.D * 6 ≤ s.settings.D * (2 * votes s + 6) = mul-le-mul_left s.settings.D (omega arith) in
    absurd (omega (arith, mul_comm (2 * votes s + 6) s.settings.D)))
    (λ l. l)

-- the clock and the view stay as they are, so the moment does not come by complaining
blamed_moment : (v m : ℕ) (s : State) → leads_now (blamed v m s) ≡ leads_now s
unfolding leads_now leads is_in blamed with_blames
blamed_moment v m s = refl

quit_late : (es : List Effect) (s : State) → leads_now (quit es s).now ≡ false
unfolding leads_now leads is_in quit saying with_phase
quit_late es s = refl

blaming_late : (v m : ℕ) (s : State) → leads_now s ≡ false → leads_now (blaming v m s).now ≡ false
unfolding blaming saying
blaming_late v m s l =
    let k = blamed v m s in
    by_bool (is_in v k && blame_full v k) (λ q. rw (q, blaming) (quit_late (to_all (blame_set v (blames_of v k)) ∷ []) k)) (λ q. rw (q, blaming) (blamed_moment v m s ∙ l))

complained_late : (s : State) → leads_now s ≡ false → leads_now (complain s).now ≡ false
unfolding complain saying ◌▸◌
complained_late s l =
    by_bool (overdue s) (λ q. rw (q, complain) (blaming_late s.view (only s.settings.own) s l)) (λ q. rw (q, complain) l)

-- so the new-view is made from what was before complaining
pub lead_complained : (s : State) → has_room (lead (complain s).now).now ≡ has_room (lead s).now
unfolding saying
lead_complained s =
    by_bool (overdue s)
    (λ q.
    let l = overdue_late s q in
    ap (λ (w : Work). has_room w.now) (sym (lead_never (complain s).now (complained_late s l))) ∙ complain_room s ∙ ap (λ (w : Work). has_room w.now) (lead_never s l))
    (λ q. ap (λ (w : Work). has_room (lead w.now).now) (sym (complain_calm s q)))

-- ---- the log decides nothing

module _ (l : List ℕ) (x : Statement) (s : State) where
  voting_logged : (voting x (with_log l s)).now ≡ with_log l (voting x s).now
  unfolding voting below_lock saying voted_for with_tables with_log
  voting_logged = by_bool (below_lock x s) (λ q. rw (q, voting)) (λ q. rw (q, voting))

module _ (l : List ℕ) (x : Statement) (s : State) where
  statement_logged : (statement x (with_log l s)).now ≡ with_log l (statement x s).now
  unfolding statement saying is_in certificate_joined stored with_tables with_log quit with_phase
  statement_logged =
      by_bool (any (same_statement x) s.statements) (λ q. rw (q, statement))
      (λ q.
      by_bool (is_in x.view s)
      (λ i.
      by_option (first (conflict x) s.statements) (λ o. rw (q, i, o, statement) (voting_logged l x (stored x s)))
      (λ y o. rw (q, i, o, statement)))
      (λ i. rw (q, i, statement)))

pub lead_logged : (l : List ℕ) (s : State) → has_room (lead (logging l s).now).now ≡ has_room (lead s).now
unfolding lead leads_now leads is_in own_new_view handled logging saying with_log has_room
lead_logged l s =
    by_bool (leads_now s)
    (λ q.
    let t = highest s.settings s.view s.tallies in
    let x : Statement = record { is_new_view = true; view = s.view; height = t.height; name = t.name; link = t.view; mask = t.mask; author = s.settings.own; voted = none } in
    rw (q, lead) (ap has_room (statement_logged l x s)))
    (λ q. rw (q, lead))

-- ---- the whole tick, from the state with its new clock

pub tick_room : {s : State} → Formed s → (l : List ℕ) → linked s.statements 0 0 l ≡ true
    → has_room (logging l s ▸ complain ▸ lead ▸ enter).now ≡ has_room (lead s).now
unfolding ◌▸◌
tick_room {s} f l e =
    let a = logging_keeps f l e in
    let b = complain_keeps a.formed in
    let c = lead_keeps b.formed in
    enter_room c.formed ∙ lead_complained (logging l s).now ∙ lead_logged l s
