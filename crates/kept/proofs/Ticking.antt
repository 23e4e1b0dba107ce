-- The largest tick: one that enters a view was waiting and says nothing before; one that was in a view doesn't enter. Assumes nothing.
use mathlib.Core.Path.{◌≡◌, refl, sym, ap, ◌∙◌}
use mathlib.Core.Logic.{◌⊎◌, inl, inr}
use Prim.Native.Nat.{ℕ, suc, ◌+◌, ◌-◌, ◌*◌, ◌≤◌, ◌<◌}
use native.Mathlib.Omega.{arith}
use mathlib.Core.Bool.{true, false, ◌&&◌, and-false}
use mathlib.Core.List.{List, [], ◌∷◌, append-nil}
use mathlib.Core.Option.{none, some, map-eq-some_iff, some-injective}
use lib.Dec.{ltb}
use lib.ListN.{length, drop, length-drop}
use borrow.Author.Tests.{ne_eqb}
use Rattle.rules.specs.Limits.{Size, last_view, most_statements, last_clock}
use Rattle.rules.specs.Lists.{first, any, keep, sorted}
use Rattle.rules.specs.Sizes.{only}
use Rattle.rules.specs.Words.{Statement, same_statement, conflict, Phase, in_view, waiting, stopped, State}
use Rattle.rules.specs.Inputs.{Work, saying, ◌▸◌, with_phase, with_clock, with_tables, with_blames, with_log, is_in, quit, below_lock, voted_for, voting, certificate_joined, stored, statement, blamed, blame_full, blaming, handled, is_due, due, commits, logging, overdue, complain, leads, leads_now, own_new_view, lead, enters_now, enter, ticked}
use Rattle.rules.specs.Refusals.{running}
use Rattle.laws.proofs.Bounds.{statements_some}
use Rattle.laws.proofs.Tests.{by_bool, by_option, no_bool}
use Rattle.kept.specs.Parts.{WellFormed}
use Rattle.kept.proofs.Phases.{clock_formed}
use Rattle.kept.proofs.Logs.{linked_length, proposes_length, commits_linked}
use Rattle.kept.proofs.Reports.{due_stored}
use Rattle.laws.proofs.Lengths.{bytes, reports_bytes}
use Rattle.kept.proofs.Room.{then_bytes, complain_bytes, lead_bytes, enter_bytes}

-- a rule that does nothing
skip : (w : Work) (r : State → Work) → r w.now ≡ saying w.now [] → (w ▸ r) ≡ w
unfolding ◌▸◌ saying
skip w r e = rw (e, ◌▸◌, append-nil)

-- ---- waiting

module _ (s : State) (q : ℕ) (p : s.phase ≡ waiting q) where
  not_in : (v : ℕ) → is_in v s ≡ false
  unfolding is_in
  not_in v = rw (p, is_in)

  not_due : (x : Statement) → is_due s x ≡ false
  unfolding is_due
  not_due x = by_bool x.is_new_view (λ k. rw (k, is_due)) (λ k. rw (k, not_in x.view, is_due))

  none_kept : (xs : List Statement) → keep (is_due s) xs ≡ []
  unfolding keep
  none_kept [] = refl
  none_kept (x ∷ xs) = rw (not_due x, keep) (none_kept xs)

  nothing_due : due s ≡ []
  unfolding due sorted
  nothing_due = ap (sorted (λ x. x.height)) (none_kept s.statements)

  no_complaint : complain s ≡ saying s []
  unfolding complain overdue
  no_complaint = let n : overdue s ≡ false = rw (not_in s.view, overdue) in rw (n, complain)

  no_lead : lead s ≡ saying s []
  unfolding lead leads_now leads
  no_lead = let n : leads_now s ≡ false = rw (not_in s.view, leads_now) in rw (n, lead)

-- ---- in a view, or just quit

abbrev Settled : State → Type 0
Settled s = (s.phase ≡ in_view) ⊎ (s.phase ≡ waiting s.clock)

voting_settled : (x : Statement) (s : State) → Settled s → Settled (voting x s).now
unfolding voting saying voted_for with_tables
voting_settled x s h = by_bool (below_lock x s) (λ q. rw (q, voting) h) (λ q. rw (q, voting) h)

statement_settled : (x : Statement) (s : State) → Settled s → Settled (statement x s).now
unfolding statement saying certificate_joined stored with_tables quit with_phase
statement_settled x s h =
    by_bool (any (same_statement x) s.statements) (λ q. rw (q, statement) h)
    (λ q.
    by_bool (is_in x.view s)
    (λ i.
    by_option (first (conflict x) s.statements) (λ o. rw (q, i, o, statement) (voting_settled x (stored x s) h))
    (λ y o. rw (q, i, o, statement) (inr refl)))
    (λ i. rw (q, i, statement) h))

blaming_settled : (v m : ℕ) (s : State) → Settled s → Settled (blaming v m s).now
unfolding blaming saying blamed with_blames quit with_phase
blaming_settled v m s h =
    by_bool (is_in v (blamed v m s) && blame_full v (blamed v m s)) (λ q. rw (q, blaming) (inr refl)) (λ q. rw (q, blaming) h)

complain_settled : (s : State) → Settled s → Settled (complain s).now
unfolding complain saying ◌▸◌
complain_settled s h =
    by_bool (overdue s) (λ q. rw (q, complain) (blaming_settled s.view (only s.settings.own) s h)) (λ q. rw (q, complain) h)

lead_settled : (s : State) → Settled s → Settled (lead s).now
unfolding lead saying handled own_new_view
lead_settled s h =
    by_bool (leads_now s)
    (λ q. rw (q, lead) (statement_settled (record { is_new_view = true; view = s.view; height = _; name = _; link = _; mask = _; author = _; voted = none }) s h))
    (λ q. rw (q, lead) h)

no_entry : (s : State) → Settled s → enter s ≡ saying s []
unfolding enter enters_now
no_entry s (inl p) = let n : enters_now s ≡ false = rw (p, enters_now) in rw (n, enter)
no_entry s (inr p) =
    let d = ne_eqb s.clock (s.clock + s.settings.D + 1) (λ e. omega arith) in
    let n : enters_now s ≡ false = rw (p, enters_now, d) (and-false (ltb s.view (last_view s.settings.size))) in
    rw (n, enter)

-- ---- the whole tick

-- entering with a full table of statements to vote for: a status of 62 bytes, then for each a propose of 100 and a vote of 60
abbrev pub largest_tick : Size → ℕ
largest_tick z = 62 + 160 * most_statements z

module _ (l : List ℕ) (s : State) where
  gained_bytes : bytes (logging l s).out ≡ 39 * (length l - length s.log)
  unfolding logging saying
  gained_bytes =
      let a = reports_bytes (suc (length s.log)) (drop (length s.log) l) in
      let b = length-drop (length s.log) l in
      omega arith

  -- one that was in a view: commits, blame, set and the leader's new-view
  in_bytes : s.phase ≡ in_view → length l ≤ most_statements s.settings.size → bytes (logging l s ▸ complain ▸ lead ▸ enter).out ≤ 39 * (most_statements s.settings.size) + 37 + 200
  unfolding logging saying with_log ◌▸◌
  in_bytes p k =
      let w = logging l s in
      let n = lead_settled (w ▸ complain).now (complain_settled w.now (inl p)) in
      let a = then_bytes (w ▸ complain) lead in
      let b = then_bytes w complain in
      let c = complain_bytes w.now in
      let d = lead_bytes (w ▸ complain).now in
      let e = gained_bytes in
      let z = ap (λ (u : Work). bytes u.out) (skip (w ▸ complain ▸ lead) enter (no_entry (w ▸ complain ▸ lead).now n)) in
      omega arith

  -- one that waited: nothing but the entry
  waited_bytes : (q : ℕ) → s.phase ≡ waiting q → l ≡ s.log → length s.statements ≤ most_statements s.settings.size
      → bytes (logging l s ▸ complain ▸ lead ▸ enter).out ≤ largest_tick s.settings.size
  unfolding logging saying with_log
  waited_bytes q p h k =
      let w = logging l s in
      let a = gained_bytes in
      let b = then_bytes w enter in
      let c = enter_bytes (most_statements s.settings.size) (omega (arith, statements_some s.settings.size)) w.now k in
      let z = ap length h in
      rw (skip w complain (no_complaint w.now q p), skip w lead (no_lead w.now q p)) (omega arith)

pub ticked_bytes : {s : State} {w : Work} → WellFormed s → running s ≡ true → s.clock < last_clock → ticked s ≡ some w → bytes w.out ≤ largest_tick s.settings.size
unfolding ticked with_clock running
ticked_bytes {s} {w} f r c e =
    let now = with_clock (s.clock + 1) s in
    let k = clock_formed f.formed c in
    let (l, d, i) = (map-eq-some_iff (λ l. logging l now ▸ complain ▸ lead ▸ enter) (commits now.statements (due now) now.log)).0 e in
    let h = linked_length now.statements l (commits_linked k (due now) now.log l (due_stored now) d k.tables.log) in
    let j = proposes_length now.statements in
    let m = f.few_statements in
    rw (← i) (go s.phase refl l d (omega arith) m)
  where
    go : (p : Phase) → s.phase ≡ p → (l : List ℕ) → commits s.statements (due (with_clock (s.clock + 1) s)) s.log ≡ some l
        → length l ≤ most_statements s.settings.size → length s.statements ≤ most_statements s.settings.size
        → bytes (logging l (with_clock (s.clock + 1) s) ▸ complain ▸ lead ▸ enter).out ≤ largest_tick s.settings.size
    go in_view p l d h m = let a = in_bytes l (with_clock (s.clock + 1) s) p h in omega (arith, statements_some s.settings.size)
    go (waiting q) p l d h m =
        let none-due = ap (λ (ds : List Statement). commits s.statements ds s.log) (sym (nothing_due (with_clock (s.clock + 1) s) q p)) in
        waited_bytes l (with_clock (s.clock + 1) s) q p (sym (some-injective s.log l (none-due ∙ d))) m
    go (stopped x) p l d h m = no_bool (sym (rw (p, running) at r))
