-- What comes of a statement, by what was found before the act, and the room for a new one. Assumes nothing.
use Prim.Native.Nat.{ℕ, ◌+◌}
use mathlib.Core.Path.{◌≡◌, refl, sym, ap, ap₂, ◌∙◌, subst}
use mathlib.Core.Bool.{Bool, true, false, ◌&&◌}
use mathlib.Core.List.{List}
use mathlib.Core.Option.{none}
use native.Mathlib.Omega.{arith}
use lib.Dec.{leb, ltb}
use lib.ListN.{length}
use Rattle.rules.specs.Lists.{any}
use Rattle.rules.specs.Words.{Statement, same_statement, own_block, certificate, State, message, Certificate, join, join_certificate, moment}
use Rattle.rules.specs.Inputs.{stored, statement}
use Rattle.rules.specs.Refusals.{has_room}
use Rattle.rules.specs.Limits.{most_statements, most_tallies}
use Rattle.laws.proofs.Tests.{by_bool}
use Rattle.store.specs.Decode.{tallies, statement_at, statements, state_from, state_of}
use Rattle.store.specs.Searches.{block_at, first_from}
use Rattle.std.specs.Prelude.{Option, Some, None}
use Rattle.store.specs.Layout.{statement_table, tally_table, size_in, count_of}
use Rattle.store.proofs.Searches.{found_any, missing_any}
use Rattle.kept.specs.Parts.{WellFormed}
use Rattle.kept.specs.Said.{Sendable}
use Rattle.storing.specs.Records.{certified_at, Newly, needed}
use Rattle.storing.proofs.Records.{count_statements, count_tallies, block_adds, certificate_adds}
use Rattle.storing.proofs.Rooms.{stored_room}
use Rattle.storing.proofs.Statements.{own_stays, own_view}
use Rattle.acts.proofs.Rooms.{repeat_room}
use Rattle.acts.proofs.Answers.{new_room}
use Rattle.plans.specs.Plans.{new_plan, planned, fits}
use Rattle.plans.specs.declared.Plan.{Plan}
use Rattle.plans.specs.declared.Plan.TheVariants.{Repeat, New, Full}

module _ (x : Statement) (s : State) where
  pub planned_repeat : any (same_statement x) s.statements ≡ true → Repeat ≡ planned x s
  unfolding planned
  planned_repeat a = rw (a, planned)

  pub planned_new : any (same_statement x) s.statements ≡ false → {f : Bool} {p q : Option ℕ} → f ≡ has_room (stored x s) → p ≡ certified_at (certificate x) s.tallies
      → q ≡ block_at (own_block x 0) s.tallies → new_plan f p q ≡ planned x s
  unfolding planned
  planned_new a f p q = rw (a, planned) (λ i. new_plan (f i) (p i) (q i))

  newly_planned : {p q : Option ℕ} → Newly x s p q → New p q ≡ planned x s
  newly_planned k = planned_new k.is_new (sym k.room) k.certified k.own

  -- what a plan tells
  abbrev Tells : Plan → Type 0
  Tells Repeat = any (same_statement x) s.statements ≡ true
  Tells (New p q) = Newly x s p q
  Tells Full = (any (same_statement x) s.statements ≡ false) × (has_room (stored x s) ≡ false)

  full_planned : Tells Full → Full ≡ planned x s
  full_planned h = planned_new h.0 (sym h.1) refl refl

  by_plan : {P : Type 0} → (Tells Repeat → P) → ((p q : Option ℕ) → Newly x s p q → P) → (Tells Full → P) → P
  by_plan f g h =
      by_bool (any (same_statement x) s.statements) f
      (λ a. by_bool (has_room (stored x s)) (λ r. g _ _ (record { is_new = a; room = r; certified = refl; own = refl })) (λ r. h (a, r)))

  pub plan_tells : (r : Plan) → r ≡ planned x s → Tells r
  plan_tells r e =
      subst Tells (sym e) (by_plan (λ a. subst Tells (planned_repeat a) a) (λ p q k. subst Tells (newly_planned k) k) (λ a. subst Tells (full_planned a) a))

  pub plan_room : WellFormed s → (r : Plan) → r ≡ planned x s → fits r ≡ has_room (statement x s).now
  unfolding fits
  plan_room w r e =
      ap fits e
      ∙ by_plan (λ a. ap fits (sym (planned_repeat a)) ∙ repeat_room w x a) (λ p q k. ap fits (sym (newly_planned k)) ∙ sym (new_room x s k.is_new ∙ k.room))
      (λ a. ap fits (sym (full_planned a)) ∙ sym (new_room x s a.0 ∙ a.1))

-- ---- what was found

module _ (b : List ℕ) (x : Statement) (r : Option ℕ) (e : r ≡ first_from (same_statement x) 0 (statements b)) where
  pub is_repeat : (j : ℕ) → r ≡ Some j → any (same_statement x) (state_of b).statements ≡ true
  unfolding state_of state_from statements
  is_repeat j q = found_any (same_statement x) (statement_at b) (count_of statement_table b) r e j q

  pub is_new_lem : r ≡ None → any (same_statement x) (state_of b).statements ≡ false
  unfolding state_of state_from statements
  is_new_lem q = missing_any (same_statement x) (statement_at b) (count_of statement_table b) r e q

-- ---- a new one, with its certificate t and its own block u

module _ (b : List ℕ) (x : Statement) (m : Sendable (state_of b).settings (message x)) (t u : Certificate) (et : t ≡ certificate x) (eu : u ≡ own_block x 0) where
  module _ (q : Option ℕ) (eq : q ≡ block_at u (tallies b)) where
    -- i statements and j tallies are there; its certificate needs k tallies more, its own block l
    pub new_planned : any (same_statement x) (state_of b).statements ≡ false → (p : Option ℕ) → p ≡ certified_at t (tallies b) → (i j k l few many : ℕ) → few ≡ most_statements (size_in b) → many ≡ most_tallies (size_in b) → i ≡ count_of statement_table b
        → j ≡ count_of tally_table b → k ≡ needed t p → l ≡ needed u q → new_plan (ltb i few && leb (j + (k + l)) many) p q ≡ planned x (state_of b)
    unfolding state_of state_from
    new_planned new p ep i j k l few many ef em ei ej ek el =
        let s = state_of b in
        let n : j + (k + l) ≡ length (join (moment none s) u (join_certificate (moment none s) t s.tallies)) =
        omega (arith, count_tallies b, certificate_adds t (moment none s) s.tallies p ep, block_adds u (moment none s) (join_certificate (moment none s) t s.tallies) q (own_view b x m t u et eu q eq) (own_stays b x m t u et eu q eq)) in
        let room = (λ h. ltb ((ei ∙ sym (count_statements b)) h) (ef h) && leb (j + (k + l)) (em h))
        ∙ stored_room s x (j + (k + l)) (n ∙ ap₂ (λ (v w : Certificate). length (join (moment none s) w (join_certificate (moment none s) v s.tallies))) et eu) in
        planned_new x s new room (rw (← et) ep) (rw (← eu) eq)
