-- A stored statement by its place: it is the first that is the same, it may be sent, and its own block's tally is there. Assumes nothing.
use Prim.Native.Nat.{ℕ, zero, suc, ◌+◌, ◌≤◌, ◌<◌}
use mathlib.Core.Path.{◌≡◌, refl, sym, ap, ◌∙◌, subst}
use mathlib.Core.Bool.{Bool, true, not}
use mathlib.Core.List.{List, [], ◌∷◌}
use mathlib.Core.Option.{Option, none}
use native.Mathlib.Omega.{arith}
use native.Mathlib.Nat.{add-zero, zero-add}
use lib.ListN.{length}
use borrow.Author.Tests.{not-true}
use Rattle.rules.specs.Limits.{most_tallies, last_clock}
use Rattle.rules.specs.Lists.{any, distinct, alter}
use Rattle.rules.specs.Sizes.{Settings, only}
use Rattle.rules.specs.Words.{Statement, message, same_statement, Certificate, Opener, Tally, Moment, own_block, same_block, of_block, join, State, moment}
use Rattle.rules.specs.Inputs.{with_tables, noted, voted_for}
use Rattle.rules.specs.WellFormed.{statement_good, tallies_there}
use Rattle.laws.proofs.Tests.{by_bool, no_bool}
use Rattle.laws.proofs.Truths.{and_2}
use Rattle.wire.specs.Meaning.{statement_of, Linked}
use Rattle.wire.specs.declared.Statement as code
use Rattle.store.specs.Layout.{statement_table, size_in, count_of}
use Rattle.store.specs.Decode.{rows, statement_at, statements, tallies, state_from, state_of, Left}
use Rattle.store.specs.Searches.{pick, first_from, block_at}
use Rattle.joining.specs.Changes.{joining}
use Rattle.records.specs.Changes.{noting}
use Rattle.std.specs.Prelude.{Option as Maybe, Some}
use Rattle.store.proofs.Rows.{rows_all}
use Rattle.records.proofs.Places.{alter_found}
use Rattle.kept.specs.Said.{Sendable}
use Rattle.kept.proofs.Statements.{stored_sendable}
use Rattle.kept.proofs.Facts.{sizes_of, clocks_of}
use Rattle.words.proofs.Statements.{same_unvoted}
use Rattle.storing.proofs.Rooms.{same_cong, own_any, there_length, there_same}
use Rattle.storing.proofs.Statements.{sendable_certifies}
use Rattle.acts.specs.Works.{Formed}
use Rattle.acts.specs.Answers.{Stands}
use Rattle.acts.proofs.Works.{formed_parts, left_then}
use Rattle.acts.proofs.Answers.{same_self}

-- ---- records that differ

module _ {A : Type 0} (f : ℕ → A) where
  any_at : (p : A → Bool) (k n j : ℕ) → j < n → p (f (k + j)) ≡ true → any p (rows f k n) ≡ true
  unfolding any rows
  any_at p k zero j l e = absurd (omega arith)
  any_at p k (suc n) zero l e = rw (ap (λ (i : ℕ). p (f i)) (sym (add-zero k)) ∙ e, any)
  any_at p k (suc n) (suc j) l e =
      by_bool (p (f k)) (λ q. rw (q, any)) (λ q. rw (q, any) (any_at p (suc k) n j (omega arith) (ap (λ (i : ℕ). p (f i)) (omega arith) ∙ e)))

  -- the first that is the same as one of them stands at its place
  first_at : (same : A → A → Bool) → ((x y z : A) → same x y ≡ true → same x z ≡ same y z) → (x : A) (k n j : ℕ) → distinct same (rows f k n) ≡ true → j < n
      → same x (f (k + j)) ≡ true → first_from (same x) k (rows f k n) ≡ Some (k + j)
  unfolding rows first_from distinct
  first_at same cong x k zero j d l e = absurd (omega arith)
  first_at same cong x k (suc n) zero d l e = rw (ap (λ (i : ℕ). same x (f i)) (sym (add-zero k)) ∙ e) (ap Some (sym (add-zero k)))
  first_at same cong x k (suc n) (suc j) d l e =
      let t = and_2 (not (any (same (f k)) (rows f (suc k) n))) (distinct same (rows f (suc k) n)) d in
      let z : same x (f (suc k + j)) ≡ true = ap (λ (i : ℕ). same x (f i)) (omega arith) ∙ e in
      by_bool (same x (f k))
      (λ q. no_bool (sym (any_at (same (f k)) (suc k) n j (omega arith) (sym (cong x (f k) (f (suc k + j)) q) ∙ z)) ∙ not-true _ t.0))
      (λ q. rw q (first_at same cong x (suc k) n j t.1 (omega arith) z ∙ ap Some (omega arith)))

-- ---- what may be sent

pub sendable_linked : (g : Settings) (x : code.Statement) → Sendable g (message (statement_of x none)) → Linked x
unfolding statement_of
sendable_linked g x m = (sendable_certifies g x m).view

-- ---- a block by its place, whatever mask it comes with
own_place : (x : Statement) (m i : ℕ) (us : List Tally) → first_from (of_block (own_block x 0)) i us ≡ first_from (of_block (own_block x m)) i us
unfolding first_from same_block own_block
own_place x m i [] = refl
own_place x m i (u ∷ us) = ap (pick (of_block (own_block x 0) u) (Some i)) (own_place x m (suc i) us)

-- ---- the statement at a place

module _ (x : code.Statement) (v : Option ℕ) where
  unvoted_message : message (statement_of x v) ≡ message (statement_of x none)
  unfolding message statement_of
  unvoted_message = refl

  unvoted_block : (m : ℕ) → own_block (statement_of x v) m ≡ own_block (statement_of x none) m
  unfolding own_block statement_of
  unvoted_block m = refl

module _ {b : List ℕ} (k : Formed b) {i : ℕ} {x : code.Statement} (t : Stands b i x) where
  abbrev X : Statement
  X = statement_of x none

  place_same : same_statement X (statement_at b i) ≡ true
  place_same = ap (same_statement X) (sym t.is) ∙ same_unvoted x x none (statement_at b i).voted ∙ same_self X

  place_first : first_from (same_statement X) 0 (state_of b).statements ≡ Some i
  unfolding state_of state_from statements
  place_first =
      first_at (statement_at b) same_statement (λ w y z e. same_cong w y e z) X 0 (count_of statement_table b) i (formed_parts k).formed.tables.statements_differ t.within
      (ap (λ (j : ℕ). same_statement X (statement_at b j)) (zero-add i) ∙ place_same)
      ∙ ap Some (zero-add i)

  place_good : statement_good (state_of b) (statement_at b i) ≡ true
  unfolding state_of state_from statements
  place_good =
      rows_all (statement_good (state_of b)) (statement_at b) 0 (count_of statement_table b) (formed_parts k).formed.tables.statements i (omega arith) (omega (arith, t.within))

  place_there : tallies_there (state_of b).tallies (statement_at b i) ≡ true
  unfolding state_of state_from statements
  place_there =
      rows_all (tallies_there (state_of b).tallies) (statement_at b) 0 (count_of statement_table b) (formed_parts k).formed.tables.opened i (omega arith) (omega (arith, t.within))

  pub place_sendable : Sendable (state_of b).settings (message X)
  place_sendable =
      subst (Sendable (state_of b).settings) (ap message (sym t.is) ∙ unvoted_message x (statement_at b i).voted)
      (stored_sendable (state_of b) (statement_at b i) (sizes_of (formed_parts k).formed) place_good)

  -- "tallies exist from now on for .. its own block"
  pub place_own : (m : ℕ) → any (of_block (own_block X m)) (state_of b).tallies ≡ true
  unfolding tallies_there
  place_own m =
      let h = (and_2 (any (of_block (own_block (statement_at b i) 0)) (state_of b).tallies) _ place_there).0 in
      let e : own_block (statement_at b i) 0 ≡ own_block X 0 = ap (λ (y : Statement). own_block y 0) (sym t.is) ∙ unvoted_block x (statement_at b i).voted 0 in
      own_any X m (state_of b).tallies ∙ ap (λ (u : Certificate). any (of_block u) (state_of b).tallies) (sym e) ∙ h

  -- its vote is noted and joined
  pub place_voted : {b₁ b₂ : List ℕ} (o : Opener) (c : ℕ) (u : Certificate) → c ≡ (state_of b).clock → u ≡ own_block X (only (state_of b).settings.own) → Left b₁ (noting i c (state_of b))
      → Left b₂ (joining o u (state_of b₁)) → Left b₂ (voted_for X (state_of b))
  unfolding joining noting voted_for with_tables
  place_voted o c u d e l m =
      let s = state_of b in
      let a = alter_found (same_statement X) (noted c) s.statements i place_first in
      let own = only s.settings.own in
      left_then (joining o u) l m
      ((λ j. with_tables ((sym a ∙ ap (λ (n : ℕ). alter (same_statement X) (noted n) s.statements) d) j) (join (moment o s) (e j) s.tallies) s)
      ∙ ap (λ (us : List Tally). with_tables (alter (same_statement X) (noted s.clock) s.statements) us s) (there_same s o none (own_block X own) s.tallies (place_own own)))

  pub place_message : message X ≡ message (statement_at b i)
  place_message = sym (unvoted_message x (statement_at b i).voted) ∙ ap message t.is

  -- so its tally needs no record
  pub place_room : {b₁ : List ℕ} (at : Moment) (c m : ℕ) (u : Certificate) → u ≡ own_block X m → Left b₁ (noting i c (state_of b)) → length (join at u (tallies b₁)) ≤ most_tallies (size_in b₁)
  unfolding noting with_tables state_of state_from
  place_room {b₁} at c m u e l =
      let s = state_of b in
      let r : tallies b₁ ≡ tallies b = ap (λ (z : State). z.tallies) l.is in
      let n = there_length at (own_block X m) s.tallies (place_own m) in
      let z : size_in b₁ ≡ size_in b = ap (λ (y : State). y.settings.size) l.is in
      rw (r, e, z) (omega (arith, (formed_parts k).few_tallies))

  -- the clock is as it was
  pub place_clock : {b₁ : List ℕ} (c : ℕ) → Left b₁ (noting i c (state_of b)) → (state_of b₁).clock ≤ last_clock
  unfolding noting with_tables
  place_clock c l = omega (arith, ap (λ (z : State). z.clock) l.is, (clocks_of (formed_parts k).formed).last)

  -- and its tally is where it was found
  pub place_found : {b₁ : List ℕ} (c m : ℕ) (u : Certificate) (r : Maybe ℕ) → u ≡ own_block X m → r ≡ block_at (own_block X 0) (tallies b) → Left b₁ (noting i c (state_of b)) → r ≡ block_at u (tallies b₁)
  unfolding noting with_tables state_of state_from
  place_found {b₁} c m u r e d l =
      let q : tallies b₁ ≡ tallies b = ap (λ (z : State). z.tallies) l.is in
      rw (q, e) (d ∙ own_place X m 0 (tallies b))
