-- A statement: what it conflicts with, and where it stands once it is stored. Assumes nothing.
use Prim.Native.Nat.{ℕ, ◌+◌, ◌≤◌, ◌<◌}
use mathlib.Core.Path.{◌≡◌, refl, sym, ap, ◌∙◌}
use mathlib.Core.Bool.{true}
use mathlib.Core.List.{List, [], ◌∷◌, ◌++◌}
use mathlib.Core.Option.{none, some}
use native.Mathlib.Omega.{arith}
use native.Mathlib.Nat.{zero-add}
use lib.ListN.{length, get_or, length-append}
use lib.Seq.{get_or_at}
use Rattle.rules.specs.Limits.{most_tallies}
use Rattle.rules.specs.Lists.{first, any}
use Rattle.rules.specs.Words.{Statement, same_statement, conflict, Certificate, certificate, join_certificate, State, moment}
use Rattle.rules.specs.Inputs.{saying, with_tables, certificate_joined, stored, statement, handled}
use Rattle.wire.specs.Meaning.{statement_of, message_of}
use Rattle.wire.specs.declared.Statement as code
use Rattle.wire.specs.declared.Message.TheVariants.{Stated}
use Rattle.store.specs.Layout.{statement_table, size_in, count_of}
use Rattle.store.specs.Decode.{statement_at, statements, tallies, state_from, state_of, Left}
use Rattle.store.specs.Searches.{first_from}
use Rattle.joining.specs.Changes.{certifying}
use Rattle.std.specs.Prelude.{Option, Some, None}
use Rattle.store.proofs.Rows.{rows_at}
use Rattle.search.specs.Finds.{found_in, Inside, Finds}
use Rattle.search.proofs.Searches.{found_first}
use Rattle.acts.specs.Answers.{Stands}
use Rattle.storing.proofs.Records.{count_statements}
use Rattle.storing.proofs.Rooms.{repeat_length}
use Rattle.acts.specs.Works.{Formed}
use Rattle.acts.proofs.Works.{formed_parts}
use Rattle.acts.proofs.Answers.{handled_statement}

-- ---- as the code has it

module _ (x : code.Statement) where
  pub code_unvoted : (statement_of x none).voted ≡ none
  unfolding statement_of
  code_unvoted = refl

  -- so as a message it is handled as the statement that it is
  pub handled_stated : handled (message_of (Stated x)) ≡ statement (statement_of x none)
  unfolding message_of
  handled_stated = handled_statement (statement_of x none) code_unvoted

-- ---- what was found

module _ (b : List ℕ) (x : Statement) (r : Option ℕ) where
  abbrev n : ℕ
  n = count_of statement_table b

  module _ (e : r ≡ first_from (conflict x) 0 (statements b)) where
    found : Finds (statement_at b) (0 + n) (first (conflict x) (state_of b).statements) r
    unfolding state_of state_from statements
    found = rw e (found_first (statement_at b) (conflict x) 0 n)

    pub conflict_within : (i : ℕ) → r ≡ Some i → i < n
    conflict_within i q = let h : Inside (0 + n) (Some i) = rw q at found.inside in omega arith

    pub conflict_at : (i : ℕ) → r ≡ Some i → first (conflict x) (state_of b).statements ≡ some (statement_at b i)
    conflict_at i q = sym found.is ∙ ap (found_in (statement_at b)) q

    pub conflict_none : r ≡ None → first (conflict x) (state_of b).statements ≡ none
    conflict_none q = sym found.is ∙ ap (found_in (statement_at b)) q

-- ---- where it stands

at_place : (b : List ℕ) (d : Statement) (i : ℕ) → i < count_of statement_table b → get_or (state_of b).statements i d ≡ statement_at b i
unfolding state_of state_from statements
at_place b d i l = rows_at (statement_at b) d 0 (count_of statement_table b) i l ∙ ap (statement_at b) (zero-add i)

-- it stands behind the others
pub stored_stands : (b : List ℕ) {b' : List ℕ} (x : code.Statement) (i : ℕ) → i ≡ count_of statement_table b → Left b' (stored (statement_of x none) (state_of b)) → Stands b' i x
unfolding stored with_tables statement_of
stored_stands b {b'} x i ei l =
    let y = statement_of x none in
    let e : (state_of b').statements ≡ (state_of b).statements ++ y ∷ [] = ap (λ (s : State). s.statements) l.is in
    let w : i < count_of statement_table b' = omega (arith, count_statements b', count_statements b, ap length e, length-append (state_of b).statements (y ∷ [])) in
    let d : statement_at b' i ≡ y = sym (at_place b' y i w) ∙ ap (λ (xs : List Statement). get_or xs i y) e ∙ get_or_at (state_of b).statements y [] y i (count_statements b ∙ sym ei) in
    record { within = w; is = ap (λ (z : Statement). statement_of x z.voted) d ∙ sym d }

-- ---- a statement's work

module _ (x : Statement) (s : State) where
  pub statement_repeat : any (same_statement x) s.statements ≡ true → saying (certificate_joined x s) [] ≡ statement x s
  unfolding statement
  statement_repeat q = rw (q, statement)

module _ {b : List ℕ} (k : Formed b) (x : Statement) (t : Certificate) (e : t ≡ certificate x) where
  pub repeat_fits : any (same_statement x) (state_of b).statements ≡ true → length (join_certificate (moment none (state_of b)) t (tallies b)) ≤ most_tallies (size_in b)
  unfolding state_of state_from
  repeat_fits q = let w = formed_parts k in rw e (omega (arith, repeat_length w.formed x q, w.few_tallies))

  pub repeat_left : {b' : List ℕ} → Left b' (certifying none t (state_of b)) → Left b' (certificate_joined x (state_of b))
  unfolding certifying certificate_joined
  repeat_left l = rw (← e) l
