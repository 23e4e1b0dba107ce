-- What a call answers before the rules: the refusals 1 to 3. Assumes nothing.
use Rattle.std.specs.Prelude.{ℕ, ◌≡◌, true, false, ◌&&◌, List, length, leb, eqb}
use Rattle.std.specs.Prelude.{Result, Ok, Err, ⊤}
use Rattle.answer.specs.Numbers.{number_of}
use Rattle.answer.specs.declared.Refusal.{Refusal}
use Rattle.rules.specs.Limits.{least_out, last_view, most_statements, most_tallies}
use Rattle.rules.specs.Refusals.{running}
use Rattle.rules.specs.WellFormed.{well_formed}
use Rattle.store.specs.Layout.{store_length, size_in}
use Rattle.store.specs.Decode.{state_of, has_form}
use Rattle.linked.specs.Told.{Told}

-- the number of what a call refuses; 0 if it refuses nothing
abbrev pub refusal_number : Result ⊤ Refusal → ℕ
refusal_number (Ok u) = 0
refusal_number (Err e) = number_of e

-- the number of what is refused before any input is looked at, in 01's order; 0 if nothing is
unfoldable pub barred : List ℕ → List ℕ → ℕ
unfolding has_form well_formed state_of running size_in least_out last_view most_statements most_tallies
barred b o =
    elim (eqb (length b) (store_length (size_in b)) && leb (least_out (size_in b)) (length o)) [
      | false ↦ 1
      | true ↦ elim (has_form b && well_formed (state_of b)) [ false ↦ 2 | true ↦ elim (running (state_of b)) [ false ↦ 3 | true ↦ 0 ] ]
    ]

-- those of them that the check of both buffers gives, whatever the phase
unfoldable pub unformed : List ℕ → List ℕ → ℕ
unfolding has_form well_formed state_of size_in least_out last_view most_statements most_tallies
unformed b o =
    elim (eqb (length b) (store_length (size_in b)) && leb (least_out (size_in b)) (length o)) [
      | false ↦ 1
      | true ↦ elim (has_form b && well_formed (state_of b)) [ false ↦ 2 | true ↦ 0 ]
    ]

-- that number, and what the log tells, where it is 0
pub record Checks (b o : List ℕ) (r : ℕ) (t : List ℕ) : Type 0 where
  pub is : r ≡ unformed b o
  pub told : r ≡ 0 → Told b t
