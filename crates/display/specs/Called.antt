-- The call for the wall display, whole: what it answers and leaves in the out buffer, for all bytes of all lengths. "It only reads the
-- store". Assumes nothing.
use Rattle.std.specs.Prelude.{ℕ, true, false, ◌&&◌, List, ◌++◌, length, drop, leb, eqb}
use Rattle.std.proofs.Math.Option.{none, some}
use Rattle.rules.specs.Limits.{least_out, last_view, most_statements, most_tallies}
use Rattle.rules.specs.Words.{State}
use Rattle.rules.specs.Display.{display, entries}
use Rattle.store.specs.Layout.{store_length, size_in}
use Rattle.store.specs.Decode.{decode}
use Rattle.calls.specs.Calls.{Called, refusal}

-- what the state shows is written from the start on; its bytes are the count
unfoldable pub shows : State → List ℕ → List ℕ → Called
unfolding display entries
shows s b o =
    let said = entries (display s) in
    record { result = length said; store = b; out = said ++ drop (length said) o }

-- "order: 1, 2"; a stopped station is answered as any
unfoldable pub display_called : List ℕ → List ℕ → Called
unfolding refusal shows decode size_in least_out last_view most_statements most_tallies
display_called b o =
    elim (eqb (length b) (store_length (size_in b)) && leb (least_out (size_in b)) (length o))
    [ false ↦ refusal 1 b o | true ↦ elim (decode b) [ none ↦ refusal 2 b o | some s ↦ shows s b o ] ]
