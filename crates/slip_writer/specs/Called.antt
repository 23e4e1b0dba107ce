-- The call that writes a slip, whole: what it answers and leaves in the out buffer, for all bytes of all lengths. Assumes nothing.
use Rattle.std.specs.Prelude.{ℕ, true, false, ◌&&◌, List, ◌++◌, length, drop, leb, eqb}
use Rattle.std.proofs.Math.Option.{Option, none, some}
use Rattle.rules.specs.Limits.{least_out, last_view, most_statements, most_tallies}
use Rattle.rules.specs.Lists.{be}
use Rattle.store.specs.Layout.{store_length, size_in}
use Rattle.store.specs.Decode.{decode}
use Rattle.calls.specs.Calls.{Called, refusal}
use Rattle.slip_writer.specs.Writer.{slip_of}

-- the slip is written from the start on, and its bytes are the count; "for a name not logged it answers 15, place 0, and writes nothing"
unfoldable pub handed_over : Option (List ℕ) → List ℕ → List ℕ → Called
unfolding refusal
handed_over none b o = refusal 15 b o
handed_over (some said) b o = record { result = length said; store = b; out = said ++ drop (length said) o }

-- "order: 1, 2", then 15; a stopped station is answered as any, and the store is only read
unfoldable pub write_called : List ℕ → List ℕ → List ℕ → Called
unfolding refusal handed_over slip_of decode be size_in least_out last_view most_statements most_tallies
write_called b name o =
    elim (eqb (length b) (store_length (size_in b)) && eqb (length name) 32 && leb (least_out (size_in b)) (length o))
    [ false ↦ refusal 1 b o | true ↦ elim (decode b) [ none ↦ refusal 2 b o | some s ↦ handed_over (slip_of (be name) s) b o ] ]
