-- The call that tells when a block was certified, whole: what it answers, for all bytes of all lengths and all numbers. Assumes nothing.
use Rattle.std.specs.Prelude.{ℕ, ◌*◌, ◌^◌, true, false, ◌&&◌, List, length, eqb}
use Rattle.std.proofs.Math.Option.{none, some}
use Rattle.rules.specs.Limits.{last_view, most_statements, most_tallies}
use Rattle.rules.specs.Lists.{be}
use Rattle.rules.specs.Words.{Certificate, reached_of}
use Rattle.store.specs.Layout.{store_length, size_in}
use Rattle.tallies.specs.Values.{reached_number}
use Rattle.store.specs.Decode.{decode}

-- the block that is asked for
abbrev pub asked : ℕ → ℕ → ℕ → Certificate
asked view height name = record { view = view; height = height; name = name; mask = 0 }

-- "order: 1, 2"; then 0, or one more than the clock that the block's tally has kept. A tally that isn't there has none, as genesis
-- in view 0; a stopped station is answered as any.
unfoldable pub certified_called : List ℕ → ℕ → ℕ → List ℕ → ℕ
unfolding reached_of decode be size_in last_view most_statements most_tallies
certified_called b view height name =
    elim (eqb (length b) (store_length (size_in b)) && eqb (length name) 32) [
      | false ↦ 1 * 2 ^ 32
      | true ↦ elim (decode b) [ none ↦ 2 * 2 ^ 32 | some s ↦ reached_number (reached_of (asked view height (be name)) s.tallies) ]
    ]
