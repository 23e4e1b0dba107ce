-- What the code's answer on the length of an envelope means. Assumes nothing.
use Rattle.std.specs.Prelude.{ℕ, ◌≤◌, ◌≡◌, List, [], length, Option as Maybe, Some, None}
use Rattle.std.proofs.Math.Option.{Option, none, some}
use Rattle.items.specs.Reading.{most_bytes}
use Rattle.bundle.specs.Writing.{bundled}

-- the bytes of what may be written, if anything may
unfoldable pub total_of : Option (List ℕ) → Maybe ℕ
total_of none = None
total_of (some e) = Some (length e)

-- what is written; nothing where nothing may be
unfoldable pub bundle_in : List ℕ → List ℕ → List ℕ
unfolding bundled
bundle_in s list = elim (bundled s list) [ none ↦ [] | some e ↦ e ]

-- an envelope of so many bytes may be written, and there is room for it
pub record MayWrite (s list out : List ℕ) (total : ℕ) : Type 0 where
  pub is : Some total ≡ total_of (bundled s list)
  pub room : most_bytes ≤ length out
