-- The tests of a statement that the code makes. Assumes nothing.
use Rattle.std.specs.Prelude.{ℕ, ◌+◌, ◌-◌, ◌≡◌, Bool, true, ◌&&◌, List, leb, ltb}
use Rattle.std.proofs.Math.Option.{Option, none, some}
use Rattle.rules.specs.Sizes.{Settings}
use Rattle.rules.specs.Messages.{block_allowed, mask_allowed, certificate_allowed}
use Rattle.fields.specs.Places.{number}

-- a vote, if any, was not after the clock
unfoldable pub vote_in_order : ℕ → Option ℕ → Bool
vote_in_order clock v = elim v [ none ↦ true | some c ↦ leb c clock ]

-- view, height and mask as they were read of the statement at a place
abbrev pub Read : List ℕ → ℕ → ℕ → ℕ → ℕ → Type 0
Read b at view height mask = (view ≡ number b at 4) × (height ≡ number b (at + 4) 4) × (mask ≡ number b (at + 42) 2)

-- what the statement at a place says of the block that it certifies: a new-view of its certificate, a propose of its parent
unfoldable pub new_view_said : Settings → List ℕ → ℕ → Bool
unfolding certificate_allowed
new_view_said g b at =
    ltb (number b (at + 44) 32) (number b at 4) && certificate_allowed g (number b (at + 4) 4) (number b (at + 44) 32) (number b (at + 42) 2)

unfoldable pub propose_said : Settings → List ℕ → ℕ → Bool
unfolding block_allowed mask_allowed
propose_said g b at =
    leb 1 (number b (at + 4) 4) && block_allowed (number b (at + 4) 4 - 1) (number b (at + 44) 32) && mask_allowed g (number b (at + 42) 2)
