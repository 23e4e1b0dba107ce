-- 02, request 1: which answers take an input of a journal. Assumes nothing.
use Rattle.std.specs.Prelude.{ℕ, ◌/◌, ◌^◌, Bool}
use Rattle.slots.specs.Slots.{is_kept}

-- "one input answered 0, 6, 7 or 8"
unfoldable pub is_taken : ℕ → Bool
unfolding is_kept
is_taken r = is_kept (r / 2 ^ 32)
