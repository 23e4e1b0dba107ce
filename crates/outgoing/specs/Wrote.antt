-- Bytes written into a buffer from a place on. Assumes nothing.
use Rattle.std.specs.Prelude.{ℕ, suc, ◌+◌, ◌≡◌, List, [], ◌∷◌, length, set}
use Rattle.rules.specs.Messages.{writes}

unfoldable pub wrote : List ℕ → ℕ → List ℕ → List ℕ
wrote o at [] = o
wrote o at (b ∷ bs) = wrote (set o at b) (suc at) bs

-- what a writer leaves of a buffer, and the place where it ends
pub record Says (o : List ℕ) (at : ℕ) (bs : List ℕ) (left : List ℕ) (end : ℕ) : Type 0 where
  pub out : left ≡ wrote o at bs
  pub ends : end ≡ at + length bs

-- the same of some fields, by their tags and their values
pub record SaysFields (o : List ℕ) (at : ℕ) (ts vs left : List ℕ) (end : ℕ) : Type 0 where
  pub says : Says o at (writes ts vs) left end
  pub even : length ts ≡ length vs
