-- Runs and words at places of a text, as the code keeps them. Assumes nothing.
use Rattle.std.specs.Prelude.{ℕ, Bool, suc, ◌-◌, ◌≤◌, ◌≡◌, true, false, List, [], ◌∷◌, length, take, drop}
use Rattle.rules.specs.Script.{same_list}
use Rattle.text.specs.Words.{word, rest, no_word, front, behind}
use Rattle.text.specs.declared.Span.{Span}

-- a run of bytes of s that pass, from a place up to r
pub record Runs (p : ℕ → Bool) (s : List ℕ) (from r : ℕ) : Type 0 where
  pub low : from ≤ r
  pub high : r ≤ length s
  pub is : take (r - from) (drop from s) ≡ front p (drop from s)
  pub after : drop r s ≡ behind p (drop from s)

-- a part of s is the first word of t, a text that s ends with
pub record WordOf (s t : List ℕ) (w : Span) : Type 0 where
  pub low : w.start ≤ w.end
  pub high : w.end ≤ length s
  pub is : take (w.end - w.start) (drop w.start s) ≡ word t
  pub after : drop w.end s ≡ rest t

-- the words of a text
abbrev pub Lists : List (List ℕ) → List ℕ → Type 0
Lists [] s = no_word s ≡ true
Lists (w ∷ ws) s = (word s ≡ w) × (no_word s ≡ false) × Lists ws (rest s)

-- the place of a word among others, from k on; 0 if it is none of them
unfoldable pub placed : ℕ → List (List ℕ) → List ℕ → ℕ
unfolding same_list
placed k [] w = 0
placed k (x ∷ xs) w = elim (same_list x w) [ true ↦ k | false ↦ placed (suc k) xs w ]
