-- The two blocks of a statement, and what is known of their tallies. Assumes nothing.
use Rattle.std.specs.Prelude.{ℕ, ◌+◌, ◌^◌, ◌≤◌, ◌≡◌, Bool, true, List, length}
use Rattle.rules.specs.Limits.{small}
use Rattle.rules.specs.Lists.{any}
use Rattle.rules.specs.Words.{Certificate, own_block, certificate, of_block}
use Rattle.store.specs.Layout.{statement_table, place_of}
use Rattle.store.specs.Decode.{statement_at, tallies}
use Rattle.chains.specs.Chains.{stir, stir_words}
use Rattle.apart.specs.Tallies.{Keyed}

-- the block that statement i certifies: its key, the place of its name, and what the salt is when it is stirred with them
pub record Stirs (b : List ℕ) (salt i key at mixed : ℕ) : Type 0 where
  pub keyed : Keyed b key at (certificate (statement_at b i))
  pub fits : at + 32 ≤ length b
  pub mixes : mixed ≡ stir_words b (stir salt key) at 4

-- a block that was looked for: where it is of some view it has a tally
pub record Found (b : List ℕ) (salt key at mixed : ℕ) : Type 0 where
  pub fits : at + 32 ≤ length b
  pub mixes : 2 ^ 32 ≤ key → mixed ≡ stir_words b (stir salt key) at 4
  pub has : 2 ^ 32 ≤ key → (t : Certificate) → Keyed b key at t → any (of_block t) (tallies b) ≡ true

-- the own block of statement i, whose tally was perhaps found before
pub record Owns (b : List ℕ) (salt i key mixed : ℕ) (found : Bool) : Type 0 where
  pub keyed : Keyed b key (place_of statement_table small i + 8) (own_block (statement_at b i) 0)
  pub mixes : mixed ≡ stir_words b (stir salt key) (place_of statement_table small i + 8) 4
  pub has : found ≡ true → any (of_block (own_block (statement_at b i) 0)) (tallies b) ≡ true
