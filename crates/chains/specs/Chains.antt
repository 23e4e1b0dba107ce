-- Chains of a table's records: each record hangs on the chain that its number says, from the last record down, so that a walk
-- along a chain meets the first of them first. A chain holds how many records are left from the next one on; 0 ends it. Assumes nothing.
use Rattle.std.specs.Prelude.{◌≡◌, ℕ, zero, suc, ◌+◌, ◌-◌, ◌*◌, ◌/◌, ◌%◌, ◌^◌, ◌<◌, ◌≤◌, Bool, true, List, length, replicate, ◌==◌}
use Rattle.rules.specs.Limits.{most_tallies_large}
use Rattle.fields.specs.Places.{number}
use Rattle.lookup.specs.Search.{pick, has_block}
use Rattle.store.specs.Decode.{nth, rows}

-- how many chains
abbrev pub chains : ℕ
chains = 2_048

-- ---- which chain: any number will do that is the same for what is the same

-- a number stirred with a word: the product of the halves of their sum is added to it
unfoldable pub stir : ℕ → ℕ → ℕ
stir m w = (m + (m + w) % 2 ^ 64 % 2 ^ 32 * ((m + w) % 2 ^ 64 / 2 ^ 32)) % 2 ^ 64

-- with so many words from a place on
unfoldable pub stir_words : List ℕ → ℕ → ℕ → ℕ → ℕ
unfolding stir
stir_words b m at zero = m
stir_words b m at (suc k) = stir (stir_words b m at k) (number b (at + 8 * k) 8)

-- the same of a number of so many words
unfoldable pub stir_name : ℕ → ℕ → ℕ → ℕ
unfolding stir
stir_name m n zero = m
stir_name m n (suc k) = stir (stir_name m (n / 256 ^ 8) k) (n % 256 ^ 8)

abbrev pub chain_of : ℕ → ℕ
chain_of m = m / 2 ^ 32 % chains

-- the chain of a block, whose name is at a place, and of record i of a table, which begins with view and height and then has the name
abbrev pub block_chain : List ℕ → ℕ → ℕ → ℕ → ℕ
block_chain b salt key at = chain_of (stir_words b (stir salt key) at 4)

abbrev pub record_chain : List ℕ → ℕ → ℕ → ℕ → ℕ → ℕ
record_chain b salt base size i = chain_of (stir_words b salt (base + size * i) 5)

-- ---- the chains

-- of n records from record i on: how many are left from the first of chain c on, 0 where there is none
unfoldable pub first_of : (ℕ → ℕ) → ℕ → ℕ → ℕ → ℕ
first_of f c i zero = 0
first_of f c i (suc n) = pick (f i == c) (suc n) (first_of f c (suc i) n)

-- what follows each record on its chain
abbrev pub Following : (ℕ → ℕ) → ℕ → ℕ → List ℕ → Type 0
Following f i n nexts = (k : ℕ) → i ≤ k → k < n → nth nexts k ≡ first_of f (f k) (k + 1) (n - (k + 1))

-- the records from record i up to n hang on their chains
pub record Chained (f : ℕ → ℕ) (i n : ℕ) (heads nexts : List ℕ) : Type 0 where
  pub head : (c : ℕ) → c < chains → nth heads c ≡ first_of f c i (n - i)
  pub next : Following f i n nexts
  pub long : length heads ≡ chains
  pub wide : length nexts ≡ most_tallies_large

-- no record hangs yet
pub record Bare (heads nexts : List ℕ) : Type 0 where
  pub heads_are : heads ≡ replicate chains 0
  pub nexts_are : nexts ≡ replicate most_tallies_large 0

-- the places from one on, and the last so many of n
abbrev pub places : ℕ → ℕ → List ℕ
places i n = rows (λ k. k) i n

abbrev pub behind : ℕ → ℕ → List ℕ
behind n left = places (n - left) left

-- a walk to a record that passes a test: where so many are left it stands on the chain of all that pass
pub record Walk (p : ℕ → Bool) (n left : ℕ) (nexts : List ℕ) : Type 0 where
  pub of : ℕ → ℕ
  pub chain : ℕ
  pub alike : (k : ℕ) → p k ≡ true → of k ≡ chain
  pub within : left ≤ n
  pub hung : 0 < left → of (n - left) ≡ chain
  pub rest : Following of (n - left) n nexts

-- whether record k is of a block
abbrev pub is_of : List ℕ → ℕ → ℕ → ℕ → ℕ → ℕ → Bool
is_of b base size key at k = has_block b key (number b at 32) (base + size * k)
