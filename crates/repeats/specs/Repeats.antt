-- Which chain a statement hangs on, whether it is met again there, and that all certify. Assumes nothing.
use Rattle.std.specs.Prelude.{ℕ, ◌+◌, ◌-◌, ◌*◌, ◌^◌, ◌<◌, ◌≡◌, Bool, false, List}
use Rattle.rules.specs.Lists.{any}
use Rattle.rules.specs.Words as words
use Rattle.rules.specs.Words.{Certificate, same_statement, own_block, certificate}
use Rattle.words.specs.Meaning.{Certifies}
use Rattle.store.specs.Decode.{rows, statement_at}
use Rattle.chains.specs.Chains.{stir, stir_name, chain_of, Chained}

-- each of the first n statements
abbrev pub AllCertify : List ℕ → ℕ → Type 0
AllCertify b n = (i : ℕ) → i < n → Certifies (statement_at b i)

-- what the salt is when it is stirred with a block
abbrev pub stir_of : ℕ → Certificate → ℕ
stir_of salt t = stir_name (stir salt (t.view * 256 ^ 4 + t.height)) t.name 4

-- statements hang by their own block and the one that they certify
abbrev pub statement_chain : List ℕ → ℕ → ℕ → ℕ
statement_chain b salt i = chain_of (stir (stir_of salt (own_block (statement_at b i) 0)) (stir_of salt (certificate (statement_at b i))))

-- whether statement k is the same
abbrev pub is_same : List ℕ → words.Statement → ℕ → Bool
is_same b x k = same_statement x (statement_at b k)

-- the answer whether statement i is met again behind it, and the chains, where it is not
pub record Met (b : List ℕ) (salt n i : ℕ) (r : Bool) (heads nexts : List ℕ) : Type 0 where
  pub is : r ≡ any (same_statement (statement_at b i)) (rows (statement_at b) (i + 1) (n - (i + 1)))
  pub hangs : r ≡ false → Chained (statement_chain b salt) i n heads nexts
