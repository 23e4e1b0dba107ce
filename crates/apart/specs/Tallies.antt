-- Which chain a tally hangs on, and what is found there. Assumes nothing.
use Rattle.std.specs.Prelude.{ℕ, ◌+◌, ◌-◌, ◌*◌, ◌^◌, ◌<◌, ◌≡◌, Bool, true, false, ◌&&◌, List}
use Rattle.rules.specs.Lists.{all, any, distinct}
use Rattle.rules.specs.Sizes.{Settings}
use Rattle.rules.specs.Words.{Certificate, of_block}
use Rattle.rules.specs.WellFormed.{tally_good, same_tally}
use Rattle.fields.specs.Places.{number}
use Rattle.store.specs.Layout.{size_in, tally_table}
use Rattle.store.specs.Decode.{rows, tally_at, tallies}
use Rattle.chains.specs.Chains.{stir, stir_words, record_chain, Chained}

-- tallies hang by their block
abbrev pub tally_chain : List ℕ → ℕ → ℕ → ℕ
tally_chain b salt i = record_chain b salt (tally_table.base (size_in b)) tally_table.size i

-- the answer whether tally i is met again behind it, and the chains, where it is not
pub record Met (b : List ℕ) (salt n i : ℕ) (r : Bool) (heads nexts : List ℕ) : Type 0 where
  pub is : r ≡ any (same_tally (tally_at b i)) (rows (tally_at b) (i + 1) (n - (i + 1)))
  pub hangs : r ≡ false → Chained (tally_chain b salt) i n heads nexts

-- the answer whether all tallies are good and apart, and the chains, where they are
pub record Apart (g : Settings) (now : ℕ) (b : List ℕ) (salt n : ℕ) (r : Bool) (heads nexts : List ℕ) : Type 0 where
  pub is : r ≡ (all (tally_good g now) (tallies b) && distinct same_tally (tallies b))
  pub hang : r ≡ true → Chained (tally_chain b salt) 0 n heads nexts

-- a block by its view and height as one number, and the place of its name
pub record Keyed (b : List ℕ) (key at : ℕ) (t : Certificate) : Type 0 where
  pub key_is : key ≡ t.view * 256 ^ 4 + t.height
  pub name_is : number b at 32 ≡ t.name
  pub small : t.height < 256 ^ 4

-- what the salt is when it is stirred with that block, where all n tallies hang by the same salt
pub record Sought (b : List ℕ) (n mixed key at : ℕ) (heads nexts : List ℕ) : Type 0 where
  pub salt : ℕ
  pub hang : Chained (tally_chain b salt) 0 n heads nexts
  pub mixes : mixed ≡ stir_words b (stir salt key) at 4

-- the answer whether a tally is of that block
abbrev pub Has : List ℕ → ℕ → ℕ → Bool → Type 0
Has b key at r = (t : Certificate) → Keyed b key at t → r ≡ any (of_block t) (tallies b)
