-- Tallies on chains: whether tally i is met again behind it. Assumes nothing.
use Prim.Native.Nat.{ℕ, ◌+◌, ◌-◌, ◌*◌, ◌^◌, ◌<◌, ◌≤◌}
use mathlib.Core.Path.{◌≡◌, sym, ap, ◌∙◌}
use mathlib.Core.Bool.{Bool, true}
use mathlib.Core.List.{List}
use native.Mathlib.Omega.{arith}
use native.Mathlib.Nat.{add-zero, sub-zero}
use lib.ListN.{set}
use Rattle.rules.specs.Limits.{most_tallies_large}
use Rattle.rules.specs.Lists.{any}
use Rattle.rules.specs.Words.{certificate_of, of_block}
use Rattle.rules.specs.WellFormed.{same_tally}
use Rattle.fields.specs.Places.{Bytes, number}
use Rattle.fields.proofs.Laws.{number_lt, number_split}
use Rattle.lookup.specs.Search.{has_block}
use Rattle.store.specs.Layout.{size_in, tally_size, tally_table, place_of, count_of}
use Rattle.store.specs.Decode.{nth, rows, tally_at, tally_for, tallies}
use Rattle.store.proofs.Searches.{block_found}
use Rattle.chains.specs.Chains.{chains, block_chain, record_chain, Chained, behind, Walk, is_of}
use Rattle.chains.proofs.Mixes.{block_alike, record_block}
use Rattle.chains.proofs.Walks.{chained_more, walk_start, walk_whole}
use Rattle.chains.proofs.Apart.{any_same}
use Rattle.apart.specs.Tallies.{tally_chain, Has}

-- view and height are the first eight bytes
pub key_is : (b : List ℕ) (to : ℕ) → number b to 8 ≡ number b (to + 0) 4 * 256 ^ 4 + number b (to + 4) 4
key_is b to = number_split b to 4 4 ∙ ap (λ (n : ℕ). number b n 4 * 256 ^ 4 + number b (to + 4) 4) (sym (add-zero to))

module _ (b : List ℕ) (bytes : Bytes b) (base : ℕ) (e : base ≡ tally_table.base (size_in b)) where
  -- the block of the tally at a place is met where its first eight bytes and its name are
  tally_met : (i key k : ℕ) → key ≡ number b (base + tally_size * i) 8
      → is_of b base tally_size key (base + tally_size * i + 8) k ≡ same_tally (tally_at b i) (tally_at b k)
  unfolding same_tally tally_for
  tally_met i key k d =
      let to = place_of tally_table (size_in b) i in
      ap (λ (x : ℕ). has_block b key (number b (x + tally_size * i + 8) 32) (base + tally_size * k)) e
      ∙ block_found b bytes (certificate_of (tally_at b i)) (number_lt b bytes (to + 4) 4) key base (d ∙ ap (λ (x : ℕ). number b (x + tally_size * i) 8) e ∙ key_is b to) e k

  -- tally i, with those behind it on their chains
  module _ (salt n i key : ℕ) (d : key ≡ number b (base + tally_size * i) 8) {heads nexts : List ℕ} (h : Chained (tally_chain b salt) (i + 1) n heads nexts) (l : i < n)
      (c : ℕ) (q : c ≡ record_chain b salt base tally_size i) (m : c < chains) where
    abbrev test : ℕ → Bool
    test = is_of b base tally_size key (base + tally_size * i + 8)

    alike : (k : ℕ) → test k ≡ true → tally_chain b salt k ≡ c
    alike k t =
        ap (λ (x : ℕ). record_chain b salt x tally_size k) (sym e) ∙ block_alike b bytes salt base tally_size key (base + tally_size * i + 8) k t
        ∙ sym (record_block b salt base tally_size key i d) ∙ sym q

    pub met_start : Walk test n (nth heads c) nexts
    met_start = walk_start (tally_chain b salt) h (omega arith) test c m alike

    pub met_is : any test (behind n (nth heads c)) ≡ any (same_tally (tally_at b i)) (rows (tally_at b) (i + 1) (n - (i + 1)))
    met_is =
        sym (walk_whole (tally_chain b salt) h (omega arith) test c m alike)
        ∙ any_same (tally_at b) (same_tally (tally_at b i)) test (i + 1) (n - (i + 1)) (λ k x y. tally_met i key k d)

    pub met_hangs : n ≤ most_tallies_large → Chained (tally_chain b salt) i n (set heads c (n - i)) (set nexts i (nth heads c))
    met_hangs few =
        chained_more (tally_chain b salt) i n heads nexts l h c (q ∙ ap (λ (x : ℕ). record_chain b salt x tally_size i) e) m (omega arith)

  -- once all hang, whether one is of a block
  module _ (salt n : ℕ) (k : n ≡ count_of tally_table b) (key at : ℕ) {heads nexts : List ℕ} (h : Chained (tally_chain b salt) 0 n heads nexts)
      (c : ℕ) (q : c ≡ block_chain b salt key at) (m : c < chains) where
    abbrev wanted : ℕ → Bool
    wanted = is_of b base tally_size key at

    wanted_alike : (k : ℕ) → wanted k ≡ true → tally_chain b salt k ≡ c
    wanted_alike k t = ap (λ (x : ℕ). record_chain b salt x tally_size k) (sym e) ∙ block_alike b bytes salt base tally_size key at k t ∙ sym q

    pub has_start : Walk wanted n (nth heads c) nexts
    has_start = walk_start (tally_chain b salt) h (omega arith) wanted c m wanted_alike

    pub has_is : (r : Bool) → r ≡ any wanted (behind n (nth heads c)) → Has b key at r
    unfolding tallies
    has_is r a t keyed =
        a ∙ sym (walk_whole (tally_chain b salt) h (omega arith) wanted c m wanted_alike)
        ∙ any_same (tally_at b) (of_block t) wanted 0 (n - 0) (λ j x y. ap (λ (name : ℕ). has_block b key name (base + tally_size * j)) keyed.name_is ∙ block_found b bytes t keyed.small key base keyed.key_is e j)
        ∙ ap (λ (j : ℕ). any (of_block t) (rows (tally_at b) 0 j)) (sub-zero n ∙ k)
