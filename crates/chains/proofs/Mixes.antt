-- What is the same has the same chain; and the halves' product fits a word. Assumes nothing.
use Rattle.std.proofs.Common.{◌≡◌, ℕ, zero, suc, ◌+◌, ◌-◌, ◌*◌, ◌/◌, ◌%◌, ◌^◌, ◌<◌, ◌≤◌, true, eqb, List, sym, refl, ap, ◌∙◌, ap₂, add-zero, mul-le-mul_right, mod-eq_of_lt, mul-le-mul_left, arith, eqb-true}
use native.Mathlib.Nat.{mul-add-div_right, mul-add-mod_self_right, div-eq_of_lt}
use Rattle.laws.proofs.Tests.{and_left, and_right}
use Rattle.fields.specs.Places.{Bytes, number}
use Rattle.fields.proofs.Laws.{number_lt, number_split}
use Rattle.chains.specs.Chains.{stir, stir_words, stir_name, chain_of, block_chain, record_chain, is_of}

-- a number's last digit, and what stands before it
module _ (n h l p : ℕ) (e : n ≡ h * p + l) (less : l < p) where
  digits_high : n / p ≡ h
  digits_high = ap (◌/ p) e ∙ mul-add-div_right (omega arith) h l ∙ ap (h +◌) (div-eq_of_lt less) ∙ add-zero h

  digits_low : n % p ≡ l
  digits_low = ap (◌% p) e ∙ mul-add-mod_self_right h p l ∙ mod-eq_of_lt less

pub halves_fit : (s : ℕ) → s < 2 ^ 64 → s % 2 ^ 32 * (s / 2 ^ 32) < 2 ^ 64
halves_fit s l =
    let low : s % 2 ^ 32 ≤ 2 ^ 32 - 1 = omega arith in
    let high : s / 2 ^ 32 ≤ 2 ^ 32 - 1 = omega arith in
    omega (arith, mul-le-mul_right (s / 2 ^ 32) low, mul-le-mul_left (2 ^ 32 - 1) high)

-- the words at a place are those of the number there; so the same bytes are the same words
module _ (b : List ℕ) (bytes : Bytes b) where
  pub words_name : (m at k : ℕ) → stir_words b m at k ≡ stir_name m (number b at (8 * k)) k
  unfolding stir_words stir_name
  words_name m at zero = refl
  words_name m at (suc k) =
      let w : 8 * suc k ≡ 8 * k + 8 = omega arith in
      let n = number b at (8 * suc k) in
      let split = ap (number b at) w ∙ number_split b at (8 * k) 8 in
      let last = number_lt b bytes (at + 8 * k) 8 in
      let high : number b at (8 * k) ≡ n / 256 ^ 8 = sym (digits_high n (number b at (8 * k)) (number b (at + 8 * k) 8) (256 ^ 8) split last) in
      let low : number b (at + 8 * k) 8 ≡ n % 256 ^ 8 = sym (digits_low n (number b at (8 * k)) (number b (at + 8 * k) 8) (256 ^ 8) split last) in
      ap₂ stir (words_name m at k ∙ ap (λ (x : ℕ). stir_name m x k) high) low

  pub words_alike : (at to m k : ℕ) → number b at (8 * k) ≡ number b to (8 * k) → stir_words b m at k ≡ stir_words b m to k
  words_alike at to m k e = words_name m at k ∙ ap (λ (x : ℕ). stir_name m x k) e ∙ sym (words_name m to k)

-- the first word before the others
pub words_first : (b : List ℕ) (m at k : ℕ) → stir_words b m at (suc k) ≡ stir_words b (stir m (number b at 8)) (at + 8) k
unfolding stir_words
words_first b m at zero = let e : at + 8 * 0 ≡ at = omega arith in rw e
words_first b m at (suc k) =
    let e : at + 8 * suc k ≡ at + 8 + 8 * k = omega arith in rw (words_first b m at k, e)

-- a record's chain is that of the block that it begins with
pub record_block : (b : List ℕ) (salt base size key i : ℕ) → key ≡ number b (base + size * i) 8 → record_chain b salt base size i ≡ block_chain b salt key (base + size * i + 8)
record_block b salt base size key i e = ap chain_of (words_first b salt (base + size * i) 4 ∙ rw e)

-- a record of a block hangs on the block's chain
pub block_alike : (b : List ℕ) → Bytes b → (salt base size key at k : ℕ) → is_of b base size key at k ≡ true → record_chain b salt base size k ≡ block_chain b salt key at
block_alike b bytes salt base size key at k e =
    let to = base + size * k in
    let p : key ≡ number b to 8 = eqb-true key _ (and_left (eqb key (number b to 8)) _ e) in
    let q : number b at 32 ≡ number b (to + 8) 32 = eqb-true _ _ (and_right (eqb key (number b to 8)) _ e) in
    record_block b salt base size key k p ∙ ap chain_of (sym (words_alike b bytes at (to + 8) (stir salt key) 4 q))
