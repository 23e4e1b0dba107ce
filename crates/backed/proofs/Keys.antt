-- The block that a stored statement certifies, by its key and the place of its name. Assumes nothing.
use Prim.Native.Nat.{ℕ, ◌+◌, ◌-◌, ◌*◌, ◌^◌, ◌<◌, ◌≤◌}
use mathlib.Core.Path.{◌≡◌, refl, sym, ◌∙◌}
use mathlib.Core.Bool.{true, false}
use mathlib.Core.List.{List}
use native.Mathlib.Omega.{arith}
use borrow.Author.Tests.{eq-eqb, ne_eqb}
use Rattle.rules.specs.Limits.{small}
use Rattle.rules.specs.Lists.{any}
use Rattle.rules.specs.Words.{Statement, Tally, Certificate, own_block, certificate, same_block, of_block}
use Rattle.laws.proofs.Tests.{by_bool}
use Rattle.fields.specs.Places.{Bytes, number}
use Rattle.fields.proofs.Laws.{number_lt, number_split}
use Rattle.fields.proofs.Differ.{digit_high, digit_low}
use Rattle.words.specs.Meaning.{Certifies}
use Rattle.store.specs.Layout.{statement_table, place_of}
use Rattle.rules.specs.WellFormed.{tallies_there}
use Rattle.store.specs.Decode.{statement_at, kind_at, tallies}
use Rattle.apart.specs.Tallies.{Keyed}
use Rattle.apart.proofs.Hanging.{key_is}
use Rattle.backed.specs.Backed.{Stirs, Found}
use Rattle.backed.proofs.Parts.{there_own, there_both}

module _ (b : List ℕ) (bytes : Bytes b) (i : ℕ) where
  abbrev to : ℕ
  to = place_of statement_table small i

  abbrev x : Statement
  x = statement_at b i

  -- the statement's own block
  pub own_keyed : (key : ℕ) → key ≡ number b to 8 → Keyed b key (to + 8) (own_block x 0)
  unfolding own_block statement_at
  own_keyed key e = record { key_is = e ∙ key_is b to; name_is = refl; small = number_lt b bytes (to + 4) 4 }

  new_is : kind_at b i ≡ 1 → x.is_new_view ≡ true
  unfolding statement_at kind_at
  new_is e = eq-eqb (number b (to + 40) 1) 1 e

  propose_is : (kind_at b i ≡ 1 → ⊥) → x.is_new_view ≡ false
  unfolding statement_at kind_at
  propose_is d = ne_eqb (number b (to + 40) 1) 1 d

  -- a link that is a view is the number of its last four bytes
  link_low : x.link < 2 ^ 32 → number b (to + 72) 4 ≡ x.link
  unfolding statement_at
  link_low l =
      let e : to + 44 + 28 ≡ to + 72 = omega arith in
      let s = number_split b (to + 44) 28 4 in
      let t : number b (to + 44) 28 ≡ 0 = omega (arith, s) in
      rw (← e) (omega (arith, s))

  pub new_key : Certifies x → kind_at b i ≡ 1 → (view height : ℕ) → view ≡ number b (to + 72) 4 → height ≡ x.height
      → view * 4_294_967_296 + height ≡ (certificate x).view * 256 ^ 4 + (certificate x).height
  unfolding certificate
  new_key h e view height p q = rw (new_is e, p, q, link_low (h.view (new_is e)))

  pub propose_key : Certifies x → (kind_at b i ≡ 1 → ⊥) → (key : ℕ) → key ≡ number b to 8 → key - 1 ≡ (certificate x).view * 256 ^ 4 + (certificate x).height
  unfolding certificate statement_at
  propose_key h d key e =
      let above = h.above (propose_is d) in
      rw (propose_is d) (omega (arith, e ∙ key_is b to, above))

  pub propose_above : Certifies x → (kind_at b i ≡ 1 → ⊥) → (key : ℕ) → key ≡ number b to 8 → 0 < key
  unfolding statement_at
  propose_above h d key e = omega (arith, e ∙ key_is b to, h.above (propose_is d))

  -- a propose's own key is one above
  pub propose_own : Certifies x → (kind_at b i ≡ 1 → ⊥) → (key : ℕ) → key ≡ (certificate x).view * 256 ^ 4 + (certificate x).height → key + 1 ≡ number b to 8
  propose_own h d key e =
      omega (arith, e, propose_key h d (number b to 8) refl, propose_above h d (number b to 8) refl)

  pub new_name : kind_at b i ≡ 1 → number b (to + 8) 32 ≡ (certificate x).name
  unfolding certificate statement_at
  new_name e = rw (new_is e)

  pub propose_name : (kind_at b i ≡ 1 → ⊥) → number b (to + 44) 32 ≡ (certificate x).name
  unfolding certificate statement_at
  propose_name d = rw (propose_is d)

  low : (certificate x).height < 256 ^ 4
  unfolding certificate statement_at
  low =
      let l = number_lt b bytes (to + 4) 4 in
      by_bool x.is_new_view (λ t. rw t l) (λ t. rw t (omega (arith, l)))

  -- the certified block
  module _ (key : ℕ) (e : key ≡ (certificate x).view * 256 ^ 4 + (certificate x).height) where
    pub certified_keyed : (at : ℕ) → number b at 32 ≡ (certificate x).name → Keyed b key at (certificate x)
    certified_keyed at n = record { key_is = e; name_is = n; small = low }

    pub certified_genesis : key < 4_294_967_296 → (certificate x).view ≡ 0
    certified_genesis l = omega (arith, e)

    pub certified_later : 4_294_967_296 ≤ key → (certificate x).view ≡ 0 → ⊥
    certified_later l z = omega (arith, e, low)

-- two blocks with one key and one name are one block
pub keyed_alike : (b : List ℕ) (ts : List Tally) (key at to : ℕ) (t u : Certificate) → Keyed b key at t → Keyed b key to u → number b at 32 ≡ number b to 32 → any (of_block t) ts ≡ any (of_block u) ts
unfolding same_block
keyed_alike b ts key at to t u h k e =
    let q = sym h.key_is ∙ k.key_is in
    let name : t.name ≡ u.name = sym h.name_is ∙ e ∙ k.name_is in
    let view : t.view ≡ u.view = digit_high (256 ^ 4) t.view u.view t.height u.height h.small k.small q in
    let height : t.height ≡ u.height = digit_low (256 ^ 4) t.view u.view t.height u.height h.small k.small q in
    rw (view, height, name)

-- a statement with its tallies has one for the block that it certifies
pub found_block : (b : List ℕ) → Bytes b → (salt i key at mixed : ℕ) → Stirs b salt i key at mixed → tallies_there (tallies b) (statement_at b i) ≡ true → Found b salt key at mixed
found_block b bytes salt i key at mixed s e =
    let x = statement_at b i in
    let ts = tallies b in
    record {
      fits = s.fits;
      mixes = λ l. s.mixes;
      has = λ l t k. keyed_alike b ts key at at t (certificate x) k s.keyed refl ∙ sym (there_both ts x _ refl _ refl (there_own ts x e) (certified_later b bytes i key s.keyed.key_is l)) ∙ e;
    }
