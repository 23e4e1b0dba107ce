-- A record of a block has the block's words, and its mark. Assumes nothing.
use Prim.Native.Nat.{ℕ, ◌+◌, ◌-◌, ◌*◌, ◌^◌}
use mathlib.Core.Path.{◌≡◌, refl, sym, ap, ◌∙◌}
use mathlib.Core.Bool.{Bool, true, false, ◌&&◌}
use mathlib.Core.List.{List}
use native.Mathlib.Omega.{arith}
use lib.Dec.{eqb}
use borrow.Author.Tests.{eqb-true, eqb-false}
use Rattle.fields.specs.Places.{Bytes, number}
use Rattle.fields.specs.Names.{name_of}
use Rattle.fields.specs.declared.Name.{Name}
use Rattle.fields.proofs.Laws.{number_lt, number_split}
use Rattle.fields.proofs.Names.{Words, number_words}
use Rattle.lookup.specs.Search.{seek, has_block, first_of, mark_of, has_mark}
use Rattle.lookup.proofs.Pairs.{same_pair}
use Rattle.lookup.proofs.Seeks.{seek_over}

and_none : (a c : Bool) → (a && (c && false)) ≡ false
and_none true true = refl
and_none true false = refl
and_none false c = refl

and_all : (a : Bool) → (a && true) ≡ a
and_all true = refl
and_all false = refl

parts : (a c d : Bool) → (a && (c && d)) ≡ true → (a ≡ true) × (c ≡ true)
parts true true d e = (refl, refl)
parts true false d e = (refl, e)
parts false true d e = (e, refl)
parts false false d e = (e, e)

parts_3 : (a c d : Bool) → (a && c && d) ≡ true → a ≡ true
parts_3 true c d e = refl
parts_3 false c d e = e

module _ (b : List ℕ) (k : Bytes b) (n : Name) (w : Words n) where
  -- a name is that of a place where the words are
  name_words : (at : ℕ) → eqb (name_of n) (number b at 32)
      ≡ (eqb n.first (number b at 8) && eqb n.second (number b (at + 8) 8) && eqb n.third (number b (at + 16) 8) && eqb n.fourth (number b (at + 24) 8))
  unfolding name_of
  name_words at =
      let first = number b at 8 in
      let second = number b (at + 8) 8 in
      let third = number b (at + 16) 8 in
      let fourth = number b (at + 24) 8 in
      let two = n.first * 2 ^ 64 + n.second in
      let three = two * 2 ^ 64 + n.third in
      ap (eqb (three * 2 ^ 64 + n.fourth)) (number_words b at)
      ∙ same_pair (2 ^ 64) three n.fourth _ fourth w.1.1.1.0.fits (number_lt b k (at + 24) 8)
      ∙ ap (λ (e : Bool). e && eqb n.fourth fourth)
      (same_pair (2 ^ 64) two n.third _ third w.1.1.0.fits (number_lt b k (at + 16) 8)
      ∙ ap (λ (e : Bool). e && eqb n.third third) (same_pair (2 ^ 64) n.first n.second first second w.1.0.fits (number_lt b k (at + 8) 8)))

  module _ (key at : ℕ) where
    abbrev Key : Bool
    Key = eqb key (number b at 8)

    abbrev Three : Bool
    Three = eqb n.first (number b (at + 8) 8) && eqb n.second (number b (at + 16) 8) && eqb n.third (number b (at + 24) 8)

    abbrev Fourth : Bool
    Fourth = eqb n.fourth (number b (at + 32) 8)

    by_words : has_block b key (name_of n) at ≡ (Key && (Three && Fourth))
    by_words =
        let e : at + 8 + 8 ≡ at + 16 = omega arith in
        let f : at + 8 + 16 ≡ at + 24 = omega arith in
        let g : at + 8 + 24 ≡ at + 32 = omega arith in
        ap (λ (t : Bool). Key && t) (rw (e, f, g) at (name_words (at + 8)))

    pub other_fourth : Fourth ≡ false → false ≡ has_block b key (name_of n) at
    other_fourth e = sym (by_words ∙ rw e (and_none Key Three))

    pub other_key : Key ≡ false → false ≡ has_block b key (name_of n) at
    other_key e = sym (by_words ∙ rw e)

    pub three_left : Key ≡ true → Fourth ≡ true → Three ≡ has_block b key (name_of n) at
    three_left e f = sym (by_words ∙ rw (e, f) (and_all Three))

    -- the mark is of bytes of the key and of the first word
    pub block_mark : (m : ℕ) → m ≡ mark_of key n.first → eqb m (number b (at + 4) 8) ≡ false → has_block b key (name_of n) at ≡ false
    block_mark m d q = go (has_block b key (name_of n) at) refl
      where
        go : (t : Bool) → has_block b key (name_of n) at ≡ t → t ≡ false
        go false e = refl
        go true e =
            let h = parts Key Three Fourth (sym by_words ∙ e) in
            let first = parts_3 _ _ _ h.1 in
            absurd (eqb-false m (number b (at + 4) 8) q (d ∙ mark_at (eqb-true key _ h.0) (eqb-true n.first _ first)))
          where
            mark_at : key ≡ number b at 8 → n.first ≡ number b (at + 8) 8 → mark_of key n.first ≡ number b (at + 4) 8
            mark_at x y =
                let e : at + 4 + 4 ≡ at + 8 = omega arith in
                let p : number b (at + 4) 8 ≡ number b (at + 4) 4 * 256 ^ 4 + number b (at + 8) 4 = number_split b (at + 4) 4 4 ∙ ap (λ (i : ℕ). number b (at + 4) 4 * 256 ^ 4 + number b i 4) e in
                omega (arith, x, y, p, number_split b at 4 4, number_split b (at + 8) 4 4, number_lt b k (at + 4) 4, number_lt b k (at + 8 + 4) 4)

  -- so the search may pass over what has another mark
  pub passed_over : (key base size mark i end j : ℕ) → mark ≡ mark_of key n.first → j ≡ seek (has_mark b base size mark) i (end - i)
      → first_of b base size i end key (name_of n) ≡ first_of b base size j end key (name_of n)
  passed_over key base size mark i end j d e =
      seek_over (λ (x : ℕ). has_block b key (name_of n) (base + size * x)) (has_mark b base size mark) (λ x q. block_mark key (base + size * x) mark d q) i end j e
