-- The laws of a name's number, word by word. Assumes nothing.
use Prim.Native.Nat.{ℕ, ◌+◌, ◌*◌, ◌^◌, ◌<◌}
use mathlib.Core.Path.{◌≡◌, refl, sym, ap, ap₂, ◌∙◌}
use mathlib.Core.List.{List}
use mathlib.Core.Bool.{Bool, true, false, ◌&&◌}
use native.Mathlib.Omega.{arith}
use lib.Dec.{eqb, ltb}
use Rattle.std.specs.Prelude.{◌==◌}
use borrow.Author.Tests.{eqb-true, eqb-false, eq-eqb, ne_eqb}
use Rattle.std.specs.declared.cmp.Ordering.{Ordering}
use Rattle.std.specs.declared.cmp.Ordering.TheVariants.{Less, Equal, Greater}
use Rattle.std.specs.Ordering.{is_lt, nat_cmp, ordering_then, MatchOrdering}
use Rattle.std.specs.Cmp.{ranks, nat_cmp_is}
use lib.Bits.{bit_or}
use mir.Val.{Fits}
use mir.Syntax.{w64}
use Rattle.fields.specs.declared.Name.{Name}
use Rattle.fields.specs.Places.{number, put}
use Rattle.fields.specs.Names.{name_of}
use Rattle.fields.proofs.Laws.{number_split, put_both}
use Rattle.fields.proofs.Differ.{Same, digit_high, digit_low, digit_lt, zero_step, same_test}

-- each field of a name is a word, as `.struct_known .given` says it
abbrev pub Words : Name → Type 0
Words n = Fits w64 n.first × (Fits w64 n.second × (Fits w64 n.third × (Fits w64 n.fourth × Unit {0})))

pub words : (n : Name) → n.first < 2 ^ 64 → n.second < 2 ^ 64 → n.third < 2 ^ 64 → n.fourth < 2 ^ 64 → Words n
words n p q r t = (record { fits = p }, (record { fits = q }, (record { fits = r }, (record { fits = t }, tt))))

abbrev name : ℕ → ℕ → ℕ → ℕ → Name
name a b c d = record { first = a; second = b; third = c; fourth = d }

-- a number and one word more
abbrev more : ℕ → ℕ → ℕ
more n x = n * 2 ^ 64 + x

pub name_lt : (n : Name) → n.first < 2 ^ 64 → n.second < 2 ^ 64 → n.third < 2 ^ 64 → n.fourth < 2 ^ 64 → name_of n < 256 ^ 32
unfolding name_of
name_lt n p q r t =
    digit_lt (2 ^ 64) _ (2 ^ 192) n.fourth 0 t (digit_lt (2 ^ 64) _ (2 ^ 128) n.third 0 r (digit_lt (2 ^ 64) n.first (2 ^ 64) n.second 0 q p))

-- the number of 32 bytes by its words
pub number_words : (s : List ℕ) (at : ℕ) → number s at 32 ≡ more (more (more (number s at 8) (number s (at + 8) 8)) (number s (at + 16) 8)) (number s (at + 24) 8)
number_words s at =
    number_split s at 24 8
    ∙ ap (λ (n : ℕ). more n (number s (at + 24) 8)) (number_split s at 16 8 ∙ ap (λ (n : ℕ). more n (number s (at + 16) 8)) (number_split s at 8 8))

-- a name written as its words, the last first
pub put_words : (s : List ℕ) (at : ℕ) (n : Name) → Words n
    → put (put (put (put s (at + 24) 8 n.fourth) (at + 16) 8 n.third) (at + 8) 8 n.second) at 8 n.first ≡ put s at 32 (name_of n)
unfolding name_of
put_words s at n k =
    let s₁ = put s (at + 24) 8 n.fourth in
    let s₂ = put s₁ (at + 16) 8 n.third in
    let a = more n.first n.second in
    let b = more a n.third in
    sym (put_both s at 24 8 b n.fourth k.1.1.1.0.fits ∙ put_both s₁ at 16 8 a n.third k.1.1.0.fits ∙ put_both s₂ at 8 8 n.first n.second k.1.0.fits)

-- one word more, on both sides: equality, and order
module _ (n m x y : ℕ) (p : x < 2 ^ 64) (q : y < 2 ^ 64) where
  eq_more : (eqb n m && eqb x y) ≡ eqb (more n x) (more m y)
  eq_more = go (eqb n m) (eqb x y) refl refl
    where
      go : (a b : Bool) → eqb n m ≡ a → eqb x y ≡ b → (a && b) ≡ eqb (more n x) (more m y)
      go true true e f = sym (eq-eqb _ _ (ap₂ more (eqb-true _ _ e) (eqb-true _ _ f)))
      go true false e f = sym (ne_eqb _ _ (λ g. eqb-false _ _ f (digit_low (2 ^ 64) n m x y p q g)))
      go false b e f = sym (ne_eqb _ _ (λ g. eqb-false _ _ e (digit_high (2 ^ 64) n m x y p q g)))

  cmp_more : ordering_then (nat_cmp n m) (nat_cmp x y) ≡ nat_cmp (more n x) (more m y)
  cmp_more = nat_cmp_is _ _ _ (go (nat_cmp n m) (nat_cmp x y) (ranks n m) (ranks x y))
    where
      go : (r s : Ordering) → MatchOrdering r (n < m) (n ≡ m) (m < n) → MatchOrdering s (x < y) (x ≡ y) (y < x)
          → MatchOrdering (ordering_then r s) (more n x < more m y) (more n x ≡ more m y) (more m y < more n x)
      go Less s h k = omega arith
      go Equal Less h k = omega arith
      go Equal Equal h k = omega arith
      go Equal Greater h k = omega arith
      go Greater s h k = omega arith

module _ (n m : Name) (p : Words n) (q : Words m) where
  abbrev n₂ : ℕ
  n₂ = more n.first n.second

  abbrev m₂ : ℕ
  m₂ = more m.first m.second

  -- names are the same where their words are
  pub same_name : (eqb n.first m.first && eqb n.second m.second && eqb n.third m.third && eqb n.fourth m.fourth) ≡ eqb (name_of n) (name_of m)
  unfolding name_of
  same_name =
      ap (λ (b : Bool). b && eqb n.third m.third && eqb n.fourth m.fourth) (eq_more n.first m.first n.second m.second p.1.0.fits q.1.0.fits)
      ∙ ap (λ (b : Bool). b && eqb n.fourth m.fourth) (eq_more n₂ m₂ n.third m.third p.1.1.0.fits q.1.1.0.fits)
      ∙ eq_more (more n₂ n.third) (more m₂ m.third) n.fourth m.fourth p.1.1.1.0.fits q.1.1.1.0.fits

  -- the first words that differ decide the order
  pub order_name : ordering_then (ordering_then (ordering_then (nat_cmp n.first m.first) (nat_cmp n.second m.second)) (nat_cmp n.third m.third)) (nat_cmp n.fourth m.fourth) ≡ nat_cmp (name_of n) (name_of m)
  unfolding name_of
  order_name =
      ap (λ (r : Ordering). ordering_then (ordering_then r (nat_cmp n.third m.third)) (nat_cmp n.fourth m.fourth)) (cmp_more n.first m.first n.second m.second p.1.0.fits q.1.0.fits)
      ∙ ap (λ (r : Ordering). ordering_then r (nat_cmp n.fourth m.fourth)) (cmp_more n₂ m₂ n.third m.third p.1.1.0.fits q.1.1.0.fits)
      ∙ cmp_more (more n₂ n.third) (more m₂ m.third) n.fourth m.fourth p.1.1.1.0.fits q.1.1.1.0.fits

-- `<` of two numbers, as their order says it
pub is_before : (x y : ℕ) → is_lt (nat_cmp x y) ≡ ltb x y
is_before x y = go (ltb x y) (x == y) refl refl
  where
    go : (a b : Bool) → ltb x y ≡ a → (x == y) ≡ b → is_lt (nat_cmp x y) ≡ a
    go true b e f = rw (e) refl
    go false true e f = rw (e, f) refl
    go false false e f = rw (e, f) refl

-- an or of the words tells whether a name is zero
pub zero_name : (n : Name) → Words n → eqb (bit_or (bit_or (bit_or n.first n.second) n.third) n.fourth) 0 ≡ eqb (name_of n) 0
unfolding name_of
zero_name n p =
    let first : Same n.first n.first 0 = record { to = λ e. e; from = λ e. e } in
    let second = zero_step (2 ^ 64) _ n.first n.second p.1.0.fits first in
    let third = zero_step (2 ^ 64) _ (more n.first n.second) n.third p.1.1.0.fits second in
    same_test _ (name_of n) 0 (zero_step (2 ^ 64) _ (more (more n.first n.second) n.third) n.fourth p.1.1.1.0.fits third)
