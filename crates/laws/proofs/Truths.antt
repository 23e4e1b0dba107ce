-- Tests that hold together, taken apart and put together. What one test of numbers says is borrow.Author.Tests'. Assumes nothing.
use mathlib.Core.Path.{◌≡◌, refl, sym, ◌∙◌}
use Prim.Native.Nat.{ℕ}
use mathlib.Core.Bool.{Bool, true, false, ◌&&◌, ◌||◌, beq}
use mathlib.Core.Logic.{◌⊎◌, inl, inr}
use lib.Dec.{eqb}
use borrow.Author.Tests.{eqb-true}
use Rattle.rules.specs.Lists.{iff}
use Rattle.laws.proofs.Tests.{by_bool, no_bool}

pub eqb_sym : (a b : ℕ) → eqb a b ≡ eqb b a
eqb_sym a b =
    by_bool (eqb a b) (λ q. rw (eqb-true a b q))
    (λ q. by_bool (eqb b a) (λ r. rw (eqb-true b a r)) (λ r. q ∙ sym r))

-- ---- and

pub and_2 : (a b : Bool) → (a && b) ≡ true → (a ≡ true) × (b ≡ true)
and_2 true b e = (refl, e)
and_2 false b e = no_bool (sym e)

pub and_3 : (a b c : Bool) → (a && b && c) ≡ true → (a ≡ true) × (b ≡ true) × (c ≡ true)
and_3 a b c e = let p = and_2 (a && b) c e in let q = and_2 a b p.0 in (q.0, q.1, p.1)

pub and_4 : (a b c d : Bool) → (a && b && c && d) ≡ true → (a ≡ true) × (b ≡ true) × (c ≡ true) × (d ≡ true)
and_4 a b c d e = let p = and_2 (a && b && c) d e in let q = and_3 a b c p.0 in (q.0, q.1, q.2, p.1)

pub and_5 : (a b c d f : Bool) → (a && b && c && d && f) ≡ true → (a ≡ true) × (b ≡ true) × (c ≡ true) × (d ≡ true) × (f ≡ true)
and_5 a b c d f e = let p = and_2 (a && b && c && d) f e in let q = and_4 a b c d p.0 in (q.0, q.1, q.2, q.3, p.1)

pub and_6 : (a b c d f g : Bool) → (a && b && c && d && f && g) ≡ true
    → (a ≡ true) × (b ≡ true) × (c ≡ true) × (d ≡ true) × (f ≡ true) × (g ≡ true)
and_6 a b c d f g e = let p = and_2 (a && b && c && d && f) g e in let q = and_5 a b c d f p.0 in (q.0, q.1, q.2, q.3, q.4, p.1)

pub both : {a b : Bool} → a ≡ true → b ≡ true → (a && b) ≡ true
both p q = rw (p, q)

pub and_rest : (a : Bool) {b : Bool} → a ≡ true → (a && b) ≡ false → b ≡ false
and_rest true k l = l
and_rest false k l = no_bool (sym k)

-- ---- or

pub or_2 : (a b : Bool) → (a || b) ≡ true → (a ≡ true) ⊎ (b ≡ true)
or_2 true b e = inl refl
or_2 false b e = inr e

pub or_left : {a : Bool} (b : Bool) → a ≡ true → (a || b) ≡ true
or_left b p = rw p

pub or_right : (a : Bool) {b : Bool} → b ≡ true → (a || b) ≡ true
or_right true p = refl
or_right false p = p

pub or_not : (a b : Bool) → (a || b) ≡ false → (a ≡ false) × (b ≡ false)
or_not true b e = no_bool e
or_not false b e = (refl, e)

pub or_sym : (a b : Bool) → (a || b) ≡ (b || a)
or_sym true true = refl
or_sym true false = refl
or_sym false true = refl
or_sym false false = refl

-- ---- iff

pub iff_eq : (a b : Bool) → iff a b ≡ true → a ≡ b
unfolding iff
iff_eq true b e = sym e
iff_eq false true e = e
iff_eq false false e = refl

pub iff_refl : (a : Bool) → iff a a ≡ true
unfolding iff
iff_refl true = refl
iff_refl false = refl

pub iff_sym : (a b : Bool) → iff a b ≡ iff b a
unfolding iff
iff_sym true true = refl
iff_sym true false = refl
iff_sym false true = refl
iff_sym false false = refl

-- two truths compared as code does
pub beq_iff : (a b : Bool) → beq a b ≡ iff a b
unfolding iff
beq_iff true true = refl
beq_iff true false = refl
beq_iff false true = refl
beq_iff false false = refl
