-- Tests and answers taken apart: a truth, a search's answer. Assumes nothing.
use mathlib.Core.Path.{◌≡◌, refl, sym}
use Prim.Native.Nat.{ℕ}
use native.Mathlib.Omega.{arith}
use mathlib.Core.Bool.{Bool, true, false, ◌&&◌}
use mathlib.Core.Option.{Option, none, some}
use lib.Dec.{eqb}
use borrow.Author.Tests.{eq-eqb}

pub eqb_self : (a : ℕ) → eqb a a ≡ true
eqb_self a = eq-eqb a a refl

-- a test goes one way or the other, and what follows may know which
pub by_bool {ℓ} : {P : Type ℓ} (b : Bool) → (b ≡ true → P) → (b ≡ false → P) → P
by_bool true f g = f refl
by_bool false f g = g refl

pub by_option {ℓ κ} : {A : Type κ} {P : Type ℓ} (o : Option A) → (o ≡ none → P) → ((a : A) → o ≡ some a → P) → P
by_option none f g = f refl
by_option (some a) f g = g a refl

-- no answer is not an answer; false is not true
pub no_some {ℓ κ} : {A : Type κ} {P : Type ℓ} {a : A} → ◌≡◌ {A = Option A} none (some a) → P
no_some e = let z : ◌≡◌ {A = ℕ} 0 1 = cc in absurd (omega arith)

pub no_bool {ℓ} : {P : Type ℓ} → true ≡ false → P
no_bool e = let z : ◌≡◌ {A = ℕ} 0 1 = cc in absurd (omega arith)

pub and_left : (a b : Bool) → (a && b) ≡ true → a ≡ true
and_left true b e = refl
and_left false b e = e

pub and_right : (a b : Bool) → (a && b) ≡ true → b ≡ true
and_right true b e = e
and_right false b e = no_bool (sym e)
