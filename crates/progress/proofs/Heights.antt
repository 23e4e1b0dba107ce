-- A list that has one of each of m heights in a row has at least m. And 2D ticks a proposal, added up. Assumes nothing.
use mathlib.Core.Path.{◌≡◌, refl, sym, ap, ◌∙◌}
use Prim.Native.Nat.{ℕ, zero, suc, ◌+◌, ◌*◌, ◌≤◌}
use native.Mathlib.Omega.{arith}
use native.Mathlib.Nat.{add-mul}
use native.Mathlib.Decide.{ℕ_discrete}
use mathlib.Core.List.{List, [], ◌∷◌, Memᴰ}
use lib.ListN.{length}

module _ {A : Type 0} (f : A → ℕ) where
  -- the list without one element, which still has all of another height
  without : (xs : List A) (z : A) → Memᴰ z xs → (ys : List A) × (length xs ≡ suc (length ys)) × ((x : A) → Memᴰ x xs → ¬ (f x ≡ f z) → Memᴰ x ys)
  without [] z m = elim m [ ]
  without (y ∷ xs) z (Memᴰ.head e) = (xs, refl, λ x m ne. rest x m ne)
    where
      rest : (x : A) → Memᴰ x (y ∷ xs) → ¬ (f x ≡ f z) → Memᴰ x xs
      rest x (Memᴰ.head d) ne = absurd (ne (ap f (d ∙ sym e)))
      rest x (Memᴰ.tail m) ne = m
  without (y ∷ xs) z (Memᴰ.tail n) = let (ys, l, g) = without xs z n in (y ∷ ys, ap suc l, λ x m ne. rest ys g x m ne)
    where
      rest : (ys : List A) → ((x : A) → Memᴰ x xs → ¬ (f x ≡ f z) → Memᴰ x ys) → (x : A) → Memᴰ x (y ∷ xs) → ¬ (f x ≡ f z) → Memᴰ x (y ∷ ys)
      rest ys g x (Memᴰ.head d) ne = Memᴰ.head d
      rest ys g x (Memᴰ.tail m) ne = Memᴰ.tail (g x m ne)

  -- one of each height from a+1 to a+m
  abbrev pub HasEach : (a m : ℕ) → List A → Type 0
  HasEach a m xs = (q : ℕ) → 1 ≤ q → q ≤ m → (z : A) × Memᴰ z xs × (f z ≡ a + q)

  pub at_least : (a m : ℕ) (xs : List A) → HasEach a m xs → m ≤ length xs
  at_least a zero xs h = omega arith
  at_least a (suc m) xs h =
      let (z, n, e) = h (suc m) (omega arith) (omega arith) in
      let (ys, l, g) = without xs z n in
      let ih = at_least a m ys (λ q u w. let (x, k, d) = h q u (omega arith) in (x, g x k (λ p. let s = sym d ∙ p ∙ e in omega arith), d)) in
      omega arith

-- 2D ticks for each of p proposals
unfoldable pub span : (D p : ℕ) → ℕ
span D zero = 0
span D (suc p) = span D p + 2 * D

pub span_bound : (D p : ℕ) → (2 * p + 4) * D ≡ span D p + 4 * D
unfolding span
span_bound D zero = omega arith
span_bound D (suc p) =
    let e : 2 * suc p + 4 ≡ 2 * p + 4 + 2 = omega arith in
    ap (◌* D) e ∙ add-mul (2 * p + 4) 2 D ∙ go (span_bound D p)
  where
    go : (2 * p + 4) * D ≡ span D p + 4 * D → (2 * p + 4) * D + 2 * D ≡ span D p + 2 * D + 4 * D
    go e = rw e (omega arith)

pub span_mono : (D p q : ℕ) → p ≤ q → span D p ≤ span D q
unfolding span
span_mono D p zero l = let e : p ≡ 0 = omega arith in rw e (omega arith)
span_mono D p (suc q) l =
    elim (ℕ_discrete p (suc q)) [
      | yes e ↦ rw e (omega arith)
      | no ne ↦ (let ih = span_mono D p q (omega arith) in omega arith)
    ]
