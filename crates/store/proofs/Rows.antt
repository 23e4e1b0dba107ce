-- Rows of records, and bytes as rows, each law once for every table. Assumes nothing.
use Prim.Native.Nat.{ℕ, zero, suc, ◌+◌, ◌-◌, ◌<◌, ◌≤◌}
use mathlib.Core.Path.{◌≡◌, refl, sym, ap, ap₂, ◌∙◌}
use mathlib.Core.Bool.{Bool, true}
use mathlib.Core.List.{[], ◌∷◌, ◌++◌}
use native.Mathlib.Omega.{arith}
use native.Mathlib.Nat.{add-zero, zero-add, add-suc, suc-add}
use native.Mathlib.Numerals.{add-one}
use lib.ListN.{length, get_or, set}
use native.Mathlib.Decide.{dec_lt}
use Rattle.rules.specs.Lists.{all}
use Rattle.laws.proofs.Tests.{and_left, and_right}
use Rattle.store.specs.Decode.{rows}

module _ {A : Type 0} where
  pub rows_append : (f : ℕ → A) (i a b : ℕ) → rows f i (a + b) ≡ rows f i a ++ rows f (i + a) b
  unfolding rows
  rows_append f i zero b = rw (zero-add, add-zero)
  rows_append f i (suc a) b = rw (suc-add, add-suc, ← suc-add i a) (ap (f i ∷◌) (rows_append f (suc i) a b))

  pub rows_length : (f : ℕ → A) (i n : ℕ) → length (rows f i n) ≡ n
  unfolding rows
  rows_length f i zero = refl
  rows_length f i (suc n) = ap suc (rows_length f (suc i) n)

  -- rows go by their records alone
  pub rows_same : (f g : ℕ → A) (i n : ℕ) → ((k : ℕ) → i ≤ k → k < i + n → f k ≡ g k) → rows f i n ≡ rows g i n
  unfolding rows
  rows_same f g i zero h = refl
  rows_same f g i (suc n) h = ap₂ ◌∷◌ (h i (omega arith) (omega arith)) (rows_same f g (suc i) n (λ k a b. h k (omega arith) (omega arith)))

  -- one record changes
  pub rows_set : (f g : ℕ → A) (x : A) (i j n : ℕ) → j < n → f (i + j) ≡ x → ((k : ℕ) → i ≤ k → k < i + n → (k ≡ i + j → ⊥) → f k ≡ g k)
      → rows f i n ≡ set (rows g i n) j x
  unfolding rows
  rows_set f g x i j zero l e h = absurd (omega arith)
  rows_set f g x i zero (suc n) l e h =
      ap₂ ◌∷◌ (ap f (omega arith) ∙ e) (rows_same f g (suc i) n (λ k a b. h k (omega arith) (omega arith) (λ q. omega arith)))
  rows_set f g x i (suc j) (suc n) l e h =
      ap₂ ◌∷◌ (h i (omega arith) (omega arith) (λ q. omega arith))
      (rows_set f g x (suc i) j n (omega arith) (ap f (omega arith) ∙ e) (λ k a b d. h k (omega arith) (omega arith) (λ q. d (omega arith))))

  -- one record is added
  pub rows_add : (f g : ℕ → A) (x : A) (n : ℕ) → f n ≡ x → ((k : ℕ) → k < n → f k ≡ g k) → rows f 0 (n + 1) ≡ rows g 0 n ++ x ∷ []
  unfolding rows
  rows_add f g x n e h =
      rows_append f 0 n 1 ∙ ap₂ ◌++◌ (rows_same f g 0 n (λ k a b. h k (omega arith))) (ap (◌∷ []) (ap f (zero-add n) ∙ e))

  -- the record at a place
  pub rows_at : (f : ℕ → A) (d : A) (i n j : ℕ) → j < n → get_or (rows f i n) j d ≡ f (i + j)
  unfolding rows
  rows_at f d i zero j l = absurd (omega arith)
  rows_at f d i (suc n) zero l = ap f (omega arith)
  rows_at f d i (suc n) (suc j) l = rows_at f d (suc i) n j (omega arith) ∙ ap f (omega arith)

  -- the rows from a place on, as a loop upward meets them
  pub rows_from : (f : ℕ → A) (i n : ℕ) → i < n → rows f i (n - i) ≡ f i ∷ rows f (i + 1) (n - (i + 1))
  unfolding rows
  rows_from f i n h = let e : n - i ≡ suc (n - (i + 1)) = omega arith in rw (e, add-one i)

  pub rows_shift : (f : ℕ → A) (i n : ℕ) → rows f (suc i) n ≡ rows (λ k. f (suc k)) i n
  unfolding rows
  rows_shift f i zero = refl
  rows_shift f i (suc n) = ap (f (suc i) ∷◌) (rows_shift f (suc i) n)

module _ {A : Type 0} (f : ℕ → A) (n : ℕ) where
  -- the rows from a place on: none past the end, all from the first
  pub rows_end : (i : ℕ) → n ≤ i → rows f i (n - i) ≡ []
  unfolding rows
  rows_end i h = let e : n - i ≡ 0 = omega arith in rw e

  pub rows_whole : (i : ℕ) → i ≤ 0 → rows f i (n - i) ≡ rows f 0 n
  rows_whole i h =
      let e : i ≡ 0 = omega arith in
      let z : n - i ≡ n = omega arith in
      ap (rows f i) z ∙ ap (λ (k : ℕ). rows f k n) e

  -- as a loop downward meets them: the record before, then the rest
  pub rows_back : (i : ℕ) → 0 < i → i ≤ n → rows f (i - 1) (n - (i - 1)) ≡ f (i - 1) ∷ rows f i (n - i)
  rows_back i h l =
      let e : i - 1 + 1 ≡ i = omega arith in
      rows_from f (i - 1) n (omega arith) ∙ ap (λ (k : ℕ). f (i - 1) ∷ rows f k (n - k)) e

-- what holds of all rows holds of each
pub rows_all : {A : Type 0} (p : A → Bool) (f : ℕ → A) (i n : ℕ) → all p (rows f i n) ≡ true → (k : ℕ) → i ≤ k → k < i + n → p (f k) ≡ true
unfolding rows all
rows_all p f i zero h k a b = absurd (omega arith)
rows_all p f i (suc n) h k a b =
    elim (dec_lt i k) [
      | yes l ↦ rows_all p f (suc i) n (and_right (p (f i)) _ h) k l (omega arith)
      | no l ↦ (let e : i ≡ k = omega arith in ap (λ (j : ℕ). p (f j)) (sym e) ∙ and_left (p (f i)) _ h)
    ]
