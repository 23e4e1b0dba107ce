-- All, any and distinct over rows, as a loop upward meets them: what is left is the whole. Each once, for every test and table.
-- Assumes nothing.
use Prim.Native.Nat.{ℕ, zero, suc, ◌+◌, ◌-◌, ◌<◌, ◌≤◌}
use mathlib.Core.Path.{◌≡◌, refl, sym, ap, ◌∙◌}
use mathlib.Core.Bool.{Bool, true, false, false≢true}
use mathlib.Core.List.{List}
use native.Mathlib.Omega.{arith}
use native.Mathlib.Nat.{sub-zero}
use Rattle.rules.specs.Lists.{all, any, distinct}
use Rattle.laws.proofs.Tests.{by_bool}
use Rattle.store.specs.Decode.{rows}
use Rattle.store.proofs.Rows.{rows_from, rows_end}

module _ {A : Type 0} (f : ℕ → A) (n : ℕ) where
  -- the whole, where a loop begins
  pub rows_whole : (m : ℕ) → n ≡ m → rows f 0 m ≡ rows f 0 (n - 0)
  rows_whole m e = rw (e, sub-zero)

  module _ (p : A → Bool) (i : ℕ) where
    pub all_end : n ≤ i → all p (rows f i (n - i)) ≡ true
    unfolding all
    all_end h = ap (all p) (rows_end f n i h)

    pub all_here : i < n → p (f i) ≡ false → all p (rows f i (n - i)) ≡ false
    unfolding all
    all_here h t = ap (all p) (rows_from f i n h) ∙ rw t

    pub all_next : i < n → p (f i) ≡ true → all p (rows f i (n - i)) ≡ all p (rows f (i + 1) (n - (i + 1)))
    unfolding all
    all_next h t = ap (all p) (rows_from f i n h) ∙ rw t

    pub any_here : i < n → p (f i) ≡ true → any p (rows f i (n - i)) ≡ true
    unfolding any
    any_here h t = ap (any p) (rows_from f i n h) ∙ rw (t, any)

  module _ (same : A → A → Bool) (i : ℕ) where
    pub distinct_end : n ≤ i → distinct same (rows f i (n - i)) ≡ true
    unfolding distinct
    distinct_end h = ap (distinct same) (rows_end f n i h)

    -- the record at the place against those after it
    module _ (h : i < n) where
      abbrev rest : List A
      rest = rows f (i + 1) (n - (i + 1))

      pub distinct_here : any (same (f i)) rest ≡ true → distinct same (rows f i (n - i)) ≡ false
      unfolding distinct
      distinct_here t = ap (distinct same) (rows_from f i n h) ∙ rw t

      pub distinct_next : any (same (f i)) rest ≡ false → distinct same (rows f i (n - i)) ≡ distinct same rest
      unfolding distinct
      distinct_next t = ap (distinct same) (rows_from f i n h) ∙ rw t

-- where one test holds so does another, so where none of the other's rows match none of its own do
pub any_fewer : {A B : Type 0} (f : ℕ → A) (p : A → Bool) (g : ℕ → B) (q : B → Bool) (i n : ℕ)
    → ((k : ℕ) → i ≤ k → k < i + n → p (f k) ≡ true → q (g k) ≡ true) → any q (rows g i n) ≡ false → any p (rows f i n) ≡ false
unfolding rows any
any_fewer f p g q i zero h e = refl
any_fewer f p g q i (suc n) h e =
    by_bool (p (f i))
    (λ t. absurd (false≢true (sym e ∙ rw (h i (omega arith) (omega arith) t, any))))
    (λ t. rw (t, any) (any_fewer f p g q (suc i) n (λ k a b. h k (omega arith) (omega arith)) (by_bool (q (g i)) (λ u. absurd (false≢true (sym e ∙ rw (u, any)))) (λ u. rw (u, any) at e))))
