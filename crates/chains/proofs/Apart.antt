-- Records found apart from the last one down, and a test of places for a test of records. Each once, for every table. Assumes nothing.
use Rattle.std.proofs.Common.{◌≡◌, ℕ, zero, suc, ◌+◌, ◌-◌, ◌<◌, ◌≤◌, Bool, true, false, not, sym, refl, ap, ◌∙◌, add-one, arith}
use mathlib.Core.Bool.{and-false}
use native.Mathlib.Nat.{sub-zero}
use Rattle.rules.specs.Lists.{any, all, distinct}
use Rattle.laws.proofs.Tests.{by_bool, no_bool}
use Rattle.store.specs.Decode.{rows}
use Rattle.store.proofs.Rows.{rows_from, rows_all}
use Rattle.form.proofs.Walks.{distinct_here}
use Rattle.chains.specs.Chains.{places}

-- the same of the records as of their places
pub any_same : {A : Type 0} (f : ℕ → A) (p : A → Bool) (q : ℕ → Bool) (i n : ℕ) → ((k : ℕ) → i ≤ k → k < i + n → q k ≡ p (f k)) → any q (places i n) ≡ any p (rows f i n)
unfolding rows any
any_same f p q i zero h = refl
any_same f p q i (suc n) h =
    let e = h i (omega arith) (omega arith) in
    let rest = any_same f p q (suc i) n (λ k a b. h k (omega arith) (omega arith)) in
    by_bool (p (f i)) (λ t. rw (e, t, any)) (λ t. rw (e, t, any) rest)

-- down to the first record it is the whole
pub whole_rows : {A : Type 0} (f : ℕ → A) (i n m : ℕ) → n ≡ m → i ≤ 0 → rows f 0 m ≡ rows f i (n - i)
whole_rows f i n m e l = let z : i ≡ 0 = omega arith in rw (z, sub-zero, e)

-- a record that fails a test spoils the whole
pub all_not : {A : Type 0} (f : ℕ → A) (p : A → Bool) (i n m : ℕ) → n ≡ m → i < n → p (f i) ≡ false → all p (rows f 0 m) ≡ false
all_not f p i n m e l t = by_bool (all p (rows f 0 m)) (λ q. no_bool (sym (rows_all p f 0 m q i (omega arith) (omega arith)) ∙ t)) (λ q. q)

module _ {A : Type 0} (f : ℕ → A) (same : A → A → Bool) where
  -- a record met again below spoils the whole
  distinct_below : (i n : ℕ) → i ≤ n → distinct same (rows f i (n - i)) ≡ false → distinct same (rows f 0 n) ≡ false
  unfolding distinct
  distinct_below zero n l e = rw sub-zero at e
  distinct_below (suc i) n l e =
      distinct_below i n (omega arith) (ap (distinct same) (rows_from f i n (omega arith)) ∙ rw (add-one i, e) (and-false (not (any (same (f i)) (rows f (suc i) (n - suc i))))))

  pub distinct_not : (i n m : ℕ) → n ≡ m → i < n → any (same (f i)) (rows f (i + 1) (n - (i + 1))) ≡ true → distinct same (rows f 0 m) ≡ false
  distinct_not i n m e l t = rw (← e) (distinct_below i n (omega arith) (distinct_here f n same i l t))

  pub distinct_whole : (i n m : ℕ) → n ≡ m → i ≤ 0 → distinct same (rows f i (n - i)) ≡ true → distinct same (rows f 0 m) ≡ true
  distinct_whole i n m e l t = ap (distinct same) (whole_rows f i n m e l) ∙ t
