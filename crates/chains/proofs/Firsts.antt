-- What a walk along a chain meets, for whatever goes by the first that passes a test, and for the first itself. Assumes nothing.
use Rattle.std.proofs.Common.{◌≡◌, ℕ, zero, suc, ◌+◌, ◌-◌, ◌<◌, ◌≤◌, Bool, true, false, eqb, List, ◌∷◌, sym, refl, ap, ◌∙◌, arith, eq-eqb}
use mathlib.Core.Bool.{false≢true}
use mathlib.Core.Option.{none, some, some-injective}
use Rattle.rules.specs.Lists.{first}
use Rattle.laws.proofs.Tests.{by_bool, no_some}
use Rattle.lookup.specs.Search.{pick}
use Rattle.store.specs.Decode.{rows, nth}
use Rattle.store.proofs.Rows.{rows_from}
use Rattle.chains.specs.Chains.{chains, first_of, Chained, places, behind, Walk}

-- a record that fails the test doesn't count
abbrev pub Skips : {B : Type 0} → (ℕ → Bool) → (List ℕ → B) → Type 0
Skips p g = (k : ℕ) (ks : List ℕ) → p k ≡ false → g (k ∷ ks) ≡ g ks

-- all that pass are on one chain, so the rest counts from the chain's first on
module _ {B : Type 0} (p : ℕ → Bool) (g : List ℕ → B) (skips : Skips p g) (f : ℕ → ℕ) (c : ℕ) (alike : (k : ℕ) → p k ≡ true → f k ≡ c) where
  from_first : (i n : ℕ) → g (places i n) ≡ g (places (i + n - first_of f c i n) (first_of f c i n))
  unfolding first_of rows
  from_first i zero = refl
  from_first i (suc n) = go (eqb (f i) c) refl (from_first (suc i) n)
    where
      left : ℕ
      left = first_of f c (suc i) n

      go : (b : Bool) → eqb (f i) c ≡ b → g (places (suc i) n) ≡ g (places (suc i + n - left) left)
          → g (places i (suc n)) ≡ g (places (i + suc n - pick b (suc n) left) (pick b (suc n) left))
      go true q h = let e : i ≡ i + suc n - suc n = omega arith in ap (λ (j : ℕ). g (places j (suc n))) e
      go false q h =
          let e : i + suc n - left ≡ suc i + n - left = omega arith in
          let t : p i ≡ false = by_bool (p i) (λ u. absurd (false≢true (sym q ∙ eq-eqb (f i) c (alike i u)))) (λ u. u) in
          skips i (places (suc i) n) t ∙ rw e h

  pub whole_of : {i n : ℕ} {heads nexts : List ℕ} → Chained f i n heads nexts → i ≤ n → c < chains → g (places i (n - i)) ≡ g (behind n (nth heads c))
  whole_of {i} {n} h l m = let total : i + (n - i) ≡ n = omega arith in from_first i (n - i) ∙ rw (total, ← h.head c m)

-- a walk at a record that fails the test
module _ {B : Type 0} {p : ℕ → Bool} (g : List ℕ → B) (skips : Skips p g) {n left : ℕ} {nexts : List ℕ} (w : Walk p n left nexts) (h : 0 < left) where
  abbrev at : ℕ
  at = n - left

  pub next_of : p at ≡ false → g (behind n left) ≡ g (behind n (nth nexts at))
  next_of t =
      let lies : at < n = omega (arith, w.within) in
      let next = first_of w.of w.chain (at + 1) (n - (at + 1)) in
      let is : nth nexts at ≡ next = w.rest at (omega arith) lies ∙ ap (λ (c : ℕ). first_of w.of c (at + 1) (n - (at + 1))) (w.hung h) in
      let count : left ≡ n - at = omega (arith, w.within) in
      let total : at + 1 + (n - (at + 1)) ≡ n = omega arith in
      ap (λ (m : ℕ). g (places at m)) count ∙ ap g (rows_from (λ k. k) at n lies) ∙ skips at (places (at + 1) (n - (at + 1))) t
      ∙ from_first p g skips w.of w.chain w.alike (at + 1) (n - (at + 1))
      ∙ ap (λ (t : ℕ). g (places (t - next) next)) total
      ∙ ap (λ (m : ℕ). g (behind n m)) (sym is)

-- ---- the first that passes

first_skips : (p : ℕ → Bool) → Skips p (first p)
unfolding first
first_skips p k ks t = rw (t, first)

pub first_whole : (p : ℕ → Bool) (f : ℕ → ℕ) (c : ℕ) → ((k : ℕ) → p k ≡ true → f k ≡ c) → {i n : ℕ} {heads nexts : List ℕ} → Chained f i n heads nexts → i ≤ n → c < chains
    → first p (places i (n - i)) ≡ first p (behind n (nth heads c))
first_whole p f c alike h l m = whole_of p (first p) (first_skips p) f c alike h l m

pub first_end : (p : ℕ → Bool) (n left : ℕ) → left ≤ 0 → first p (behind n left) ≡ none
unfolding first rows
first_end p n left h = let e : left ≡ 0 = omega arith in rw e

module _ {p : ℕ → Bool} {n left : ℕ} {nexts : List ℕ} (w : Walk p n left nexts) (h : 0 < left) where
  pub first_here : p (n - left) ≡ true → first p (behind n left) ≡ some (n - left)
  unfolding first rows
  first_here t =
      let e : left ≡ suc (left - 1) = omega arith in
      ap (λ (m : ℕ). first p (places (n - left) m)) e ∙ rw (t, first)

  pub first_next : p (n - left) ≡ false → first p (behind n left) ≡ first p (behind n (nth nexts (n - left)))
  first_next t = next_of (first p) (first_skips p) w h t

-- the first of the records, by the first of their places
pub first_record : {A : Type 0} (f : ℕ → A) (p : A → Bool) (i n k : ℕ) → first (λ j. p (f j)) (places i n) ≡ some k → first p (rows f i n) ≡ some (f k)
unfolding first rows
first_record f p i zero k e = no_some e
first_record f p i (suc n) k e =
    by_bool (p (f i)) (λ q. rw (q, first) (ap (λ (j : ℕ). some (f j)) (some-injective i k (rw (q, first) at e))))
    (λ q. rw (q, first) (first_record f p (suc i) n k (rw (q, first) at e)))
