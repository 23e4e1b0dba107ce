-- What a write makes of a table's rows, its count and its unused part: each law once for every table. Assumes nothing.
use Prim.Native.Nat.{ℕ, suc, ◌+◌, ◌-◌, ◌*◌, ◌<◌, ◌≤◌}
use mathlib.Core.Path.{◌≡◌, ap, ◌∙◌}
use mathlib.Core.List.{List, [], ◌∷◌, ◌++◌}
use native.Mathlib.Omega.{arith}
use native.Mathlib.Nat.{zero-add, mul-suc, mul-le-mul_left}
use native.Mathlib.Decide.{dec_lt}
use native.Mathlib.Numerals.{add-one}
use lib.ListN.{set}
use Rattle.rules.specs.Limits.{Size}
use Rattle.fields.specs.Places.{number}
use Rattle.store.specs.Layout.{Table, count_of, place_of, unused}
use Rattle.store.specs.Decode.{rows}
use Rattle.store.proofs.Rows.{rows_same, rows_set, rows_add}
use Rattle.store.proofs.Kept.{SameIn, part, zero_end}

-- a reader of records looks at each record's own bytes alone
pub record Local {A : Type 0} (base size : ℕ) (f : List ℕ → ℕ → A) : Type 0 where
  pub reads : (b b' : List ℕ) (i : ℕ) → SameIn b b' (base + size * i) (base + size * i + size) → f b' i ≡ f b i

-- a record ends before the next begins
before : (size k n : ℕ) → k < n → size * k + size ≤ size * n
before size k n l = omega (arith, mul-le-mul_left size l, mul-suc size k)

module _ {A : Type 0} (base size : ℕ) (f : List ℕ → ℕ → A) (local : Local base size f) (b b' : List ℕ) where
  kept : (lo hi k : ℕ) → SameIn b b' (base + size * lo) (base + size * hi) → lo ≤ k → k < hi → f b' k ≡ f b k
  kept lo hi k s p q =
      let m = mul-le-mul_left size p in
      local.reads b b' k (part s (omega arith) (omega (arith, before size k hi q)))

  pub rows_kept : (n : ℕ) → SameIn b b' base (base + size * n) → rows (f b') 0 n ≡ rows (f b) 0 n
  rows_kept n s = rows_same (f b') (f b) 0 n (λ k p q. kept 0 n k (part s (omega arith) (omega arith)) p (omega arith))

  pub rows_put : (j n : ℕ) (x : A) → j < n → f b' j ≡ x → SameIn b b' base (base + size * j) → SameIn b b' (base + size * j + size) (base + size * n)
      → rows (f b') 0 n ≡ set (rows (f b) 0 n) j x
  rows_put j n x l e low high = rows_set (f b') (f b) x 0 j n l (ap (f b') (zero-add j) ∙ e) (λ k p q d. other k (omega arith) (λ g. d (omega arith)))
    where
      other : (k : ℕ) → k < n → (k ≡ j → ⊥) → f b' k ≡ f b k
      other k q d =
          elim (dec_lt k j) [
            | yes p ↦ kept 0 j k (part low (omega arith) (omega arith)) (omega arith) p
            | no m ↦ kept (suc j) n k (part high (omega (arith, mul-suc size j)) (omega arith)) (omega arith) q
          ]

  pub rows_more : (n : ℕ) (x : A) → f b' n ≡ x → SameIn b b' base (base + size * n) → rows (f b') 0 (n + 1) ≡ rows (f b) 0 n ++ x ∷ []
  rows_more n x e s = rows_add (f b') (f b) x n e (λ k q. kept 0 n k (part s (omega arith) (omega arith)) (omega arith) q)

-- the count is in range, and what is not in use is zero
pub record Used (z : Size) (t : Table) (b : List ℕ) : Type 0 where
  pub within : count_of t b ≤ t.room z
  pub clear : unused z t b ≡ 0

-- a table holds these records, and no more
pub record Holds {A : Type 0} (z : Size) (t : Table) (f : List ℕ → ℕ → A) (b : List ℕ) (xs : List A) : Type 0 where
  pub used : Used z t b
  pub is : rows (f b) 0 (count_of t b) ≡ xs

module _ (z : Size) (t : Table) (b b' : List ℕ) (u : Used z t b) where
  abbrev n : ℕ
  n = count_of t b

  abbrev end : ℕ
  end = t.base z + t.size * t.room z

  used_same : count_of t b' ≡ n → SameIn b b' (t.base z + t.size * n) end → Used z t b'
  used_same e s =
      let m = mul-le-mul_left t.size u.within in
      record {
        within = omega (arith, u.within);
        clear =
            ap (λ (k : ℕ). number b' (t.base z + t.size * k) (t.size * t.room z - t.size * k)) e
            ∙ s.same (t.base z + t.size * n) (t.size * t.room z - t.size * n) (omega arith) (omega arith) ∙ u.clear;
      }

  used_more : count_of t b' ≡ n + 1 → n < t.room z → SameIn b b' (t.base z + t.size * n + t.size) end → Used z t b'
  used_more e l s =
      let m : t.size * (n + 1) ≤ t.size * t.room z = mul-le-mul_left t.size (omega arith) in
      let p : t.size * (n + 1) ≡ t.size * n + t.size = ap (λ (x : ℕ). t.size * x) (add-one n) ∙ mul-suc t.size n in
      let q : t.base z + t.size * (n + 1) ≡ t.base z + t.size * n + t.size = omega arith in
      let rest : ℕ = t.size * t.room z - t.size * (n + 1) in
      let r : t.size + rest ≡ t.size * t.room z - t.size * n = omega arith in
      record {
        within = omega arith;
        clear =
            ap (λ (k : ℕ). number b' (t.base z + t.size * k) (t.size * t.room z - t.size * k)) e
            ∙ s.same (t.base z + t.size * (n + 1)) rest (omega arith) (omega arith) ∙ ap (λ (x : ℕ). number b x rest) q
            ∙ zero_end b (t.base z + t.size * n) t.size rest (ap (number b (t.base z + t.size * n)) r ∙ u.clear);
      }

module _ {A : Type 0} (z : Size) (t : Table) (f : List ℕ → ℕ → A) (local : Local (t.base z) t.size f) (b b' : List ℕ) {xs : List A} (h : Holds z t f b xs) where
  abbrev c : ℕ
  c = count_of t b

  abbrev rooms : ℕ
  rooms = t.base z + t.size * t.room z

  fills : t.size * c ≤ t.size * t.room z
  fills = mul-le-mul_left t.size h.used.within

  -- neither the count nor a record is written
  pub holds_same : count_of t b' ≡ c → SameIn b b' (t.base z) rooms → Holds z t f b' xs
  holds_same e s =
      let m = fills in
      record {
        used = used_same z t b b' h.used e (part s (omega arith) (omega arith));
        is = ap (rows (f b') 0) e ∙ rows_kept (t.base z) t.size f local b b' c (part s (omega arith) (omega arith)) ∙ h.is;
      }

  -- record j is written
  pub holds_set : (j : ℕ) (x : A) → j < c → f b' j ≡ x → count_of t b' ≡ c → SameIn b b' (t.base z) (place_of t z j)
      → SameIn b b' (place_of t z j + t.size) rooms → Holds z t f b' (set xs j x)
  holds_set j x l q e low high =
      let m = fills in
      let k = before t.size j c l in
      record {
        used = used_same z t b b' h.used e (part high (omega arith) (omega arith));
        is =
            ap (rows (f b') 0) e ∙ rows_put (t.base z) t.size f local b b' j c x l q low (part high (omega arith) (omega arith))
            ∙ ap (λ (ys : List A). set ys j x) h.is;
      }

  -- a record is added
  pub holds_more : (x : A) → c < t.room z → count_of t b' ≡ c + 1 → f b' c ≡ x → SameIn b b' (t.base z) (place_of t z c) → SameIn b b' (place_of t z c + t.size) rooms
      → Holds z t f b' (xs ++ x ∷ [])
  holds_more x l n q low high = record {
    used = used_more z t b b' h.used n l high;
    is =
        ap (rows (f b') 0) n ∙ rows_more (t.base z) t.size f local b b' c x q low
        ∙ ap (λ (ys : List A). ys ++ x ∷ []) h.is;
  }
