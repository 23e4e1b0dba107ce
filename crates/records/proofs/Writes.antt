-- What a write makes of one table, and what it leaves of the rest of the store: each law once for every table. Assumes nothing.
use Prim.Native.Nat.{ℕ, suc, ◌+◌, ◌*◌, ◌^◌, ◌<◌, ◌≤◌}
use mathlib.Core.Path.{◌≡◌, sym, ap, ap₂, ◌∙◌, subst}
use mathlib.Core.List.{List, [], ◌∷◌, ◌++◌}
use native.Mathlib.Omega.{arith}
use native.Mathlib.Nat.{zero-add, mul-suc, mul-le-mul_left}
use lib.ListN.{length, get_or, set}
use Rattle.rules.specs.Limits.{Size}
use Rattle.fields.specs.Places.{put, Bytes}
use Rattle.fields.specs.Records.{Format, fields, puts, Ordered, Fit}
use Rattle.fields.proofs.Laws.{number_put_same, length_put, bytes_put}
use Rattle.fields.proofs.Records.{length_puts, bytes_puts, fields_puts}
use Rattle.store.specs.Layout.{header_format, Table, end_of, store_length, count_of, place_of}
use Rattle.records.specs.Changes.{change_at}
use Rattle.records.proofs.Places.{rows_change}
use Rattle.store.proofs.Kept.{SameIn, part, then, put_low, put_high, puts_low, puts_high, fields_same, field_put}
use Rattle.store.proofs.Tables.{Local, Holds, holds_set, holds_more}
use Rattle.store.proofs.Forms.{ordered_header}

-- a table lies behind the header, in the store; field k of the header is its count
pub record Placed (z : Size) (t : Table) (k : ℕ) : Type 0 where
  pub counted : get_or header_format k (0, 0) ≡ (t.count_at, 2)
  pub field : k < 14
  pub apart : t.count_at + 2 ≤ t.base z
  pub behind : 68 ≤ t.base z
  pub store : end_of t z ≤ (store_length z)
  pub few : t.room z < 256 ^ 2

-- what a write to a table's records alone leaves
pub record Changed {A : Type 0} (z : Size) (t : Table) (f : List ℕ → ℕ → A) (b b' : List ℕ) (xs : List A) : Type 0 where
  pub holds : Holds z t f b' xs
  pub low : SameIn b b' 0 (t.base z)
  pub high : SameIn b b' (end_of t z) (store_length z)

-- what a record more leaves: the count is another too
pub record Added {A : Type 0} (z : Size) (t : Table) (k : ℕ) (f : List ℕ → ℕ → A) (b b' : List ℕ) (xs : List A) : Type 0 where
  pub bytes : Bytes b'
  pub long : length b' ≡ length b
  pub holds : Holds z t f b' xs
  pub header : fields b' 0 header_format ≡ set (fields b 0 header_format) k (count_of t b + 1)
  pub low : SameIn b b' 0 t.count_at
  pub mid : SameIn b b' (t.count_at + 2) (t.base z)
  pub high : SameIn b b' (end_of t z) (store_length z)

-- a count is written
count_put : (z : Size) (t : Table) (k : ℕ) → Placed z t k → (b : List ℕ) → length b ≡ (store_length z) → (v : ℕ) → v < 256 ^ 2
    → fields (put b t.count_at 2 v) 0 header_format ≡ set (fields b 0 header_format) k v
count_put z t k p b long v h =
    subst (λ (o : ℕ × ℕ). v < 256 ^ o.1 → fields (put b o.0 o.1 v) 0 header_format ≡ set (fields b 0 header_format) k v) p.counted
    (λ l. ap (λ (at : ℕ). fields (put b at (get_or header_format k (0, 0)).1 v) 0 header_format) (sym (zero-add _)) ∙ field_put b 0 0 68 header_format ordered_header (omega arith) k v p.field l) h

module _ {A : Type 0} (z : Size) (t : Table) (f : List ℕ → ℕ → A) (local : Local (t.base z) t.size f) (b : List ℕ) {xs : List A} (h : Holds z t f b xs) where
  -- a number is written within record j, which changes by g
  pub put_record : (k : ℕ) → Placed z t k → (j o w v : ℕ) (g : A → A) → j < count_of t b → o + w ≤ t.size
      → f (put b (place_of t z j + o) w v) j ≡ g (f b j) → Changed z t f b (put b (place_of t z j + o) w v) (change_at g j xs)
  put_record k p j o w v g l i e =
      let at = place_of t z j + o in
      let low = put_low b at w v in
      let high = put_high b at w v (store_length z) in
      let m : t.size * suc j ≤ t.size * t.room z = mul-le-mul_left t.size (omega (arith, h.used.within)) in
      let n = mul-suc t.size j in
      let held = holds_set z t f local b (put b at w v) h j (g (f b j)) l e (low.same t.count_at 2 (omega arith) (omega arith)) (part low (omega arith) (omega arith)) (part high (omega arith) (omega arith)) in
      let change : change_at g j xs ≡ set xs j (g (f b j)) =
      ap (change_at g j) (sym h.is) ∙ rows_change g (f b) 0 (count_of t b) j l
      ∙ ap₂ (λ (ys : List A) (y : A). set ys j (g y)) h.is (ap (f b) (zero-add j)) in
      record {
        holds = record { used = held.used; is = held.is ∙ sym change };
        low = part low (omega arith) (omega arith);
        high = part high (omega arith) (omega arith);
      }

  -- a record is written behind the last, and counted
  module _ (k : ℕ) (p : Placed z t k) (fs : Format) (ordered : Ordered 0 fs t.size) (bytes : Bytes b) (long : length b ≡ (store_length z)) where
    abbrev n : ℕ
    n = count_of t b

    pub add_record : (vs : List ℕ) (x : A) → n < t.room z → Fit fs vs
        → (fields (put (puts b (place_of t z n) fs vs) t.count_at 2 (n + 1)) (place_of t z n) fs ≡ vs → f (put (puts b (place_of t z n) fs vs) t.count_at 2 (n + 1)) n ≡ x)
        → Added z t k f b (put (puts b (place_of t z n) fs vs) t.count_at 2 (n + 1)) (xs ++ x ∷ [])
    add_record vs x l fit reads =
        let at = place_of t z n in
        let b₁ = puts b at fs vs in
        let b' = put b₁ t.count_at 2 (n + 1) in
        let m : t.size * suc n ≤ t.size * t.room z = mul-le-mul_left t.size l in
        let q = mul-suc t.size n in
        let low₁ = puts_low b at t.size fs ordered vs in
        let high₁ = puts_high b at t.size fs ordered vs (store_length z) in
        let low₂ = put_low b₁ t.count_at 2 (n + 1) in
        let high₂ = put_high b₁ t.count_at 2 (n + 1) (store_length z) in
        let size₁ : length b₁ ≡ length b = length_puts b at fs vs in
        let low : SameIn b b' 0 t.count_at = then (part low₁ (omega arith) (omega arith)) low₂ in
        let mid : SameIn b b' (t.count_at + 2) at = then (part low₁ (omega arith) (omega arith)) (part high₂ (omega arith) (omega arith)) in
        let high : SameIn b b' (at + t.size) (store_length z) = then high₁ (part high₂ (omega arith) (omega arith)) in
        let row : fields b' at fs ≡ vs =
        fields_same b₁ b' at 0 t.size fs ordered (part high₂ (omega arith) (omega arith))
        ∙ fields_puts b at 0 t.size fs vs ordered (omega arith) fit in
        let count : count_of t b' ≡ n + 1 = number_put_same b₁ t.count_at 2 (n + 1) (omega arith) (omega arith) in
        record {
          bytes = bytes_put b₁ (bytes_puts b bytes at fs vs) t.count_at 2 (n + 1);
          long = length_put b₁ t.count_at 2 (n + 1) ∙ size₁;
          holds = holds_more z t f local b b' h x l count (reads row) (part mid (omega arith) (omega arith)) (part high (omega arith) (omega arith));
          header =
              count_put z t k p b₁ (omega arith) (n + 1) (omega arith)
              ∙ ap (λ (hs : List ℕ). set hs k (n + 1)) (fields_same b b₁ 0 0 68 header_format ordered_header (part low₁ (omega arith) (omega arith)));
          low = low;
          mid = part mid (omega arith) (omega arith);
          high = part high (omega arith) (omega arith);
        }
