-- The bytes of records and of tables, and the numbers that they are read back as: once for every format. Assumes nothing.
use Prim.Native.Nat.{ℕ, zero, suc, ◌+◌, ◌-◌, ◌*◌, ◌/◌, ◌%◌, ◌^◌, ◌<◌, ◌≤◌}
use mathlib.Core.Path.{◌≡◌, refl, sym, ap, ap₂, ◌∙◌}
use mathlib.Core.List.{List, [], ◌∷◌, ◌++◌}
use native.Mathlib.Omega.{arith}
use native.Mathlib.Nat.{add-zero, add_assoc, mul-zero, mul-suc, zero-div, zero-mod, mul-add-div_right, mul-add-mod_self_right, div-eq_of_lt, mod-eq_of_lt, mul-le-mul_left}
use lib.Dec.{T, eqb, eqb→eq}
use lib.ListN.{length, get_or, replicate}
use Rattle.rules.specs.Lists.{unbe}
use Rattle.laws.proofs.Bytes.{pow_pos}
use Rattle.rules.specs.Limits.{Size}
use Rattle.fields.specs.Places.{number, Bytes}
use Rattle.fields.specs.Records.{Format, fields}
use Rattle.fields.proofs.Laws.{number_lt}
use Rattle.fields.proofs.Lists.{number_head}
use Rattle.store.specs.Layout.{Table, count_of}
use Rattle.store.specs.Decode.{bytes_of, rows, flat, table_of}
use Rattle.store.proofs.Rows.{rows_append, rows_length, rows_shift}
use Rattle.store.proofs.Tables.{Used}

-- the bytes of a place
abbrev pub bytes_at : List ℕ → ℕ → ℕ → List ℕ
bytes_at s at w = rows (λ i. get_or s i 0) at w

pub bytes_all : (s : List ℕ) → bytes_at s 0 (length s) ≡ s
unfolding rows
bytes_all [] = refl
bytes_all (x ∷ s) = ap (x ∷◌) (rows_shift (λ i. get_or (x ∷ s) i 0) 0 (length s) ∙ bytes_all s)

-- the fields follow each other from an offset on, and come to a size
abbrev pub Tiled : ℕ → Format → Type 0
Tiled o [] = Unit {0}
Tiled o (f ∷ fs) = T (eqb o f.0) × Tiled (o + f.1) fs

abbrev pub total : Format → ℕ
total [] = 0
total (f ∷ fs) = f.1 + total fs

-- ---- from a store's numbers to its bytes

module _ (s : List ℕ) (bytes : Bytes s) where
  unbe_number : (at w : ℕ) → unbe w (number s at w) ≡ bytes_at s at w
  unfolding unbe rows
  unbe_number at zero = refl
  unbe_number at (suc w) =
      let l = number_lt s bytes (suc at) w in
      let x = get_or s at 0 in
      let e : number s at (suc w) ≡ x * 256 ^ w + number s (suc at) w = number_head s at w in
      let hi : number s at (suc w) / 256 ^ w ≡ x =
      ap (λ (y : ℕ). y / 256 ^ w) e ∙ mul-add-div_right (pow_pos w) x (number s (suc at) w) ∙ rw (div-eq_of_lt l, add-zero) in
      let lo : number s at (suc w) % 256 ^ w ≡ number s (suc at) w =
      ap (λ (y : ℕ). y % 256 ^ w) e ∙ mul-add-mod_self_right x (256 ^ w) (number s (suc at) w) ∙ mod-eq_of_lt l in
      ap₂ ◌∷◌ hi (ap (unbe w) lo ∙ unbe_number (suc at) w)

  unbe_zero : (w : ℕ) → unbe w 0 ≡ replicate w 0
  unfolding unbe
  unbe_zero zero = refl
  unbe_zero (suc w) = ap₂ ◌∷◌ (zero-div (256 ^ w)) (ap (unbe w) (zero-mod (256 ^ w)) ∙ unbe_zero w)

  tiled_bytes : (at o : ℕ) (fs : Format) → Tiled o fs → bytes_of fs (fields s at fs) ≡ bytes_at s (at + o) (total fs)
  unfolding bytes_of rows
  tiled_bytes at o [] h = refl
  tiled_bytes at o (f ∷ fs) h =
      let e = eqb→eq o f.0 h.0 in
      ap₂ ◌++◌ (unbe_number (at + f.0) f.1 ∙ ap (λ (k : ℕ). bytes_at s (at + k) f.1) (sym e))
      (tiled_bytes at (o + f.1) fs h.1 ∙ ap (λ (k : ℕ). bytes_at s k (total fs)) (sym (add_assoc at o f.1)))
      ∙ sym (rows_append (λ i. get_or s i 0) (at + o) f.1 (total fs))

  -- a record is the bytes of its place
  pub record_bytes_lem : (at : ℕ) (fs : Format) → Tiled 0 fs → bytes_of fs (fields s at fs) ≡ bytes_at s at (total fs)
  record_bytes_lem at fs h = tiled_bytes at 0 fs h ∙ ap (λ (k : ℕ). bytes_at s k (total fs)) (add-zero at)

  -- and so are the records of a table
  pub rows_bytes : {A : Type 0} (e : A → List ℕ) (f : ℕ → A) (base size i n : ℕ)
      → ((k : ℕ) → i ≤ k → k < i + n → e (f k) ≡ bytes_at s (base + size * k) size) → flat e (rows f i n) ≡ bytes_at s (base + size * i) (size * n)
  unfolding flat rows
  rows_bytes e f base size i zero h = rw mul-zero
  rows_bytes e f base size i (suc n) h =
      let p : base + size * suc i ≡ base + size * i + size = omega (arith, mul-suc size i) in
      let q : size + size * n ≡ size * suc n = omega (arith, mul-suc size n) in
      ap₂ ◌++◌ (h i (omega arith) (omega arith))
      (rows_bytes e f base size (suc i) n (λ k a b. h k (omega arith) (omega arith)) ∙ ap (λ (k : ℕ). bytes_at s k (size * n)) p)
      ∙ sym (rows_append (λ k. get_or s k 0) (base + size * i) size (size * n)) ∙ ap (bytes_at s (base + size * i)) q

  -- and a table with its unused part
  pub table_bytes : {A : Type 0} (z : Size) (t : Table) (e : A → List ℕ) (f : ℕ → A) → ((k : ℕ) → k < count_of t s → e (f k) ≡ bytes_at s (t.base z + t.size * k) t.size)
      → Used z t s → table_of z t e (rows f 0 (count_of t s)) ≡ bytes_at s (t.base z) (t.size * t.room z)
  unfolding table_of
  table_bytes z t e f h u =
      let n = count_of t s in
      let rest : ℕ = t.size * t.room z - t.size * n in
      let m : t.size * n ≤ t.size * t.room z = mul-le-mul_left t.size u.within in
      let q : t.base z + t.size * 0 ≡ t.base z = omega arith in
      let p : t.size * n + rest ≡ t.size * t.room z = omega arith in
      let zeros : replicate rest 0 ≡ bytes_at s (t.base z + t.size * n) rest =
      sym (unbe_zero rest) ∙ ap (unbe rest) (sym u.clear) ∙ unbe_number (t.base z + t.size * n) rest in
      ap₂ ◌++◌ (rows_bytes e f (t.base z) t.size 0 n (λ k a b. h k (omega arith)) ∙ ap (λ (x : ℕ). bytes_at s x (t.size * n)) q)
      (ap (λ (x : ℕ). replicate (t.size * t.room z - t.size * x) 0) (rows_length f 0 n) ∙ zeros)
      ∙ sym (rows_append (λ i. get_or s i 0) (t.base z) (t.size * n) rest) ∙ ap (bytes_at s (t.base z)) p
