-- What the bytes of records and of tables are read back as, wherever they stand: once for every format and table. Assumes nothing.
use Prim.Native.Nat.{ℕ, zero, suc, ◌+◌, ◌-◌, ◌*◌, ◌/◌, ◌%◌, ◌^◌, ◌<◌, ◌≤◌}
use mathlib.Core.Path.{◌≡◌, refl, sym, ap, ap₂, ◌∙◌}
use mathlib.Core.List.{List, [], ◌∷◌, ◌++◌, append_assoc, map}
use native.Mathlib.Omega.{arith}
use native.Mathlib.Nat.{add-zero, mul-zero, mul-suc, mod-lt, div-add-mod', mul-le-mul_left}
use lib.Dec.{eqb→eq}
use lib.ListN.{length, replicate, length-append, length-replicate}
use Rattle.rules.specs.Lists.{unbe}
use Rattle.laws.proofs.Bytes as digits
use Rattle.laws.proofs.Bytes.{length_unbe, pow_pos, bytes_unbe}
use Rattle.rules.specs.Limits.{Size}
use Rattle.fields.specs.Places.{number, Bytes}
use Rattle.fields.specs.Records.{Format, fields, Fit}
use Rattle.fields.proofs.Lists.{number_cons, number_append_right}
use Rattle.store.specs.Layout.{Table, count_of}
use Rattle.store.specs.Decode.{bytes_of, rows, flat, table_of}
use Rattle.oneform.proofs.Pieces.{Tiled, total}
use Rattle.store.proofs.Tables.{Used}

-- a number that stands behind a beginning
number_behind : (p r : List ℕ) (at w : ℕ) → at ≡ length p → number (p ++ r) at w ≡ number r 0 w
number_behind p r at w e = ap (λ (k : ℕ). number (p ++ r) k w) (e ∙ sym (add-zero (length p))) ∙ number_append_right p r 0 w

number_unbe : (w v : ℕ) (q : List ℕ) → v < 256 ^ w → number (unbe w v ++ q) 0 w ≡ v
unfolding unbe number
number_unbe zero v q h = omega arith
number_unbe (suc w) v q h =
    number_cons (v / 256 ^ w) (unbe w (v % 256 ^ w) ++ q) w
    ∙ ap (λ (x : ℕ). v / 256 ^ w * 256 ^ w + x) (number_unbe w (v % 256 ^ w) q (mod-lt v (pow_pos w))) ∙ div-add-mod' v (256 ^ w)

number_zeros : (w : ℕ) (q : List ℕ) → number (replicate w 0 ++ q) 0 w ≡ 0
unfolding number
number_zeros zero q = refl
number_zeros (suc w) q = number_cons 0 (replicate w 0 ++ q) w ∙ omega (arith, number_zeros w q)

-- ---- a record

pub fields_bytes : (p q : List ℕ) (at o : ℕ) (fs : Format) (vs : List ℕ) → Tiled o fs → Fit fs vs → at + o ≡ length p
    → fields (p ++ (bytes_of fs vs ++ q)) at fs ≡ vs
unfolding bytes_of
fields_bytes p q at o [] [] t f e = refl
fields_bytes p q at o [] (v ∷ vs) t f e = absurd f
fields_bytes p q at o (g ∷ fs) [] t f e = absurd f
fields_bytes p q at o (g ∷ fs) (v ∷ vs) t f e =
    let z = eqb→eq o g.0 t.0 in
    let u = unbe g.1 v in
    let r = bytes_of fs vs ++ q in
    let s : p ++ (bytes_of (g ∷ fs) (v ∷ vs) ++ q) ≡ p ++ (u ++ r) = ap (p ++◌) (append_assoc u (bytes_of fs vs) q) in
    ap₂ ◌∷◌ (ap (λ (l : List ℕ). number l (at + g.0) g.1) s ∙ number_behind p (u ++ r) (at + g.0) g.1 (omega arith) ∙ number_unbe g.1 v r f.0)
    (ap (λ (l : List ℕ). fields l at fs) (s ∙ sym (append_assoc p u r))
    ∙ fields_bytes (p ++ u) q at (o + g.1) fs vs t.1 f.1 (omega (arith, length-append p u, length_unbe g.1 v)))

pub length_bytes : (fs : Format) (vs : List ℕ) → Fit fs vs → length (bytes_of fs vs) ≡ total fs
unfolding bytes_of
length_bytes [] [] f = refl
length_bytes [] (v ∷ vs) f = absurd f
length_bytes (g ∷ fs) [] f = absurd f
length_bytes (g ∷ fs) (v ∷ vs) f =
    omega (arith, length-append (unbe g.1 v) (bytes_of fs vs), length_unbe g.1 v, length_bytes fs vs f.1)

-- ---- a table

-- each of a list
abbrev pub Each : {A : Type 0} → (A → Type 0) → List A → Type 0
Each P [] = Unit {0}
Each P (x ∷ xs) = P x × Each P xs

-- a list of bytes, and then another
pub bytes_append : (s t : List ℕ) → Bytes s → Bytes t → Bytes (s ++ t)
bytes_append [] t h k i = k i
bytes_append (x ∷ s) t h k zero = h zero
bytes_append (x ∷ s) t h k (suc i) = bytes_append s t (λ j. h (suc j)) k i

bytes_none : Bytes []
bytes_none i = record { fits = omega arith }

bytes_zeros : (n : ℕ) → Bytes (replicate n 0)
bytes_zeros zero i = bytes_none i
bytes_zeros (suc n) zero = record { fits = omega arith }
bytes_zeros (suc n) (suc i) = bytes_zeros n i

bytes_digits : {s : List ℕ} → digits.Bytes s → Bytes s
bytes_digits digits.none i = bytes_none i
bytes_digits (digits.one h hs) zero = record { fits = h }
bytes_digits (digits.one h hs) (suc i) = bytes_digits hs i

-- a record's bytes are bytes
pub bytes_record : (fs : Format) (vs : List ℕ) → Fit fs vs → Bytes (bytes_of fs vs)
unfolding bytes_of
bytes_record [] vs h = bytes_none
bytes_record (f ∷ fs) [] h = bytes_none
bytes_record (f ∷ fs) (v ∷ vs) h =
    bytes_append (unbe f.1 v) (bytes_of fs vs) (bytes_digits (bytes_unbe f.1 v h.0)) (bytes_record fs vs h.1)

-- records of one format that fit, as bytes
module _ {A : Type 0} (fs : Format) (values : A → List ℕ) where
  abbrev pub Fits : A → Type 0
  Fits x = Fit fs (values x)

  abbrev pub bytes : A → List ℕ
  bytes x = bytes_of fs (values x)

  pub length_flat : (xs : List A) → Each Fits xs → length (flat bytes xs) ≡ total fs * length xs
  unfolding flat
  length_flat [] h = sym (mul-zero (total fs))
  length_flat (x ∷ xs) h =
      omega (arith, length-append (bytes x) (flat bytes xs), length_bytes fs (values x) h.0, length_flat xs h.1, mul-suc (total fs) (length xs))

  pub bytes_flat : (xs : List A) → Each Fits xs → Bytes (flat bytes xs)
  unfolding flat
  bytes_flat [] h = bytes_none
  bytes_flat (x ∷ xs) h = bytes_append (bytes x) (flat bytes xs) (bytes_record fs (values x) h.0) (bytes_flat xs h.1)

  -- a reader f that finds g x in the record of x finds it in each row
  pub rows_flat : {B : Type 0} (base : ℕ) (g : A → B) (f : List ℕ → ℕ → B)
      → ((p q : List ℕ) (i : ℕ) (x : A) → Fits x → base + total fs * i ≡ length p → f (p ++ (bytes x ++ q)) i ≡ g x)
      → (p q : List ℕ) (i : ℕ) (xs : List A) → Each Fits xs → base + total fs * i ≡ length p → rows (f (p ++ (flat bytes xs ++ q))) i (length xs) ≡ map g xs
  unfolding rows flat
  rows_flat base g f r p q i [] h a = refl
  rows_flat base g f r p q i (x ∷ xs) h a =
      let u = bytes x in
      let v = flat bytes xs ++ q in
      let s : p ++ (flat bytes (x ∷ xs) ++ q) ≡ p ++ (u ++ v) = ap (p ++◌) (append_assoc u (flat bytes xs) q) in
      ap₂ ◌∷◌ (ap (λ (l : List ℕ). f l i) s ∙ r p v i x h.0 a)
      (ap (λ (l : List ℕ). rows (f l) (suc i) (length xs)) (s ∙ sym (append_assoc p u v))
      ∙ rows_flat base g f r (p ++ u) q (suc i) xs h.1
      (omega (arith, length-append p u, length_bytes fs (values x) h.0, mul-suc (total fs) i)))

  -- a table of records that fit, with its unused part
  module _ (z : Size) (t : Table) (sized : total fs ≡ t.size) (xs : List A) (h : Each Fits xs) (few : length xs ≤ t.room z) where
    rest : ℕ
    rest = t.size * t.room z - t.size * length xs

    size_flat : length (flat bytes xs) ≡ t.size * length xs
    size_flat = length_flat xs h ∙ ap (λ (k : ℕ). k * length xs) sized

    pub length_table : length (table_of z t bytes xs) ≡ t.size * t.room z
    unfolding table_of rest
    length_table = omega (arith, length-append (flat bytes xs) (replicate rest 0), size_flat, length-replicate {A = ℕ} rest 0, mul-le-mul_left t.size few)

    pub bytes_table : Bytes (table_of z t bytes xs)
    unfolding table_of rest
    bytes_table = bytes_append (flat bytes xs) (replicate rest 0) (bytes_flat xs h) (bytes_zeros rest)

    module _ (p q : List ℕ) (at : t.base z ≡ length p) (count : count_of t (p ++ (table_of z t bytes xs ++ q)) ≡ length xs) where
      abbrev b : List ℕ
      b = p ++ (table_of z t bytes xs ++ q)

      parted : b ≡ p ++ (flat bytes xs ++ (replicate rest 0 ++ q))
      unfolding table_of rest
      parted = ap (p ++◌) (append_assoc (flat bytes xs) (replicate rest 0) q)

      pub table_used : Used z t b
      unfolding rest
      table_used = record {
        within = rw count few;
        clear =
            ap (λ (n : ℕ). number b (t.base z + t.size * n) (t.size * t.room z - t.size * n)) count
            ∙ ap (λ (l : List ℕ). number l (t.base z + t.size * length xs) rest) (parted ∙ sym (append_assoc p (flat bytes xs) (replicate rest 0 ++ q)))
            ∙ number_behind (p ++ flat bytes xs) (replicate rest 0 ++ q) (t.base z + t.size * length xs) rest (omega (arith, length-append p (flat bytes xs), size_flat))
            ∙ number_zeros rest q;
      }

      pub table_rows : {B : Type 0} (g : A → B) (f : List ℕ → ℕ → B)
          → ((p q : List ℕ) (i : ℕ) (x : A) → Fits x → t.base z + total fs * i ≡ length p → f (p ++ (bytes x ++ q)) i ≡ g x)
          → rows (f b) 0 (count_of t b) ≡ map g xs
      table_rows g f r =
          ap (rows (f b) 0) count ∙ ap (λ (l : List ℕ). rows (f l) 0 (length xs)) parted
          ∙ rows_flat (t.base z) g f r p (replicate rest 0 ++ q) 0 xs h (omega arith)
