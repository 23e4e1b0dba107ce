-- What is read is what was written: read bs ≡ some m → bs ≡ write m. Assumes nothing.
use mathlib.Core.Path.{◌≡◌, refl, sym, ap, ap₂, ◌∙◌}
use Prim.Native.Nat.{ℕ, zero, suc, ◌≤◌}
use native.Mathlib.Omega.{arith}
use mathlib.Core.List.{List, [], ◌∷◌, ◌++◌}
use mathlib.Core.Option.{Option, none, some, map, map-eq-some_iff, some-injective}
use lib.ListN.{length, take, drop, get_or, take-append-drop}
use lib.Seq.{length-take-le}
use lib.Dec.{leb, eqb}
use borrow.Author.Tests.{eqb-true, leb-true}
use Rattle.rules.specs.Lists.{be, unbe}
use Rattle.rules.specs.Messages.{Message, field, width, Row, row_of, tags_of, kind, values, writes, write, after, read_field, reads, body, read}
use Rattle.laws.proofs.Tests.{by_bool, by_option, no_some}
use Rattle.laws.proofs.Bytes.{Bytes, bytes_split, unbe_be}
use Rattle.laws.proofs.Written.{reads_cons, writes_cons, write_eq, read_eq}

after_inv : (ps bs r : List ℕ) → after ps bs ≡ some r → bs ≡ ps ++ r
unfolding after
after_inv [] bs r e = some-injective bs r e
after_inv (p ∷ ps) [] r e = no_some e
after_inv (p ∷ ps) (b ∷ bs) r e =
    by_bool (eqb p b)
    (λ q. ap₂ (λ (x : ℕ) (l : List ℕ). x ∷ l) (sym (eqb-true p b q)) (after_inv ps bs r (rw (q, after) at e)))
    (λ q. no_some (rw (q, after) at e))

-- a value of a tag's width is the bytes that a number writes
value_inv : (t : ℕ) (r : List ℕ) → width t ≤ length r → Bytes r → (t ∷ unbe 2 (width t)) ++ r ≡ field t (unbe (width t) (be (take (width t) r))) ++ drop (width t) r
unfolding field
value_inv t r h hb =
    let w = width t in
    let hd = take w r in
    let l = length-take-le w r h in
    let bh : Bytes hd = (bytes_split hd {r = drop w r} (rw take-append-drop hb)).0 in
    let u : unbe w (be hd) ≡ hd = rw l at (unbe_be bh) in
    rw (u, l, take-append-drop)

-- a field that is read was written
read_field_inv {ℓ} : {X : Type ℓ} (t : ℕ) (bs : List ℕ) (go : ℕ → List ℕ → Option X) (x : X) → Bytes bs → read_field t bs go ≡ some x
    → (v : ℕ) × (r : List ℕ) × Bytes r × (bs ≡ field t (unbe (width t) v) ++ r) × (go v r ≡ some x)
unfolding read_field
read_field_inv t bs go x hb e =
    by_option (after (t ∷ unbe 2 (width t)) bs) (λ q. no_some (rw (q, read_field) at e)) λ r q.
    by_bool (leb (width t) (length r))
    (λ k.
    let w = width t in
    let b = after_inv (t ∷ unbe 2 w) bs r q in
    let br = (bytes_split (t ∷ unbe 2 w) (rw b at hb)).1 in (
      be (take w r),
      drop w r,
      (bytes_split (take w r) {r = drop w r} (rw take-append-drop br)).1,
      b ∙ value_inv t r (leb-true w (length r) k) br,
      rw (q, read_field, k) at e,
    ))
    (λ k. no_some (rw (q, read_field, k) at e))

reads_end : (b : ℕ) (bs : List ℕ) → none ≡ reads [] (b ∷ bs)
unfolding reads
reads_end b bs = refl

pub reads_inv : (ts bs vs : List ℕ) → Bytes bs → reads ts bs ≡ some vs → (bs ≡ writes ts vs) × (length vs ≡ length ts)
reads_inv [] [] vs hb e = unfold reads writes in (refl, ap length (sym (some-injective [] vs e)))
reads_inv [] (b ∷ bs) vs hb e = no_some (reads_end b bs ∙ e)
reads_inv (t ∷ ts) bs vs hb e =
    let f = read_field_inv t bs (λ v r. map (v ∷◌) (reads ts r)) vs hb (rw reads_cons at e) in
    let g = (map-eq-some_iff (f.0 ∷◌) (reads ts f.1)).0 f.4 in
    let ih = reads_inv ts f.1 g.0 f.2 g.1 in (
      f.3 ∙ ap (field t (unbe (width t) f.0) ++◌) ih.0 ∙ sym (writes_cons t ts f.0 g.0) ∙ ap (writes (t ∷ ts)) g.2,
      sym (ap length g.2) ∙ ap suc ih.1,
    )

-- a list of n numbers, by its places
spread : ℕ → (ℕ → ℕ) → List ℕ
spread zero f = []
spread (suc n) f = f 0 ∷ spread n (λ i. f (suc i))

spread_law : (n : ℕ) (vs : List ℕ) → length vs ≡ n → spread n (λ i. get_or vs i 0) ≡ vs
unfolding spread
spread_law zero [] h = refl
spread_law zero (v ∷ vs) h = absurd (omega arith)
spread_law (suc n) [] h = absurd (omega arith)
spread_law (suc n) (v ∷ vs) h = ap (v ∷◌) (spread_law n vs (omega arith))

-- a row makes messages of its kind, with the values it is given
Makes : ℕ → Row → Type 0
Makes k row = (v : ℕ → ℕ) → (kind (row.make v) ≡ k) × (values (row.make v) ≡ spread (length row.tags) v) × (tags_of k ≡ row.tags)

makes : (k : ℕ) (row : Row) → row_of k ≡ some row → Makes k row
unfolding Makes row_of kind values tags_of spread
makes zero row e = no_some e
makes (suc zero) row e = rw (← some-injective _ row e) (λ v. (refl, refl, refl))
makes (suc (suc zero)) row e = rw (← some-injective _ row e) (λ v. (refl, refl, refl))
makes (suc (suc (suc zero))) row e = rw (← some-injective _ row e) (λ v. (refl, refl, refl))
makes (suc (suc (suc (suc zero)))) row e = rw (← some-injective _ row e) (λ v. (refl, refl, refl))
makes (suc (suc (suc (suc (suc zero))))) row e = rw (← some-injective _ row e) (λ v. (refl, refl, refl))
makes (suc (suc (suc (suc (suc (suc zero)))))) row e = rw (← some-injective _ row e) (λ v. (refl, refl, refl))
makes (suc (suc (suc (suc (suc (suc (suc k))))))) row e = no_some e

body_inv : (k : ℕ) (r : List ℕ) (m : Message) → Bytes r → body k r ≡ some m → (kind m ≡ k) × (r ≡ writes (tags_of (kind m)) (values m))
unfolding Makes body
body_inv k r m hb e =
    by_option (row_of k) (λ q. no_some (rw (q, body) at e)) λ row q.
    let g = (map-eq-some_iff (λ (vs : List ℕ). row.make (λ i. get_or vs i 0)) (reads row.tags r)).0 (rw (q, body) at e) in
    let vs = g.0 in
    let f = makes k row q (λ i. get_or vs i 0) in
    let h = reads_inv row.tags r vs hb g.1 in
    rw (← g.2, f.0, f.1, f.2, spread_law (length row.tags) vs h.1) (refl, h.0)

pub write_read : (bs : List ℕ) (m : Message) → Bytes bs → read bs ≡ some m → bs ≡ write m
write_read bs m hb e =
    let f = read_field_inv 1 bs body m hb (rw read_eq at e) in
    let g = body_inv f.0 f.1 m f.2 f.4 in
    f.3 ∙ rw (← g.0, g.1) (sym (write_eq m))
