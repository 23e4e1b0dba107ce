-- The wire form, there and back, once over the table. Assumes nothing.
use mathlib.Core.Path.{◌≡◌, refl, ap, ◌∙◌}
use Prim.Native.Nat.{ℕ, ◌^◌, ◌<◌}
use native.Mathlib.Omega.{arith}
use mathlib.Core.List.{List, [], ◌∷◌, ◌++◌, append_assoc}
use mathlib.Core.Option.{Option, some, map}
use lib.ListN.{length, length-append}
use lib.Seq.{take_at, drop_at}
use borrow.Author.Tests.{le-leb}
use Rattle.rules.specs.Lists.{be, unbe}
use Rattle.rules.specs.Messages.{InWidth, Fitting, Message, new_view, propose, vote, blame, blame_set, status, field, width, tags_of, kind, values, writes, write, after, read_field, reads, body, read}
use Rattle.laws.proofs.Tests.{eqb_self}
use Rattle.laws.proofs.Bytes.{length_unbe, be_unbe}

after_self : (ps r : List ℕ) → after ps (ps ++ r) ≡ some r
unfolding after
after_self [] r = refl
after_self (p ∷ ps) r = rw (eqb_self p, after) (after_self ps r)

-- what stands behind the head of a field is cut at its width
taken {ℓ} : {X : Type ℓ} (t : ℕ) (x bs r : List ℕ) (go : ℕ → List ℕ → Option X) → after (t ∷ unbe 2 (width t)) x ≡ some (bs ++ r)
    → length bs ≡ width t → read_field t x go ≡ go (be bs) r
unfolding read_field
taken t x bs r go e h =
    rw (e, read_field)
    (rw (le-leb (width t) (length (bs ++ r)) (omega (arith, length-append bs r)), take_at bs r (width t) h, drop_at bs r (width t) h))

-- a field is read as it was written
read_field_lem {ℓ} : {X : Type ℓ} (t v : ℕ) (r : List ℕ) (go : ℕ → List ℕ → Option X) → v < 256 ^ width t
    → read_field t (field t (unbe (width t) v) ++ r) go ≡ go v r
read_field_lem t v r go h =
    let bs = unbe (width t) v in
    let l = length_unbe (width t) v in
    taken t (field t bs ++ r) bs r go (unfold field in (rw (append_assoc, l) (after_self (t ∷ unbe 2 (width t)) (bs ++ r)))) l
    ∙ ap (λ (x : ℕ). go x r) (be_unbe (width t) v h)

pub reads_cons : (t : ℕ) (ts bs : List ℕ) → reads (t ∷ ts) bs ≡ read_field t bs (λ v r. map (v ∷◌) (reads ts r))
unfolding reads
reads_cons t ts bs = refl

pub writes_cons : (t : ℕ) (ts : List ℕ) (v : ℕ) (vs : List ℕ) → writes (t ∷ ts) (v ∷ vs) ≡ field t (unbe (width t) v) ++ writes ts vs
unfolding writes
writes_cons t ts v vs = refl

pub reads_writes : (ts vs : List ℕ) → InWidth ts vs → reads ts (writes ts vs) ≡ some vs
reads_writes [] [] h = unfold reads writes in refl
reads_writes [] (v ∷ vs) h = absurd h
reads_writes (t ∷ ts) [] h = absurd h
reads_writes (t ∷ ts) (v ∷ vs) h =
    rw (writes_cons, reads_cons, read_field_lem t v (writes ts vs) (λ v r. map (v ∷◌) (reads ts r)) h.0, reads_writes ts vs h.1)

pub write_eq : (m : Message) → write m ≡ field 1 (unbe (width 1) (kind m)) ++ writes (tags_of (kind m)) (values m)
unfolding write
write_eq m = refl

pub read_eq : (bs : List ℕ) → read bs ≡ read_field 1 bs body
unfolding read
read_eq bs = refl

-- the row of a message makes it from its values
row_law : (m : Message) (r : List ℕ) → reads (tags_of (kind m)) r ≡ some (values m) → body (kind m) r ≡ some m
unfolding tags_of kind values body
row_law (new_view v h b c m a) r e = rw (e, body)
row_law (propose v h b p m a) r e = rw (e, body)
row_law (vote v h b a) r e = rw (e, body)
row_law (blame v a) r e = rw (e, body)
row_law (blame_set v m) r e = rw (e, body)
row_law (status h b c m) r e = rw (e, body)

kind_lt : (m : Message) → kind m < 256 ^ width 1
unfolding kind width
kind_lt (new_view v h b c m a) = omega arith
kind_lt (propose v h b p m a) = omega arith
kind_lt (vote v h b a) = omega arith
kind_lt (blame v a) = omega arith
kind_lt (blame_set v m) = omega arith
kind_lt (status h b c m) = omega arith

pub read_write : (m : Message) → Fitting m → read (write m) ≡ some m
read_write m h =
    let r = writes (tags_of (kind m)) (values m) in
    rw (write_eq, read_eq, read_field_lem 1 (kind m) r body (kind_lt m)) (row_law m r (reads_writes (tags_of (kind m)) (values m) h))
