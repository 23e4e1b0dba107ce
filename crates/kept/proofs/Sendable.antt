-- Messages that are allowed and whose names are names fit their fields; what was read fits them too. Assumes nothing.
use mathlib.Core.Path.{◌≡◌, refl}
use Prim.Native.Nat.{ℕ, zero, suc, ◌^◌, ◌≤◌, ◌<◌}
use native.Mathlib.Nat.{pow-suc, mul_comm, div-lt_iff_lt-mul}
use native.Mathlib.Omega.{arith}
use mathlib.Core.Bool.{true}
use mathlib.Core.List.{List, [], ◌∷◌}
use mathlib.Core.Option.{some}
use lib.ListN.{length}
use Rattle.rules.specs.Lists.{unbe}
use Rattle.rules.specs.Sizes.{Settings}
use Rattle.rules.specs.Messages.{Message, new_view, propose, vote, blame, blame_set, status, InWidth, Fitting, field, width, row_of, tags_of, kind, values, writes, write, read, allowed}
use Rattle.laws.proofs.Bytes.{Bytes, one, bytes_split, pow_pos}
use Rattle.laws.proofs.Written.{write_eq, writes_cons}
use Rattle.laws.proofs.ReadBack.{write_read}
use Rattle.laws.proofs.Allowed.{Sizes, leader_lt, mask_small, view_within, height_le, mask_parts, certificate_mask, certificate_view, allowed_rights}
use Rattle.kept.specs.Said.{Each, Sendable}

-- the names in a message are of 32 bytes
abbrev pub Named : Message → Type 0
Named (new_view v h b c m a) = b < 256 ^ 32
Named (propose v h b p m a) = (b < 256 ^ 32) × (p < 256 ^ 32)
Named (vote v h b a) = b < 256 ^ 32
Named (blame v a) = Unit
Named (blame_set v m) = Unit
Named (status h b c m) = b < 256 ^ 32

-- ---- allowed and named, so fitting

fitting : {g : Settings} → Sizes g → (m : Message) → allowed g m ≡ true → Named m → Fitting m
unfolding tags_of row_of kind values width
fitting {g} s (new_view v h b c m a) e n =
    let (i, j, k, l, o) = allowed_rights g (new_view v h b c m a) e in
    let w = view_within g v i in
    let x = height_le h b j in
    let y = mask_small s (certificate_mask g m h c l) in
    let z = leader_lt v s in
    (omega arith, (omega arith, (n, (omega arith, (omega arith, (omega arith, tt))))))
fitting {g} s (propose v h b p m a) e n =
    let (i, j, k, l, o, q) = allowed_rights g (propose v h b p m a) e in
    let w = view_within g v i in
    let x = height_le h b k in
    let y = mask_small s (mask_parts g m o).0 in
    let z = leader_lt v s in
    (omega arith, (omega arith, (n.0, (n.1, (omega arith, (omega arith, tt))))))
fitting {g} s (vote v h b a) e n =
    let (i, j, k) = allowed_rights g (vote v h b a) e in
    let w = view_within g v i in
    let x = height_le h b j in
    (omega arith, (omega arith, (n, (omega arith, tt))))
fitting {g} s (blame v a) e n =
    let (i, j) = allowed_rights g (blame v a) e in
    let w = view_within g v i in
    (omega arith, (omega arith, tt))
fitting {g} s (blame_set v m) e n =
    let (i, j) = allowed_rights g (blame_set v m) e in
    let w = view_within g v i in
    let y = mask_small s (mask_parts g m j).0 in
    (omega arith, (omega arith, tt))
fitting {g} s (status h b c m) e n =
    let (i, j) = allowed_rights g (status h b c m) e in
    let w = certificate_view g m h c j in
    let x = height_le h b i in
    let y = mask_small s (certificate_mask g m h c j) in
    (omega arith, (n, (omega arith, (omega arith, tt))))

pub sendable : {g : Settings} (m : Message) → Sizes g → allowed g m ≡ true → Named m → Sendable g m
sendable m s e n = record { is_allowed = e; fits = fitting s m e n }

pub named : (m : Message) → Fitting m → Named m
unfolding tags_of row_of kind values width
named (new_view v h b c m a) f = f.1.1.0
named (propose v h b p m a) f = (f.1.1.0, f.1.1.1.0)
named (vote v h b a) f = f.1.1.0
named (blame v a) f = tt
named (blame_set v m) f = tt
named (status h b c m) f = f.1.0

-- ---- what was read

-- a number whose digits are bytes is below the limit of its width
unbe_lt : (w v : ℕ) → 1 ≤ w → Bytes (unbe w v) → v < 256 ^ w
unfolding unbe
unbe_lt zero v l h = absurd (omega arith)
unbe_lt (suc w) v l (one h hs) = rw (pow-suc, mul_comm (256 ^ w) 256) ((div-lt_iff_lt-mul {x = v} {y = 256} (pow_pos w)).0 h)

-- values written as bytes, each in a width of at least one, fit
bytes_fit : (ts vs : List ℕ) → length vs ≡ length ts → Each (λ t. 1 ≤ width t) ts → Bytes (writes ts vs) → InWidth ts vs
unfolding field
bytes_fit [] [] l k h = tt
bytes_fit [] (v ∷ vs) l k h = absurd (omega arith)
bytes_fit (t ∷ ts) [] l k h = absurd (omega arith)
bytes_fit (t ∷ ts) (v ∷ vs) l k h =
    let f = bytes_split (field t (unbe (width t) v)) (rw writes_cons at h) in
    let d = bytes_split (t ∷ unbe 2 (length (unbe (width t) v))) f.0 in
    (unbe_lt (width t) v k.0 d.1, bytes_fit ts vs (omega arith) k.1 f.1)

message_fit : (m : Message) → Bytes (writes (tags_of (kind m)) (values m)) → Fitting m
unfolding tags_of row_of kind values width
message_fit (new_view v h b c m a) = bytes_fit _ _ refl (omega arith)
message_fit (propose v h b p m a) = bytes_fit _ _ refl (omega arith)
message_fit (vote v h b a) = bytes_fit _ _ refl (omega arith)
message_fit (blame v a) = bytes_fit _ _ refl (omega arith)
message_fit (blame_set v m) = bytes_fit _ _ refl (omega arith)
message_fit (status h b c m) = bytes_fit _ _ refl (omega arith)

pub read_sendable : (g : Settings) (bs : List ℕ) (m : Message) → Bytes bs → read bs ≡ some m → allowed g m ≡ true → Sendable g m
read_sendable g bs m hb e a =
    let w : Bytes (write m) = rw (write_read bs m hb e) at hb in
    record { is_allowed = a; fits = message_fit m (bytes_split (field 1 (unbe (width 1) (kind m))) (rw write_eq at w)).1 }
