-- How many bytes a message, an effect and a list of effects take: 01's column 'bytes'. Assumes nothing.
use mathlib.Core.Path.{◌≡◌, refl, ap, ◌∙◌}
use Prim.Native.Nat.{ℕ, suc, ◌+◌, ◌*◌, ◌≤◌}
use native.Mathlib.Omega.{arith}
use mathlib.Core.List.{List, [], ◌∷◌, ◌++◌}
use lib.ListN.{length, length-append}
use Rattle.rules.specs.Lists.{unbe}
use Rattle.rules.specs.Messages.{Message, new_view, propose, vote, blame, blame_set, status, field, width, row_of, tags_of, kind, values, writes, write, size, Effect, to_all, to_one, committed, effect, outgoing}
use Rattle.rules.specs.Inputs.{reports}
use Rattle.laws.proofs.Bytes.{length_unbe}
use Rattle.laws.proofs.Written.{writes_cons}

pub length_field : (t : ℕ) (bs : List ℕ) → length (field t bs) ≡ 3 + length bs
unfolding field unbe
length_field t bs = omega arith

-- the fields of some tags
span : List ℕ → ℕ
span [] = 0
span (t ∷ ts) = 3 + width t + span ts

length_writes : (ts vs : List ℕ) → length vs ≡ length ts → length (writes ts vs) ≡ span ts
unfolding span
length_writes [] vs e = unfold writes in refl
length_writes (t ∷ ts) [] e = absurd (omega arith)
length_writes (t ∷ ts) (v ∷ vs) e =
    let a = length_writes ts vs (omega arith) in
    let b = length_field t (unbe (width t) v) in
    let c = length_unbe (width t) v in
    let d = length-append (field t (unbe (width t) v)) (writes ts vs) in
    rw writes_cons (omega arith)

spans : (m : Message) → (length (values m) ≡ length (tags_of (kind m))) × (span (1 ∷ tags_of (kind m)) ≡ size m)
unfolding size tags_of row_of kind values span width
spans (new_view v h b c m a) = (refl, refl)
spans (propose v h b p m a) = (refl, refl)
spans (vote v h b a) = (refl, refl)
spans (blame v a) = (refl, refl)
spans (blame_set v m) = (refl, refl)
spans (status h b c m) = (refl, refl)

pub length_write : (m : Message) → length (write m) ≡ size m
unfolding write
length_write m = let s = spans m in length_writes (1 ∷ tags_of (kind m)) (kind m ∷ values m) (ap suc s.0) ∙ s.1

unfoldable pub weight : Effect → ℕ
unfolding size
weight (to_all m) = 3 + size m
weight (to_one i m) = 4 + size m
weight (committed h b) = 39

pub length_effect : (e : Effect) → length (effect e) ≡ weight e
unfolding effect weight
length_effect (to_all m) = length_field 0x10 (write m) ∙ ap (3 +◌) (length_write m)
length_effect (to_one i m) = let a = length_field 0x11 (i ∷ write m) in let b = length_write m in omega arith
length_effect (committed h b) =
    let a = length_field 0x12 (unbe 4 h ++ unbe 32 b) in
    let c = length-append (unbe 4 h) (unbe 32 b) in
    let d = length_unbe 4 h in
    let e = length_unbe 32 b in
    omega arith

-- "the count of bytes written"
abbrev pub bytes : List Effect → ℕ
bytes es = length (outgoing es)

pub bytes_cons : (e : Effect) (es : List Effect) → bytes (e ∷ es) ≡ weight e + bytes es
unfolding outgoing
bytes_cons e es = length-append (effect e) (outgoing es) ∙ ap (◌+ bytes es) (length_effect e)

pub bytes_append : (es fs : List Effect) → bytes (es ++ fs) ≡ bytes es + bytes fs
bytes_append [] fs = unfold outgoing in (omega arith)
bytes_append (e ∷ es) fs =
    let a = bytes_cons e (es ++ fs) in
    let b = bytes_cons e es in
    let c = bytes_append es fs in
    omega arith

pub bytes_none : bytes [] ≡ 0
unfolding outgoing
bytes_none = refl

-- no message is shorter than a blame, or longer than a propose
pub size_least : (m : Message) → 15 ≤ size m
unfolding size
size_least (new_view v h b c m a) = omega arith
size_least (propose v h b p m a) = omega arith
size_least (vote v h b a) = omega arith
size_least (blame v a) = omega arith
size_least (blame_set v m) = omega arith
size_least (status h b c m) = omega arith

pub size_most : (m : Message) → size m ≤ 97
unfolding size
size_most (new_view v h b c m a) = omega arith
size_most (propose v h b p m a) = omega arith
size_most (vote v h b a) = omega arith
size_most (blame v a) = omega arith
size_most (blame_set v m) = omega arith
size_most (status h b c m) = omega arith

pub reports_bytes : (h : ℕ) (l : List ℕ) → bytes (reports h l) ≡ 39 * length l
unfolding reports weight
reports_bytes h [] = bytes_none
reports_bytes h (b ∷ l) = let a = bytes_cons (committed h b) (reports (suc h) l) in let c = reports_bytes (suc h) l in omega arith
