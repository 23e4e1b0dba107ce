-- Outgoing fields read back as they were said; so the bytes that a call wrote determine what it said. Assumes nothing.
use Prim.Native.Nat.{ℕ, zero, suc, ◌+◌, ◌≤◌, ◌<◌, ◌^◌}
use native.Mathlib.Omega.{arith}
use mathlib.Core.Path.{◌≡◌, refl, sym, ap, ap₂, ◌∙◌}
use mathlib.Core.List.{List, [], ◌∷◌, ◌++◌, append_assoc}
use mathlib.Core.Option.{Option, some, map}
use lib.ListN.{length, length-append}
use lib.Seq.{take_at, drop_at}
use borrow.Author.Tests.{eq-eqb}
use Rattle.rules.specs.Lists.{be, unbe}
use Rattle.rules.specs.Sizes.{Settings}
use Rattle.rules.specs.Messages.{Message, field, write, Effect, to_all, to_one, committed, effect, outgoing}
use Rattle.laws.proofs.Bytes.{length_unbe, be_unbe}
use Rattle.kept.specs.Said.{Each, Sayable}
use Rattle.laws.proofs.Lengths.{length_write, size_most, bytes_cons, weight}
use Rattle.kept.proofs.Calls.{sent_read}
use Rattle.promises.specs.Heard.{one_in, committed_in, effect_in, if_said, heard_in, heard}

-- one field is read whole, and reading goes on behind it
heard_head : (n t : ℕ) (head value rest : List ℕ) → length head ≡ 2 → be head ≡ length value
    → heard_in (suc n) (t ∷ head ++ (value ++ rest)) ≡ if_said (effect_in t value) (heard_in n rest)
unfolding heard_in
heard_head n t head value rest two width =
    rw (take_at head (value ++ rest) 2 two, drop_at head (value ++ rest) 2 two, width, take_at value rest (length value) refl, drop_at value rest (length value) refl)

heard_field : (t : ℕ) (value rest : List ℕ) (n : ℕ) → length value < 256 ^ 2 → heard_in (suc n) (field t value ++ rest) ≡ if_said (effect_in t value) (heard_in n rest)
unfolding field
heard_field t value rest n l =
    let head = unbe 2 (length value) in
    ap (λ (bs : List ℕ). heard_in (suc n) (t ∷ bs)) (append_assoc head value rest)
    ∙ heard_head n t head value rest (length_unbe 2 (length value)) (be_unbe 2 (length value) l)

-- ---- each effect

block_length : (h b : ℕ) → length (unbe 4 h ++ unbe 32 b) ≡ 36
block_length h b = length-append (unbe 4 h) (unbe 32 b) ∙ ap₂ ◌+◌ (length_unbe 4 h) (length_unbe 32 b)

block_back : (height name : List ℕ) → length height ≡ 4 → length (height ++ name) ≡ 36 → committed_in (height ++ name) ≡ some (committed (be height) (be name))
unfolding committed_in
block_back height name four all = rw (eq-eqb (length (height ++ name)) 36 all, committed_in, take_at height name 4 four, drop_at height name 4 four)

committed_back : (h b : ℕ) → h < 256 ^ 4 → b < 256 ^ 32 → committed_in (unbe 4 h ++ unbe 32 b) ≡ some (committed h b)
committed_back h b lh lb =
    block_back (unbe 4 h) (unbe 32 b) (length_unbe 4 h) (block_length h b)
    ∙ ap₂ (λ (x y : ℕ). some (committed x y)) (be_unbe 4 h lh) (be_unbe 32 b lb)

-- an effect's field says it
effect_heard : (g : Settings) (e : Effect) → Sayable g e → (rest : List ℕ) (n : ℕ) → heard_in (suc n) (effect e ++ rest) ≡ e ∷ heard_in n rest
unfolding effect effect_in one_in if_said
effect_heard g (to_all m) s rest n =
    let l = length_write m in
    let k = size_most m in
    heard_field 0x10 (write m) rest n (omega arith) ∙ ap (λ (o : Option Message). if_said (map to_all o) (heard_in n rest)) (sent_read s)
effect_heard g (to_one i m) s rest n =
    let l = length_write m in
    let k = size_most m in
    heard_field 0x11 (i ∷ write m) rest n (omega arith) ∙ ap (λ (o : Option Message). if_said (map (to_one i) o) (heard_in n rest)) (sent_read s.1)
effect_heard g (committed h b) s rest n =
    let l = block_length h b in
    heard_field 0x12 (unbe 4 h ++ unbe 32 b) rest n (omega arith)
    ∙ ap (λ (o : Option Effect). if_said o (heard_in n rest)) (committed_back h b (let z = s.0 in omega arith) s.1)

-- ---- all of them

some_bytes : (e : Effect) → 1 ≤ weight e
unfolding weight
some_bytes (to_all m) = omega arith
some_bytes (to_one i m) = omega arith
some_bytes (committed h b) = omega arith

heard_in_lem : (g : Settings) (es : List Effect) → Each (Sayable g) es → (n : ℕ) → length (outgoing es) ≤ n → heard_in n (outgoing es) ≡ es
unfolding outgoing heard_in
heard_in_lem g [] s zero l = refl
heard_in_lem g [] s (suc n) l = refl
heard_in_lem g (e ∷ es) s zero l = let a = bytes_cons e es in let b = some_bytes e in absurd (omega arith)
heard_in_lem g (e ∷ es) s (suc n) l =
    let a = bytes_cons e es in
    let b = some_bytes e in
    effect_heard g e s.0 (outgoing es) n ∙ ap (e ∷◌) (heard_in_lem g es s.1 n (omega arith))

-- what may be said is heard as it was said
pub heard_outgoing : (g : Settings) (es : List Effect) → Each (Sayable g) es → heard (outgoing es) ≡ es
unfolding heard
heard_outgoing g es s = heard_in_lem g es s (length (outgoing es)) (omega arith)

-- the bytes of outgoing fields determine the effects
pub outgoing_one : (g : Settings) (es fs : List Effect) → Each (Sayable g) es → Each (Sayable g) fs → outgoing es ≡ outgoing fs → es ≡ fs
outgoing_one g es fs s t e = sym (heard_outgoing g es s) ∙ ap heard e ∙ heard_outgoing g fs t

pub outgoing_append : (es fs : List Effect) → outgoing (es ++ fs) ≡ outgoing es ++ outgoing fs
unfolding outgoing
outgoing_append [] fs = refl
outgoing_append (e ∷ es) fs = ap (effect e ++◌) (outgoing_append es fs) ∙ sym (append_assoc (effect e) (outgoing es) (outgoing fs))
