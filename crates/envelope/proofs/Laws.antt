-- What is listed: every message inside, once, left to right, each readable; and what depth and length refuse. Assumes nothing.
use Prim.Native.Nat.{ℕ, zero, suc, ◌+◌, ◌<◌, ◌≤◌}
use mathlib.Core.Path.{◌≡◌, refl, sym, ap, ap₂, subst, ◌∙◌}
use mathlib.Core.Bool.{true}
use mathlib.Core.List.{List, [], ◌∷◌, ◌++◌, map, map-append, append_assoc, append-nil}
use mathlib.Core.Option.{Option, none, some}
use native.Mathlib.Omega.{arith}
use lib.ListN.{length, take, drop}
use lib.Seq.{take-append_seam, drop-append_seam, drop-drop}
use Rattle.fields.specs.Places as places
use Rattle.rules.specs.Lists.{unbe}
use Rattle.rules.specs.Messages.{field}
use Rattle.laws.proofs.Bytes.{Bytes}
use Rattle.laws.proofs.Tests.{by_option}
use Rattle.laws.proofs.Lengths.{length_field}
use Rattle.slots.specs.Slots.{is_readable}
use Rattle.items.specs.Items.{Items, end, message, envelope, envelope_tag, message_tag, bytes_of, messages_of, Held}
use Rattle.envelope.specs.Places.{Place, part_at, places_of}
use Rattle.items.specs.Reading.{inside, envelope_in}
use Rattle.items.proofs.Grammar.{length_message, length_envelope, held_read, bytes_all, envelope_sound}

-- ---- what stands at the places that are listed

module _ (s : List ℕ) (at t : ℕ) (v r : List ℕ) (e : drop at s ≡ field t v ++ r) where
  -- a field at a place: its value three bytes on, and what stands behind it
  value_at : drop (at + 3) s ≡ v ++ r
  unfolding field unbe
  value_at = sym (drop-drop 3 at s) ∙ ap (drop 3) e

  behind_at : drop (at + 3 + length v) s ≡ r
  behind_at = sym (drop-drop (length v) (at + 3) s) ∙ ap (drop (length v)) value_at ∙ drop-append_seam v r

parts_are : (s : List ℕ) (at : ℕ) (i : Items) (b : List ℕ) → drop at s ≡ bytes_of i ++ b → map (part_at s) (places_of at i) ≡ messages_of i
unfolding bytes_of places_of messages_of
parts_are s at end b e = refl
parts_are s at (message m r) b e =
    let f : drop at s ≡ field message_tag m ++ (bytes_of r ++ b) = e ∙ append_assoc (field message_tag m) (bytes_of r) b in
    ap₂ ◌∷◌ (ap (take (length m)) (value_at s at message_tag m (bytes_of r ++ b) f) ∙ take-append_seam m (bytes_of r ++ b))
    (parts_are s (at + 3 + length m) r b (behind_at s at message_tag m (bytes_of r ++ b) f))
parts_are s at (envelope i r) b e =
    let f : drop at s ≡ field envelope_tag (bytes_of i) ++ (bytes_of r ++ b) = e ∙ append_assoc (field envelope_tag (bytes_of i)) (bytes_of r) b in
    map-append (part_at s) (places_of (at + 3) i) (places_of (at + 3 + length (bytes_of i)) r)
    ∙ ap₂ ◌++◌ (parts_are s (at + 3) i (bytes_of r ++ b) (value_at s at envelope_tag (bytes_of i) (bytes_of r ++ b) f))
    (parts_are s (at + 3 + length (bytes_of i)) r b (behind_at s at envelope_tag (bytes_of i) (bytes_of r ++ b) f))

-- each place begins three bytes or more behind the end of the one before it, and the last ends within the bytes
abbrev pub Ascending : ℕ → List Place → ℕ → Type 0
Ascending at [] e = at ≤ e
Ascending at (p ∷ ps) e = (at + 3 ≤ p.offset) × Ascending (p.offset + p.size) ps e

ascending_less : {a b : ℕ} (e : ℕ) (ps : List Place) → a ≤ b → Ascending b ps e → Ascending a ps e
ascending_less e [] h k = omega arith
ascending_less e (p ∷ ps) h k = (omega (arith, k.0), k.1)

ascending_both : (a b c : ℕ) (ps qs : List Place) → Ascending a ps b → Ascending b qs c → Ascending a (ps ++ qs) c
ascending_both a b c [] qs h k = ascending_less c qs h k
ascending_both a b c (p ∷ ps) qs h k = (h.0, ascending_both (p.offset + p.size) b c ps qs h.1 k)

places_ascend : (at : ℕ) (i : Items) → Ascending at (places_of at i) (at + length (bytes_of i))
unfolding places_of
places_ascend at end = omega arith
places_ascend at (message m r) =
    (omega arith, subst (Ascending (at + 3 + length m) (places_of (at + 3 + length m) r)) (let n : at + 3 + length m + length (bytes_of r) ≡ at + length (bytes_of (message m r)) = omega (arith, length_message m r) in n) (places_ascend (at + 3 + length m) r))
places_ascend at (envelope i r) =
    let k = at + 3 + length (bytes_of i) in
    let n : k + length (bytes_of r) ≡ at + length (bytes_of (envelope i r)) = omega (arith, length_envelope i r) in
    let e = at + length (bytes_of (envelope i r)) in
    ascending_both at k e (places_of (at + 3) i) (places_of k r) (ascending_less k (places_of (at + 3) i) (let l : at ≤ at + 3 = omega arith in l) (places_ascend (at + 3) i))
    (subst (Ascending k (places_of k r)) n (places_ascend k r))

-- every one of some messages is readable
abbrev pub AllReadable : List (List ℕ) → Type 0
AllReadable [] = Unit
AllReadable (m ∷ ms) = (is_readable m ≡ true) × AllReadable ms

all_append : (p q : List (List ℕ)) → AllReadable p → AllReadable q → AllReadable (p ++ q)
all_append [] q h k = k
all_append (m ∷ p) q h k = (h.0, all_append p q h.1 k)

pub held_readable : (d : ℕ) (i : Items) → Held d i → AllReadable (messages_of i)
unfolding messages_of
held_readable d end h = tt
held_readable d (message m r) h = (h.0, held_readable d r h.1)
held_readable zero (envelope i r) h = absurd h
held_readable (suc d) (envelope i r) h = all_append (messages_of i) (messages_of r) (held_readable d i h.0) (held_readable (suc d) r h.1)

module _ (s : List ℕ) (b : places.Bytes s) (i : Items) (e : envelope_in s ≡ some i) where
  -- "every message inside is listed once, left to right": what stands at the places is the messages inside, in their order
  pub listed_are : map (part_at s) (places_of 3 i) ≡ messages_of i
  unfolding field unbe
  listed_are = parts_are s 3 i [] (ap (drop 3) (envelope_sound s (bytes_all s b) i e).0 ∙ sym (append-nil (bytes_of i)))

  -- no two of the places share a byte, and all lie within the envelope
  pub listed_apart : Ascending 3 (places_of 3 i) (length s)
  listed_apart =
      let w = envelope_sound s (bytes_all s b) i e in
      let n = ap length w.0 ∙ length_field envelope_tag (bytes_of i) in
      subst (Ascending 3 (places_of 3 i)) (sym n) (places_ascend 3 i)

  pub listed_readable : AllReadable (messages_of i)
  listed_readable = held_readable 3 i (envelope_sound s (bytes_all s b) i e).1

-- ---- depth

held_more : (d : ℕ) (i : Items) → Held d i → Held (suc d) i
held_more d end h = tt
held_more d (message m r) h = (h.0, held_more d r h.1)
held_more zero (envelope i r) h = absurd h
held_more (suc d) (envelope i r) h = (held_more d i h.0, held_more (suc d) r h.1)

-- items have their own bytes
pub one_reading : (d : ℕ) (i j : Items) → Held d i → Held d j → length (bytes_of i) < 65536 → bytes_of i ≡ bytes_of j → i ≡ j
one_reading d i j h k l e =
    let p = held_read d i h l in
    let q = held_read d j k (omega (arith, ap length e)) in
    let w : ◌≡◌ {A = Option Items} (some i) (some j) = sym p ∙ ap (inside (suc d)) e ∙ q in
    cc

-- "depth 5 is refused": items that go one depth further than may be read, wherever
pub too_deep : (j : Items) → Held 4 j → (Held 3 j → ⊥) → Bytes (field envelope_tag (bytes_of j)) → envelope_in (field envelope_tag (bytes_of j)) ≡ none
unfolding field unbe
too_deep j h n b =
    by_option (envelope_in (field envelope_tag (bytes_of j))) (λ e. e)
    (λ i e.
    let w = envelope_sound (field envelope_tag (bytes_of j)) b i e in
    let same : bytes_of j ≡ bytes_of i = ap (drop 3) w.0 in
    let small : length (bytes_of j) < 65536 = omega (arith, w.2, length_field envelope_tag (bytes_of j)) in
    absurd (n (subst (Held 3) (sym (one_reading 4 j i h (held_more 3 i w.1) small same)) w.1)))
