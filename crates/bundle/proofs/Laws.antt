-- What the writer makes reads back the same; what reads as flat is what the writer makes of it; and every envelope lists what its
-- flattening lists. Assumes nothing.
use Prim.Native.Nat.{ℕ, ◌+◌, ◌≤◌}
use mathlib.Core.Path.{◌≡◌, refl, sym, ap, subst, ◌∙◌}
use mathlib.Core.Bool.{Bool, true, false}
use mathlib.Core.List.{List, [], ◌∷◌, ◌++◌, map}
use mathlib.Core.Option
use mathlib.Core.Option.{Option, none, some}
use native.Mathlib.Omega.{arith}
use lib.ListN.{length}
use lib.Dec.{leb}
use borrow.Author.Tests.{le-leb, leb-true}
use Rattle.fields.specs.Places as places
use Rattle.laws.proofs.Tests.{by_bool, by_option, no_some, and_right}
use Rattle.laws.proofs.Lengths.{length_field}
use Rattle.slots.specs.Slots.{is_readable}
use Rattle.items.specs.Items.{Items, end, message, envelope, envelope_tag, bytes_of, messages_of, flat, Held}
use Rattle.envelope.specs.Places.{Place, part_at}
use Rattle.items.specs.Reading.{most_bytes, envelope_in}
use Rattle.items.proofs.Grammar.{length_message, length_envelope, bytes_all, envelope_sound, envelope_complete}
use Rattle.envelope.proofs.Laws.{AllReadable, listed_readable}
use Rattle.bundle.specs.Writing.{places_in, is_message_at, gathered, flat_bytes, bundle_of, bundled}
use Rattle.bundle.proofs.Totals.{onward}

-- ---- messages as items

pub messages_flat : (ms : List (List ℕ)) → messages_of (flat ms) ≡ ms
unfolding messages_of flat
messages_flat [] = refl
messages_flat (m ∷ ms) = ap (m ∷◌) (messages_flat ms)

held_flat : (d : ℕ) (ms : List (List ℕ)) → AllReadable ms → Held d (flat ms)
unfolding flat
held_flat d [] h = tt
held_flat d (m ∷ ms) h = (h.0, held_flat d ms h.1)

length_flat : (ms : List (List ℕ)) → length (flat_bytes ms) ≡ 3 + length (bytes_of (flat ms))
unfolding flat_bytes
length_flat ms = length_field envelope_tag (bytes_of (flat ms))

-- readable messages that fit an envelope read back, for every list of them
pub flat_reads : (ms : List (List ℕ)) → AllReadable ms → length (flat_bytes ms) ≤ most_bytes → envelope_in (flat_bytes ms) ≡ some (flat ms)
unfolding flat_bytes
flat_reads ms h l = envelope_complete (flat ms) (held_flat 3 ms h) (omega (arith, length_flat ms))

-- ---- what the writer makes

-- what is gathered is what stands at the places, each readable
gathered_are : (s : List ℕ) (ps : List Place) (ms : List (List ℕ)) → gathered s ps ≡ some ms → (ms ≡ map (part_at s) ps) × AllReadable ms
unfolding gathered is_message_at
gathered_are s [] ms e = let g = some_one e in (sym g, subst AllReadable g tt)
  where
    some_one : {x y : List (List ℕ)} → ◌≡◌ {A = Option (List (List ℕ))} (some x) (some y) → x ≡ y
    some_one p = cc
gathered_are s (p ∷ ps) ms e =
    by_bool (is_message_at s p)
    (λ t.
    let u : Option.map (part_at s p ∷◌) (gathered s ps) ≡ some ms = sym (ap (onward s p (gathered s ps)) t) ∙ e in
    by_option (gathered s ps) (λ n. no_some (sym (ap (Option.map (part_at s p ∷◌)) n) ∙ u))
    (λ qs n.
    let w : ◌≡◌ {A = Option (List (List ℕ))} (some (part_at s p ∷ qs)) (some ms) = sym (ap (Option.map (part_at s p ∷◌)) n) ∙ u in
    let g : part_at s p ∷ qs ≡ ms = cc in
    let r = gathered_are s ps qs n in
    (sym g ∙ ap (part_at s p ∷◌) r.0, subst AllReadable g (and_right (leb (p.offset + p.size) (length s)) (is_readable (part_at s p)) t, r.1))))
    (λ t. no_some (sym (ap (onward s p (gathered s ps)) t) ∙ e))

-- "flat envelopes, which read back the same": the messages at the places, in their order
pub reads_back : (s list e : List ℕ) → bundled s list ≡ some e → envelope_in e ≡ some (flat (map (part_at s) (places_in list)))
unfolding bundled bundle_of
reads_back s list e h =
    by_option (gathered s (places_in list)) (λ n. no_some (sym (ap bundle_of n) ∙ h))
    (λ ms n.
    let u : bundle_of (some ms) ≡ some e = sym (ap bundle_of n) ∙ h in
    by_bool (leb (length (flat_bytes ms)) most_bytes)
    (λ t.
    let w : some (flat_bytes ms) ≡ some e = sym (ap (λ (b : Bool). elim b [ true ↦ some (flat_bytes ms) | false ↦ none ]) t) ∙ u in
    let g : flat_bytes ms ≡ e = cc in
    let r = gathered_are s (places_in list) ms n in
    ap envelope_in (sym g) ∙ flat_reads ms r.1 (leb-true (length (flat_bytes ms)) most_bytes t) ∙ ap (λ (x : List (List ℕ)). some (flat x)) r.0)
    (λ t. no_some (sym (ap (λ (b : Bool). elim b [ true ↦ some (flat_bytes ms) | false ↦ none ]) t) ∙ u)))

-- ---- one form

-- what reads as a flat envelope is what the writer makes of its messages
pub one_form : (s : List ℕ) → places.Bytes s → (ms : List (List ℕ)) → envelope_in s ≡ some (flat ms) → bundle_of (some ms) ≡ some s
unfolding bundle_of flat_bytes
one_form s b ms e =
    let w = envelope_sound s (bytes_all s b) (flat ms) e in
    ap (λ (x : Bool). elim x [ true ↦ some (flat_bytes ms) | false ↦ none ]) (le-leb (length (flat_bytes ms)) most_bytes (omega (arith, ap length w.0, w.2)))
    ∙ ap some (sym w.0)

-- ---- flattening

length_append_flat : (xs ys : List (List ℕ)) → length (bytes_of (flat (xs ++ ys))) ≡ length (bytes_of (flat xs)) + length (bytes_of (flat ys))
unfolding flat bytes_of
length_append_flat [] ys = omega arith
length_append_flat (m ∷ xs) ys = omega (arith, length_append_flat xs ys, length_message m (flat (xs ++ ys)), length_message m (flat xs))

-- an envelope's flattening is no longer than it
length_flattened : (i : Items) → length (bytes_of (flat (messages_of i))) ≤ length (bytes_of i)
unfolding messages_of flat bytes_of
length_flattened end = omega arith
length_flattened (message m r) = omega (arith, length_flattened r, length_message m (flat (messages_of r)), length_message m r)
length_flattened (envelope i r) =
    omega (arith, length_flattened i, length_flattened r, length_append_flat (messages_of i) (messages_of r), length_envelope i r)

-- an envelope, however nested, has the messages of a flat one that the writer makes and the reader reads
pub flattened : (s : List ℕ) → places.Bytes s → (i : Items) → envelope_in s ≡ some i
    → (bundle_of (some (messages_of i)) ≡ some (flat_bytes (messages_of i))) × (envelope_in (flat_bytes (messages_of i)) ≡ some (flat (messages_of i)))
unfolding bundle_of
flattened s b i e =
    let w = envelope_sound s (bytes_all s b) i e in
    let ms = messages_of i in
    let l : length (flat_bytes ms) ≤ most_bytes = omega (arith, length_flat ms, length_flattened i, ap length w.0, length_field envelope_tag (bytes_of i), w.2) in
    (ap (λ (x : Bool). elim x [ true ↦ some (flat_bytes ms) | false ↦ none ]) (le-leb (length (flat_bytes ms)) most_bytes l), flat_reads ms (listed_readable s b i e) l)
