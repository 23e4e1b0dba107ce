-- The length of the envelope of listed messages, place by place. Assumes nothing.
use Prim.Native.Nat.{ℕ, suc, ◌+◌, ◌-◌, ◌*◌, ◌/◌, ◌<◌, ◌≤◌}
use mathlib.Core.Path.{◌≡◌, refl, sym, ap, ap₂, ◌∙◌}
use mathlib.Core.Bool.{Bool, true, false, ◌&&◌}
use mathlib.Core.List.{List, [], ◌∷◌}
use mathlib.Core.Option.{Option, none, some, map}
use native.Mathlib.Omega.{arith}
use native.Mathlib.Numerals.{add-one}
use lib.ListN.{length, take, drop, length-take, length-drop}
use lib.Dec.{leb}
use borrow.Author.Tests.{le-leb, lt-leb, leb-true}
use Rattle.fields.specs.Places.{number}
use Rattle.laws.proofs.Tests.{and_left}
use Rattle.laws.proofs.Lengths.{length_field}
use Rattle.slots.specs.Slots.{is_readable}
use Rattle.items.specs.Items.{envelope_tag, bytes_of, flat}
use Rattle.envelope.specs.Places.{Place, part_at}
use Rattle.items.specs.Reading.{most_bytes}
use Rattle.items.proofs.Grammar.{length_message}
use Rattle.bundle.specs.Writing.{place_in, places_from, places_in, is_message_at, gathered, flat_bytes, bundle_of, bundled}
use Rattle.bundle.specs.Meaning.{total_of}
use Rattle.std.specs.Prelude.{Option as Maybe, Some, None}

-- ---- one place

abbrev pub place : ℕ → ℕ → Place
place o n = record { offset = o; size = n }

module _ (s : List ℕ) (o n : ℕ) where
  pub outside : length s < o + n → false ≡ is_message_at s (place o n)
  unfolding is_message_at
  outside h = sym (ap (λ (b : Bool). b && is_readable (take n (drop o s))) (lt-leb (o + n) (length s) h))

  pub within : o + n ≤ length s → {m : ℕ} → m ≡ n → {r : Bool} → r ≡ is_readable (take m (drop o s)) → r ≡ is_message_at s (place o n)
  unfolding is_message_at
  within h {m} e {r} q =
      q ∙ ap (λ (k : ℕ). is_readable (take k (drop o s))) e ∙ sym (ap (λ (b : Bool). b && is_readable (take n (drop o s))) (le-leb (o + n) (length s) h))

-- a message at a place lies within the bytes
pub message_within : (s : List ℕ) (p : Place) → is_message_at s p ≡ true → p.offset + p.size ≤ length s
unfolding is_message_at
message_within s p h = leb-true (p.offset + p.size) (length s) (and_left (leb (p.offset + p.size) (length s)) (is_readable (part_at s p)) h)

pub length_part : (s : List ℕ) (p : Place) → p.offset + p.size ≤ length s → length (part_at s p) ≡ p.size
length_part s p h = simp (length-take, length-drop) (omega arith)

-- ---- places, one after another

pub places_step : (list : List ℕ) (k n : ℕ) → k < n → places_from list k (n - k) ≡ place_in list k ∷ places_from list (k + 1) (n - (k + 1))
unfolding places_from
places_step list k n h =
    let e : n - k ≡ suc (n - (k + 1)) = omega arith in
    ap (places_from list k) e ∙ ap (λ (x : ℕ). place_in list k ∷ places_from list x (n - (k + 1))) (sym (add-one k))

pub places_end : (list : List ℕ) (k n : ℕ) → n ≤ k → places_from list k (n - k) ≡ []
unfolding places_from
places_end list k n h = let e : n - k ≡ 0 = omega arith in ap (places_from list k) e

pub places_start : (list : List ℕ) {n : ℕ} → n ≡ length list / 8 → places_from list 0 (n - 0) ≡ places_in list
unfolding places_in
places_start list {n} e = let d : n - 0 ≡ length list / 8 = omega arith in ap (places_from list 0) d

-- what is gathered from some places on, by the first of them
abbrev pub onward : List ℕ → Place → Option (List (List ℕ)) → Bool → Option (List (List ℕ))
onward s p o b = elim b [ true ↦ map (part_at s p ∷◌) o | false ↦ none ]

pub gathered_step : (s list : List ℕ) (k n : ℕ) → k < n → {b : Bool} → is_message_at s (place_in list k) ≡ b
    → gathered s (places_from list k (n - k)) ≡ onward s (place_in list k) (gathered s (places_from list (k + 1) (n - (k + 1)))) b
unfolding gathered
gathered_step s list k n h e =
    ap (gathered s) (places_step list k n h) ∙ ap (onward s (place_in list k) (gathered s (places_from list (k + 1) (n - (k + 1))))) e

-- ---- lengths

-- so many bytes, if they are not too many
abbrev bounded : ℕ → Bool → Maybe ℕ
bounded n b = elim b [ true ↦ Some n | false ↦ None ]

-- the length of what is written before some messages and of them
abbrev pub weighed : ℕ → Option (List (List ℕ)) → Maybe ℕ
weighed n none = None
weighed n (some ms) = bounded (n + length (bytes_of (flat ms))) (leb (n + length (bytes_of (flat ms))) most_bytes)

length_flat : (ms : List (List ℕ)) → length (flat_bytes ms) ≡ 3 + length (bytes_of (flat ms))
unfolding flat_bytes
length_flat ms = length_field envelope_tag (bytes_of (flat ms))

total_by : (e : List ℕ) (b : Bool) → bounded (length e) b ≡ total_of (elim b [ true ↦ some e | false ↦ none ])
unfolding total_of
total_by e true = refl
total_by e false = refl

total_is : (o : Option (List (List ℕ))) → weighed 3 o ≡ total_of (bundle_of o)
unfolding bundle_of total_of
total_is none = refl
total_is (some ms) =
    ap (λ (n : ℕ). bounded n (leb n most_bytes)) (sym (length_flat ms)) ∙ total_by (flat_bytes ms) (leb (length (flat_bytes ms)) most_bytes)

pub total_starts : (s list : List ℕ) {n : ℕ} → n ≡ length list / 8 → weighed 3 (gathered s (places_from list 0 (n - 0))) ≡ total_of (bundled s list)
unfolding bundled
total_starts s list e = ap (λ (ps : List Place). weighed 3 (gathered s ps)) (places_start list e) ∙ total_is (gathered s (places_in list))

over : (t : ℕ) (o : Option (List (List ℕ))) → most_bytes < t → weighed t o ≡ None
over t none h = refl
over t (some ms) h = ap (bounded (t + length (bytes_of (flat ms)))) (lt-leb (t + length (bytes_of (flat ms))) most_bytes (omega arith))

more : (s : List ℕ) (p : Place) (t : ℕ) (o : Option (List (List ℕ))) → p.offset + p.size ≤ length s
    → weighed (t + 3 + p.size) o ≡ weighed t (map (part_at s p ∷◌) o)
unfolding flat
more s p t none h = refl
more s p t (some ms) h =
    ap (λ (n : ℕ). bounded n (leb n most_bytes))
    (let e : t + 3 + p.size + length (bytes_of (flat ms)) ≡ t + length (bytes_of (flat (part_at s p ∷ ms))) =
    omega (arith, length_message (part_at s p) (flat ms), length_part s p h) in e)

module _ (s list : List ℕ) (t k n : ℕ) (inv : weighed t (gathered s (places_from list k (n - k))) ≡ total_of (bundled s list)) where
  pub total_ends : n ≤ k → t ≤ most_bytes → Some t ≡ total_of (bundled s list)
  unfolding gathered flat bytes_of
  total_ends h l =
      let e : weighed t (some []) ≡ total_of (bundled s list) = sym (ap (λ (ps : List Place). weighed t (gathered s ps)) (places_end list k n h)) ∙ inv in
      let z : t + 0 ≡ t = omega arith in
      sym (ap (bounded t) (le-leb t most_bytes l)) ∙ sym (ap (λ (x : ℕ). bounded x (leb x most_bytes)) z) ∙ e

  module _ (h : k < n) {o z : ℕ} (p : o ≡ number list (k * 8) 4) (q : z ≡ number list (k * 8 + 4) 4) {b : Bool} (r : b ≡ is_message_at s (place o z)) where
    here : is_message_at s (place_in list k) ≡ b
    unfolding place_in
    here = sym (r ∙ ap₂ (λ (x y : ℕ). is_message_at s (place x y)) p q)

    pub total_not : b ≡ false → None ≡ total_of (bundled s list)
    total_not f = sym (ap (weighed t) (gathered_step s list k n h (here ∙ f))) ∙ inv

    pub total_next : b ≡ true → weighed (t + 3 + z) (gathered s (places_from list (k + 1) (n - (k + 1)))) ≡ total_of (bundled s list)
    unfolding place_in
    total_next f =
        ap (λ (x : ℕ). weighed (t + 3 + x) (gathered s (places_from list (k + 1) (n - (k + 1))))) q
        ∙ more s (place_in list k) t (gathered s (places_from list (k + 1) (n - (k + 1)))) (message_within s (place_in list k) (here ∙ f))
        ∙ sym (ap (weighed t) (gathered_step s list k n h (here ∙ f))) ∙ inv

    pub total_over : b ≡ true → most_bytes < t + 3 + z → None ≡ total_of (bundled s list)
    total_over f l = sym (over (t + 3 + z) (gathered s (places_from list (k + 1) (n - (k + 1)))) l) ∙ total_next f
