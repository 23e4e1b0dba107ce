-- Listing the messages of an envelope: one walk over its bytes meets each of them, left to right. Assumes nothing.
use Prim.Native.Nat.{ℕ, zero, suc, ◌+◌, ◌-◌, ◌<◌, ◌≤◌}
use mathlib.Core.Path.{◌≡◌, refl, sym, ap, ap₂, subst, ◌∙◌}
use mathlib.Core.Bool.{true, false}
use mathlib.Core.List.{List, [], ◌∷◌, ◌++◌, append_assoc}
use mathlib.Core.Option.{Option, none, some}
use native.Mathlib.Omega.{arith}
use native.Mathlib.Nat.{add_assoc}
use lib.ListN.{length, drop, get_or, length-drop, drop_of_length-le}
use lib.Seq.{drop-drop, get_or-drop, drop-append_seam}
use Rattle.fields.specs.Places as places
use Rattle.fields.specs.Places.{number, put}
use Rattle.fields.proofs.Laws.{length_put}
use Rattle.fields.proofs.Lists.{number_drop}
use Rattle.outgoing.specs.Wrote.{wrote}
use Rattle.laws.proofs.Lengths.{length_field, length_write, size_least}
use Rattle.outgoing.proofs.Writing.{wrote_append, put_wrote}
use Rattle.rules.specs.Lists.{unbe}
use Rattle.rules.specs.Messages as messages
use Rattle.rules.specs.Messages.{field, read, write}
use Rattle.laws.proofs.Bytes.{Bytes, bytes_split}
use Rattle.laws.proofs.ReadBack.{write_read}
use Rattle.laws.proofs.Tests.{by_option, no_bool}
use Rattle.slots.specs.Slots.{is_readable}
use Rattle.items.specs.Items.{Items, end, message, envelope, envelope_tag, message_tag, bytes_of, joined, Held}
use Rattle.envelope.specs.Places.{Place, places_of, list_bytes}
use Rattle.items.specs.Reading.{most_bytes, envelope_in}
use Rattle.envelope.specs.Reading.{list_of, is_envelope, list_in}
use Rattle.items.proofs.Grammar.{front_number, bytes_joined, length_message, length_envelope, bytes_all, envelope_sound}

-- ---- how long a message is

least_write : (m : messages.Message) → 13 ≤ length (write m)
least_write m = omega (arith, length_write m, size_least m)

-- "every message has 13 to 116 bytes"
least_readable : (bs : List ℕ) → Bytes bs → is_readable bs ≡ true → 13 ≤ length bs
unfolding is_readable
least_readable bs b h =
    by_option (read bs) (λ e. no_bool (sym h ∙ ap (λ (o : Option messages.Message). elim o [ none ↦ false | some m ↦ true ]) e))
    (λ m e. omega (arith, ap length (write_read bs m b e), least_write m))

abbrev Sized : Items → Type 0
Sized end = Unit
Sized (message m r) = (13 ≤ length m) × Sized r
Sized (envelope i r) = Sized i × Sized r

held_sized : (d : ℕ) (i : Items) → Held d i → Bytes (bytes_of i) → Sized i
unfolding bytes_of field
held_sized d end h b = tt
held_sized d (message m r) h b =
    let p = bytes_split (field message_tag m) b in
    (least_readable m (bytes_split (message_tag ∷ unbe 2 (length m)) p.0).1 h.0, held_sized d r h.1 p.1)
held_sized zero (envelope i r) h b = absurd h
held_sized (suc d) (envelope i r) h b =
    let p = bytes_split (field envelope_tag (bytes_of i)) b in
    (held_sized d i h.0 (bytes_split (envelope_tag ∷ unbe 2 (length (bytes_of i))) p.0).1, held_sized (suc d) r h.1 p.1)

sized_joined : (i j : Items) → Sized i → Sized j → Sized (joined i j)
unfolding joined
sized_joined end j h k = k
sized_joined (message m r) j h k = (h.0, sized_joined r j h.1 k)
sized_joined (envelope i r) j h k = (h.0, sized_joined r j h.1 k)

-- ---- places

pub places_joined : (at : ℕ) (i j : Items) → places_of at (joined i j) ≡ places_of at i ++ places_of (at + length (bytes_of i)) j
unfolding places_of joined bytes_of
places_joined at end j = ap (λ (x : ℕ). places_of x j) (omega arith)
places_joined at (message m r) j =
    let n : at + 3 + length m + length (bytes_of r) ≡ at + length (bytes_of (message m r)) = omega (arith, length_message m r) in
    ap (record { offset = at + 3; size = length m } ∷◌) (places_joined (at + 3 + length m) r j ∙ ap (λ (x : ℕ). places_of (at + 3 + length m) r ++ places_of x j) n)
places_joined at (envelope i r) j =
    let k = at + 3 + length (bytes_of i) in
    let n : k + length (bytes_of r) ≡ at + length (bytes_of (envelope i r)) = omega (arith, length_envelope i r) in
    ap (places_of (at + 3) i ++◌) (places_joined k r j ∙ ap (λ (x : ℕ). places_of k r ++ places_of x j) n)
    ∙ sym (append_assoc (places_of (at + 3) i) (places_of k r) (places_of (at + length (bytes_of (envelope i r))) j))

-- ---- the walk: items are left at a place, and their list is still to be written

pub record Left (s list₀ : List ℕ) (at to : ℕ) (list : List ℕ) : Type 0 where
  pub items : Items
  pub is : drop at s ≡ bytes_of items
  pub sized : Sized items
  pub rest : wrote list to (list_bytes (places_of at items)) ≡ wrote list₀ 0 (list_in s)
  pub room : to + to ≤ at
  pub same : length list ≡ length list₀
  pub within : at ≤ length s
  pub few : length s ≤ most_bytes

pub walk_starts : (s list : List ℕ) → places.Bytes s → is_envelope s ≡ true → Left s list 3 0 list
unfolding is_envelope list_in list_of field
walk_starts s list b h =
    by_option (envelope_in s) (λ e. no_bool (sym h ∙ ap (λ (o : Option Items). elim o [ none ↦ false | some i ↦ true ]) e))
    (λ i e.
    let k = bytes_all s b in
    let w = envelope_sound s k i e in
    let n = ap length w.0 ∙ length_field envelope_tag (bytes_of i) in
    record {
      items = i;
      is = ap (drop 3) w.0;
      sized = held_sized 3 i w.1 (bytes_split (envelope_tag ∷ unbe 2 (length (bytes_of i))) (subst Bytes w.0 k)).1;
      rest = ap (λ (o : Option Items). wrote list 0 (elim o [ none ↦ [] | some i ↦ list_bytes (places_of 3 i) ])) (sym e);
      room = omega arith;
      same = refl;
      within = omega arith;
      few = w.2;
    })

module _ {s list₀ : List ℕ} {at to : ℕ} {list : List ℕ} (l : Left s list₀ at to list) where
  pub walk_ends : length s ≤ at → list ≡ wrote list₀ 0 (list_in s)
  unfolding wrote places_of list_bytes
  walk_ends h = go l.items (sym l.is ∙ drop_of_length-le s h) l.rest
    where
      go : (i : Items) → bytes_of i ≡ [] → wrote list to (list_bytes (places_of at i)) ≡ wrote list₀ 0 (list_in s) → list ≡ wrote list₀ 0 (list_in s)
      go end e r = r
      go (message m i) e r = absurd (omega (arith, ap length e, length_message m i))
      go (envelope i j) e r = absurd (omega (arith, ap length e, length_envelope i j))

  module _ (h : at < length s) where
    left_length : length (bytes_of l.items) ≡ length s - at
    left_length = sym (ap length l.is) ∙ length-drop at s

    tag_is : {x : ℕ} {r : List ℕ} → drop at s ≡ x ∷ r → get_or s at 0 ≡ x
    tag_is {x} e = ap (λ (k : ℕ). get_or s k 0) (let z : at ≡ at + 0 = omega arith in z) ∙ sym (get_or-drop at s 0 0) ∙ ap (λ (k : List ℕ). get_or k 0 0) e

    pub walk_envelope : get_or s at 0 ≡ envelope_tag → Left s list₀ (at + 3) to list
    unfolding bytes_of places_of field unbe
    walk_envelope t = go l.items l.is l.sized l.rest left_length
      where
        go : (i : Items) → drop at s ≡ bytes_of i → Sized i → wrote list to (list_bytes (places_of at i)) ≡ wrote list₀ 0 (list_in s) → length (bytes_of i) ≡ length s - at
            → Left s list₀ (at + 3) to list
        go end e z r n = absurd (omega arith)
        go (message m j) e z r n = absurd (let w = tag_is e in omega arith)
        go (envelope i j) e z r n =
            let k = length_envelope i j in
            record {
              items = joined i j;
              is = sym (drop-drop 3 at s) ∙ ap (drop 3) e ∙ sym (bytes_joined i j);
              sized = sized_joined i j z.0 z.1;
              rest = ap (λ (p : List Place). wrote list to (list_bytes p)) (places_joined (at + 3) i j) ∙ r;
              room = omega (arith, l.room);
              same = l.same;
              within = omega arith;
              few = l.few;
            }

    module _ (t : get_or s at 0 ≡ envelope_tag → ⊥) where
      -- a message stands at the place
      record Fronted : Type 0 where
        bytes : List ℕ
        behind : Items
        is : drop at s ≡ field message_tag bytes ++ bytes_of behind
        least : 13 ≤ length bytes
        sized : Sized behind
        rest : wrote list to (unbe 4 (at + 3) ++ (unbe 4 (length bytes) ++ list_bytes (places_of (at + 3 + length bytes) behind))) ≡ wrote list₀ 0 (list_in s)
        size : 3 + length bytes + length (bytes_of behind) ≡ length s - at

      fronted : Fronted
      unfolding bytes_of places_of list_bytes field
      fronted = go l.items l.is l.sized l.rest left_length
        where
          go : (i : Items) → drop at s ≡ bytes_of i → Sized i → wrote list to (list_bytes (places_of at i)) ≡ wrote list₀ 0 (list_in s) → length (bytes_of i) ≡ length s - at
              → Fronted
          go end e z r n = absurd (omega arith)
          go (message m j) e z r n =
              record { bytes = m; behind = j; is = e; least = z.0; sized = z.1; rest = r; size = sym (length_message m j) ∙ n }
          go (envelope i j) e z r n = absurd (t (tag_is e))

      length_is : number s (at + 1) 2 ≡ length fronted.bytes
      length_is =
          let f = fronted in
          sym (number_drop s at 1 2) ∙ ap (λ (k : List ℕ). number k 1 2) f.is
          ∙ front_number message_tag f.bytes (bytes_of f.behind) (omega (arith, f.size, l.few))

      pub message_sizes : (13 ≤ number s (at + 1) 2) × (at + 3 + number s (at + 1) 2 ≤ length s)
      message_sizes = let f = fronted in let n = length_is in (omega (arith, f.least), omega (arith, f.size))

      pub walk_message : {n : ℕ} {list₁ list₂ : List ℕ} → n ≡ number s (at + 1) 2 → list₁ ≡ put list to 4 (at + 3) → list₂ ≡ put list₁ (to + 4) 4 n
          → Left s list₀ (at + 3 + n) (to + 8) list₂
      unfolding field unbe
      walk_message {n} {list₁} {list₂} p q u =
          let f = fronted in
          let e : n ≡ length f.bytes = p ∙ length_is in
          let small = message_sizes in
          let m = length f.bytes in
          let a = unbe 4 (at + 3) in
          let b = unbe 4 n in
          let more = list_bytes (places_of (at + 3 + n) f.behind) in
          let first : list₁ ≡ wrote list to a = q ∙ put_wrote list to 4 (at + 3) (omega (arith, l.few)) in
          let second : list₂ ≡ wrote list₁ (to + 4) b = u ∙ put_wrote list₁ (to + 4) 4 n (omega (arith, l.few)) in
          let both : list₂ ≡ wrote (wrote list to a) (to + 4) b = second ∙ ap (λ (x : List ℕ). wrote x (to + 4) b) first in
          let all : wrote list₂ (to + 8) more ≡ wrote list to (a ++ (b ++ more)) =
          ap₂ (λ (x : List ℕ) (k : ℕ). wrote x k more) both (let z : to + 8 ≡ to + 4 + 4 = omega arith in z)
          ∙ sym (wrote_append (wrote list to a) (to + 4) b more)
          ∙ sym (wrote_append list to a (b ++ more)) in
          record {
            items = f.behind;
            is = ap (λ (k : ℕ). drop (at + 3 + k) s) e ∙ ap (λ (k : ℕ). drop k s) (add_assoc at 3 m) ∙ sym (drop-drop (3 + m) at s) ∙ ap (drop (3 + m)) f.is
                ∙ sym (drop-drop m 3 (field message_tag f.bytes ++ bytes_of f.behind)) ∙ drop-append_seam f.bytes (bytes_of f.behind);
            sized = f.sized;
            rest = all ∙ ap (λ (k : ℕ). wrote list to (a ++ (unbe 4 k ++ list_bytes (places_of (at + 3 + k) f.behind)))) e ∙ f.rest;
            room = omega (arith, l.room, f.least);
            same = ap length u ∙ length_put list₁ (to + 4) 4 n ∙ ap length q ∙ length_put list to 4 (at + 3) ∙ l.same;
            within = omega arith;
            few = l.few;
          }
