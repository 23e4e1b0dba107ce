-- What reads is the bytes of the items that are read, and of no others; and the bytes of items read as those items. Assumes nothing.
use Prim.Native.Nat.{ℕ, zero, suc, ◌+◌, ◌*◌, ◌/◌, ◌%◌, ◌<◌, ◌≤◌}
use mathlib.Core.Path.{◌≡◌, refl, sym, ap, ap₂, subst, ◌∙◌}
use mathlib.Core.Bool.{Bool, true, false}
use mathlib.Core.List.{List, [], ◌∷◌, ◌++◌, append_assoc, append-nil}
use mathlib.Core.Option.{Option, none, some, map}
use native.Mathlib.Omega.{arith}
use lib.ListN.{length, take, drop, get_or, length-append, length-take, length-drop, take-append-drop, drop_of_length-le}
use lib.Seq.{take_all, take-append_seam, drop-append_seam, drop-drop}
use lib.Dec.{leb, eqb}
use borrow.Author.Tests.{le-leb, leb-true, eq-eqb, eqb-true}
use Rattle.fields.specs.Places as places
use Rattle.fields.specs.Places.{number}
use Rattle.rules.specs.Lists.{unbe}
use Rattle.rules.specs.Messages.{field}
use Rattle.laws.proofs.Bytes.{Bytes, none as no_bytes, one, bytes_split}
use Rattle.laws.proofs.Tests.{by_bool, by_option, no_some}
use Rattle.laws.proofs.Truths.{and_3, both}
use Rattle.laws.proofs.Lengths.{length_field}
use Rattle.slots.specs.Slots.{is_readable}
use Rattle.items.specs.Items.{Items, end, message, envelope, envelope_tag, message_tag, bytes_of, joined, Held}
use Rattle.items.specs.Reading.{most_bytes, most_depth, is_whole, value_in, rest_in, item_of, item_in, items_from, inside, is_opened, envelope_in}
use Rattle.items.proofs.Reading.{item_message, item_envelope, tested, sorted, onward, inside_none, inside_step}

-- ---- a field in front of other bytes

module _ (t : ℕ) (v r : List ℕ) (h : length v < 65536) where
  pub front_number : number (field t v ++ r) 1 2 ≡ length v
  unfolding number field unbe
  front_number = omega arith

  pub front_value : value_in (field t v ++ r) ≡ v
  unfolding value_in field unbe
  front_value = ap (λ (n : ℕ). take n (v ++ r)) front_number ∙ take-append_seam v r

  pub front_rest : rest_in (field t v ++ r) ≡ r
  unfolding rest_in field unbe
  front_rest =
      sym (drop-drop (number (field t v ++ r) 1 2) 3 (field t v ++ r)) ∙ ap (λ (n : ℕ). drop n (v ++ r)) front_number ∙ drop-append_seam v r

  pub front_room : 3 + number (field t v ++ r) 1 2 ≤ length (field t v ++ r)
  front_room = omega (arith, front_number, length-append (field t v) r, length_field t v)

pub front_tag : (t : ℕ) (v r : List ℕ) → get_or (field t v ++ r) 0 0 ≡ t
unfolding field
front_tag t v r = refl

-- bytes whose first length is no longer than they are begin with a field
pub front_is : (bs : List ℕ) → Bytes bs → 3 + number bs 1 2 ≤ length bs → bs ≡ field (get_or bs 0 0) (value_in bs) ++ rest_in bs
unfolding field unbe value_in rest_in number
front_is [] b h = absurd (omega arith)
front_is (t ∷ []) b h = absurd (omega arith)
front_is (t ∷ a ∷ []) b h = absurd (omega arith)
front_is (t ∷ x ∷ y ∷ r) (one ht (one hx (one hy hr))) h =
    let n = (0 * 256 + x) * 256 + y in
    let l : length (take n r) ≡ n = simp length-take (omega arith) in
    let p : x ≡ length (take n r) / 256 = omega arith in
    let q : y ≡ length (take n r) % 256 / 1 = omega arith in
    ap₂ (λ (a b : ℕ). t ∷ a ∷ b ∷ r) p q
    ∙ ap (λ (l : List ℕ). t ∷ length (take n r) / 256 ∷ length (take n r) % 256 / 1 ∷ l)
    (sym (take-append-drop n r) ∙ ap (take n r ++◌) (drop-drop n 3 (t ∷ x ∷ y ∷ r)))

-- ---- items and others behind them

pub bytes_joined : (i j : Items) → bytes_of (joined i j) ≡ bytes_of i ++ bytes_of j
unfolding bytes_of joined
bytes_joined end j = refl
bytes_joined (message m r) j = ap (field message_tag m ++◌) (bytes_joined r j) ∙ sym (append_assoc (field message_tag m) (bytes_of r) (bytes_of j))
bytes_joined (envelope i r) j =
    ap (field envelope_tag (bytes_of i) ++◌) (bytes_joined r j) ∙ sym (append_assoc (field envelope_tag (bytes_of i)) (bytes_of r) (bytes_of j))

held_joined : (d : ℕ) (i j : Items) → Held d i → Held d j → Held d (joined i j)
unfolding joined
held_joined d end j h k = k
held_joined d (message m r) j h k = (h.0, held_joined d r j h.1 k)
held_joined zero (envelope i r) j h k = absurd h
held_joined (suc d) (envelope i r) j h k = (h.0, held_joined (suc d) r j h.1 k)

-- ---- the bytes of items read as those items

pub length_message : (m : List ℕ) (r : Items) → length (bytes_of (message m r)) ≡ 3 + length m + length (bytes_of r)
unfolding bytes_of
length_message m r = omega (arith, length-append (field message_tag m) (bytes_of r), length_field message_tag m)

pub length_envelope : (i r : Items) → length (bytes_of (envelope i r)) ≡ 3 + length (bytes_of i) + length (bytes_of r)
unfolding bytes_of
length_envelope i r = omega (arith, length-append (field envelope_tag (bytes_of i)) (bytes_of r), length_field envelope_tag (bytes_of i))

-- an item that reads, in front of items that read
front_read : (d t : ℕ) (v : List ℕ) (f r : Items) → length v < 65536 → item_in (inside d) (field t v ++ bytes_of r) ≡ some f → inside (suc d) (bytes_of r) ≡ some r
    → inside (suc d) (field t v ++ bytes_of r) ≡ some (joined f r)
front_read d t v f r h e q =
    inside_step d (field t v ++ bytes_of r) (omega (arith, length-append (field t v) (bytes_of r), length_field t v))
    ∙ ap₂ onward e (ap (inside (suc d)) (front_rest t v (bytes_of r) h) ∙ q)

pub held_read : (d : ℕ) (i : Items) → Held d i → length (bytes_of i) < 65536 → inside (suc d) (bytes_of i) ≡ some i
unfolding bytes_of joined
held_read d end h l = inside_none d
held_read d (message m r) h l =
    let n = length_message m r in
    let bs = field message_tag m ++ bytes_of r in
    let s : length m < 65536 = omega arith in
    let v = front_value message_tag m (bytes_of r) s in
    front_read d message_tag m (message m end) r s
    (item_message (inside d) bs (front_room message_tag m (bytes_of r) s) (front_tag message_tag m (bytes_of r)) (ap is_readable v ∙ h.0)
    ∙ ap (λ (x : List ℕ). some (message x end)) v)
    (held_read d r h.1 (omega arith))
held_read zero (envelope i r) h l = absurd h
held_read (suc d) (envelope i r) h l =
    let n = length_envelope i r in
    let bs = field envelope_tag (bytes_of i) ++ bytes_of r in
    let s : length (bytes_of i) < 65536 = omega arith in
    front_read (suc d) envelope_tag (bytes_of i) (envelope i end) r s
    (item_envelope (inside (suc d)) bs (front_room envelope_tag (bytes_of i) (bytes_of r) s) (front_tag envelope_tag (bytes_of i) (bytes_of r))
    ∙ ap (map (λ x. envelope x end)) (ap (inside (suc d)) (front_value envelope_tag (bytes_of i) (bytes_of r) s) ∙ held_read d i h.0 (omega arith)))
    (held_read (suc d) r h.1 (omega arith))

-- ---- what reads is the bytes of what is read

some_one : {i j : Items} → ◌≡◌ {A = Option Items} (some i) (some j) → i ≡ j
some_one e = cc

abbrev Sound : ℕ → List ℕ → Items → Type 0
Sound d bs i = (bs ≡ bytes_of i) × Held d i

-- the same of what an envelope holds, of which none may be read at depth 0
abbrev Below : ℕ → List ℕ → Items → Type 0
Below zero bs i = ⊥
Below (suc d) bs i = Sound d bs i

held_envelope : (d : ℕ) (v : List ℕ) (i : Items) → Below d v i → (v ≡ bytes_of i) × Held d (envelope i end)
held_envelope zero v i h = absurd h
held_envelope (suc d) v i h = (h.0, (h.1, tt))

module _ (d : ℕ) (below : (v : List ℕ) → Bytes v → (i : Items) → inside d v ≡ some i → Below d v i) where
  module _ (bs : List ℕ) (b : Bytes bs) (f : Items) (e : item_in (inside d) bs ≡ some f) where
    abbrev Fronted : Type 0
    Fronted = (bs ≡ bytes_of f ++ rest_in bs) × Held d f

    -- an item's value is bytes
    value_bytes : is_whole bs ≡ true → Bytes (value_in bs)
    unfolding is_whole field
    value_bytes w =
        let v = (bytes_split (field (get_or bs 0 0) (value_in bs)) (subst Bytes (front_is bs b (leb-true (3 + number bs 1 2) (length bs) w)) b)).0 in
        (bytes_split (get_or bs 0 0 ∷ unbe 2 (length (value_in bs))) v).1

    -- a whole item, by its tests
    whole_sound : is_whole bs ≡ true → (x y z : Bool) → eqb (get_or bs 0 0) message_tag ≡ x → is_readable (value_in bs) ≡ y → eqb (get_or bs 0 0) envelope_tag ≡ z
        → sorted (inside d) bs x y z ≡ some f → Fronted
    unfolding is_whole bytes_of
    whole_sound w true true z p q s u =
        let g = some_one u in
        let t = eqb-true (get_or bs 0 0) message_tag p in (
          front_is bs b (leb-true (3 + number bs 1 2) (length bs) w)
              ∙ ap (λ (k : ℕ). field k (value_in bs) ++ rest_in bs) t
              ∙ ap (◌++ rest_in bs) (sym (append-nil (field message_tag (value_in bs))))
              ∙ ap (λ (x : Items). bytes_of x ++ rest_in bs) g,
          subst (Held d) g (q, tt),
        )
    whole_sound w true false z p q s u = no_some u
    whole_sound w false y true p q s u =
        by_option (inside d (value_in bs)) (λ n. no_some (sym (ap (map (λ i. envelope i end)) n) ∙ u))
        (λ i n.
        let g = some_one (sym (ap (map (λ i. envelope i end)) n) ∙ u) in
        let is = front_is bs b (leb-true (3 + number bs 1 2) (length bs) w) in
        let h = held_envelope d (value_in bs) i (below (value_in bs) (value_bytes w) i n) in (
          is
              ∙ ap₂ (λ (k : ℕ) (v : List ℕ). field k v ++ rest_in bs) (eqb-true (get_or bs 0 0) envelope_tag s) h.0
              ∙ ap (◌++ rest_in bs) (sym (append-nil (field envelope_tag (bytes_of i))))
              ∙ ap (λ (x : Items). bytes_of x ++ rest_in bs) g,
          subst (Held d) g h.1,
        ))
    whole_sound w false y false p q s u = no_some u

    item_sound : Fronted
    unfolding item_in item_of
    item_sound =
        by_bool (is_whole bs)
        (λ w. whole_sound w (eqb (get_or bs 0 0) message_tag) (is_readable (value_in bs)) (eqb (get_or bs 0 0) envelope_tag) refl refl refl (sym (ap (tested (inside d) bs) w) ∙ e))
        (λ w. no_some (sym (ap (tested (inside d) bs) w) ∙ e))

  from_sound : (k : ℕ) (bs : List ℕ) → Bytes bs → (i : Items) → items_from (inside d) k bs ≡ some i → Sound d bs i
  unfolding items_from bytes_of
  from_sound zero bs b i e = no_some e
  from_sound (suc k) [] b i e = let g = some_one e in (ap bytes_of g, subst (Held d) g tt)
  from_sound (suc k) (x ∷ r) b i e =
      let bs = x ∷ r in
      by_option (item_in (inside d) bs) (λ n. no_some (sym (ap (λ (o : Option Items). onward o (items_from (inside d) k (rest_in bs))) n) ∙ e))
      (λ f n.
      let s = item_sound bs b f n in
      let u : map (joined f) (items_from (inside d) k (rest_in bs)) ≡ some i = sym (ap (λ (o : Option Items). onward o (items_from (inside d) k (rest_in bs))) n) ∙ e in
      by_option (items_from (inside d) k (rest_in bs)) (λ m. no_some (sym (ap (map (joined f)) m) ∙ u))
      (λ j m.
      let g = some_one (sym (ap (map (joined f)) m) ∙ u) in
      let w = from_sound k (rest_in bs) (bytes_split (bytes_of f) (subst Bytes s.0 b)).1 j m in
      (s.0 ∙ ap (bytes_of f ++◌) w.0 ∙ sym (bytes_joined f j) ∙ ap bytes_of g, subst (Held d) g (held_joined d f j s.1 w.1))))

below_sound : (d : ℕ) (v : List ℕ) → Bytes v → (i : Items) → inside d v ≡ some i → Below d v i
unfolding inside
below_sound zero v b i e = no_some e
below_sound (suc d) v b i e = from_sound d (below_sound d) (suc (length v)) v b i e

pub read_held : (d : ℕ) (bs : List ℕ) → Bytes bs → (i : Items) → inside (suc d) bs ≡ some i → (bs ≡ bytes_of i) × Held d i
read_held d bs b i e = below_sound (suc d) bs b i e

-- ---- an envelope

-- every slice's bytes, one by one
pub bytes_all : (s : List ℕ) → places.Bytes s → Bytes s
bytes_all [] b = no_bytes
bytes_all (x ∷ s) b = one (b 0).fits (bytes_all s (λ i. b (suc i)))

field_number : (t : ℕ) (v : List ℕ) → length v < 65536 → number (field t v) 1 2 ≡ length v
field_number t v h = ap (λ (l : List ℕ). number l 1 2) (sym (append-nil (field t v))) ∙ front_number t v [] h

module _ (s : List ℕ) where
  -- an envelope by its test
  abbrev pub held : Bool → Option Items
  held b = elim b [ true ↦ inside most_depth (drop 3 s) | false ↦ none ]

  pub envelope_opened : is_opened s ≡ true → envelope_in s ≡ inside most_depth (drop 3 s)
  unfolding envelope_in
  envelope_opened h = ap held h

  pub envelope_not : is_opened s ≡ false → envelope_in s ≡ none
  unfolding envelope_in
  envelope_not h = ap held h

  -- what reads as an envelope is the bytes of what it holds, to depth 4, in 8,192 bytes; every message is readable
  pub envelope_sound : Bytes s → (i : Items) → envelope_in s ≡ some i → (s ≡ field envelope_tag (bytes_of i)) × Held 3 i × (length s ≤ most_bytes)
  unfolding is_opened value_in rest_in field
  envelope_sound b i e =
      by_bool (is_opened s)
      (λ o.
      let t = and_3 (leb (length s) most_bytes) (eqb (get_or s 0 0) envelope_tag) (eqb (3 + number s 1 2) (length s)) o in
      let n = eqb-true (3 + number s 1 2) (length s) t.2 in
      let front = front_is s b (omega arith) in
      let value : value_in s ≡ drop 3 s = take_all (number s 1 2) (drop 3 s) (simp length-drop (omega arith)) in
      let rest : rest_in s ≡ [] = drop_of_length-le s {i = 3 + number s 1 2} (omega arith) in
      let whole : s ≡ field envelope_tag (drop 3 s) = front ∙ ap₂ ◌++◌ (ap₂ field (eqb-true (get_or s 0 0) envelope_tag t.1) value) rest ∙ append-nil (field envelope_tag (drop 3 s)) in
      let held = read_held 3 (drop 3 s) (bytes_split (envelope_tag ∷ unbe 2 (length (drop 3 s))) (subst Bytes whole b)).1 i (sym (envelope_opened o) ∙ e) in
      (whole ∙ ap (field envelope_tag) held.0, held.1, leb-true (length s) most_bytes t.0))
      (λ o. no_some (sym (envelope_not o) ∙ e))

-- such bytes read as what they hold
pub envelope_complete : (i : Items) → Held 3 i → 3 + length (bytes_of i) ≤ most_bytes → envelope_in (field envelope_tag (bytes_of i)) ≡ some i
unfolding is_opened field unbe
envelope_complete i h l =
    let s = field envelope_tag (bytes_of i) in
    let n = length_field envelope_tag (bytes_of i) in
    let small : length (bytes_of i) < 65536 = omega arith in
    envelope_opened s
    (both (both (le-leb (length s) most_bytes (omega arith)) refl) (eq-eqb (3 + number s 1 2) (length s) (omega (arith, field_number envelope_tag (bytes_of i) small))))
    ∙ held_read 3 i h small
