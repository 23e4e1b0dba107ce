-- Reading an item, case by case, and reading items one after another. Assumes nothing.
use Prim.Native.Nat.{ℕ, zero, suc, ◌+◌, ◌-◌, ◌<◌, ◌≤◌}
use mathlib.Core.Path.{◌≡◌, refl, sym, ap, ap₂, subst, ◌∙◌}
use mathlib.Core.Bool.{Bool, true, false}
use mathlib.Core.List.{List, [], ◌∷◌, ◌++◌, append_assoc}
use mathlib.Core.Option.{Option, none, some, map}
use native.Mathlib.Omega.{arith}
use lib.ListN.{length, take, drop, get_or, length-append, length-take, length-drop, drop_of_length-le}
use lib.Seq.{take_all, drop-drop}
use lib.Dec.{eqb}
use borrow.Author.Tests.{le-leb, lt-leb, eq-eqb, ne_eqb}
use Rattle.fields.specs.Places.{number}
use Rattle.slots.specs.Slots.{is_readable}
use Rattle.items.specs.Items.{Items, end, message, envelope, envelope_tag, message_tag, joined, messages_of}
use Rattle.items.specs.Reading.{is_whole, value_in, rest_in, item_of, item_in, items_from, inside}
use Rattle.items.specs.Meaning as meaning
use Rattle.items.specs.Meaning.{count_of, Few, Within, FirstOf, AllOf}
use Rattle.items.specs.declared.Item.{Item}
use Rattle.std.specs.Prelude.{Option as Maybe, Some, None}

-- an item of so many bytes, with so many messages
abbrev item : ℕ → ℕ → Item
item n m = record { size = n; count = m }

-- ---- the first item

module _ (inner : List ℕ → Option Items) (bs : List ℕ) where
  -- an item by the test of its length
  abbrev pub tested : Bool → Option Items
  tested b = elim b [ true ↦ item_of inner (get_or bs 0 0) (value_in bs) | false ↦ none ]

  -- a whole item by its tests: tag 31, readable, tag 30
  abbrev pub sorted : Bool → Bool → Bool → Option Items
  sorted m r e =
      elim m [
        | true ↦ elim r [ true ↦ some (message (value_in bs) end) | false ↦ none ]
        | false ↦ elim e [ true ↦ map (λ i. envelope i end) (inner (value_in bs)) | false ↦ none ]
      ]

  pub item_cut : length bs < 3 + number bs 1 2 → item_in inner bs ≡ none
  unfolding item_in is_whole
  item_cut h = ap tested (lt-leb (3 + number bs 1 2) (length bs) h)

  module _ (h : 3 + number bs 1 2 ≤ length bs) where
    item_whole : item_in inner bs ≡ item_of inner (get_or bs 0 0) (value_in bs)
    unfolding item_in is_whole
    item_whole = ap tested (le-leb (3 + number bs 1 2) (length bs) h)

    pub item_message : get_or bs 0 0 ≡ message_tag → {b : Bool} → is_readable (value_in bs) ≡ b
        → item_in inner bs ≡ elim b [ true ↦ some (message (value_in bs) end) | false ↦ none ]
    unfolding item_of
    item_message t e = item_whole ∙ ap₂ (λ (x y : Bool). sorted x y (eqb (get_or bs 0 0) envelope_tag)) (eq-eqb (get_or bs 0 0) message_tag t) e

    item_stray : (get_or bs 0 0 ≡ message_tag → ⊥) → (get_or bs 0 0 ≡ envelope_tag → ⊥) → item_in inner bs ≡ none
    unfolding item_of
    item_stray t u = item_whole ∙ ap₂ (λ (x y : Bool). sorted x (is_readable (value_in bs)) y) (ne_eqb (get_or bs 0 0) message_tag t) (ne_eqb (get_or bs 0 0) envelope_tag u)

    pub item_envelope : get_or bs 0 0 ≡ envelope_tag → item_in inner bs ≡ map (λ i. envelope i end) (inner (value_in bs))
    unfolding item_of
    item_envelope t =
        let not-message : get_or bs 0 0 ≡ message_tag → ⊥ = λ e. omega arith in
        item_whole ∙ ap₂ (λ (x y : Bool). sorted x (is_readable (value_in bs)) y) (ne_eqb (get_or bs 0 0) message_tag not-message) (eq-eqb (get_or bs 0 0) envelope_tag t)

bad : (d : ℕ) (bs : List ℕ) → item_in (inside d) bs ≡ none → FirstOf d bs None
unfolding meaning.item_of
bad d bs e = record { is = sym (ap (meaning.item_of bs) e); within = tt }

module _ (d : ℕ) (bs : List ℕ) where
  pub first_cut : length bs < 3 + number bs 1 2 → FirstOf d bs None
  first_cut h = bad d bs (item_cut (inside d) bs h)

  module _ {m : ℕ} (n : m ≡ number bs 1 2) (h : 3 + m ≤ length bs) where
    whole : 3 + number bs 1 2 ≤ length bs
    whole = omega arith

    module _ {l : ℕ} (e : l ≡ m) where
      -- the code's part of the bytes is the item's value
      value_is : take l (drop 3 bs) ≡ value_in bs
      unfolding value_in
      value_is = ap (λ (k : ℕ). take k (drop 3 bs)) (e ∙ n)

      value_length : length (take l (drop 3 bs)) ≡ m
      value_length = simp (length-take, length-drop) (omega arith)

      module _ {b : Bool} (r : b ≡ is_readable (take l (drop 3 bs))) where
        readable : is_readable (value_in bs) ≡ b
        readable = sym (r ∙ ap is_readable value_is)

        pub first_message : get_or bs 0 0 ≡ message_tag → b ≡ true → FirstOf d bs (Some (item (3 + m) 1))
        unfolding meaning.item_of messages_of
        first_message t q =
            record {
              is = ap (λ (k : ℕ). Some (item (3 + k) 1)) n ∙ sym (ap (meaning.item_of bs) (item_message (inside d) bs whole t (readable ∙ q)));
              within = (omega arith, h, omega arith);
            }

        pub first_unreadable : get_or bs 0 0 ≡ message_tag → b ≡ false → FirstOf d bs None
        first_unreadable t q = bad d bs (item_message (inside d) bs whole t (readable ∙ q))

      module _ (t : get_or bs 0 0 ≡ envelope_tag) {k : ℕ} (s : suc k ≡ d) {r : Maybe ℕ} (a : AllOf (inside (suc k) (take l (drop 3 bs))) (take l (drop 3 bs)) r) where
        counted : r ≡ count_of (inside d (value_in bs))
        counted = a.is ∙ ap₂ (λ (x : ℕ) (v : List ℕ). count_of (inside x v)) s value_is

        read_envelope : (o : Option Items) → inside d (value_in bs) ≡ o → item_in (inside d) bs ≡ map (λ i. envelope i end) o
        read_envelope o e = item_envelope (inside d) bs whole t ∙ ap (map (λ i. envelope i end)) e

        pub first_broken : r ≡ None → FirstOf d bs None
        unfolding count_of
        first_broken q = bad d bs (go (inside d (value_in bs)) refl)
          where
            go : (o : Option Items) → inside d (value_in bs) ≡ o → item_in (inside d) bs ≡ none
            go none e = read_envelope none e
            go (some i) e = absurd (let z : ◌≡◌ {A = ℕ} 0 1 = let w : ◌≡◌ {A = Maybe ℕ} None (Some (length (messages_of i))) = sym q ∙ counted ∙ ap count_of e in cc in omega arith)

        pub first_envelope : {n₀ : ℕ} → r ≡ Some n₀ → FirstOf d bs (Some (item (3 + m) n₀))
        unfolding count_of meaning.item_of messages_of
        first_envelope {n₀} q =
            record { is = go (inside d (value_in bs)) refl; within = (omega arith, h, (let f = subst (Few (length (take l (drop 3 bs)))) q a.few in omega (arith, value_length))) }
          where
            go : (o : Option Items) → inside d (value_in bs) ≡ o → Some (item (3 + m) n₀) ≡ meaning.item_of bs (item_in (inside d) bs)
            go none e = absurd (let z : ◌≡◌ {A = ℕ} 0 1 = let w : ◌≡◌ {A = Maybe ℕ} (Some n₀) None = sym q ∙ counted ∙ ap count_of e in cc in omega arith)
            go (some i) e =
                let w : ◌≡◌ {A = Maybe ℕ} (Some n₀) (Some (length (messages_of i))) = sym q ∙ counted ∙ ap count_of e in
                let v : n₀ ≡ length (messages_of i) = cc in
                let z : length (messages_of i ++ []) ≡ length (messages_of i) = simp length-append (omega arith) in
                ap₂ (λ (x y : ℕ). Some (item (3 + x) y)) n (v ∙ sym z) ∙ sym (ap (meaning.item_of bs) (read_envelope (some i) e))

    pub first_stray : (get_or bs 0 0 ≡ message_tag → ⊥) → (get_or bs 0 0 ≡ envelope_tag → ⊥) → FirstOf d bs None
    first_stray t u = bad d bs (item_stray (inside d) bs whole t u)

    pub first_deep : get_or bs 0 0 ≡ envelope_tag → d ≡ 0 → FirstOf d bs None
    unfolding inside
    first_deep t z = bad d bs (item_envelope (inside d) bs whole t ∙ ap (λ (x : ℕ). map (λ i. envelope i end) (inside x (value_in bs))) z)

-- ---- items, one after another

-- what was read of the first, and the items behind it
abbrev pub onward : Option Items → Option Items → Option Items
onward first o = elim first [ none ↦ none | some i ↦ map (joined i) o ]

rest_length : (b : ℕ) (r : List ℕ) → length (rest_in (b ∷ r)) ≤ length r
unfolding rest_in
rest_length b r = simp length-drop (omega arith)

-- one turn more than bytes is enough, and more turns change nothing
enough : (inner : List ℕ → Option Items) (k j : ℕ) (bs : List ℕ) → length bs < k → length bs < j → items_from inner k bs ≡ items_from inner j bs
unfolding items_from
enough inner zero j bs h l = absurd (omega arith)
enough inner (suc k) zero bs h l = absurd (omega arith)
enough inner (suc k) (suc j) [] h l = refl
enough inner (suc k) (suc j) (b ∷ r) h l =
    ap (onward (item_in inner (b ∷ r))) (enough inner k j (rest_in (b ∷ r)) (omega (arith, rest_length b r)) (omega (arith, rest_length b r)))

pub inside_none : (d : ℕ) → inside (suc d) [] ≡ some end
unfolding inside items_from
inside_none d = refl

-- items are the first, and those behind it
pub inside_step : (d : ℕ) (bs : List ℕ) → 0 < length bs → inside (suc d) bs ≡ onward (item_in (inside d) bs) (inside (suc d) (rest_in bs))
unfolding inside items_from
inside_step d [] h = absurd (omega arith)
inside_step d (b ∷ r) h =
    ap (onward (item_in (inside d) (b ∷ r)))
    (enough (inside d) (suc (length r)) (suc (length (rest_in (b ∷ r)))) (rest_in (b ∷ r)) (omega (arith, rest_length b r)) (omega arith))

pub messages_joined : (i j : Items) → messages_of (joined i j) ≡ messages_of i ++ messages_of j
unfolding messages_of joined
messages_joined end j = refl
messages_joined (message m r) j = ap (m ∷◌) (messages_joined r j)
messages_joined (envelope i r) j = ap (messages_of i ++◌) (messages_joined r j) ∙ sym (append_assoc (messages_of i) (messages_of r) (messages_of j))

-- so many messages more
abbrev pub more : ℕ → Maybe ℕ → Maybe ℕ
more n (Some m) = Some (n + m)
more n None = None

count_onward : (n : ℕ) (i : Items) (o : Option Items) → more (n + length (messages_of i)) (count_of o) ≡ more n (count_of (map (joined i) o))
unfolding count_of
count_onward n i none = refl
count_onward n i (some j) =
    ap Some (let e = ap length (messages_joined i j) ∙ length-append (messages_of i) (messages_of j) in omega arith)

pub count_starts : (c : Maybe ℕ) → more 0 c ≡ c
count_starts (Some m) = ap Some (omega arith)
count_starts None = refl

module _ (d : ℕ) (s : List ℕ) (at n : ℕ) (inv : more n (count_of (inside (suc d) (drop at s))) ≡ count_of (inside (suc d) s)) where
  pub items_end : length s ≤ at → n ≤ length s → AllOf (inside (suc d) s) s (Some n)
  unfolding count_of messages_of
  items_end h l =
      let e : inside (suc d) (drop at s) ≡ some end = ap (inside (suc d)) (drop_of_length-le s h) ∙ inside_none d in
      let z : n ≡ n + 0 = omega arith in
      record { is = ap Some z ∙ ap (λ (o : Option Items). more n (count_of o)) (sym e) ∙ inv; few = l }

  module _ (h : at < length s) {l : ℕ} (p : l ≡ length s - at) {r : Maybe Item} (f : FirstOf d (take l (drop at s)) r) where
    part_is : take l (drop at s) ≡ drop at s
    part_is = take_all l (drop at s) (simp length-drop (omega arith))

    some_left : 0 < length (drop at s)
    some_left = simp length-drop (omega arith)

    step : (first : Option Items) → item_in (inside d) (drop at s) ≡ first → more n (count_of (onward first (inside (suc d) (rest_in (drop at s))))) ≡ count_of (inside (suc d) s)
    step first e =
        ap (λ (o : Option Items). more n (count_of o)) (sym (inside_step d (drop at s) some_left ∙ ap (λ (x : Option Items). onward x (inside (suc d) (rest_in (drop at s)))) e)) ∙ inv

    is_first_lem : r ≡ meaning.item_of (drop at s) (item_in (inside d) (drop at s))
    is_first_lem = f.is ∙ ap (λ (l : List ℕ). meaning.item_of l (item_in (inside d) l)) part_is

    pub items_bad : r ≡ None → AllOf (inside (suc d) s) s None
    unfolding count_of meaning.item_of
    items_bad q = record { is = go (item_in (inside d) (drop at s)) refl; few = tt }
      where
        go : (first : Option Items) → item_in (inside d) (drop at s) ≡ first → None ≡ count_of (inside (suc d) s)
        go none e = step none e
        go (some i) e = absurd (let z : ◌≡◌ {A = ℕ} 0 1 = let w : ◌≡◌ {A = Maybe Item} None (Some (item (3 + number (drop at s) 1 2) (length (messages_of i)))) = sym q ∙ is_first_lem ∙ ap (meaning.item_of (drop at s)) e in cc in omega arith)

    module _ {i₀ : Item} (q : r ≡ Some i₀) where
      pub item_within : (3 ≤ i₀.size) × (i₀.size ≤ length s - at) × (i₀.count ≤ i₀.size)
      item_within = let w = subst (Within (length (take l (drop at s)))) q f.within in (w.0, (let e = ap length part_is ∙ length-drop at s in omega arith), w.2)

      pub items_next : more (n + i₀.count) (count_of (inside (suc d) (drop (at + i₀.size) s))) ≡ count_of (inside (suc d) s)
      unfolding count_of meaning.item_of rest_in
      items_next = go (item_in (inside d) (drop at s)) refl
        where
          go : (first : Option Items) → item_in (inside d) (drop at s) ≡ first → more (n + i₀.count) (count_of (inside (suc d) (drop (at + i₀.size) s))) ≡ count_of (inside (suc d) s)
          go none e = absurd (let z : ◌≡◌ {A = ℕ} 0 1 = let w : ◌≡◌ {A = Maybe Item} (Some i₀) None = sym q ∙ is_first_lem ∙ ap (meaning.item_of (drop at s)) e in cc in omega arith)
          go (some i) e =
              let w : ◌≡◌ {A = Maybe Item} (Some i₀) (Some (item (3 + number (drop at s) 1 2) (length (messages_of i)))) = sym q ∙ is_first_lem ∙ ap (meaning.item_of (drop at s)) e in
              let same : i₀ ≡ item (3 + number (drop at s) 1 2) (length (messages_of i)) = cc in
              let v : i₀.size ≡ 3 + number (drop at s) 1 2 = ap (λ (x : Item). x.size) same in
              let u : i₀.count ≡ length (messages_of i) = ap (λ (x : Item). x.count) same in
              let rest : drop (at + i₀.size) s ≡ rest_in (drop at s) = sym (drop-drop i₀.size at s) ∙ ap (λ (x : ℕ). drop x (drop at s)) v in
              ap₂ (λ (x : ℕ) (l : List ℕ). more (n + x) (count_of (inside (suc d) l))) u rest ∙ count_onward n i (inside (suc d) (rest_in (drop at s))) ∙ step (some i) e
