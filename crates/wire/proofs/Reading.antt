-- Reading by places is reading: a reader moves behind field after field to the end, and the fields that it passed are the message. Assumes nothing.
use Prim.Native.Nat.{ℕ, zero, suc, ◌+◌, ◌-◌, ◌*◌, ◌/◌, ◌%◌, ◌^◌, ◌<◌, ◌≤◌}
use mathlib.Core.Path.{◌≡◌, refl, sym, ap, ap₂, ◌∙◌}
use mathlib.Core.Bool.{Bool, true, false, not, ◌&&◌, and-true}
use mathlib.Core.List.{List, [], ◌∷◌}
use mathlib.Core.Option.{Option, none, some, map}
use native.Mathlib.Omega.{arith}
use native.Mathlib.Numerals.{add-one}
use lib.ListN.{length, take, drop, get_or, length-drop, drop_of_length-le}
use lib.Seq.{drop-cons, drop-drop, length-take-le}
use lib.Dec.{leb, eqb}
use borrow.Author.Tests.{not-false, not-true, eqb-true, eqb-false, eq-eqb, ne_eqb, leb-true, leb-false, le-leb, lt-leb}
use Rattle.fields.specs.Places.{Bytes, number}
use Rattle.fields.proofs.Lists.{number_cons, number_piece}
use Rattle.rules.specs.Lists.{be, unbe, iff, within as between, any, all, keep}
use Rattle.rules.specs.Messages.{Message, Row, table, row_of, tags_of, width, after, read_field, reads, body, read}
use Rattle.rules.specs.Sizes.{holds}
use Rattle.laws.proofs.Tests.{by_bool, no_bool, and_left, and_right}
use Rattle.laws.proofs.Truths.{iff_eq}
use Rattle.wire.specs.Fields.{head, is_field, behind, has, Tags, Place, start, kind_behind, moved, walked, values_from, made, ended}

-- a field that stands at a place lies within the message
pub field_room : (s : List ℕ) (at t w : ℕ) → is_field s at t w ≡ true → at + 3 + w ≤ length s
unfolding is_field
field_room s at t w e = leb-true (at + 3 + w) (length s) (and_left (leb (at + 3 + w) (length s)) (eqb (number s at 3) (head t w)) e)

-- the same of its test's answer
pub stood : {r : Bool} (s : List ℕ) (at t w : ℕ) → r ≡ is_field s at t w → r ≡ true → at + 3 + w ≤ length s
stood s at t w e y = field_room s at t w (sym e ∙ y)

-- its test, without the room for it and with it
pub field_short : (s : List ℕ) (at t w : ℕ) → length s < at + 3 + w → false ≡ is_field s at t w
unfolding is_field
field_short s at t w h = rw (lt-leb (at + 3 + w) (length s) h)

pub field_test : (s : List ℕ) (at t w : ℕ) → at + 3 + w ≤ length s → eqb (number s at 3) (head t w) ≡ is_field s at t w
unfolding is_field
field_test s at t w h = rw (le-leb (at + 3 + w) (length s) h)

-- the number of one byte
pub number_byte : (s : List ℕ) (at : ℕ) → number s at 1 ≡ get_or s at 0
unfolding number
number_byte s at = let p : at + 0 ≡ at = omega arith in rw p (omega arith)

-- the number of a list's bytes is that of its place
pub be_number : (bs : List ℕ) → be bs ≡ number bs 0 (length bs)
unfolding be number
be_number [] = refl
be_number (b ∷ bs) = ap (λ (n : ℕ). b * 256 ^ length bs + n) (be_number bs) ∙ sym (number_cons b bs (length bs))

be_piece : (s : List ℕ) (at w : ℕ) → at + w ≤ length s → be (take w (drop at s)) ≡ number s at w
be_piece s at w h =
    let l : length (take w (drop at s)) ≡ w = length-take-le w (drop at s) (rw length-drop (omega arith)) in
    be_number (take w (drop at s)) ∙ rw l (number_piece s at w)

-- no value is longer than a name
pub width_most : (t : ℕ) → width t ≤ 32
unfolding width
width_most zero = omega arith
width_most (suc zero) = omega arith
width_most (suc (suc zero)) = omega arith
width_most (suc (suc (suc zero))) = omega arith
width_most (suc (suc (suc (suc zero)))) = omega arith
width_most (suc (suc (suc (suc (suc zero))))) = omega arith
width_most (suc (suc (suc (suc (suc (suc zero)))))) = omega arith
width_most (suc (suc (suc (suc (suc (suc (suc zero))))))) = omega arith
width_most (suc (suc (suc (suc (suc (suc (suc (suc zero)))))))) = omega arith
width_most (suc (suc (suc (suc (suc (suc (suc (suc (suc t))))))))) = omega arith

-- other tags have no value
pub no_width : (t : ℕ) → (t ≡ 1 → ⊥) → (t ≡ 2 → ⊥) → (t ≡ 3 → ⊥) → (t ≡ 4 → ⊥) → (t ≡ 5 → ⊥) → (t ≡ 6 → ⊥) → (t ≡ 7 → ⊥) → (t ≡ 8 → ⊥) → 0 ≡ width t
unfolding width
no_width zero a b c d e f g h = refl
no_width (suc zero) a b c d e f g h = absurd (a refl)
no_width (suc (suc zero)) a b c d e f g h = absurd (b refl)
no_width (suc (suc (suc zero))) a b c d e f g h = absurd (c refl)
no_width (suc (suc (suc (suc zero)))) a b c d e f g h = absurd (d refl)
no_width (suc (suc (suc (suc (suc zero))))) a b c d e f g h = absurd (e refl)
no_width (suc (suc (suc (suc (suc (suc zero)))))) a b c d e f g h = absurd (f refl)
no_width (suc (suc (suc (suc (suc (suc (suc zero))))))) a b c d e f g h = absurd (g refl)
no_width (suc (suc (suc (suc (suc (suc (suc (suc zero)))))))) a b c d e f g h = absurd (h refl)
no_width (suc (suc (suc (suc (suc (suc (suc (suc (suc t))))))))) a b c d e f g h = refl

-- three bytes are a head exactly where their number is
module _ (t w a b c : ℕ) (r : List ℕ) (hw : w < 65536) (ha : a < 256) (hb : b < 256) (hc : c < 256) where
  after_head : a * 65536 + b * 256 + c ≡ head t w → after (t ∷ unbe 2 w) (a ∷ b ∷ c ∷ r) ≡ some r
  unfolding after unbe
  after_head e =
      let p : t ≡ a = omega arith in
      let q : w / 256 ≡ b = omega arith in
      let o : w % 256 / 1 ≡ c = omega arith in
      rw (eq-eqb t a p, after, eq-eqb (w / 256) b q, after, eq-eqb (w % 256 / 1) c o)

  after_other : (a * 65536 + b * 256 + c ≡ head t w → ⊥) → after (t ∷ unbe 2 w) (a ∷ b ∷ c ∷ r) ≡ none
  unfolding after unbe
  after_other d =
      by_bool (eqb t a)
      (λ p. by_bool (eqb (w / 256) b)
      (λ q. by_bool (eqb (w % 256 / 1) c)
      (λ o. absurd (d (omega (arith, eqb-true t a p, eqb-true (w / 256) b q, eqb-true (w % 256 / 1) c o))))
      (λ o. rw (p, after, q, after, o)))
      (λ q. rw (p, after, q)))
      (λ p. rw (p, after))

-- fewer bytes are none
after_short : (t w : ℕ) (bs : List ℕ) → length bs < 3 → after (t ∷ unbe 2 w) bs ≡ none
unfolding after unbe
after_short t w [] h = refl
after_short t w (a ∷ []) h = by_bool (eqb t a) (λ p. rw (p, after)) (λ p. rw (p, after))
after_short t w (a ∷ b ∷ []) h =
    by_bool (eqb t a) (λ p. by_bool (eqb (w / 256) b) (λ q. rw (p, after, q, after)) (λ q. rw (p, after, q))) (λ p. rw (p, after))
after_short t w (a ∷ b ∷ c ∷ r) h = absurd (omega arith)

-- the three bytes of a place
module _ (s : List ℕ) (b : Bytes s) (at : ℕ) where
  three : at + 3 ≤ length s → drop at s ≡ get_or s at 0 ∷ get_or s (at + 1) 0 ∷ get_or s (at + 2) 0 ∷ drop (at + 3) s
  three h =
      let p : suc at ≡ at + 1 = omega arith in
      let q : suc (at + 1) ≡ at + 2 = omega arith in
      let r : suc (at + 2) ≡ at + 3 = omega arith in
      drop-cons s at 0 (omega arith) ∙ rw (p, drop-cons s (at + 1) 0 (omega arith), q, drop-cons s (at + 2) 0 (omega arith), r)

  number_three : number s at 3 ≡ get_or s at 0 * 65536 + get_or s (at + 1) 0 * 256 + get_or s (at + 2) 0
  unfolding number
  number_three = let p : at + 0 ≡ at = omega arith in rw p (omega arith)

  -- a head is its tag, then its length
  number_head : number s at 3 ≡ get_or s at 0 * 65536 + number s (at + 1) 2
  unfolding number
  number_head =
      let p : at + 0 ≡ at = omega arith in
      let q : at + 1 + 0 ≡ at + 1 = omega arith in
      let r : at + 1 + 1 ≡ at + 2 = omega arith in
      rw (p, q, r) (omega arith)

  number_two : number s (at + 1) 2 < 65536
  unfolding number
  number_two =
      let p : get_or s (at + 1 + 0) 0 < 256 = (b (at + 1 + 0)).fits in
      let q : get_or s (at + 1 + 1) 0 < 256 = (b (at + 1 + 1)).fits in
      omega arith

  -- the test of a field by the tag at its place, and by the length behind it
  module _ (t w : ℕ) (hw : w ≤ 32) where
    pub field_other : (get_or s at 0 ≡ t → ⊥) → false ≡ is_field s at t w
    unfolding is_field
    field_other d =
        let n : (number s at 3 ≡ head t w → ⊥) = λ e. d (omega (arith, number_head, number_two)) in
        rw (ne_eqb (number s at 3) (head t w) n) (by_bool (leb (at + 3 + w) (length s)) (λ l. rw l) (λ l. rw l))

    pub field_same : at + 3 + w ≤ length s → get_or s at 0 ≡ t → eqb (number s (at + 1) 2) w ≡ is_field s at t w
    field_same h e =
        by_bool (eqb (number s (at + 1) 2) w)
        (λ q. q ∙ sym (eq-eqb (number s at 3) (head t w) (omega (arith, number_head, eqb-true (number s (at + 1) 2) w q))) ∙ field_test s at t w h)
        (λ q. q ∙ sym (ne_eqb (number s at 3) (head t w) (λ f. eqb-false (number s (at + 1) 2) w q (omega (arith, number_head)))) ∙ field_test s at t w h)

  module _ {ℓ} {X : Type ℓ} (t : ℕ) (go : ℕ → List ℕ → Option X) where
    -- where the field stands, its number goes on with what stands after it
    field_here : is_field s at t (width t) ≡ true → read_field t (drop at s) go ≡ go (number s (at + 3) (width t)) (drop (at + 3 + width t) s)
    unfolding is_field read_field
    field_here e =
        let w = width t in
        let l = field_room s at t w e in
        let n = eqb-true (number s at 3) (head t w) (and_right (leb (at + 3 + w) (length s)) (eqb (number s at 3) (head t w)) e) in
        let k : length (drop (at + 3) s) ≡ length s - (at + 3) = length-drop (at + 3) s in
        let p : after (t ∷ unbe 2 w) (drop at s) ≡ some (drop (at + 3) s) =
        rw (three (omega arith)) (after_head t w _ _ _ (drop (at + 3) s) (omega (arith, width_most t)) (b at).fits (b (at + 1)).fits (b (at + 2)).fits (sym number_three ∙ n)) in
        rw (p, read_field, le-leb w (length (drop (at + 3) s)) (omega arith), be_piece s (at + 3) w (omega arith), drop-drop)

    -- where it doesn't, nothing is read
    field_gone : is_field s at t (width t) ≡ false → read_field t (drop at s) go ≡ none
    unfolding is_field read_field
    field_gone e =
        let w = width t in
        let k : length (drop (at + 3) s) ≡ length s - (at + 3) = length-drop (at + 3) s in
        by_bool (leb (at + 3) (length s))
        (λ l.
        let m = three (leb-true (at + 3) (length s) l) in
        by_bool (eqb (number s at 3) (head t w))
        (λ q.
        let p : after (t ∷ unbe 2 w) (drop at s) ≡ some (drop (at + 3) s) =
        rw m (after_head t w _ _ _ (drop (at + 3) s) (omega (arith, width_most t)) (b at).fits (b (at + 1)).fits (b (at + 2)).fits (sym number_three ∙ eqb-true (number s at 3) (head t w) q)) in
        let f : length s < at + 3 + w = leb-false (at + 3 + w) (length s) (rw (q, and-true) at e) in
        rw (p, read_field, lt-leb w (length (drop (at + 3) s)) (omega (arith, leb-true (at + 3) (length s) l))))
        (λ q.
        let p : after (t ∷ unbe 2 w) (drop at s) ≡ none =
        rw m (after_other t w _ _ _ (drop (at + 3) s) (omega (arith, width_most t)) (b at).fits (b (at + 1)).fits (b (at + 2)).fits (λ f. eqb-false (number s at 3) (head t w) q (number_three ∙ f))) in
        rw (p, read_field)))
        (λ l. rw (after_short t w (drop at s) (rw length-drop (omega (arith, leb-false (at + 3) (length s) l))), read_field))

-- a test of the numbers below one, tried on each
unfoldable pub tried : (ℕ → Bool) → ℕ → Bool
tried p zero = true
tried p (suc n) = p n && tried p n

pub tried_at : (p : ℕ → Bool) (n i : ℕ) → tried p n ≡ true → i < n → p i ≡ true
unfolding tried
tried_at p zero i e h = absurd (omega arith)
tried_at p (suc n) i e h =
    by_bool (eqb n i) (λ q. ap p (sym (eqb-true n i q)) ∙ and_left (p n) (tried p n) e)
    (λ q. tried_at p n i (and_right (p n) (tried p n) e) (omega (arith, eqb-false n i q)))

-- a kind's tags as bits: held against the table
pub tags_by : (k m : ℕ) → tried (λ t. iff (holds m t) (has k t)) 9 ≡ true → Tags k m
tags_by k m e t h = iff_eq (holds m t) (has k t) (tried_at (λ t. iff (holds m t) (has k t)) 9 t e (omega arith))

-- a kind outside 1 to 6 has no row, and no tag but the first
pub no_row : (k : ℕ) → (k ≡ 1 → ⊥) → (k ≡ 2 → ⊥) → (k ≡ 3 → ⊥) → (k ≡ 4 → ⊥) → (k ≡ 5 → ⊥) → (k ≡ 6 → ⊥) → row_of k ≡ none
unfolding row_of table
no_row zero a b c d e f = refl
no_row (suc zero) a b c d e f = absurd (a refl)
no_row (suc (suc zero)) a b c d e f = absurd (b refl)
no_row (suc (suc (suc zero))) a b c d e f = absurd (c refl)
no_row (suc (suc (suc (suc zero)))) a b c d e f = absurd (d refl)
no_row (suc (suc (suc (suc (suc zero))))) a b c d e f = absurd (e refl)
no_row (suc (suc (suc (suc (suc (suc zero)))))) a b c d e f = absurd (f refl)
no_row (suc (suc (suc (suc (suc (suc (suc k))))))) a b c d e f = refl

no_tags : (k : ℕ) → row_of k ≡ none → tags_of k ≡ []
unfolding tags_of
no_tags k e = rw (e, tags_of)

-- such a kind has what kind 0 has
pub tags_other : (k m : ℕ) → row_of k ≡ none → Tags 0 m → Tags k m
unfolding has tags_of row_of
tags_other k m r h t l = h t l ∙ rw (no_tags k r, has)

-- what holds of each of some numbers holds of one that is among them
in_all : (p : ℕ → Bool) (t : ℕ) (ts : List ℕ) → all p ts ≡ true → any (eqb t) ts ≡ true → p t ≡ true
unfolding any all
in_all p t [] a e = no_bool (sym e)
in_all p t (x ∷ xs) a e =
    by_bool (eqb t x) (λ q. rw (eqb-true t x q) (and_left (p x) (all p xs) a))
    (λ q. in_all p t xs (and_right (p x) (all p xs) a) (rw (q, any) at e))

-- tags are 1 to 8
tags_within : (k : ℕ) → all (between 1 8) (1 ∷ tags_of k) ≡ true
unfolding all tags_of row_of table between
tags_within zero = refl
tags_within (suc zero) = refl
tags_within (suc (suc zero)) = refl
tags_within (suc (suc (suc zero))) = refl
tags_within (suc (suc (suc (suc zero)))) = refl
tags_within (suc (suc (suc (suc (suc zero))))) = refl
tags_within (suc (suc (suc (suc (suc (suc zero)))))) = refl
tags_within (suc (suc (suc (suc (suc (suc (suc k))))))) = refl

-- and no tag above 8
pub tag_above : (k t : ℕ) → 8 < t → false ≡ has k t
unfolding has between
tag_above k t h =
    by_bool (has k t)
    (λ e. let w = in_all (between 1 8) t (1 ∷ tags_of k) (tags_within k) e in absurd (omega (arith, leb-true t 8 (and_right (leb 1 t) (leb t 8) w))))
    sym

-- what is read at a place: at the end of the message, the message of its kind
module _ (s : List ℕ) (p : Place) where
  pub ended_made : {o : Option Message} (k : ℕ) → p.at ≡ length s → p.kind ≡ k → o ≡ made s k → o ≡ ended s p
  unfolding ended
  ended_made k h e f = rw (eq-eqb p.at (length s) h, ended, e) f

  pub ended_not : (p.at ≡ length s → ⊥) → none ≡ ended s p
  unfolding ended
  ended_not h = rw (ne_eqb p.at (length s) h, ended)

-- a kind that isn't one makes nothing
pub made_none : (s : List ℕ) (k : ℕ) → row_of k ≡ none → none ≡ made s k
unfolding made
made_none s k e = rw (e, made)

-- a place as it is behind a field, or the same place
module _ (s : List ℕ) (t : ℕ) (p : Place) where
  pub moved_not : has p.kind t ≡ false → p ≡ moved s t p
  unfolding moved
  moved_not h = rw (h, moved)

  -- of another field than the first, whether it is there or not
  moved_has : has p.kind t ≡ true → eqb t 1 ≡ false → moved s t p ≡ record { at = behind s p.at t (width t); kind = p.kind }
  unfolding moved kind_behind
  moved_has h e = by_bool (is_field s p.at t (width t)) (λ q. rw (h, moved, q, kind_behind, e)) (λ q. rw (h, moved, q, kind_behind))

  -- the same as the code finds it, of the kind's tags and the field's head
  module _ {w : ℕ} {x y : Bool} (h : x ≡ has p.kind t) (l : not x ≡ false) (z : w ≡ width t) (e : y ≡ is_field s p.at t w) where
    is_had : has p.kind t ≡ true
    is_had = sym h ∙ not-false x l

    head_is : is_field s p.at t (width t) ≡ y
    head_is = ap (is_field s p.at t) (sym z) ∙ sym e

    pub head_room : not y ≡ false → p.at + 3 + w ≤ length s
    head_room m = stood s p.at t w e (not-false y m)

    pub kind_room : not y ≡ false → t ≡ 1 → p.at + 3 < length s
    unfolding width
    kind_room m f = let q : w ≡ 1 = z ∙ ap width f in omega (arith, head_room m)

    pub moved_past : not y ≡ true → record { at = length s + 1; kind = p.kind } ≡ moved s t p
    unfolding moved behind kind_behind
    moved_past m = rw (is_had, moved, head_is ∙ not-true y m, behind, kind_behind, add-one)

    pub moved_first : not y ≡ false → t ≡ 1 → record { at = p.at + 3 + w; kind = get_or s (p.at + 3) 0 } ≡ moved s t p
    unfolding moved behind kind_behind
    moved_first m f = rw (is_had, moved, head_is ∙ not-false y m, behind, kind_behind, eq-eqb t 1 f, z, number_byte s (p.at + 3))

    pub moved_on : not y ≡ false → (t ≡ 1 → ⊥) → record { at = p.at + 3 + w; kind = p.kind } ≡ moved s t p
    unfolding moved behind kind_behind
    moved_on m f = rw (is_had, moved, head_is ∙ not-false y m, behind, kind_behind, ne_eqb t 1 f, z)

-- a value in front of those that were read to the end, if they were
onto_ends : (x : Bool) (v : ℕ) (vs : List ℕ) → map (v ∷◌) (elim x [ true ↦ some vs | false ↦ none ]) ≡ elim x [ true ↦ some (v ∷ vs) | false ↦ none ]
onto_ends true v vs = refl
onto_ends false v vs = refl

-- the place behind fields, one after the other
abbrev passed : List ℕ → List ℕ → ℕ → ℕ
passed s [] at = at
passed s (t ∷ ts) at = passed s ts (behind s at t (width t))

-- what fields of these tags take
abbrev pub sizes : List ℕ → ℕ
sizes [] = 0
sizes (t ∷ ts) = 3 + width t + sizes ts

-- the tags after the first
abbrev pub others : List ℕ
others = 2 ∷ 3 ∷ 4 ∷ 5 ∷ 6 ∷ 7 ∷ 8 ∷ []

module _ (s : List ℕ) where
  -- past the end nothing stands
  past_end : (ts : List ℕ) (at : ℕ) → length s < at → length s < passed s ts at
  unfolding behind
  past_end [] at h = h
  past_end (t ∷ ts) at h = rw (sym (field_short s at t (width t) (omega arith)), behind) (past_end ts (suc (length s)) (omega arith))

  -- a reader that is within the message has passed all their bytes
  passed_sizes : (ts : List ℕ) (at : ℕ) → passed s ts at ≤ length s → passed s ts at ≡ at + sizes ts
  unfolding behind
  passed_sizes [] at h = omega arith
  passed_sizes (t ∷ ts) at h =
      let w = width t in
      by_bool (is_field s at t w)
      (λ q.
      let e : behind s at t w ≡ at + 3 + w = rw (q, behind) in
      ap (passed s ts) e ∙ passed_sizes ts (at + 3 + w) (rw e at h) ∙ omega arith)
      (λ q.
      let e : behind s at t w ≡ suc (length s) = rw (q, behind) in
      absurd (omega (arith, past_end ts (suc (length s)) (omega arith), rw e at h)))

  -- a place behind fields of other tags than the first, of those that the kind has
  abbrev walks : List ℕ → Place → Place
  walks [] p = p
  walks (t ∷ ts) p = walks ts (moved s t p)

  walks_passed : (ts : List ℕ) (p : Place) → all (λ t. not (eqb t 1)) ts ≡ true
      → walks ts p ≡ record { at = passed s (keep (has p.kind) ts) p.at; kind = p.kind }
  unfolding all keep
  walks_passed [] p a = refl
  walks_passed (t ∷ ts) p a =
      let q : Place = record { at = behind s p.at t (width t); kind = p.kind } in
      let n = not-true (eqb t 1) (and_left (not (eqb t 1)) (all (λ t. not (eqb t 1)) ts) a) in
      let m = and_right (not (eqb t 1)) (all (λ t. not (eqb t 1)) ts) a in
      by_bool (has p.kind t)
      (λ h. ap (walks ts) (moved_has s t p h n) ∙ walks_passed ts q m ∙ rw (h, keep))
      (λ h. ap (walks ts) (sym (moved_not s t p h)) ∙ walks_passed ts p m ∙ rw (h, keep))

  -- the place that all fields lead to, by the kind that was read
  abbrev kind_read : ℕ
  kind_read = kind_behind s 1 start

  walked_passed : walked s 8 ≡ record { at = passed s (keep (has kind_read) others) (behind s 0 1 1); kind = kind_read }
  unfolding walked moved has any width all
  walked_passed = walks_passed others (record { at = behind s 0 1 1; kind = kind_read }) refl

  -- a reader at the end of a message has passed the bytes of all fields of its kind
  pub whole : (p : Place) (k : ℕ) → p ≡ walked s 8 → p.at ≡ length s → p.kind ≡ k → length s ≡ 4 + sizes (keep (has k) others)
  unfolding behind
  whole p k e a f =
      let q : p ≡ record { at = passed s (keep (has kind_read) others) (behind s 0 1 1); kind = kind_read } = e ∙ walked_passed in
      let h : passed s (keep (has k) others) (behind s 0 1 1) ≡ length s =
      ap (λ (k : ℕ). passed s (keep (has k) others) (behind s 0 1 1)) (sym f ∙ ap (λ (x : Place). x.kind) q) ∙ sym (ap (λ (x : Place). x.at) q) ∙ a in
      by_bool (is_field s 0 1 1)
      (λ i.
      let n : behind s 0 1 1 ≡ 4 = rw (i, behind) in
      let h' : passed s (keep (has k) others) 4 ≡ length s = rw n at h in
      sym h' ∙ passed_sizes (keep (has k) others) 4 (omega arith))
      (λ i.
      let n : behind s 0 1 1 ≡ suc (length s) = rw (i, behind) in
      absurd (omega (arith, past_end (keep (has k) others) (suc (length s)) (omega arith), rw n at h)))

module _ (s : List ℕ) (b : Bytes s) where
  -- fields are read from a place on: to the end of the message, or not at all
  reads_passed : (ts : List ℕ) (at : ℕ) → at ≤ length s
      → reads ts (drop at s) ≡ elim (eqb (passed s ts at) (length s)) [ true ↦ some (values_from s ts at) | false ↦ none ]
  unfolding reads is_field behind values_from
  reads_passed [] at h =
      by_bool (eqb at (length s))
      (λ q. rw q (rw (drop_of_length-le s {i = at} (omega (arith, eqb-true at (length s) q)))))
      (λ q. rw q (rw (drop-cons s at 0 (omega (arith, eqb-false at (length s) q)))))
  reads_passed (t ∷ ts) at h =
      let w = width t in
      let go : ℕ → List ℕ → Option (List ℕ) = λ x r. map (x ∷◌) (reads ts r) in
      by_bool (is_field s at t w)
      (λ q.
      field_here s b at t go q ∙ ap (map (number s (at + 3) w ∷◌)) (reads_passed ts (at + 3 + w) (field_room s at t w q))
      ∙ onto_ends (eqb (passed s ts (at + 3 + w)) (length s)) (number s (at + 3) w) (values_from s ts (at + 3 + w)) ∙ rw (q, behind))
      (λ q.
      let n : eqb (passed s ts (suc (length s))) (length s) ≡ false =
      ne_eqb (passed s ts (suc (length s))) (length s) (λ e. omega (arith, past_end s ts (suc (length s)) (omega arith))) in
      field_gone s b at t go q ∙ rw (q, behind, n))

  -- the message of a kind, from the bytes behind the first field
  module _ (h : 4 ≤ length s) where
    abbrev behind_kind : ℕ → Place
    behind_kind k = record { at = passed s (keep (has k) others) 4; kind = k }

    row_read : (k : ℕ) (row : Row) → row_of k ≡ some row → keep (has k) others ≡ row.tags → ended s (behind_kind k) ≡ body k (drop 4 s)
    unfolding ended made body
    row_read k row r e =
        by_bool (eqb (passed s row.tags 4) (length s))
        (λ z. rw (e, z, ended, made, r, body, reads_passed row.tags 4 h, z))
        (λ z. rw (e, z, ended, r, body, reads_passed row.tags 4 h, z))

    none_read : (k : ℕ) → row_of k ≡ none → ended s (behind_kind k) ≡ body k (drop 4 s)
    unfolding ended made body
    none_read k r = by_bool (eqb (behind_kind k).at (length s)) (λ z. rw (z, ended, made, r, body)) (λ z. rw (z, ended, r, body))

    kind_read_lem : (k : ℕ) → ended s (behind_kind k) ≡ body k (drop 4 s)
    unfolding keep has any tags_of row_of table
    kind_read_lem zero = none_read 0 refl
    kind_read_lem (suc zero) = row_read 1 _ refl refl
    kind_read_lem (suc (suc zero)) = row_read 2 _ refl refl
    kind_read_lem (suc (suc (suc zero))) = row_read 3 _ refl refl
    kind_read_lem (suc (suc (suc (suc zero)))) = row_read 4 _ refl refl
    kind_read_lem (suc (suc (suc (suc (suc zero))))) = row_read 5 _ refl refl
    kind_read_lem (suc (suc (suc (suc (suc (suc zero)))))) = row_read 6 _ refl refl
    kind_read_lem (suc (suc (suc (suc (suc (suc (suc k))))))) = none_read (suc (suc (suc (suc (suc (suc (suc k))))))) refl

  -- what is read where a reader has walked a message is what is read of it
  pub walked_read : ended s (walked s 8) ≡ read s
  unfolding read ended behind kind_behind width
  walked_read =
      let k = kind_behind s 1 start in
      by_bool (is_field s 0 1 1)
      (λ q.
      let k_is : k ≡ number s 3 1 = rw (q, kind_behind) in
      let n-is : behind s 0 1 1 ≡ 4 = rw (q, behind) in
      let p : walked s 8 ≡ record { at = passed s (keep (has (number s 3 1)) others) 4; kind = number s 3 1 } =
      walked_passed s ∙ ap₂ (λ (x y : ℕ). record { at = passed s (keep (has x) others) y; kind = x }) k_is n-is in
      ap (ended s) p ∙ kind_read_lem (field_room s 0 1 1 q) (number s 3 1) ∙ sym (field_here s b 0 1 body q))
      (λ q.
      let n-is : behind s 0 1 1 ≡ suc (length s) = rw (q, behind) in
      let p : walked s 8 ≡ record { at = passed s (keep (has k) others) (suc (length s)); kind = k } =
      walked_passed s ∙ ap (λ (y : ℕ). record { at = passed s (keep (has k) others) y; kind = k }) n-is in
      ap (ended s) p ∙ sym (ended_not s (record { at = passed s (keep (has k) others) (suc (length s)); kind = k }) (λ e. omega (arith, past_end s (keep (has k) others) (suc (length s)) (omega arith)))) ∙ sym (field_gone s b 0 1 body q))
