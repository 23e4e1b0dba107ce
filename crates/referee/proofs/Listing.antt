-- A list that holds some inputs: that it has its length and its form, that it gives those inputs back, that a fresh list holds none
-- and a list with one input more holds that one more. Assumes nothing.
use Prim.Native.Nat.{ℕ, zero, suc, ◌+◌, ◌-◌, ◌*◌, ◌^◌, ◌<◌, ◌≤◌}
use mathlib.Core.Path.{◌≡◌, refl, sym, ap, ap₂, ◌∙◌}
use mathlib.Core.Bool.{Bool, true, false, ◌&&◌}
use mathlib.Core.List.{List, [], ◌∷◌, ◌++◌, append-nil}
use native.Mathlib.Omega.{arith}
use native.Mathlib.Nat.{add-zero, zero-add}
use lib.ListN.{length, take, get_or, replicate, length-append, length-replicate, length-drop}
use lib.Seq.{length-take-le, drop_at}
use lib.Dec.{lit≤}
use borrow.Author.Tests.{eq-eqb, leb-true, leb-false, le-leb, lt-ltb}
use Rattle.rules.specs.Limits.{small}
use Rattle.rules.specs.Lists.{unbe}
use Rattle.rules.specs.Sizes.{Settings, good_settings}
use Rattle.laws.proofs.Bytes.{length_unbe, be_unbe}
use Rattle.laws.proofs.Tests.{eqb_self}
use Rattle.laws.proofs.Truths.{both}
use Rattle.fields.specs.Places.{number, put}
use Rattle.fields.proofs.Laws.{length_put, number_put_before, number_put_after, number_put_same}
use Rattle.fields.proofs.Lists.{number_drop, number_take, number_piece, number_append_left, number_append_right}
use Rattle.wire.proofs.Reading.{be_number}
use Rattle.slots.specs.Slots.{slot_length, is_input, record_bytes, is_blank, judged, Slot, blank, whole}
use Rattle.slots.proofs.Inputs.{input_fits}
use Rattle.slots.proofs.Records.{length_record}
use Rattle.slot_reader.proofs.OneForm.{judged_blank, reads_back}
use Rattle.journal.specs.Journal.{slot_count, slot_at, with_slot, slots_from, slots_of}
use Rattle.journal.proofs.Places.{length_with, slot_here, slot_before, slot_behind, slots_same, slots_split}
use Rattle.lent_list.specs.Lists.{Input, tick, offer, message, kind_of, bytes_of, input_of, head_length, most_slots, records_in, slots_in, has_length, settings_in, count_in, is_placed, are_placed, has_form, inputs_in, inputs_of, fresh_list, is_full, added}
use Rattle.lent_list.proofs.Lengths.{lengths}
use Rattle.lent_list.proofs.Made.{settings_fit}

-- the slots of some inputs, numbered from q on
unfoldable pub wholes : ℕ → List Input → List Slot
wholes q [] = []
wholes q (x ∷ xs) = whole q (kind_of x) (bytes_of x) ∷ wholes (suc q) xs

-- a list of m slots holds some inputs under some settings
pub record Lists (m : ℕ) (g : Settings) (xs : List Input) (l : List ℕ) : Type 0 where
  pub some : 1 ≤ m
  pub few : m ≤ most_slots
  pub long : length l ≡ head_length + slot_length * m
  pub good : good_settings g ≡ true
  pub settings : settings_in l ≡ g
  pub zeros : number l 8 8 ≡ 0
  pub count : count_in l ≡ length xs
  pub fits : length xs ≤ m
  pub front : slots_from (records_in l) 0 (length xs) ≡ wholes 0 xs
  pub back : (p : ℕ) → length xs ≤ p → p < m → judged (slot_at (records_in l) p) ≡ blank

-- ---- slots that hold inputs, and blank ones

input_back : (x : Input) → input_of (kind_of x) (bytes_of x) ≡ x
unfolding input_of kind_of bytes_of
input_back tick = refl
input_back (offer name) = refl
input_back (message bs) = refl

module _ (c : ℕ) where
  placed_wholes : (q : ℕ) (xs : List Input) (ss : List Slot) → q + length xs ≤ c → are_placed c q (wholes q xs ++ ss) ≡ are_placed c (q + length xs) ss
  unfolding are_placed is_placed wholes
  placed_wholes q [] ss h = ap (λ (k : ℕ). are_placed c k ss) (sym (add-zero q))
  placed_wholes q (x ∷ xs) ss h =
      let e : suc q + length xs ≡ q + suc (length xs) = omega arith in
      ap₂ (λ (a b : Bool). a && b && are_placed c (suc q) (wholes (suc q) xs ++ ss)) (lt-ltb q c (omega arith)) (eqb_self q)
      ∙ placed_wholes (suc q) xs ss (omega arith) ∙ ap (λ (k : ℕ). are_placed c k ss) e

  placed_blanks : (j : List ℕ) (p n : ℕ) → c ≤ p → ((k : ℕ) → p ≤ k → k < p + n → judged (slot_at j k) ≡ blank) → are_placed c p (slots_from j p n) ≡ true
  unfolding are_placed is_placed slots_from
  placed_blanks j p zero h b = le-leb c p h
  placed_blanks j p (suc n) h b =
      ap (λ (s : Slot). is_placed c p s && are_placed c (suc p) (slots_from j (suc p) n)) (b p (omega arith) (omega arith))
      ∙ ap (◌&& are_placed c (suc p) (slots_from j (suc p) n)) (le-leb c p h)
      ∙ placed_blanks j (suc p) n (omega arith) (λ k u v. b k (omega arith) (omega arith))

inputs_wholes : (q : ℕ) (xs : List Input) (ss : List Slot) → inputs_in (wholes q xs ++ ss) ≡ xs ++ inputs_in ss
unfolding inputs_in wholes
inputs_wholes q [] ss = refl
inputs_wholes q (x ∷ xs) ss = ap₂ ◌∷◌ (input_back x) (inputs_wholes (suc q) xs ss)

inputs_blanks : (j : List ℕ) (p n : ℕ) → ((k : ℕ) → p ≤ k → k < p + n → judged (slot_at j k) ≡ blank) → inputs_in (slots_from j p n) ≡ []
unfolding inputs_in slots_from
inputs_blanks j p zero b = refl
inputs_blanks j p (suc n) b =
    ap (λ (s : Slot). inputs_in (s ∷ slots_from j (suc p) n)) (b p (omega arith) (omega arith)) ∙ inputs_blanks j (suc p) n (λ k u v. b k (omega arith) (omega arith))

wholes_more : (q : ℕ) (xs : List Input) (x : Input) → wholes q (xs ++ x ∷ []) ≡ wholes q xs ++ whole (q + length xs) (kind_of x) (bytes_of x) ∷ []
unfolding wholes
wholes_more q [] x = ap (λ (k : ℕ). whole k (kind_of x) (bytes_of x) ∷ []) (sym (add-zero q))
wholes_more q (y ∷ xs) x =
    let e : suc q + length xs ≡ q + suc (length xs) = omega arith in
    ap (whole q (kind_of y) (bytes_of y) ∷◌) (wholes_more (suc q) xs x ∙ ap (λ (k : ℕ). wholes (suc q) xs ++ whole k (kind_of x) (bytes_of x) ∷ []) e)

-- ---- a list that holds inputs has its length and its form, and gives them back

slots_many : (l : List ℕ) (m : ℕ) → length l ≡ head_length + slot_length * m → slots_in l ≡ m
unfolding slots_in slot_count
slots_many l m e = omega (arith, length-drop head_length l)

module _ {m : ℕ} {g : Settings} {xs : List Input} {l : List ℕ} (h : Lists m g xs l) where
  pub many : slots_in l ≡ m
  many = slots_many l m h.long

  pub has_length_lem : has_length l ≡ true
  unfolding has_length
  has_length_lem =
      let e = many in
      both (both (eq-eqb (length l) (head_length + slot_length * slots_in l) (omega (arith, h.long))) (le-leb 1 (slots_in l) (omega (arith, h.some)))) (le-leb (slots_in l) most_slots (omega (arith, h.few)))

  -- the slots: the inputs', then blank ones
  abbrev rest : List Slot
  rest = slots_from (records_in l) (length xs) (m - length xs)

  blanks : (k : ℕ) → length xs ≤ k → k < length xs + (m - length xs) → judged (slot_at (records_in l) k) ≡ blank
  blanks k u v = h.back k u (omega (arith, h.fits))

  slots_are : slots_of (records_in l) ≡ wholes 0 xs ++ rest
  unfolding slots_of slots_in
  slots_are =
      let n = length xs in
      let c : slot_count (records_in l) ≡ m = many in
      let e : slot_count (records_in l) ≡ n + (m - n) = omega (arith, c, h.fits) in
      ap (slots_from (records_in l) 0) e ∙ slots_split (records_in l) 0 n (m - n)
      ∙ ap₂ (λ (a : List Slot) (k : ℕ). a ++ slots_from (records_in l) k (m - n)) h.front (zero-add n)

  pub has_form_lem : has_form l ≡ true
  unfolding has_form
  has_form_lem =
      let n = length xs in
      both (both (ap good_settings h.settings ∙ h.good) (eq-eqb (number l 8 8) 0 h.zeros))
      (ap₂ (λ (k : ℕ) (ss : List Slot). are_placed k 0 ss) h.count slots_are ∙ placed_wholes n 0 xs rest (omega arith)
      ∙ ap (λ (k : ℕ). are_placed n k rest) (zero-add n)
      ∙ placed_blanks n (records_in l) n (m - n) (omega arith) blanks)

  pub gives_back : inputs_of l ≡ xs
  unfolding inputs_of
  gives_back =
      ap inputs_in slots_are ∙ inputs_wholes 0 xs rest
      ∙ ap (xs ++◌) (inputs_blanks (records_in l) (length xs) (m - length xs) blanks) ∙ append-nil xs

  pub not_full : is_full l ≡ false → length xs < m
  unfolding is_full
  not_full f = omega (arith, leb-false (slots_in l) (count_in l) f, many, h.count)

  pub filled : is_full l ≡ true → m ≤ length xs
  unfolding is_full
  filled f = omega (arith, leb-true (slots_in l) (count_in l) f, many, h.count)

-- ---- one input more

module _ {m : ℕ} {g : Settings} {xs : List Input} {l : List ℕ} (h : Lists m g xs l) (x : Input) (i : is_input (kind_of x) (bytes_of x) ≡ true) (room : length xs < m) where
  abbrev n : ℕ
  n = length xs

  abbrev j : List ℕ
  j = records_in l

  abbrev made : List ℕ
  made = record_bytes n (kind_of x) (bytes_of x)

  abbrev head : List ℕ
  head = put (take head_length l) 4 4 (n + 1)

  abbrev grown : List ℕ
  grown = head ++ with_slot j n made

  grown_is : added (kind_of x) (bytes_of x) l ≡ grown
  unfolding added
  grown_is = ap (λ (k : ℕ). put (take head_length l) 4 4 (k + 1) ++ with_slot j k (record_bytes k (kind_of x) (bytes_of x))) h.count

  length_front : length (take head_length l) ≡ head_length
  length_front = length-take-le head_length l (omega (arith, h.long))

  length_head : length head ≡ head_length
  length_head = length_put (take head_length l) 4 4 (n + 1) ∙ length_front

  made_long : length made ≡ slot_length
  made_long = length_record n (kind_of x) (bytes_of x) (input_fits (kind_of x) (bytes_of x) i).1

  within_slots : n < slot_count j
  unfolding slots_in
  within_slots = let e : slot_count j ≡ m = many h in omega (arith, room)

  records_are : records_in grown ≡ with_slot j n made
  records_are = drop_at head (with_slot j n made) head_length length_head

  -- a number of the head, read before and after
  in_head : (at w : ℕ) → at + w ≤ head_length → number grown at w ≡ number head at w
  in_head at w f = number_append_left head (with_slot j n made) at w (omega (arith, length_head))

  was_head : (at w : ℕ) → at + w ≤ head_length → number (take head_length l) at w ≡ number l at w
  was_head at w f = number_take l head_length at w f

  before_count : (at w : ℕ) → at + w ≤ 4 → number grown at w ≡ number l at w
  before_count at w f = in_head at w (omega arith) ∙ number_put_after (take head_length l) 4 4 (n + 1) at w f ∙ was_head at w (omega arith)

  -- the slots before it, and those behind it
  front_more : slots_from (records_in grown) 0 (length (xs ++ x ∷ [])) ≡ wholes 0 (xs ++ x ∷ [])
  unfolding slots_from
  front_more =
      let w = with_slot j n made in
      let small : n < 2 ^ 32 = omega (arith, room, h.few) in
      let e : length (xs ++ x ∷ []) ≡ n + 1 = length-append xs (x ∷ []) in
      let here : judged (slot_at w n) ≡ whole n (kind_of x) (bytes_of x) =
      ap judged (slot_here j n made within_slots made_long) ∙ reads_back n (kind_of x) (bytes_of x) (input_fits (kind_of x) (bytes_of x) i).1 i small in
      let before : slots_from w 0 n ≡ wholes 0 xs =
      slots_same w j 0 n (λ k a b. slot_before j n made within_slots made_long k (omega arith)) ∙ h.front in
      ap₂ (λ (a : List ℕ) (k : ℕ). slots_from a 0 k) records_are e ∙ slots_split w 0 n 1
      ∙ ap₂ (λ (a : List Slot) (k : ℕ). a ++ slots_from w k 1) before (zero-add n)
      ∙ ap (λ (s : Slot). wholes 0 xs ++ s ∷ []) here
      ∙ ap (λ (k : ℕ). wholes 0 xs ++ whole k (kind_of x) (bytes_of x) ∷ []) (sym (zero-add n)) ∙ sym (wholes_more 0 xs x)

  back_more : (p : ℕ) → length (xs ++ x ∷ []) ≤ p → p < m → judged (slot_at (records_in grown) p) ≡ blank
  back_more p u v =
      let e : length (xs ++ x ∷ []) ≡ n + 1 = length-append xs (x ∷ []) in
      ap (λ (a : List ℕ). judged (slot_at a p)) records_are ∙ ap judged (slot_behind j n made within_slots made_long p (omega arith)) ∙ h.back p (omega arith) v

  grown_lists : Lists m g (xs ++ x ∷ []) grown
  unfolding settings_in count_in
  grown_lists =
      let e : length (xs ++ x ∷ []) ≡ n + 1 = length-append xs (x ∷ []) in
      record {
        some = h.some;
        few = h.few;
        long = omega (arith, length-append head (with_slot j n made), length_head, length_with j n made within_slots made_long, length-drop head_length l, h.long);
        good = h.good;
        settings =
            ap₂ (λ (a b : ℕ). record { n = a; D = b; own = number grown 3 1; size = small }) (before_count 0 1 (lit≤ tt)) (before_count 1 2 (lit≤ tt))
            ∙ ap (λ (a : ℕ). record { n = number l 0 1; D = number l 1 2; own = a; size = small }) (before_count 3 1 (lit≤ tt)) ∙ h.settings;
        zeros = in_head 8 8 (lit≤ tt) ∙ number_put_before (take head_length l) 4 4 (n + 1) 8 8 (lit≤ tt) ∙ was_head 8 8 (lit≤ tt) ∙ h.zeros;
        count = in_head 4 4 (lit≤ tt) ∙ number_put_same (take head_length l) 4 4 (n + 1) (omega (arith, length_front)) (omega (arith, room, h.few)) ∙ sym e;
        fits = omega (arith, e, room);
        front = front_more;
        back = back_more;
      }

  pub lists_more : Lists m g (xs ++ x ∷ []) (added (kind_of x) (bytes_of x) l)
  lists_more = rw grown_is grown_lists

-- ---- a fresh list

zero_at : (a i : ℕ) → ◌≡◌ {A = ℕ} (get_or (replicate a 0) i 0) 0
zero_at zero i = refl
zero_at (suc a) zero = refl
zero_at (suc a) (suc i) = zero_at a i

number_zeros : (a at w : ℕ) → number (replicate a 0) at w ≡ 0
unfolding number
number_zeros a at zero = refl
number_zeros a at (suc w) = omega (arith, number_zeros a at w, zero_at a (at + w))

number_unbe : (w v : ℕ) → v < 256 ^ w → number (unbe w v) 0 w ≡ v
number_unbe w v f = ap (number (unbe w v) 0) (sym (length_unbe w v)) ∙ sym (be_number (unbe w v)) ∙ be_unbe w v f

module _ (g : Settings) (good : good_settings g ≡ true) (s : g.size ≡ small) (l : List ℕ) (proper : has_length l ≡ true) where
  abbrev made_list : List ℕ
  made_list = fresh_list g (length l)

  abbrev tail : List ℕ
  tail = replicate (length l - 4) 0

  abbrev third : List ℕ
  third = unbe 1 g.own ++ tail

  abbrev second : List ℕ
  second = unbe 2 g.D ++ third

  length_made : length made_list ≡ length l
  unfolding fresh_list
  length_made = omega (arith, length-append (unbe 1 g.n) second, length-append (unbe 2 g.D) third, length-append (unbe 1 g.own) tail, length_unbe 1 g.n, length_unbe 2 g.D, length_unbe 1 g.own, length_tail, (lengths l proper).0)
    where
      length_tail : length tail ≡ length l - 4
      length_tail = length-replicate (length l - 4) 0

  -- behind the settings all is zero
  zero_behind : (at w : ℕ) → 4 ≤ at → number made_list at w ≡ 0
  unfolding fresh_list
  zero_behind at w h =
      let a = length_unbe 1 g.n in
      let b = length_unbe 2 g.D in
      let c = length_unbe 1 g.own in
      let p : at ≡ length (unbe 1 g.n) + (at - 1) = omega arith in
      let q : at - 1 ≡ length (unbe 2 g.D) + (at - 3) = omega arith in
      let r : at - 3 ≡ length (unbe 1 g.own) + (at - 4) = omega arith in
      ap (λ (k : ℕ). number made_list k w) p ∙ number_append_right (unbe 1 g.n) second (at - 1) w
      ∙ ap (λ (k : ℕ). number second k w) q ∙ number_append_right (unbe 2 g.D) third (at - 3) w
      ∙ ap (λ (k : ℕ). number third k w) r ∙ number_append_right (unbe 1 g.own) tail (at - 4) w ∙ number_zeros (length l - 4) (at - 4) w

  settings_back : settings_in made_list ≡ g
  unfolding settings_in fresh_list unbe
  settings_back =
      let f = settings_fit g good in
      let a : number made_list 0 1 ≡ g.n = number_append_left (unbe 1 g.n) second 0 1 (lit≤ tt) ∙ number_unbe 1 g.n (omega (arith, f.0)) in
      let b : number made_list 1 2 ≡ g.D = number_append_right (unbe 1 g.n) second 0 2 ∙ number_append_left (unbe 2 g.D) third 0 2 (lit≤ tt) ∙ number_unbe 2 g.D (omega (arith, f.1)) in
      let c : number made_list 3 1 ≡ g.own =
      number_append_right (unbe 1 g.n) second 2 1 ∙ number_append_right (unbe 2 g.D) third 0 1 ∙ number_append_left (unbe 1 g.own) tail 0 1 (lit≤ tt)
      ∙ number_unbe 1 g.own (omega (arith, f.2)) in
      (λ k. record { n = a k; D = b k; own = c k; size = sym s k })

  blank_at : (p : ℕ) → is_blank (slot_at (records_in made_list) p) ≡ true
  unfolding is_blank slot_at
  blank_at p =
      eq-eqb (number (slot_at (records_in made_list) p) 0 slot_length) 0
      (number_piece (records_in made_list) (p * slot_length) slot_length ∙ number_drop made_list head_length (p * slot_length) slot_length
      ∙ zero_behind (head_length + p * slot_length) slot_length (omega arith))

  pub fresh_lists : Lists (slots_in l) g [] made_list
  unfolding count_in slots_from wholes
  fresh_lists =
      record {
        some = (lengths l proper).1;
        few = (lengths l proper).2;
        long = length_made ∙ (lengths l proper).0;
        good = good;
        settings = settings_back;
        zeros = zero_behind 8 8 (lit≤ tt);
        count = zero_behind 4 4 (lit≤ tt);
        fits = omega arith;
        front = refl;
        back = λ p u v. judged_blank (slot_at (records_in made_list) p) (blank_at p);
      }
