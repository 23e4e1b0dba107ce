-- What hex digits say: names and bytes. Assumes nothing.
use Prim.Native.Nat.{ℕ, zero, suc, ◌+◌, ◌-◌, ◌*◌, ◌/◌, ◌^◌, ◌<◌, ◌≤◌}
use mathlib.Core.Path.{◌≡◌, refl, sym, ap, ap₂, ◌∙◌}
use mathlib.Core.Bool.{Bool, true, false, ◌&&◌, ◌||◌, and-false}
use mathlib.Core.List.{List, [], ◌∷◌}
use mathlib.Core.Option.{none, some}
use native.Mathlib.Omega.{arith}
use native.Mathlib.Nat.{sub-zero, zero-sub, suc-sub-suc}
use native.Mathlib.Numerals.{add-one}
use lib.ListN.{length, take, drop, get_or, set, take-append-drop, length-drop}
use lib.Seq.{take-nil, take-take, take_all, length-take-le}
use lib.Dec.{leb}
use borrow.Author.Tests.{le-leb, lt-leb, leb-true, leb-false}
use Rattle.std.specs.List.{list_all}
use Rattle.std.specs.Char.{is_ascii_hexdigit}
use Rattle.rules.specs.Lists.{within, all}
use Rattle.laws.proofs.Tests.{by_bool}
use Rattle.outgoing.specs.Wrote.{wrote}
use Rattle.fields.specs.declared.Name.{Name}
use Rattle.fields.specs.Names.{name_of}
use Rattle.text.specs.Words.{is_decimal, is_hex, digit, value, pairs, is_name, name}
use Rattle.text.proofs.Runs.{drop_step}
use Rattle.numbers.proofs.Digits.{value_append, value_front}

-- ---- digits

or_last : (a b : Bool) → (a || true || b) ≡ (a || b || true)
or_last true b = refl
or_last false true = refl
or_last false false = refl

or_false : (a b : Bool) → (a || false || b) ≡ (a || b || false)
or_false true b = refl
or_false false true = refl
or_false false false = refl

-- the library's test of a digit is the script's
hex_digit : (b : ℕ) → is_ascii_hexdigit b ≡ is_hex b
unfolding is_hex is_decimal within
hex_digit b =
    by_bool (leb 65 b && leb b 70) (λ e. rw e (or_last (leb 48 b && leb b 57) (leb 97 b && leb b 102))) (λ e. rw e (or_false (leb 48 b && leb b 57) (leb 97 b && leb b 102)))

pub hex_digits : (w : List ℕ) → list_all is_ascii_hexdigit w ≡ all is_hex w
unfolding all
hex_digits [] = refl
hex_digits (b ∷ w) = ap₂ ◌&&◌ (hex_digit b) (hex_digits w)

-- ---- names

drop_take : (b a : ℕ) (w : List ℕ) → drop b (take a w) ≡ take (a - b) (drop b w)
drop_take zero a w = rw sub-zero
drop_take (suc b) zero w = rw zero-sub
drop_take (suc b) (suc a) [] = rw take-nil
drop_take (suc b) (suc a) (x ∷ w) = rw suc-sub-suc (drop_take b a w)

-- the last 16 digits are the last word
value_last : (w : List ℕ) → value 16 0 w ≡ value 16 0 (take (length w - 16) w) * 2 ^ 64 + value 16 0 (drop (length w - 16) w)
unfolding value
value_last w =
    let k = length w - 16 in
    let whole : value 16 0 w ≡ value 16 0 (take k w) * 16 ^ length (drop k w) + value 16 0 (drop k w) =
    ap (value 16 0) (sym (take-append-drop k w)) ∙ value_append 16 0 (take k w) (drop k w) ∙ value_front 16 (value 16 0 (take k w)) (drop k w) in
    by_bool (leb 16 (length w))
    (λ q. let e : length (drop k w) ≡ 16 = length-drop k w ∙ omega (arith, leb-true 16 (length w) q) in rw e at whole)
    (λ q. let e : k ≡ 0 = omega (arith, leb-false 16 (length w) q) in rw e (omega arith))

-- a name of up to 64 digits by its four words, each a part of the digits
pub name_words : (w : List ℕ) (n : Name) (a b c : ℕ) → length w ≤ 64 → a ≡ length w - 16 → b ≡ a - 16 → c ≡ b - 16
    → n.first ≡ value 16 0 (take c w) → n.second ≡ value 16 0 (take (b - c) (drop c w)) → n.third ≡ value 16 0 (take (a - b) (drop b w))
    → n.fourth ≡ value 16 0 (take (length w - a) (drop a w)) → name_of n ≡ value 16 0 w
unfolding name_of
name_words w n a b c h ea eb ec e1 e2 e3 e4 =
    let v = value 16 0 in
    let la : length (take a w) ≡ a = length-take-le a w (omega arith) in
    let lb : length (take b w) ≡ b = length-take-le b w (omega arith) in
    let s4 : v w ≡ v (take a w) * 2 ^ 64 + n.fourth =
    value_last w ∙ rw (← ea) (ap (λ (x : ℕ). v (take a w) * 2 ^ 64 + x) (ap v (sym (take_all (length w - a) (drop a w) (simp length-drop (omega arith)))) ∙ sym e4)) in
    let s3 : v (take a w) ≡ v (take b w) * 2 ^ 64 + n.third =
    value_last (take a w) ∙ rw (la, ← eb) (ap₂ (λ (x y : ℕ). x * 2 ^ 64 + y) (ap v (take-take b a w (omega arith))) (ap v (drop_take b a w) ∙ sym e3)) in
    let s2 : v (take b w) ≡ v (take c w) * 2 ^ 64 + n.second =
    value_last (take b w) ∙ rw (lb, ← ec) (ap₂ (λ (x y : ℕ). x * 2 ^ 64 + y) (ap v (take-take c b w (omega arith))) (ap v (drop_take c b w) ∙ sym e2)) in
    let s1 : v (take c w) ≡ n.first = sym e1 in
    sym (s4 ∙ ap (λ (x : ℕ). x * 2 ^ 64 + n.fourth) (s3 ∙ ap (λ (x : ℕ). x * 2 ^ 64 + n.third) (s2 ∙ ap (λ (x : ℕ). x * 2 ^ 64 + n.second) s1)))

module _ (w : List ℕ) where
  name_none : is_name w ≡ false → name w ≡ none
  unfolding name
  name_none e = rw (e, name)

  pub name_empty : length w ≡ 0 → name w ≡ none
  unfolding is_name within
  name_empty h = name_none (rw (lt-leb 1 (length w) (omega arith)))

  pub name_long : 64 < length w → name w ≡ none
  unfolding is_name within
  name_long h = name_none (rw (lt-leb (length w) 64 h) (ap (◌&& all is_hex w) (and-false (leb 1 (length w)))))

  pub name_other : all is_hex w ≡ false → name w ≡ none
  unfolding is_name
  name_other e = name_none (rw e (and-false (within 1 64 (length w))))

  pub name_is : (length w ≡ 0 → ⊥) → length w ≤ 64 → all is_hex w ≡ true → name w ≡ some (value 16 0 w)
  unfolding name is_name within
  name_is n h e =
      let q : is_name w ≡ true = rw (le-leb 1 (length w) (omega arith), le-leb (length w) 64 h, e) in rw (q, name)

-- ---- bytes

pairs_short : (t : List ℕ) → length t ≤ 1 → pairs t ≡ []
unfolding pairs
pairs_short [] h = refl
pairs_short (a ∷ []) h = refl
pairs_short (a ∷ b ∷ t) h = absurd (omega arith)

module _ (w : List ℕ) (i : ℕ) where
  pub pairs_step : 2 * i + 1 < length w → pairs (drop (2 * i) w) ≡ (digit (get_or w (2 * i) 0) * 16 + digit (get_or w (2 * i + 1) 0)) ∷ pairs (drop (2 * (i + 1)) w)
  unfolding pairs
  pairs_step h =
      let e : 2 * (i + 1) ≡ 2 * i + 1 + 1 = omega arith in
      rw e (ap pairs (drop_step w (2 * i) 0 (omega arith) ∙ ap (get_or w (2 * i) 0 ∷◌) (drop_step w (2 * i + 1) 0 h)))

  pub pairs_end : length w ≤ 2 * i + 1 → pairs (drop (2 * i) w) ≡ []
  pairs_end h = pairs_short (drop (2 * i) w) (simp length-drop (omega arith))

pub length_pairs : (t : List ℕ) → length (pairs t) ≡ length t / 2
unfolding pairs
length_pairs [] = omega arith
length_pairs (a ∷ []) = omega arith
length_pairs (a ∷ b ∷ t) = omega (arith, length_pairs t)

pub wrote_step : (o : List ℕ) (i b : ℕ) (bs : List ℕ) → wrote o i (b ∷ bs) ≡ wrote (set o i b) (i + 1) bs
unfolding wrote
wrote_step o i b bs = rw add-one

pub wrote_further : (o : List ℕ) (at i b : ℕ) (bs : List ℕ) → wrote o (at + i) (b ∷ bs) ≡ wrote (set o (at + i) b) (at + (i + 1)) bs
wrote_further o at i b bs = wrote_step o (at + i) b bs ∙ ap (λ (k : ℕ). wrote (set o (at + i) b) k bs) (let e : at + i + 1 ≡ at + (i + 1) = omega arith in e)
