-- What stays to be typed, as a loop goes on. Assumes nothing.
use Rattle.std.proofs.Common.{ℕ, suc, ◌+◌, ◌/◌, ◌%◌, ◌≤◌, ◌<◌, ◌≡◌, refl, sym, ap, List, [], ◌∷◌, add-one, length, set, drop, get_or, drop-cons, arith}
use Rattle.std.proofs.Math.Seq.{drop-length}
use borrow.Author.Tests.{lt-ltb, le-ltb}
use Rattle.io.specs.Digits.{hex_digit_ascii}
use Rattle.page.specs.Page.{place, typed, pairs, in_hex}

pub place_behind : (at : ℕ) → at < 4096 → place at ≡ at
unfolding place
place_behind at h = rw (lt-ltb at 4096 h, place)

pub place_first : (at : ℕ) → 4096 ≤ at → place at ≡ 0
unfolding place
place_first at h = rw (le-ltb at 4096 h, place)

module _ (words : List ℕ) (i : ℕ) (h : i < length words) where
  -- the byte at i
  pub next_byte : (page : List ℕ) (end : ℕ) → typed page end (drop i words) ≡ typed (set page (place end) (get_or words i 0)) (place end + 1) (drop (i + 1) words)
  unfolding typed
  next_byte page end = rw (add-one i, drop-cons words i 0 h)

  -- the two digits of the byte at i
  pub next_pair :
      (page : List ℕ) (end : ℕ) (page' : List ℕ) (end' : ℕ) →
      (page', end') ≡ typed page end (hex_digit_ascii (get_or words i 0 / 16) ∷ (hex_digit_ascii (get_or words i 0 % 16) ∷ [])) →
      typed page end (pairs (drop i words)) ≡ typed page' end' (pairs (drop (i + 1) words))
  unfolding typed pairs
  next_pair page end page' end' e = rw (add-one i, drop-cons words i 0 h) (sym (ap (λ (q : List ℕ × ℕ). typed q.0 q.1 (pairs (drop (suc i) words))) e))

pub none_left : (page : List ℕ) (end : ℕ) (words : List ℕ) (i : ℕ) → length words ≤ i → i ≤ length words → typed page end (drop i words) ≡ (page, end)
unfolding typed
none_left page end words i h k = let e : i ≡ length words = omega arith in rw (e, drop-length)

pub no_pairs_left : (page : List ℕ) (end : ℕ) (words : List ℕ) (i : ℕ) → length words ≤ i → i ≤ length words → typed page end (pairs (drop i words)) ≡ (page, end)
unfolding typed pairs
no_pairs_left page end words i h k = let e : i ≡ length words = omega arith in rw (e, drop-length)

pub dash : (shown : List ℕ) → length shown ≡ 0 → in_hex shown ≡ 45 ∷ []
unfolding in_hex
dash [] e = refl
dash (x ∷ xs) e = absurd (let z : ◌≡◌ {A = ℕ} (suc (length xs)) 0 = e in omega arith)

pub shown_pairs : (shown : List ℕ) → (length shown ≡ 0 → ⊥) → in_hex shown ≡ pairs shown
unfolding in_hex
shown_pairs [] n = absurd (n refl)
shown_pairs (x ∷ xs) n = refl
