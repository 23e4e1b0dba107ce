-- Runs, words and comparisons, as a loop upward meets them: what is left is the whole. Assumes nothing.
use Prim.Native.Nat.{ℕ, suc, ◌+◌, ◌-◌, ◌<◌, ◌≤◌}
use mathlib.Core.Path.{◌≡◌, refl, sym, ap, ◌∙◌}
use mathlib.Core.Bool.{Bool, true, false, ◌&&◌}
use mathlib.Core.List.{List, [], ◌∷◌, ◌++◌, append_assoc, append-nil}
use native.Mathlib.Omega.{arith}
use native.Mathlib.Numerals.{add-one}
use lib.ListN.{length, take, drop, get_or, length-drop, drop_of_length-le}
use lib.Seq.{drop-cons, drop-drop, take-suc, get_or-drop, length-take-le}
use lib.Dec.{eqb}
use borrow.Author.Tests.{ne_eqb, eq-eqb}
use Rattle.std.specs.List.{list_all}
use lib.Pointwise.{pointwise}
use Rattle.rules.specs.Lists.{all}
use Rattle.rules.specs.Script.{same_list}
use Rattle.laws.proofs.Tests.{by_bool, no_bool}
use Rattle.text.specs.Words.{front, behind, word, rest, no_word, is_space, in_word}
use Rattle.text.specs.Places.{Runs, WordOf, Lists, placed}
use Rattle.text.specs.declared.Span.{Span}

-- the element at a place and what stands behind it, as a loop counts
pub drop_step : {A : Type 0} (s : List A) (i : ℕ) (d : A) → i < length s → drop i s ≡ get_or s i d ∷ drop (i + 1) s
drop_step s i d h = rw (add-one, drop-cons s i d)

-- ---- runs

module _ (p : ℕ → Bool) (t : List ℕ) where
  -- so far every byte was passed over
  pub record Ran (n : ℕ) : Type 0 where
    pub taken : front p t ≡ take n t ++ front p (drop n t)
    pub left : behind p t ≡ behind p (drop n t)

  pub ran_none : Ran 0
  ran_none = record { taken = refl; left = refl }

  pub ran_more : (n : ℕ) → n < length t → p (get_or t n 0) ≡ true → Ran n → Ran (suc n)
  unfolding front behind
  ran_more n h e r =
      record {
        taken =
            r.taken ∙ ap (λ (l : List ℕ). take n t ++ front p l) (drop-cons t n 0 h) ∙ ap (take n t ++◌) (rw (e, front))
            ∙ sym (append_assoc (take n t) (get_or t n 0 ∷ []) (front p (drop (suc n) t))) ∙ ap (◌++ front p (drop (suc n) t)) (sym (take-suc t n 0 h));
        left = r.left ∙ ap (behind p) (drop-cons t n 0 h) ∙ rw (e, behind);
      }

  pub record Stopped (n : ℕ) : Type 0 where
    pub is : take n t ≡ front p t
    pub after : drop n t ≡ behind p t

  stopped : (n : ℕ) → front p (drop n t) ≡ [] → behind p (drop n t) ≡ drop n t → Ran n → Stopped n
  stopped n f b r =
      record { is = sym (r.taken ∙ ap (take n t ++◌) f ∙ append-nil (take n t)); after = sym (r.left ∙ b) }

  pub ran_stop : (n : ℕ) → n < length t → p (get_or t n 0) ≡ false → Ran n → Stopped n
  unfolding front behind
  ran_stop n h e r =
      stopped n (ap (front p) (drop-cons t n 0 h) ∙ rw (e, front)) (ap (behind p) (drop-cons t n 0 h) ∙ rw (e, behind) (sym (drop-cons t n 0 h))) r

  pub ran_end : (n : ℕ) → length t ≤ n → Ran n → Stopped n
  unfolding front behind
  ran_end n h r =
      let e = drop_of_length-le t h in stopped n (ap (front p) e) (ap (behind p) e ∙ sym e) r

-- the same at a place of a line
module _ (p : ℕ → Bool) (s : List ℕ) (from i : ℕ) (l : from ≤ i) where
  abbrev pub RanTo : Type 0
  RanTo = Ran p (drop from s) (i - from)

  from_to : from + (i - from) ≡ i
  from_to = omega arith

  at_place : get_or (drop from s) (i - from) 0 ≡ get_or s i 0
  at_place = get_or-drop from s (i - from) 0 ∙ ap (λ (k : ℕ). get_or s k 0) from_to

  runs : i ≤ length s → Stopped p (drop from s) (i - from) → Runs p s from i
  runs h r =
      record { low = l; high = h; is = r.is; after = ap (λ (k : ℕ). drop k s) (sym from_to) ∙ sym (drop-drop (i - from) from s) ∙ r.after }

  pub run_more : i < length s → p (get_or s i 0) ≡ true → RanTo → Ran p (drop from s) (i + 1 - from)
  run_more h e r =
      let n : suc (i - from) ≡ i + 1 - from = omega arith in
      rw n at (ran_more p (drop from s) (i - from) (simp length-drop (omega arith)) (ap p at_place ∙ e) r)

  pub run_stop : i < length s → p (get_or s i 0) ≡ false → RanTo → Runs p s from i
  run_stop h e r =
      runs (omega arith) (ran_stop p (drop from s) (i - from) (simp length-drop (omega arith)) (ap p at_place ∙ e) r)

  pub run_end : i ≤ length s → length s ≤ i → RanTo → Runs p s from i
  run_end h k r = runs h (ran_end p (drop from s) (i - from) (simp length-drop (omega arith)) r)

pub run_none : (p : ℕ → Bool) (s : List ℕ) (from : ℕ) → Ran p (drop from s) (from - from)
run_none p s from =
    let e : 0 ≡ from - from = omega arith in rw e at (ran_none p (drop from s))

-- ---- words

pub word_runs : (s : List ℕ) (from : ℕ) (w : Span) → Runs is_space s from w.start → Runs in_word s w.start w.end → WordOf s (drop from s) w
unfolding word rest
word_runs s from w a b =
    record { low = b.low; high = b.high; is = b.is ∙ ap (front in_word) a.after; after = b.after ∙ ap (behind in_word) a.after }

module _ {s t : List ℕ} {w : Span} (r : WordOf s t w) where
  pub word_length : length (word t) ≡ w.end - w.start
  word_length =
      ap length (sym r.is) ∙ length-take-le (w.end - w.start) (drop w.start s) (simp length-drop (omega (arith, r.low, r.high)))

  pub word_none : w.start ≡ w.end → no_word t ≡ true
  unfolding no_word
  word_none e = eq-eqb (length (word t)) 0 (omega (arith, word_length, e))

  pub word_some : (w.start ≡ w.end → ⊥) → no_word t ≡ false
  unfolding no_word
  word_some n = ne_eqb (length (word t)) 0 (λ e. n (omega (arith, word_length, e, r.low)))

-- a word and what stands behind it are no longer than the whole
lengths : (p : ℕ → Bool) (t : List ℕ) → length (front p t) + length (behind p t) ≡ length t
unfolding front behind
lengths p [] = refl
lengths p (b ∷ t) =
    by_bool (p b) (λ e. rw (e, front, behind) (omega (arith, lengths p t))) (λ e. rw (e, front, behind) (omega arith))

pub word_shorter : (t : List ℕ) → length (word t) ≤ length t
unfolding word
word_shorter t = omega (arith, lengths in_word (behind is_space t), lengths is_space t)

pub rest_shorter : (t : List ℕ) → length (rest t) ≤ length t
unfolding rest
rest_shorter t = omega (arith, lengths in_word (behind is_space t), lengths is_space t)

pub word_after : (s : List ℕ) (at : ℕ) (w : Span) → at ≤ length s → WordOf s (drop at s) w → at ≤ w.start
unfolding word rest
word_after s at w h r =
    let t = behind is_space (drop at s) in
    omega (arith, r.low, r.high, word_length r, lengths in_word t, lengths is_space (drop at s), length-drop at s, length-drop w.end s, ap length r.after)

-- ---- comparisons

-- the library's equality of bytes, and its test of each byte, are the rules'
pub same_is : (a b : List ℕ) → pointwise eqb a b ≡ same_list a b
unfolding same_list
same_is [] [] = refl
same_is [] (y ∷ b) = refl
same_is (x ∷ a) [] = refl
same_is (x ∷ a) (y ∷ b) = ap (eqb x y &&◌) (same_is a b)

pub all_is : (p : ℕ → Bool) (s : List ℕ) → list_all p s ≡ all p s
unfolding all
all_is p [] = refl
all_is p (x ∷ s) = ap (p x &&◌) (all_is p s)

module _ (p : ℕ → Bool) (s : List ℕ) (i : ℕ) where
  pub all_end : length s ≤ i → all p (drop i s) ≡ true
  unfolding all
  all_end h = ap (all p) (drop_of_length-le s h)

  pub all_here : i < length s → p (get_or s i 0) ≡ false → all p (drop i s) ≡ false
  unfolding all
  all_here h e = ap (all p) (drop_step s i 0 h) ∙ rw e

  pub all_next : i < length s → p (get_or s i 0) ≡ true → all p (drop i s) ≡ all p (drop (i + 1) s)
  unfolding all
  all_next h e = ap (all p) (drop_step s i 0 h) ∙ rw e

-- ---- the words of a list

module _ (s : List ℕ) (w : List ℕ) where
  placed_end : (k : ℕ) (vs : List (List ℕ)) → Lists vs s → no_word s ≡ true → placed k vs w ≡ 0
  unfolding placed
  placed_end k [] l e = refl
  placed_end k (v ∷ vs) l e = no_bool (sym e ∙ l.1)

  placed_here : (k : ℕ) (vs : List (List ℕ)) → Lists vs s → no_word s ≡ false → same_list (word s) w ≡ true → placed k vs w ≡ k
  unfolding placed
  placed_here k [] l e f = no_bool (sym l ∙ e)
  placed_here k (v ∷ vs) l e f = let g : same_list v w ≡ true = rw l.0 at f in rw (g, placed)

  placed_next : (k : ℕ) (vs : List (List ℕ)) → Lists vs s → no_word s ≡ false → same_list (word s) w ≡ false
      → Lists (drop 1 vs) (rest s) × (placed k vs w ≡ placed (suc k) (drop 1 vs) w)
  unfolding placed
  placed_next k [] l e f = no_bool (sym l ∙ e)
  placed_next k (v ∷ vs) l e f = let g : same_list v w ≡ false = rw l.0 at f in (l.2, rw (g, placed))

-- k words of the list are passed, and none was w
pub record Passed (ws : List (List ℕ)) (s w : List ℕ) (at k : ℕ) : Type 0 where
  pub left : Lists (drop k ws) (drop at s)
  pub is : placed 1 ws w ≡ placed (suc k) (drop k ws) w

module _ {s w : List ℕ} {at k : ℕ} {x : Span} (r : WordOf s (drop at s) x) {ws : List (List ℕ)} (p : Passed ws s w at k) where
  pub passed_end : x.start ≡ x.end → 0 ≡ placed 1 ws w
  passed_end e = sym (p.is ∙ placed_end (drop at s) w (suc k) (drop k ws) p.left (word_none r e))

  module _ (n : x.start ≡ x.end → ⊥) where
    pub passed_here : same_list (take (x.end - x.start) (drop x.start s)) w ≡ true → k + 1 ≡ placed 1 ws w
    passed_here e =
        sym (p.is ∙ placed_here (drop at s) w (suc k) (drop k ws) p.left (word_some r n) (rw r.is at e) ∙ sym (add-one k))

    pub passed_next : same_list (take (x.end - x.start) (drop x.start s)) w ≡ false → Passed ws s w x.end (k + 1)
    passed_next e =
        let f = placed_next (drop at s) w (suc k) (drop k ws) p.left (word_some r n) (rw r.is at e) in
        let d : drop 1 (drop k ws) ≡ drop (k + 1) ws = drop-drop 1 k ws in
        record {
          left = rw (d, ← r.after) at f.0;
          is = rw add-one (p.is ∙ rw (d, add-one) at f.1);
        }
