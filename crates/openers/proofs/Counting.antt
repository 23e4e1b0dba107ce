-- Openers counted all at once are the tallies that each author opened. Assumes nothing.
use Prim.Native.Nat.{ℕ, zero, suc, ◌+◌, ◌-◌, ◌<◌, ◌≤◌}
use mathlib.Core.Path.{◌≡◌, refl, sym, ap, ◌∙◌}
use mathlib.Core.Bool.{Bool, ◌&&◌, and_comm}
use mathlib.Core.List.{List, [], ◌∷◌}
use native.Mathlib.Omega.{arith}
use native.Mathlib.Nat.{sub-zero}
use native.Mathlib.Numerals.{add-one}
use native.Mathlib.Decide.{ℕ_discrete}
use lib.Dec.{leb, eqb}
use lib.ListN.{length, set, replicate, get_or-replicate}
use lib.Seq.{get_or-set_same, get_or-set_other}
use borrow.Author.Tests.{eq-eqb, ne_eqb}
use Rattle.rules.specs.Lists.{keep}
use Rattle.rules.specs.Words.{Tally, opened_by}
use Rattle.rules.specs.Limits.{most_opened}
use Rattle.rules.specs.WellFormed.{few_opened}
use Rattle.laws.proofs.Tests.{by_bool}
use Rattle.store.specs.Layout.{size_in, tally_table, count_of, place_of}
use Rattle.store.specs.Decode.{rows, nth, tally_at, opener_at, opener_for, tallies}
use Rattle.fields.specs.Places.{Bytes}
use Rattle.fields.proofs.Laws.{number_lt}
use Rattle.store.proofs.Rows.{rows_from, rows_length}
use Rattle.store.proofs.Values.{opener_is}
use Rattle.openers.specs.Counted.{times, Counted}

pub opener_small : (b : List ℕ) → Bytes b → (i : ℕ) → opener_at b i < 256
unfolding opener_for
opener_small b h i = number_lt b h (place_of tally_table (size_in b) i + 42) 1

-- no more than there are
times_most : (k : ℕ) (ms : List ℕ) → times k ms ≤ length ms
unfolding times keep
times_most k [] = omega arith
times_most k (m ∷ ms) = let h = times_most k ms in by_bool (eqb k m) (λ q. rw (q, keep) (omega arith)) (λ q. rw (q, keep) (omega arith))

times_here : (k : ℕ) (ms : List ℕ) → times k (k ∷ ms) ≡ times k ms + 1
unfolding times keep
times_here k ms = rw (eq-eqb k k refl, keep) (omega arith)

times_other : (k m : ℕ) (ms : List ℕ) → (k ≡ m → ⊥) → times k (m ∷ ms) ≡ times k ms
unfolding times keep
times_other k m ms d = rw (ne_eqb k m d, keep)

-- by authors
pub times_author : (b : List ℕ) (a i n : ℕ) → times (suc a) (rows (opener_at b) i n) ≡ opened_by a (rows (tally_at b) i n)
unfolding times opened_by keep rows
times_author b a i zero = refl
times_author b a i (suc n) =
    let h = times_author b a (suc i) n in
    let e = opener_is (size_in b) b a i in
    by_bool (eqb (suc a) (opener_at b i)) (λ q. rw (q, keep, e ∙ q) (ap suc h)) (λ q. rw (q, keep, e ∙ q) h)

-- a count is small
pub counted_most : (b : List ℕ) (i n : ℕ) (counts : List ℕ) → Counted b i n counts → (k : ℕ) → 0 < k → k < 256 → nth counts k ≤ n
counted_most b i n counts h k z l =
    let e = h k z l in let m = times_most k (rows (opener_at b) i n) in let r = rows_length (opener_at b) i n in omega arith

-- none is counted where the count begins
pub counted_start : (b : List ℕ) (i n : ℕ) → i ≡ n → Counted b i (n - i) (replicate 256 0)
unfolding times keep rows
counted_start b i n e k s l = let z : n - i ≡ 0 = omega arith in rw z (get_or-replicate 256 k 0 0 l)

-- one tally more, below those from place i on
module _ (b : List ℕ) (i n : ℕ) (counts : List ℕ) (z : 0 < i) (l : i ≤ n) (m : ℕ) (e : m ≡ opener_at b (i - 1)) (h : Counted b i (n - i) counts) where
  one_more : rows (opener_at b) (i - 1) (n - (i - 1)) ≡ m ∷ rows (opener_at b) i (n - i)
  one_more = let q : i - 1 + 1 ≡ i = omega arith in rows_from (opener_at b) (i - 1) n (omega arith) ∙ rw (q, e)

  pub counted_more : length counts ≡ 256 → 0 < m → m < 256 → Counted b (i - 1) (n - (i - 1)) (set counts m (nth counts m + 1))
  counted_more long p f k s g =
      rw one_more
      (elim (ℕ_discrete k m) [
        | yes q ↦ rw q (get_or-set_same counts m (nth counts m + 1) 0 (omega arith) ∙ ap (◌+ 1) (h m p f) ∙ sym (times_here m _))
        | no q ↦ get_or-set_other counts m k (nth counts m + 1) 0 q ∙ h k s g ∙ sym (times_other k m _ q)
      ])

  -- or none more, where no author opened it
  pub counted_same : m ≤ 0 → Counted b (i - 1) (n - (i - 1)) counts
  counted_same p k s g = rw one_more (h k s g ∙ sym (times_other k m _ (λ q. absurd (omega arith))))

-- all are counted where it ends
pub counted_whole : (b : List ℕ) (i n : ℕ) (counts : List ℕ) → i ≤ 0 → Counted b i (n - i) counts → Counted b 0 n counts
counted_whole b i n counts l h = let e : i ≡ 0 = omega arith in rw (e, sub-zero) at h

-- an author's count
pub counted_author : (b : List ℕ) (n : ℕ) (counts : List ℕ) → Counted b 0 n counts → n ≡ count_of tally_table b → (a : ℕ) → a + 1 < 256 → nth counts (a + 1) ≡ opened_by a (tallies b)
unfolding tallies
counted_author b n counts h e a l =
    let q : a + 1 ≡ suc a = omega arith in
    rw (q, ← e) (h (suc a) (omega arith) (omega arith) ∙ times_author b a 0 n)

-- the next author
pub few_next : (ts : List Tally) (a v : ℕ) (few : Bool) → v ≡ opened_by a ts → few ≡ few_opened a ts → (few && leb v most_opened) ≡ few_opened (a + 1) ts
unfolding few_opened
few_next ts a v few e f = and_comm few (leb v most_opened) ∙ rw (e, f, add-one a)
