-- What is told of the lowest logged names, name by name. Assumes nothing.
use Prim.Native.Nat.{ℕ, zero, suc, ◌+◌, ◌-◌, ◌<◌}
use mathlib.Core.Path.{◌≡◌, refl, sym, ap, ◌∙◌}
use mathlib.Core.Bool.{Bool, true, false, ◌&&◌, false≢true}
use mathlib.Core.List.{List}
use native.Mathlib.Omega.{arith}
use native.Mathlib.Decide.{ℕ_discrete, dec_lt}
use lib.Dec.{eqb}
use lib.ListN.{length, set, replicate, length-set, length-replicate}
use lib.Seq.{get_or-set_same, get_or-set_other}
use borrow.Author.Tests.{eqb-true}
use Rattle.rules.specs.Limits.{most_statements_large}
use Rattle.laws.proofs.Tests.{and_left, and_right}
use Rattle.laws.proofs.Searches.{first_any}
use Rattle.store.specs.Layout.{statement_table, log_table, count_of}
use Rattle.store.specs.Decode.{nth, statement_at}
use Rattle.chains.specs.Chains.{places}
use Rattle.linked.specs.Told.{name_below, Told}
use Rattle.linked.specs.Links.{sought_at, Foremosts, Settling, Lowest}
use Rattle.linked.proofs.Heights.{place_left_lem, block_is}

zeros : (n k : ℕ) → nth (replicate n 0) k ≡ 0
zeros zero k = refl
zeros (suc n) zero = refl
zeros (suc n) (suc k) = zeros n k

module _ {b t : List ℕ} where
  -- nothing is told yet
  lowest_none : t ≡ replicate most_statements_large 0 → Lowest b 0 t
  lowest_none e =
      let none : (k : ℕ) → nth t k ≡ 0 = λ k. ap (λ (u : List ℕ). nth u k) e ∙ zeros most_statements_large k in
      record {
        long = ap length e ∙ length-replicate {A = ℕ} most_statements_large 0;
        settles = λ k p q. absurd (omega (arith, none k, q));
        below = λ k l. absurd (omega arith);
        above = λ k l. none k;
      }

  -- one name more
  lowest_more : {i v : ℕ} → Lowest b i t → i < most_statements_large → (v ≡ 0 → ⊥) → Settling b i v → Lowest b (i + 1) (set t i v)
  lowest_more {i} {v} h l d s =
      let same : nth (set t i v) i ≡ v = get_or-set_same t i v 0 (omega (arith, h.long)) in
      record {
        long = length-set t i v ∙ h.long;
        settles = λ k p q.
            elim (ℕ_discrete k i) [
              | yes e ↦ rw e (s p (sym same ∙ rw e at q))
              | no e ↦ h.settles k p (sym (get_or-set_other t i k v 0 e) ∙ q)
            ];
        below = λ k g.
            elim (ℕ_discrete k i) [
              | yes e ↦ rw (e, same) (omega arith)
              | no e ↦ rw (get_or-set_other t i k v 0 e) (h.below k (omega arith))
            ];
        above = λ k g. get_or-set_other t i k v 0 (λ e. omega arith) ∙ h.above k (omega arith);
      }

  lowest_told : {i : ℕ} → Lowest b i t → Told b t
  lowest_told {i} h =
      record {
        long = h.long;
        settles = h.settles;
        lowest = λ j k l g. elim (dec_lt j i) [ yes m ↦ h.below j m | no m ↦ absurd (omega (arith, h.above k (omega arith))) ];
      }

-- the first stored propose of a logged name settles it, where it is also the first above the name below
module _ (b : List ℕ) (n k place : ℕ) where
  abbrev rest : ℕ
  rest = n - place

  settles_by : k < count_of log_table b → n ≡ count_of statement_table b → place < n → {is_first : Bool} → Foremosts b k n rest is_first → is_first ≡ true → Settling b k (place + 1)
  settles_by logged e l found t p w =
      let g : 0 < rest = omega (arith, l) in
      let is : n - rest ≡ p = omega (arith, l, w) in
      let within = found.above.within in
      let passes = (first_any (sought_at b k false) (places 0 n) (n - rest) (found.above.is ∙ sym (place_left_lem n rest g))).1 in
      rw (← is)
      record {
        logged = logged;
        stored = omega (arith, e);
        is_first = block_is b n k rest e (found.any t) g;
        parent = eqb-true _ _ (and_left (eqb (statement_at b (n - rest)).link (name_below b k)) _ passes);
      }

-- what is told so far: of every name below, where the telling goes on
pub record SoFar (b : List ℕ) (k : ℕ) (t : List ℕ) (on : Bool) : Type 0 where
  pub told : Told b t
  pub lowest : on ≡ true → Lowest b k t

pub so_far_none : {b t : List ℕ} → t ≡ replicate most_statements_large 0 → SoFar b 0 t true
so_far_none e = record { told = lowest_told (lowest_none e); lowest = λ h. lowest_none e }

module _ {b t : List ℕ} {k : ℕ} {on : Bool} (h : SoFar b k t on) (is_first : Bool) where
  pub so_far_less : (on && is_first) ≡ false → SoFar b (k + 1) t (on && is_first)
  so_far_less off = record { told = h.told; lowest = λ u. absurd (false≢true (sym off ∙ u)) }

  pub so_far_more : (on && is_first) ≡ true → {n place : ℕ} → k < count_of log_table b → k < most_statements_large → n ≡ count_of statement_table b → place < n → Foremosts b k n (n - place) is_first
      → SoFar b (k + 1) (set t k (place + 1)) (on && is_first)
  so_far_more go {n} {place} logged few e l found =
      let more = lowest_more (h.lowest (and_left on is_first go)) few (λ z. omega (arith, z)) (settles_by b n k place logged e l found (and_right on is_first go)) in
      record { told = lowest_told more; lowest = λ u. more }
