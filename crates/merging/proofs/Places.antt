-- Tables of places: the names that they stand for, and how one is copied. Assumes nothing.
use Prim.Native.Nat.{ℕ, ◌+◌, ◌<◌, ◌≤◌}
use mathlib.Core.Path.{◌≡◌, refl, sym, ap, ◌∙◌, subst}
use mathlib.Core.List.{List}
use native.Mathlib.Omega.{arith}
use native.Mathlib.Decide.{dec_lt}
use lib.ListN.{length, get_or, set}
use lib.Seq.{get_or-set_same, get_or-set_other}
use borrow.Author.Tests.{lt-ltb, le-ltb}
use Rattle.store.specs.Layout.{log_table, count_of}
use Rattle.store.specs.Decode.{statement_at, name_at}
use Rattle.glance.specs.Tables.{statement_in, name_in}
use Rattle.merging.specs.Joins.{name_so_far, Copied}

module _ (b t : List ℕ) (k : ℕ) where
  pub so_far_old : k < count_of log_table b → name_so_far b t k ≡ name_at b k
  unfolding name_so_far
  so_far_old l = rw (lt-ltb _ _ l, name_so_far)

  pub so_far_new : count_of log_table b ≤ k → name_so_far b t k ≡ name_in b t k
  unfolding name_so_far
  so_far_new l = rw (le-ltb _ _ l, name_so_far)

-- the same places stand for the same names
pub name_same : (b t t' : List ℕ) (k : ℕ) → get_or t' k 0 ≡ get_or t k 0 → name_in b t' k ≡ name_in b t k
unfolding name_in statement_in
name_same b t t' k e = ap (λ (i : ℕ). (statement_at b i).name) e

pub so_far_same : (b t t' : List ℕ) (k : ℕ) → get_or t' k 0 ≡ get_or t k 0 → name_so_far b t k ≡ name_so_far b t' k
so_far_same b t t' k e =
    elim (dec_lt k (count_of log_table b)) [
      | yes l ↦ so_far_old b t k l ∙ sym (so_far_old b t' k l)
      | no l ↦ so_far_new b t k (omega arith) ∙ sym (so_far_new b t' k (omega arith) ∙ name_same b t t' k e)
    ]

-- ---- the loop that copies

module _ (from to : List ℕ) (start : ℕ) where
  pub copied_none : Copied from to to start start
  copied_none = record { below = λ k l. refl; within = λ k l m. absurd (omega arith) }

  pub copied_next : (left : List ℕ) (k : ℕ) → start ≤ k → k < length left → Copied from to left start k → Copied from to (set left k (get_or from k 0)) start (k + 1)
  copied_next left k s l c = record {
    below = λ j m. get_or-set_other left k j (get_or from k 0) 0 (λ z. omega arith) ∙ c.below j m;
    within = λ j m n.
        elim (dec_lt j k) [
          | yes u ↦ get_or-set_other left k j (get_or from k 0) 0 (λ z. omega arith) ∙ c.within j m u
          | no u ↦ (let z : k ≡ j = omega arith in subst (λ (j : ℕ). get_or (set left k (get_or from k 0)) j 0 ≡ get_or from j 0) z (get_or-set_same left k (get_or from k 0) 0 l))
        ];
  }

  pub copied_end : (left : List ℕ) (k end : ℕ) → end ≤ k → Copied from to left start k → Copied from to left start end
  copied_end left k end l c = record { below = c.below; within = λ j m n. c.within j m (omega arith) }
