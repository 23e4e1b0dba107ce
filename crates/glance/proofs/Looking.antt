-- The loop that looks at the statements before any chain is walked, from the last place down. Assumes nothing.
use Prim.Native.Nat.{ℕ, zero, suc, ◌+◌, ◌-◌, ◌<◌, ◌≤◌}
use mathlib.Core.Path.{◌≡◌, sym, ap, ◌∙◌, subst}
use mathlib.Core.Bool.{true}
use mathlib.Core.List.{List}
use native.Mathlib.Omega.{arith}
use native.Mathlib.Numerals.{add-one}
use native.Mathlib.Nat.{sub-zero}
use native.Mathlib.Decide.{dec_lt}
use lib.ListN.{length}
use borrow.Author.Tests.{leb-true}
use Rattle.rules.specs.Lists.{keep}
use Rattle.rules.specs.Words.{Statement}
use Rattle.laws.proofs.Tests.{no_bool}
use Rattle.store.specs.Layout.{statement_table, count_of}
use Rattle.store.specs.Decode.{nth, rows, statement_at, statements}
use Rattle.glance.specs.Votes.{vote_in, is_voted, is_ripe}
use Rattle.glance.specs.Looks.{OthersFrom, ToldFrom, Looked}
use Rattle.glance.proofs.Voting.{vote_other, voted_not, voted_so, ripe_not, ripe_by, keep_not, keep_so, keep_end}

-- ---- the loop

pub record Looking (b t : List ℕ) (view wait now count i votes settled : ℕ) : Type 0 where
  pub few : votes + i ≤ count
  pub counted : votes ≡ length (keep (is_voted view) (rows (statement_at b) i (count - i)))
  pub told : ToldFrom b t view wait now i settled

pub looking_start : (b t : List ℕ) (view wait now count : ℕ) → Looking b t view wait now count count 0 count
looking_start b t view wait now count = record {
  few = omega arith;
  counted = ap length (sym (keep_end (is_voted view) (statement_at b) count));
  told = λ j l m. absurd (omega arith);
}

module _ {b t : List ℕ} {view wait now count i votes settled : ℕ} (s : Looking b t view wait now count i votes settled) where
  pub looking_end : count ≡ count_of statement_table b → i ≡ 0 → Looked b t view wait now count votes settled
  unfolding statements
  looking_end e z = record {
    counted =
        s.counted ∙ ap (λ (k : ℕ). length (keep (is_voted view) (rows (statement_at b) k (count - k)))) z
        ∙ ap (λ (n : ℕ). length (keep (is_voted view) (rows (statement_at b) 0 n))) (sub-zero count ∙ e);
    below = λ j l m. s.told j (omega arith) m;
  }

  module _ (pos : 0 < i) where
    abbrev x : Statement
    x = statement_at b (i - 1)

    up : i ≤ count
    up = omega (arith, s.few)

    -- one more statement, of which the check told if it is due
    further : (is_ripe view wait now x ≡ true → nth t (x.height - 1) ≡ suc (i - 1)) → ToldFrom b t view wait now (i - 1) settled
    further f j l m r =
        elim (dec_lt (i - 1) j) [
          | yes u ↦ s.told j (omega arith) m r
          | no u ↦ (let z : i - 1 ≡ j = omega arith in same j z r)
        ]
      where
        same : (j : ℕ) → i - 1 ≡ j → is_ripe view wait now (statement_at b j) ≡ true → nth t ((statement_at b j).height - 1) ≡ suc j
        same j z r = subst (λ (j : ℕ). is_ripe view wait now (statement_at b j) ≡ true → nth t ((statement_at b j).height - 1) ≡ suc j) z f r

    -- it is no propose of the view, or not voted for
    pub looking_not : 0 ≡ vote_in view x → Looking b t view wait now count (i - 1) votes settled
    looking_not z = record {
      few = omega (arith, s.few);
      counted = s.counted ∙ ap length (sym (keep_not (is_voted view) (statement_at b) count i pos up (voted_not view x (sym z))));
      told = further (λ r. no_bool (sym r ∙ sym (ripe_not view x wait now (sym z))));
    }

    module _ (vote : ℕ) (read : vote ≡ vote_in view x) (d : vote ≡ 0 → ⊥) where
      one_more : votes + 1 ≡ length (keep (is_voted view) (rows (statement_at b) (i - 1) (count - (i - 1))))
      one_more =
          add-one votes ∙ ap suc s.counted
          ∙ ap length (sym (keep_so (is_voted view) (statement_at b) count i pos up (voted_so view x (λ z. d (read ∙ z)))))

      -- the check told of it
      pub looking_told : nth t (x.height - 1) ≡ suc (i - 1) → Looking b t view wait now count (i - 1) (votes + 1) settled
      looking_told k = record { few = omega (arith, s.few); counted = one_more; told = further (λ q. k) }

      -- it is not due yet
      pub looking_early : now < vote + wait → Looking b t view wait now count (i - 1) (votes + 1) settled
      looking_early l = record {
        few = omega (arith, s.few);
        counted = one_more;
        told = further (λ q. absurd (omega (arith, leb-true (vote + wait) now (ripe_by view x wait now vote read d ∙ q))));
      }

      -- it is due, and nothing is told of it
      pub looking_fresh : Looking b t view wait now count (i - 1) (votes + 1) (i - 1)
      looking_fresh = record { few = omega (arith, s.few); counted = one_more; told = λ j l m. absurd (omega arith) }

-- those of other views are passed over
module _ {b t : List ℕ} {view wait now count votes settled : ℕ} where
  pub looking_others : (i : ℕ) → Looking b t view wait now count i votes settled → (r : ℕ) → r ≤ i → OthersFrom b view r i → Looking b t view wait now count r votes settled
  looking_others zero s r l o = subst (λ (k : ℕ). Looking b t view wait now count k votes settled) (omega arith) s
  looking_others (suc i) s r l o =
      let at : ℕ → Type 0 = λ k. Looking b t view wait now count k votes settled in
      elim (dec_lt r (suc i)) [
        | yes u ↦ looking_others i
            (let e : suc i - 1 ≡ i = omega arith in
            subst at e (looking_not s (omega arith) (vote_other b (suc i - 1) view (o (suc i - 1) (omega arith) (omega arith)))))
            r (omega arith) (λ j m n. o j m (omega arith))
        | no u ↦ subst at (omega arith) s
      ]
