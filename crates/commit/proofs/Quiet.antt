-- Where the check told of all that is due, the log stays as it is. Assumes nothing.
use Prim.Native.Nat.{ℕ, zero, suc, ◌-◌, ◌≤◌}
use mathlib.Core.Path.{◌≡◌, refl, sym, ap, ◌∙◌}
use mathlib.Core.Bool.{Bool}
use mathlib.Core.List.{List}
use mathlib.Core.Option.{Option, some}
use native.Mathlib.Omega.{arith}
use Rattle.rules.specs.Lists.{keep}
use Rattle.rules.specs.Words.{Statement}
use Rattle.rules.specs.Inputs.{commit, commits}
use Rattle.laws.proofs.Tests.{by_bool}
use Rattle.store.specs.Layout.{log_table, count_of}
use Rattle.store.specs.Decode.{rows, statement_at, statements, name_at, names}
use Rattle.linked.specs.Told.{Told}
use Rattle.glance.specs.Votes.{is_ripe}
use Rattle.glance.specs.Looks.{ToldBelow}
use Rattle.glance.proofs.Voting.{keep_end}
use Rattle.commit.proofs.Order.{bind}
use Rattle.commit.proofs.Telling.{told_commits}
use Rattle.commit.proofs.Course.{from_not, from_so}

module _ {b t : List ℕ} (tells : Told b t) (view wait now count : ℕ) where
  abbrev p : Statement → Bool
  p = is_ripe view wait now

  abbrev from : ℕ → Option (List ℕ)
  from i = commits (statements b) (keep p (rows (statement_at b) i (count - i))) (names b)

  adds_none : (i : ℕ) → i ≤ count → ToldBelow b t view wait now i → from i ≡ some (names b) → from 0 ≡ some (names b)
  unfolding names
  adds_none zero l f e = e
  adds_none (suc i) l f e =
      let z : suc i - 1 ≡ i = omega arith in
      adds_none i (omega arith) (λ j u v. f j u (omega arith))
      (ap from (sym z)
      ∙ by_bool (p (statement_at b (suc i - 1)))
      (λ r.
      let k = f (suc i - 1) (omega arith) (omega arith) r in
      from_so b p count (names b) (suc i) (omega arith) l r ∙ ap (λ (o : Option (List ℕ)). bind o (commit (statements b) (statement_at b (suc i - 1)))) e
      ∙ told_commits tells ((statement_at b (suc i - 1)).height - 1) (suc i - 1) k (name_at b) (count_of log_table b) (tells.settles _ (suc i - 1) k).logged (λ j m. refl))
      (λ r. from_not b p count (names b) (suc i) (omega arith) l r ∙ e))

  pub quiet_log : ToldBelow b t view wait now count → from 0 ≡ some (names b)
  unfolding commits
  quiet_log f = adds_none count (omega arith) f (ap (λ (ys : List Statement). commits (statements b) ys (names b)) (keep_end p (statement_at b) count))
