-- What the commit stage found serves the store with its new clock. Assumes nothing.
use Prim.Native.Nat.{ℕ, ◌+◌, ◌-◌, ◌*◌, ◌<◌, ◌≤◌}
use mathlib.Core.Path.{◌≡◌, sym, ap, ap₂, ◌∙◌, subst}
use mathlib.Core.List.{List, ◌++◌}
use mathlib.Core.Option.{some}
use native.Mathlib.Omega.{arith}
use lib.ListN.{length, get_or}
use Rattle.rules.specs.Limits.{most_statements, most_statements_large}
use Rattle.rules.specs.Words.{Statement, State}
use Rattle.rules.specs.Inputs.{with_clock}
use Rattle.store.specs.Layout.{statement_table, log_table, size_in, count_of}
use Rattle.store.specs.Decode.{rows, statement_at, statements, names, state_from, state_of, Left}
use Rattle.store.proofs.Rows.{rows_length, rows_same}
use Rattle.glance.specs.Tables.{name_in, statement_in}
use Rattle.commit.specs.Outcome.{tick_log, Gained}
use Rattle.reports.specs.Gains.{grown_log, Enough}
use Rattle.moments.proofs.Sizes.{left_size}
use Rattle.reports.proofs.Names.{same_places, gains, old_length}

module _ (b b' t : List ℕ) (n c : ℕ) (g : Gained b t n) (l : Left b' (with_clock c (state_of b))) where
  statements_kept : statements b' ≡ statements b
  unfolding with_clock state_of state_from
  statements_kept = ap (λ (s : State). s.statements) l.is

  names_kept : names b' ≡ names b
  unfolding with_clock state_of state_from
  names_kept = ap (λ (s : State). s.log) l.is

  pub log_kept : count_of log_table b' ≡ count_of log_table b
  log_kept = sym (old_length b' t) ∙ ap length names_kept ∙ old_length b t

  count_kept : count_of statement_table b' ≡ count_of statement_table b
  unfolding statements
  count_kept = sym (rows_length (statement_at b') 0 (count_of statement_table b')) ∙ ap length statements_kept ∙ rows_length (statement_at b) 0 (count_of statement_table b)

  size_kept : size_in b' ≡ size_in b
  unfolding with_clock state_of state_from
  size_kept = left_size l

  name_kept : (k : ℕ) → count_of log_table b ≤ k → k < n → name_in b' t k ≡ name_in b t k
  unfolding name_in statement_in
  name_kept k p q = ap (λ (y : Statement). y.name) (same_places b b' statements_kept (get_or t k 0) (g.stored k p q))

  pub gained_log : tick_log b ≡ some (grown_log b' t n)
  gained_log =
      let old = count_of log_table b in
      let rest : gains b' t n ≡ gains b t n =
      ap (λ (j : ℕ). rows (name_in b' t) j (n - j)) log_kept ∙ rows_same (name_in b' t) (name_in b t) old (n - old) (λ k p q. name_kept k p (omega (arith, g.more))) in
      g.is ∙ ap some (sym (ap₂ ◌++◌ names_kept rest))

  pub gained_enough : {at room : ℕ} → length t ≡ most_statements_large → n ≤ most_statements (size_in b) → at + 39 * (n - count_of log_table b) ≤ room → Enough b' t n at room
  gained_enough {at} {room} h f p =
      record {
        form = l.form;
        more = omega (arith, log_kept, g.more);
        fits = omega (arith, ap most_statements size_kept);
        long = h;
        stored = λ k u v. omega (arith, g.stored k (omega (arith, log_kept)) v, count_kept);
        space = subst (λ (j : ℕ). at + 39 * (n - j) ≤ room) (sym log_kept) p;
      }
