-- The due statements of a tick from a store, and the log that the tick leaves. Assumes nothing.
use Prim.Native.Nat.{ℕ, ◌+◌, ◌-◌, ◌*◌, ◌≤◌}
use mathlib.Core.Path.{◌≡◌, refl, sym, ap, ap₂, ◌∙◌}
use mathlib.Core.Bool.{Bool, true, false, not, ◌&&◌}
use mathlib.Core.List.{List, [], ◌∷◌, ◌++◌, append-nil}
use mathlib.Core.Option.{Option, some}
use native.Mathlib.Omega.{arith}
use native.Mathlib.Nat.{zero-add, sub-zero}
use Rattle.rules.specs.Limits.{most_statements_large}
use Rattle.rules.specs.Lists.{keep, sorted}
use Rattle.rules.specs.Words.{Statement, Phase, in_view, waiting, stopped, State}
use Rattle.rules.specs.Inputs.{with_clock, is_in, is_due, due, commits}
use Rattle.laws.proofs.Tests.{by_bool}
use Rattle.store.specs.Layout.{log_table, count_of}
use Rattle.store.specs.Meaning.{Loads}
use Rattle.store.specs.declared.Station.{Station}
use Rattle.store.proofs.Loaded.{loaded_view, loaded_clock, loaded_statements}
use Rattle.store.specs.Decode.{rows, statement_at, statements, name_at, names, state_from, state_of}
use Rattle.store.proofs.Rows.{rows_same, rows_append}
use Rattle.linked.specs.Told.{Told}
use Rattle.glance.specs.Votes.{is_ripe}
use Rattle.glance.specs.Tables.{name_in}
use Rattle.merging.specs.Joins.{name_so_far}
use Rattle.commit.specs.Outcome.{tick_log, Joined, Committed}
use Rattle.glance.specs.Looks.{ToldIn}
use Rattle.std.specs.Prelude.{Option as Maybe, None, Some}
use Rattle.commit.proofs.Order.{any_order}
use Rattle.merging.proofs.Places.{so_far_old, so_far_new}
use Rattle.glance.proofs.Seeing.{delay_is}
use Rattle.commit.proofs.Quiet.{quiet_log}

-- ---- what is due

keep_same : {A : Type 0} (p q : A → Bool) → ((x : A) → p x ≡ q x) → (xs : List A) → keep p xs ≡ keep q xs
unfolding keep
keep_same p q e [] = refl
keep_same p q e (x ∷ xs) =
    by_bool (q x) (λ t. rw (e x ∙ t, t, keep) (ap (x ∷◌) (keep_same p q e xs))) (λ t. rw (e x ∙ t, t, keep) (keep_same p q e xs))

keep_none : {A : Type 0} (p : A → Bool) → ((x : A) → p x ≡ false) → (xs : List A) → keep p xs ≡ []
unfolding keep
keep_none p e [] = refl
keep_none p e (x ∷ xs) = rw (e x, keep) (keep_none p e xs)

is_out : (s : State) (v : ℕ) → (s.phase ≡ in_view → ⊥) → is_in v s ≡ false
unfolding is_in
is_out s v d = go s.phase refl
  where
    go : (p : Phase) → s.phase ≡ p → is_in v s ≡ false
    go in_view e = absurd (d e)
    go (waiting q) e = rw (e, is_in)
    go (stopped c) e = rw (e, is_in)

middle : (a c : Bool) → (a && false && c) ≡ false
middle true c = refl
middle false c = refl

module _ (s : State) where
  -- in a view, the due ones in any order
  pub due_in : s.phase ≡ in_view
      → commits s.statements (due s) s.log ≡ commits s.statements (keep (is_ripe s.view (2 * s.settings.D) s.clock) s.statements) s.log
  unfolding due is_due is_in is_ripe
  due_in e =
      any_order s.statements (λ x. x.height) (keep (is_due s) s.statements) s.log
      ∙ ap (λ (ys : List Statement). commits s.statements ys s.log)
      (keep_same (is_due s) (is_ripe s.view (2 * s.settings.D) s.clock) (λ x. rw (e, is_in)) s.statements)

  -- else none
  pub due_out : (s.phase ≡ in_view → ⊥) → commits s.statements (due s) s.log ≡ some s.log
  unfolding due sorted commits is_due
  due_out d =
      ap (λ (ys : List Statement). commits s.statements (sorted (λ x. x.height) ys) s.log)
      (keep_none (is_due s) (λ x. rw (is_out s x.view d) (middle (not x.is_new_view) _)) s.statements)

-- ---- the tick's log

module _ (b : List ℕ) where
  pub tick_in : (state_of b).phase ≡ in_view → (view wait clock : ℕ) → view ≡ (state_of b).view → wait ≡ 2 * (state_of b).settings.D → clock ≡ (state_of b).clock + 1
      → commits (statements b) (keep (is_ripe view wait clock) (statements b)) (names b) ≡ tick_log b
  unfolding tick_log with_clock state_of state_from
  tick_in e view wait clock v w c =
      (λ k. commits (statements b) (keep (is_ripe (v k) (w k) (c k)) (statements b)) (names b)) ∙ sym (due_in (with_clock ((state_of b).clock + 1) (state_of b)) e)

  pub tick_out : ((state_of b).phase ≡ in_view → ⊥) → tick_log b ≡ some (names b)
  unfolding tick_log with_clock state_of state_from
  tick_out d = due_out (with_clock ((state_of b).clock + 1) (state_of b)) d

  -- nothing is gained
  pub gained_none : (t : List ℕ) (n : ℕ) → n ≡ count_of log_table b → count_of log_table b ≤ most_statements_large → tick_log b ≡ some (names b) → Committed b t (Some n)
  unfolding rows
  gained_none t n e l q =
      let z : n - count_of log_table b ≡ 0 = omega arith in
      record {
        is = q ∙ ap some (sym (append-nil (names b))) ∙ ap (λ (k : ℕ). some (names b ++ rows (name_in b t) (count_of log_table b) k)) (sym z);
        more = omega arith;
        fits = omega arith;
        stored = λ k u v. absurd (omega arith);
      }

  -- the log so far, parted where the old one ends
  parted : (t : List ℕ) (n : ℕ) → count_of log_table b ≤ n → rows (name_so_far b t) 0 n ≡ names b ++ rows (name_in b t) (count_of log_table b) (n - count_of log_table b)
  unfolding names
  parted t n l =
      let old = count_of log_table b in
      let z : n ≡ old + (n - old) = omega arith in
      ap (rows (name_so_far b t) 0) z ∙ rows_append (name_so_far b t) 0 old (n - old)
      ∙ ap₂ ◌++◌ (rows_same (name_so_far b t) (name_at b) 0 old (λ k u v. so_far_old b t k (omega arith)))
      (ap (λ (k : ℕ). rows (name_so_far b t) k (n - old)) (zero-add old)
      ∙ rows_same (name_so_far b t) (name_in b t) old (n - old) (λ k u v. so_far_new b t k u))

  pub gained : (o : Option (List ℕ)) → o ≡ tick_log b → (t : List ℕ) (r : Maybe ℕ) → Joined o b t r → Committed b t r
  gained o e t (Some n) g =
      record { is = sym e ∙ g.is ∙ ap some (parted t n g.more); more = g.more; fits = g.fits; stored = g.stored }
  gained o e t None g = sym e ∙ g

-- ---- what was seen before the tick

module _ (b told : List ℕ) (s : Station) (e : Loads s b) where
  -- the check told of all that is due, so the log stays
  pub told_log : Told b told → ToldIn b told s s.statements → tick_log b ≡ some (names b)
  unfolding statements
  told_log tells k = by_phase (state_of b).phase refl
    where
      by_phase : (p : Phase) → (state_of b).phase ≡ p → tick_log b ≡ some (names b)
      by_phase in_view q =
          sym (tick_in b q _ _ _ (loaded_view s b e) (delay_is s b e) (ap (λ (c : ℕ). c + 1) (loaded_clock s b e)))
          ∙ ap (λ (n : ℕ). commits (statements b) (keep (is_ripe s.view (2 * s.settings.delay) (s.clock + 1)) (rows (statement_at b) 0 n)) (names b)) (sym (sub-zero s.statements ∙ loaded_statements s b e))
          ∙ quiet_log tells s.view (2 * s.settings.delay) (s.clock + 1) s.statements k
      by_phase (waiting c) q = tick_out b (λ r. let z : ◌≡◌ {A = ℕ} 0 1 = cc in omega arith)
      by_phase (stopped c) q = tick_out b (λ r. let z : ◌≡◌ {A = ℕ} 0 1 = cc in omega arith)
