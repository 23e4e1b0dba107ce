-- What asking for the log answers, test by test. Assumes nothing.
use Prim.Native.Nat.{ℕ, ◌*◌, ◌^◌, ◌≤◌}
use mathlib.Core.Path.{◌≡◌, sym, ap, ap₂, ◌∙◌}
use mathlib.Core.Bool.{Bool, true, false, ◌&&◌}
use mathlib.Core.List.{List}
use mathlib.Core.Option.{Option, none, some}
use native.Mathlib.Omega.{arith}
use lib.ListN.{length}
use lib.Dec.{leb}
use Rattle.rules.specs.Limits.{small, least_out}
use Rattle.rules.specs.Words.{State}
use Rattle.laws.proofs.Tests.{by_bool}
use Rattle.outgoing.specs.Wrote.{wrote}
use Rattle.outgoing.proofs.Writing.{wrote_prefix}
use Rattle.lent_list.specs.Lists.{has_length, has_form}
use Rattle.lent_list.specs.Plain.{held, Left, left, log_bytes, logged, plain_log}
use Rattle.plain_tables.specs.Meaning.{names, room, state}
use Rattle.plain_lists.specs.Meaning.{bar}
use Rattle.plain_lists.proofs.Bars.{bar_form, bar_short, not_barred, open_out}
use Rattle.plain_names.proofs.Writing.{log_long}
use Rattle.plain_answers.specs.Meaning.{FoldedTo}
use Rattle.plain_tables.specs.declared.Engine.{Engine}
use Rattle.std.specs.Prelude as code
use Rattle.std.specs.Prelude.{Some, None}
use Rattle.plain_answers.proofs.Folding.{formless, came_none, came_some, came_whole}

module _ (l o : List ℕ) where
  abbrev lengths_good : Bool
  lengths_good = has_length l && leb (least_out small) (length o)

  abbrev looked : Option State → Left
  looked z = elim z [ none ↦ left (2 * 2 ^ 32) o | some s ↦ logged s.log o ]

  abbrev tested : Bool → Left
  tested z = elim z [ false ↦ left (1 * 2 ^ 32) o | true ↦ looked (held l) ]

  log_by : {z : Bool} → lengths_good ≡ z → tested z ≡ plain_log l o
  unfolding plain_log
  log_by e = sym (ap tested e)

  pub log_barred : {q r : ℕ} → q ≡ bar l o → (q ≡ 0 → ⊥) → r ≡ q * 2 ^ 32 → left r o ≡ plain_log l o
  log_barred {q} {r} e n d =
      by_bool lengths_good
      (λ p.
      by_bool (has_form l) (λ f. absurd (n (e ∙ bar_form l o p f)))
      (λ f. ap (λ (k : ℕ). left k o) (d ∙ ap (◌* 2 ^ 32) (e ∙ bar_form l o p f)) ∙ sym (ap looked (formless l f)) ∙ log_by p))
      (λ p. ap (λ (k : ℕ). left k o) (d ∙ ap (◌* 2 ^ 32) (e ∙ bar_short l o p)) ∙ log_by p)

  module _ {q : ℕ} (e : q ≡ bar l o) (z : q ≡ 0) {f : code.Option Engine} (g : FoldedTo (held l) f) where
    passes : lengths_good ≡ true
    passes = (not_barred l o (sym e ∙ z)).0

    pub log_none : {r : ℕ} → f ≡ None → r ≡ 2 * 2 ^ 32 → left r o ≡ plain_log l o
    log_none u d = ap (λ (k : ℕ). left k o) d ∙ ap looked (came_none g u) ∙ log_by passes

    -- the log fits the least out buffer
    pub log_fits : 32 * room ≤ length o
    log_fits = omega (arith, open_out l o e z)

    pub log_told : {s : Engine} {r : ℕ} {o' : List ℕ} → f ≡ Some s → o' ≡ wrote o 0 (log_bytes (names s.log)) → r ≡ length (log_bytes (names s.log)) → left r o' ≡ plain_log l o
    unfolding logged state
    log_told {s} u p d =
        let bs = log_bytes (names s.log) in
        let w = (came_whole g u).sized.log in
        let h : length bs ≤ length o = omega (arith, log_long s.log w, w.most, log_fits) in
        ap₂ left d (p ∙ wrote_prefix o bs h) ∙ ap looked (came_some g u) ∙ log_by passes
