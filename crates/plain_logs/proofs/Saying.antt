-- What the log gained, said name by name; the due statements of a station; a station with its new log. Assumes nothing.
use Prim.Native.Nat.{ℕ, suc, ◌+◌, ◌-◌, ◌*◌, ◌<◌, ◌≤◌}
use mathlib.Core.Path.{◌≡◌, refl, sym, subst, ◌∙◌}
use mathlib.Core.List.{List}
use native.Mathlib.Omega.{arith}
use native.Mathlib.Numerals.{add-one}
use lib.ListN.{length, get_or, drop}
use Rattle.fields.specs.Names.{name_of}
use Rattle.fields.specs.declared.Name.{Name}
use Rattle.rules.specs.Lists.{keep, sorted}
use Rattle.rules.specs.Messages.{committed, effect, outgoing}
use Rattle.rules.specs.Inputs as inputs
use Rattle.rules.specs.Inputs.{reports}
use Rattle.outgoing.specs.Wrote.{Says}
use Rattle.outgoing.proofs.Writing.{says_none, says_both, says_length, length_committed}
use Rattle.plain_words.specs.Places.{Within}
use Rattle.plain_words.proofs.Firsts.{firsts_long, firsts_next, firsts_done}
use Rattle.plain_statements.specs.Meaning.{statements}
use Rattle.plain_tables.specs.declared.Names.{Names}
use Rattle.plain_tables.specs.declared.Engine.{Engine}
use Rattle.plain_tables.specs.Meaning.{names, room, phase_of, state, Sized, Gives}
use Rattle.plain_tables.proofs.Laws.{given}
use Rattle.plain_acts.specs.Works.{Worked}
use Rattle.plain_orders.specs.Picks.{due_at}
use Rattle.plain_logs.specs.Parts.{logged}

-- ---- reports

pub counted : (log : Names) → Within room log.items log.count → length (names log) ≡ log.count
unfolding names
counted log w = firsts_long name_of log.items log.count (omega (arith, w.long, w.most))

-- so far the names below height k + 1 were said
pub record Reporting (log : Names) (o₀ : List ℕ) (at from : ℕ) (o : List ℕ) (k next : ℕ) : Type 0 where
  pub up : k ≤ log.count
  pub long : length o ≡ length o₀
  pub space : next + 39 * (log.count - k) ≤ length o
  pub says : (o' : List ℕ) (r : ℕ) → Says o next (outgoing (reports (suc k) (drop k (names log)))) o' r → Says o₀ at (outgoing (reports (suc from) (drop from (names log)))) o' r

pub report_end : (log : Names) (o : List ℕ) (k next : ℕ) → log.count ≤ k → Says o next (outgoing (reports (suc k) (drop k (names log)))) o next
unfolding names outgoing reports
report_end log o k next h =
    subst (λ (l : List ℕ). Says o next (outgoing (reports (suc k) l)) o next) (sym (firsts_done name_of log.items log.count k h)) (says_none o next)

module _ (log : Names) (w : Within room log.items log.count) where
  report_next : (d : Name) (k : ℕ) → k < log.count → {o o₁ o' : List ℕ} {next i r : ℕ} → Says o next (effect (committed (k + 1) (name_of (get_or log.items k d)))) o₁ i
      → Says o₁ i (outgoing (reports (suc (k + 1)) (drop (k + 1) (names log)))) o' r → Says o next (outgoing (reports (suc k) (drop k (names log)))) o' r
  unfolding names outgoing reports
  report_next d k h {o} {o₁} {o'} {next} {i} {r} p q =
      let b = name_of (get_or log.items k d) in
      let p' = subst (λ (j : ℕ). Says o next (effect (committed j b)) o₁ i) (add-one k) p in
      let q' = subst (λ (j : ℕ). Says o₁ i (outgoing (reports (suc j) (drop (k + 1) (names log)))) o' r) (add-one k) q in
      subst (λ (l : List ℕ). Says o next (outgoing (reports (suc k) l)) o' r)
      (sym (firsts_next name_of d log.items log.count k (omega (arith, w.long, w.most)) h))
      (says_both o next (effect (committed (suc k) b)) (outgoing (reports (suc (suc k)) (drop (k + 1) (names log)))) o₁ o' i r p' q')

  pub report_again : (d : Name) {o₀ o o₁ : List ℕ} {at from k next i : ℕ} → k < log.count → Reporting log o₀ at from o k next
      → Says o next (effect (committed (k + 1) (name_of (get_or log.items k d)))) o₁ i → Reporting log o₀ at from o₁ (k + 1) i
  report_again d {k = k} h v e =
      record {
        up = omega arith;
        long = says_length e ∙ v.long;
        space = omega (arith, v.space, e.ends, says_length e, length_committed (k + 1) (name_of (get_or log.items k d)));
        says = λ o' r y. v.says o' r (report_next d k h e y);
      }

-- ---- the due statements

pub due_parts : (e : Engine)
    → sorted (λ x. x.height) (keep (due_at (phase_of e.phase) e.view (2 * e.settings.delay + 1) e.clock) (statements e.statements)) ≡ inputs.due (state e)
unfolding inputs.due inputs.is_due inputs.is_in due_at state
due_parts e = refl

-- ---- the new log

module _ (e : Engine) (k : Sized e) (log : Names) (w : Within room log.items log.count) where
  gives_log : Gives (logged log e) (inputs.with_log (names log) (state e))
  unfolding state inputs.with_log
  gives_log = record { sized = record { statements = k.statements; tallies = k.tallies; log = w; small = k.small; good = k.good }; is = refl }

  pub logging_worked : {r : Engine} {o left : List ℕ} {at next : ℕ} → r ≡ logged log e
      → Says o at (outgoing (reports (suc e.log.count) (drop e.log.count (names log)))) left next
      → Worked (inputs.logging (names log) (state e)) o at (record { engine = r; at = next }) left
  unfolding inputs.logging inputs.saying state
  logging_worked {r} {o} {left} {at} {next} p y =
      record {
        now = given p gives_log;
        says = subst (λ (n : ℕ). Says o at (outgoing (reports (suc n) (drop n (names log)))) left next) (sym (counted e.log k.log)) y;
      }
