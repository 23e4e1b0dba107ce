-- When a view is entered, and what is said and left then. Assumes nothing.
use Prim.Native.Nat.{ℕ, ◌+◌}
use mathlib.Core.Path.{◌≡◌, refl, sym, ap, subst, ◌∙◌}
use mathlib.Core.Bool.{false, ◌&&◌}
use mathlib.Core.List.{List, [], ◌∷◌}
use lib.Dec.{ltb, eqb}
use borrow.Author.Tests.{eq-eqb, ne_eqb}
use Rattle.rules.specs.Limits.{last_view}
use Rattle.rules.specs.Sizes.{leader}
use Rattle.rules.specs.Messages.{to_one, status, effect, outgoing}
use Rattle.rules.specs.Words as words
use Rattle.rules.specs.Inputs as inputs
use Rattle.settings.specs.Made.{settings_of}
use Rattle.outgoing.specs.Wrote.{Says}
use Rattle.outgoing.proofs.Writing.{says_none, says_one}
use Rattle.fields.specs.Names.{name_of}
use Rattle.plain_words.specs.declared.Certificate.{Certificate}
use Rattle.plain_words.specs.Meaning.{certificate_of}
use Rattle.plain_tallies.specs.Meaning.{tallies}
use Rattle.plain_tables.specs.declared.Cause.{Cause}
use Rattle.plain_tables.specs.declared.Phase.TheVariants.{InView, Waiting, Stopped}
use Rattle.plain_tables.specs.declared.Engine.{Engine}
use Rattle.plain_tables.specs.Meaning.{state, Sized}
use Rattle.plain_tables.proofs.Laws.{given}
use Rattle.plain_acts.specs.Works.{Worked}
use Rattle.plain_entries.specs.Entries.{next_view}

module _ (e : Engine) where
  pub enters_in : e.phase ≡ InView → false ≡ inputs.enters_now (state e)
  unfolding inputs.enters_now state
  enters_in p = rw (p, inputs.enters_now)

  pub enters_waiting : (q : ℕ) → e.phase ≡ Waiting q
      → (ltb e.view (last_view (settings_of e.settings).size) && eqb e.clock (q + e.settings.delay + 1)) ≡ inputs.enters_now (state e)
  unfolding inputs.enters_now state
  enters_waiting q p = rw (p, inputs.enters_now)

  pub enters_stopped : (c : Cause) → e.phase ≡ Stopped c → false ≡ inputs.enters_now (state e)
  unfolding inputs.enters_now state
  enters_stopped c p = rw (p, inputs.enters_now)

  pub lock_is : words.highest (settings_of e.settings) (e.view + 1) (tallies e.tallies) ≡ inputs.next_lock (state e)
  unfolding inputs.next_lock state
  lock_is = refl

  module _ (o : List ℕ) (at to : ℕ) (l : to ≡ leader (settings_of e.settings) (e.view + 1)) where
    pub kept_quiet : to ≡ e.settings.own → Says o at (outgoing (inputs.report (state e))) o at
    unfolding inputs.report state outgoing
    kept_quiet q = rw (eq-eqb _ _ (sym l ∙ q), inputs.report) (says_none o at)

    pub reported : (t : Certificate) → certificate_of t ≡ inputs.next_lock (state e) → (to ≡ e.settings.own → ⊥) → {left : List ℕ} {r : ℕ}
        → Says o at (effect (to_one to (status t.height (name_of t.name) t.view t.mask))) left r → Says o at (outgoing (inputs.report (state e))) left r
    unfolding inputs.report state certificate_of
    reported t c q {left} {r} y =
        rw (ne_eqb (leader (settings_of e.settings) (e.view + 1)) e.settings.own (λ z. q (l ∙ z)), inputs.report)
        (subst (λ (k : words.Certificate). Says o at (outgoing (to_one (leader (settings_of e.settings) (e.view + 1)) (status k.height k.name k.view k.mask) ∷ [])) left r) c
        (subst (λ (i : ℕ). Says o at (outgoing (to_one i (status t.height (name_of t.name) t.view t.mask) ∷ [])) left r) l
        (says_one o at (to_one to (status t.height (name_of t.name) t.view t.mask)) left r y)))

  pub entered_worked : Sized e → (t : Certificate) → certificate_of t ≡ inputs.next_lock (state e) → {r : Engine} {o left : List ℕ} {at next : ℕ} → r ≡ next_view t e
      → Says o at (outgoing (inputs.report (state e))) left next → Worked (inputs.entered (state e)) o at (record { engine = r; at = next }) left
  unfolding inputs.entered inputs.saying inputs.entering state
  entered_worked k t c p y =
      record {
        now =
            given p
            (record {
              sized = record { statements = k.statements; tallies = k.tallies; log = k.log; small = k.small; good = k.good };
              is = ap (λ (l : words.Certificate). inputs.entering (e.view + 1) l (state e)) c;
            });
        says = y;
      }
