-- Quitting, stopping, the clock's next tick and entering a view keep a state formed. Assumes nothing.
use mathlib.Core.Path.{◌≡◌, refl}
use Prim.Native.Nat.{ℕ, ◌+◌, ◌≤◌, ◌<◌}
use native.Mathlib.Omega.{arith}
use mathlib.Core.Bool.{Bool, true}
use lib.Dec.{leb}
use borrow.Author.Tests.{leb-true, le-leb}
use Rattle.rules.specs.Limits.{first_view, last_view, last_clock}
use Rattle.rules.specs.Lists.{within}
use Rattle.rules.specs.Words.{Cause, Certificate, Phase, in_view, waiting, stopped, State}
use Rattle.rules.specs.Inputs.{with_phase, with_clock, entering}
use Rattle.rules.specs.WellFormed.{clocks_in_order, lock_good, statement_good, tally_good}
use Rattle.laws.proofs.Truths.{and_3}
use Rattle.laws.proofs.Allowed.{le_within, within_le, within_view}
use Rattle.kept.specs.Parts.{Formed}
use Rattle.kept.proofs.Lists.{all_weaken}
use Rattle.kept.proofs.Tallies.{tally_later, CertificateGood, lock_made}
use Rattle.kept.proofs.Statements.{later_good}

-- part (3): "entry, then the quit of a waiting station, then the clock, up to its end"
pub record Clocks (s : State) : Type 0 where
  pub entered : s.entry ≤ s.clock
  pub last : s.clock ≤ last_clock
  pub waited : (q : ℕ) → s.phase ≡ waiting q → (s.entry ≤ q) × (q ≤ s.clock)

-- the third of the tests
unfoldable waits : State → Bool
unfolding within
waits s = elim s.phase [ in_view ↦ true | waiting q ↦ within s.entry s.clock q | stopped c ↦ true ]

pub clocks_parts : (s : State) → clocks_in_order s ≡ true → Clocks s
unfolding clocks_in_order waits
clocks_parts s e =
    let t = and_3 (leb s.entry s.clock) (leb s.clock last_clock) (waits s) e in
    record {
      entered = leb-true s.entry s.clock t.0;
      last = leb-true s.clock last_clock t.1;
      waited = λ q p. within_le s.entry s.clock q (rw (p, waits) at t.2);
    }

pub clocks_made : (s : State) → Clocks s → clocks_in_order s ≡ true
unfolding clocks_in_order waits
clocks_made s k = rw (le-leb s.entry s.clock k.entered, le-leb s.clock last_clock k.last) (go s.phase refl)
  where
    go : (p : Phase) → s.phase ≡ p → waits s ≡ true
    go in_view e = rw (e, waits)
    go (waiting q) e = let t = k.waited q e in rw (e, waits) (le_within s.entry s.clock q t.0 t.1)
    go (stopped c) e = rw (e, waits)

module _ {s : State} (f : Formed s) where
  phased : (p : Phase) → Clocks (with_phase p s) → Formed (with_phase p s)
  unfolding with_phase lock_good statement_good
  phased p k =
      record {
        settings = f.settings;
        view = f.view;
        clocks = clocks_made (with_phase p s) k;
        lock = f.lock;
        tables = f.tables;
        blames = f.blames;
      }

  -- a station quits at its clock
  pub quit_formed : Formed (with_phase (waiting s.clock) s)
  unfolding with_phase
  quit_formed =
      let k = clocks_parts s f.clocks in
      phased (waiting s.clock) (record { entered = k.entered; last = k.last; waited = λ q e. let z : s.clock ≡ q = cc in omega arith })

  pub stopped_formed : (c : Cause) → Formed (with_phase (stopped c) s)
  unfolding with_phase
  stopped_formed c =
      let k = clocks_parts s f.clocks in
      phased (stopped c)
      (record { entered = k.entered; last = k.last; waited = λ q e. let z : ◌≡◌ {A = ℕ} 0 1 = cc in absurd (omega arith) })

  pub clock_formed : s.clock < last_clock → Formed (with_clock (s.clock + 1) s)
  unfolding with_clock lock_good
  clock_formed l =
      let k = clocks_parts s f.clocks in
      let t = with_clock (s.clock + 1) s in
      let later = tally_later s.settings s.clock t.clock in
      record {
        settings = f.settings;
        view = f.view;
        clocks = clocks_made t (record { entered = omega arith; last = omega arith; waited = λ q e. let w = k.waited q e in omega arith });
        lock = f.lock;
        tables =
            record {
              statements = all_weaken (statement_good s) (statement_good t) (λ x. later_good s t x refl (omega arith)) s.statements f.tables.statements;
              statements_differ = f.tables.statements_differ;
              tallies = all_weaken (tally_good s.settings s.clock) (tally_good s.settings t.clock) (λ u. later u (omega arith)) s.tallies f.tables.tallies;
              tallies_differ = f.tables.tallies_differ;
              opened = f.tables.opened;
              log = f.tables.log;
              few_opened = f.tables.few_opened;
            };
        blames = f.blames;
      }

  -- a view is entered with a lock on a certificate of an earlier one
  pub entering_formed : (v : ℕ) (t : Certificate) → first_view ≤ v → v ≤ last_view s.settings.size → CertificateGood s.settings v t → Formed (entering v t s)
  unfolding entering statement_good
  entering_formed v t l m c =
      let k = clocks_parts s f.clocks in
      let u = entering v t s in
      record {
        settings = f.settings;
        view = within_view s.settings v l m;
        clocks = clocks_made u (record { entered = omega arith; last = k.last; waited = λ q e. let z : ◌≡◌ {A = ℕ} 0 1 = cc in absurd (omega arith) });
        lock = lock_made u c;
        tables = f.tables;
        blames = f.blames;
      }
