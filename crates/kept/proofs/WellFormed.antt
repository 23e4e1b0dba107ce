-- The test well_formed and the record of its parts say the same; a fresh state is well formed. Assumes nothing.
use mathlib.Core.Path.{◌≡◌, refl}
use Prim.Native.Nat.{ℕ, zero, suc, ◌^◌}
use native.Mathlib.Omega.{arith}
use native.Mathlib.Nat.{one-le-pow}
use mathlib.Core.Bool.{Bool, true, ◌&&◌}
use mathlib.Core.List.{List, [], ◌∷◌}
use lib.Dec.{leb}
use lib.ListN.{length, replicate, length-replicate}
use borrow.Author.Tests.{lt-ltb, leb-true, le-leb, eq-eqb}
use Rattle.rules.specs.Limits.{most_statements, most_tallies, last_view}
use Rattle.rules.specs.Lists.{all, distinct, keep}
use Rattle.rules.specs.Sizes.{Settings, good_settings}
use Rattle.rules.specs.Messages.{view_allowed}
use Rattle.rules.specs.Words.{same_statement, opened_by, State, fresh}
use Rattle.rules.specs.WellFormed.{is_mask, clocks_in_order, lock_good, statement_good, tally_good, same_tally, tallies_there, blames_good, linked, few_opened, well_formed}
use Rattle.laws.proofs.Bounds.{views_some}
use Rattle.laws.proofs.Truths.{and_2, both}
use Rattle.kept.specs.Parts.{WellFormed}
use Rattle.kept.specs.Said.{Each}
use Rattle.kept.proofs.Openers.{each_few}

-- a test and more
every : Bool → List Bool → Bool
every a [] = a
every a (b ∷ bs) = every (a && b) bs

every_each : (a : Bool) (bs : List Bool) → every a bs ≡ true → (a ≡ true) × Each (λ b. b ≡ true) bs
unfolding every
every_each a [] e = (e, tt)
every_each a (b ∷ bs) e = let h = every_each (a && b) bs e in let k = and_2 a b h.0 in (k.0, (k.1, h.1))

pub parts : (s : State) → well_formed s ≡ true → WellFormed s
unfolding well_formed every
parts s e =
    let h =
    every_each (good_settings s.settings)
    (view_allowed s.settings s.view ∷ clocks_in_order s ∷ lock_good s ∷ leb (length s.statements) (most_statements s.settings.size)
    ∷ leb (length s.tallies) (most_tallies s.settings.size) ∷ all (statement_good s) s.statements ∷ distinct same_statement s.statements
    ∷ all (tally_good s.settings s.clock) s.tallies ∷ distinct same_tally s.tallies ∷ all (tallies_there s.tallies) s.statements
    ∷ blames_good s.settings s.blames ∷ linked s.statements 0 0 s.log ∷ few_opened s.settings.n s.tallies ∷ []) e in
    let rest = h.1.1.1.1.1.1 in
    record {
      formed =
          record {
            settings = h.0;
            view = h.1.0;
            clocks = h.1.1.0;
            lock = h.1.1.1.0;
            tables =
                record {
                  statements = rest.0;
                  statements_differ = rest.1.0;
                  tallies = rest.1.1.0;
                  tallies_differ = rest.1.1.1.0;
                  opened = rest.1.1.1.1.0;
                  log = rest.1.1.1.1.1.1.0;
                  few_opened = rest.1.1.1.1.1.1.1.0;
                };
            blames = rest.1.1.1.1.1.0;
          };
      few_statements = leb-true _ _ h.1.1.1.1.0;
      few_tallies = leb-true _ _ h.1.1.1.1.1.0;
    }

pub whole : {s : State} → WellFormed s → well_formed s ≡ true
unfolding well_formed
whole {s} w =
    let f = w.formed in
    let t = f.tables in
    let n = le-leb (length s.statements) (most_statements s.settings.size) w.few_statements in
    let m = le-leb (length s.tallies) (most_tallies s.settings.size) w.few_tallies in
    simp (f.settings, f.view, f.clocks, f.lock, n, m, t.statements, t.statements_differ, t.tallies, t.tallies_differ, t.opened, f.blames, t.log, t.few_opened)

-- ---- a fresh state

zeros : (g : Settings) (k : ℕ) → all (is_mask g) (replicate k 0) ≡ true
unfolding all is_mask
zeros g zero = refl
zeros g (suc k) = both (lt-ltb 0 (2 ^ g.n) (one-le-pow g.n 2 (omega arith))) (zeros g k)

pub fresh_formed : (g : Settings) → good_settings g ≡ true → WellFormed (fresh g)
unfolding fresh view_allowed clocks_in_order lock_good all distinct blames_good linked opened_by keep
fresh_formed g h =
    record {
      formed =
          record {
            settings = h;
            view = le-leb 1 (last_view g.size) (views_some g.size);
            clocks = refl;
            lock = refl;
            tables =
                record { statements = refl; statements_differ = refl; tallies = refl; tallies_differ = refl; opened = refl; log = refl; few_opened = each_few g.n [] (λ a l. omega arith) };
            blames = both (eq-eqb _ (last_view g.size) (length-replicate (last_view g.size) 0)) (zeros g (last_view g.size));
          };
      few_statements = omega arith;
      few_tallies = omega arith;
    }

pub fresh_whole : (g : Settings) → good_settings g ≡ true → well_formed (fresh g) ≡ true
fresh_whole g h = whole (fresh_formed g h)
