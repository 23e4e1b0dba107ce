-- What a commit says and leaves: the due ones are stored proposes, each report is of a stored block, and the state stays formed. Assumes nothing.
use mathlib.Core.Path.{◌≡◌}
use Prim.Native.Nat.{ℕ, zero, suc, ◌+◌}
use native.Mathlib.Omega.{arith}
use mathlib.Core.Bool.{true, false}
use mathlib.Core.List.{List, [], ◌∷◌, Memᴰ as Mem}
use lib.Dec.{eqb}
use lib.ListN.{drop}
use Rattle.rules.specs.Words.{State}
use Rattle.rules.specs.Inputs.{due, is_block, reports, with_tables, with_blames, with_log}
use Rattle.rules.specs.WellFormed.{linked}
use Rattle.laws.proofs.Truths.{and_2}
use Rattle.laws.proofs.Allowed.{height_le}
use Rattle.laws.proofs.Commits.{due_facts}
use Rattle.kept.specs.Parts.{Formed}
use Rattle.kept.specs.Said.{Each, Sayable}
use Rattle.kept.proofs.Lists.{mem_each, any_find}
use Rattle.kept.proofs.Recorded.{recorded}
use Rattle.kept.proofs.Tables.{is_above}
use Rattle.kept.proofs.Statements.{stored_stated}
use Rattle.kept.proofs.Logs.{block_parts, linked_cons}

pub due_stored : (s : State) → Each (λ x. Mem x s.statements × (x.is_new_view ≡ false)) (due s)
due_stored s = mem_each (λ x. Mem x s.statements × (x.is_new_view ≡ false)) (due s) (λ x m. let d = due_facts s x m in (d.0, d.1))

module _ {s : State} (f : Formed s) where
  reports_said : (h parent : ℕ) (l : List ℕ) → linked s.statements h parent l ≡ true → Each (Sayable s.settings) (reports (suc h) l)
  unfolding reports
  reports_said h parent [] e = tt
  reports_said h parent (b ∷ l) e =
      let t = linked_cons s.statements h parent b l e in
      let (x, m, k) = any_find (is_above (suc h) b parent) s.statements t.0 in
      let (_, o, n) = block_parts (suc h) b x (and_2 (is_block (suc h) b x) (eqb parent x.link) k).0 in
      let d = stored_stated f x m in
      let z = height_le x.height x.name d.block in
      ((omega arith, rw n d.name), reports_said (suc h) b l t.1)

  -- from any height on
  later_said : (k h parent : ℕ) (l : List ℕ) → linked s.statements h parent l ≡ true → Each (Sayable s.settings) (reports (suc (h + k)) (drop k l))
  unfolding reports
  later_said zero h parent l e = let z : h + 0 ≡ h = omega arith in rw z (reports_said h parent l e)
  later_said (suc k) h parent [] e = tt
  later_said (suc k) h parent (b ∷ l) e =
      let z : h + suc k ≡ suc h + k = omega arith in rw z (later_said k (suc h) b l (linked_cons s.statements h parent b l e).1)

  -- what a log gained over one of length k
  pub gained_said : (k : ℕ) (l : List ℕ) → linked s.statements 0 0 l ≡ true → Each (Sayable s.settings) (reports (suc k) (drop k l))
  gained_said k l e = let z : 0 + k ≡ k = omega arith in rw z at (later_said k 0 0 l e)

  pub logged_formed : (l : List ℕ) → linked s.statements 0 0 l ≡ true → Formed (with_log l s)
  unfolding with_tables with_blames with_log
  logged_formed l e =
      let old = f.tables in
      recorded f s.statements s.tallies s.blames l
      (record {
        statements = old.statements;
        statements_differ = old.statements_differ;
        tallies = old.tallies;
        tallies_differ = old.tallies_differ;
        opened = old.opened;
        log = e;
        few_opened = old.few_opened;
      })
      f.blames
