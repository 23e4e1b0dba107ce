-- `search::first_from` meets its contract, the rest of the table deciding. Assumes nothing.
use Prim.Native.Nat.{ℕ, ◌-◌}
use mathlib.Core.Path.{◌≡◌}
use mathlib.Core.Bool.{Bool}
use Rattle.rules.specs.Words.{Statement}
use Rattle.store.specs.Layout.{statement_table, count_of}
use Rattle.store.specs.Decode.{rows, statement_at}
use Rattle.store.specs.Searches.{first_from}
use Rattle.search.proofs.first_from.Given as goal

abbrev pub invariant-loop-i : goal.invariant-loop-i
invariant-loop-i g l =
    let f = statement_at l.store in
    let n = count_of statement_table l.store in
    (p : Statement → Bool) → ((i : ℕ) (b : Bool) → goal.F-post g l.is_one i b → b ≡ p (f i))
    → first_from p l.start (rows f l.start (n - l.start)) ≡ first_from p l.i (rows f l.i (n - l.i))

abbrev pub decreases-loop-i : goal.decreases-loop-i
decreases-loop-i g l = l.count - l.i
