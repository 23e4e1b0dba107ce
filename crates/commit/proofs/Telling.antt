-- The block that the check told of at a height adds nothing to the log. Assumes nothing.
use Prim.Native.Nat.{ℕ, suc, ◌+◌, ◌<◌, ◌≤◌}
use mathlib.Core.Path.{◌≡◌, refl, ◌∙◌}
use mathlib.Core.List.{List}
use mathlib.Core.Option.{some}
use native.Mathlib.Omega.{arith}
use Rattle.rules.specs.Inputs.{commit}
use Rattle.store.specs.Decode.{nth, rows, statement_at, statements, name_at}
use Rattle.linked.specs.Told.{Told}
use Rattle.walks.proofs.Reaching.{told_chain}
use Rattle.merging.proofs.Joining.{commit_some, merge_short}

module _ {b t : List ℕ} (told : Told b t) (k p : ℕ) (q : nth t k ≡ suc p) where
  -- it commits nothing, whatever the log has above the names that the check saw
  pub told_commits : (g : ℕ → ℕ) (n : ℕ) → k < n → ((j : ℕ) → j ≤ k → g j ≡ name_at b j) → commit (statements b) (statement_at b p) (rows g 0 n) ≡ some (rows g 0 n)
  told_commits g n l e =
      commit_some (statements b) (statement_at b p) (rows g 0 n) _ (told_chain told k p q g e) ∙ merge_short g g 0 (k + 1) n (omega arith) (λ j u v. refl)
