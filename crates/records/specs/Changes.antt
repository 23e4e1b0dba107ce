-- The changes of a state that single writes make, but those of its tallies. Assumes nothing.
use Rattle.std.specs.Prelude.{ℕ, zero, suc, ◌+◌, List, [], ◌∷◌, ◌++◌}
use Rattle.rules.specs.Words.{Statement, State}
use Rattle.rules.specs.Inputs.{with_tables, with_log, noted}

-- the record at place i, changed
unfoldable pub change_at : {A : Type 0} → (A → A) → ℕ → List A → List A
change_at f i [] = []
change_at f zero (x ∷ xs) = f x ∷ xs
change_at f (suc i) (x ∷ xs) = x ∷ change_at f i xs

-- a statement is stored
unfoldable pub storing : Statement → State → State
unfolding with_tables
storing x s = with_tables (s.statements ++ x ∷ []) s.tallies s

-- the vote for statement i "notes the clock"
unfoldable pub noting : ℕ → ℕ → State → State
unfolding with_tables change_at noted
noting i c s = with_tables (change_at (noted c) i s.statements) s.tallies s

-- a name is logged
unfoldable pub appending : ℕ → State → State
unfolding with_log
appending n s = with_log (s.log ++ n ∷ []) s
