-- What a statement that is stored makes a station do, and where it stands. Assumes nothing.
use Rattle.std.specs.Prelude.{ℕ, ◌<◌, ◌≡◌, true, false, List, [], ◌∷◌}
use Rattle.std.proofs.Math.Option.{none, some}
use Rattle.rules.specs.Lists.{first}
use Rattle.rules.specs.Messages.{to_all}
use Rattle.rules.specs.Words.{Statement, message, conflict, State}
use Rattle.rules.specs.Inputs.{Work, saying, is_in, quit, voting}
use Rattle.wire.specs.Meaning.{statement_of}
use Rattle.wire.specs.declared.Statement as code
use Rattle.store.specs.Layout.{statement_table, count_of}
use Rattle.store.specs.Decode.{statement_at}

-- rules' `statement` of a new one, from the moment on that it is stored
unfoldable pub answered : Statement → State → Work
unfolding saying is_in first conflict voting quit message
answered x s =
    elim (is_in x.view s) [
      | false ↦ saying s []
      | true ↦
          elim (first (conflict x) s.statements)
          [ none ↦ voting x s | some y ↦ quit (to_all (message y) ∷ to_all (message x) ∷ []) s ]
    ]

-- the stored statement at a place is this one, but for its vote
pub record Stands (b : List ℕ) (i : ℕ) (x : code.Statement) : Type 0 where
  pub within : i < count_of statement_table b
  pub is : statement_of x (statement_at b i).voted ≡ statement_at b i
