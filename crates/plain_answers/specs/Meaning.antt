-- What a fold over a list leaves, and how an input comes to it. Assumes nothing.
use Rattle.std.specs.Prelude.{ℕ, ◌≡◌, List, length, Some, None, IfSome}
use Rattle.std.specs.Prelude as code
use Rattle.std.proofs.Math.Option.{Option, none, some}
use Rattle.rules.specs.Words.{State}
use Rattle.lent_list.specs.Lists.{kind_of, bytes_of, input_of}
use Rattle.plain_tables.specs.declared.Engine.{Engine}
use Rattle.plain_tables.specs.Meaning.{state}
use Rattle.plain_messages.specs.Whole.{Whole}

-- the state that a fold came to, or none
abbrev pub fold_of : code.Option Engine → Option State
fold_of (Some e) = some (state e)
fold_of None = none

pub record FoldedTo (x : Option State) (r : code.Option Engine) : Type 0 where
  pub is : fold_of r ≡ x
  pub whole : IfSome r (λ e. Whole e)

-- an input by its kind and its bytes, as a record holds them: a tick has none, a name 32
pub record Comes (k : ℕ) (bs : List ℕ) : Type 0 where
  pub kind : kind_of (input_of k bs) ≡ k
  pub bytes : bytes_of (input_of k bs) ≡ bs
  pub named : k ≡ 2 → length bs ≡ 32
