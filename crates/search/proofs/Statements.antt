-- What is read of a stored statement, and rules' names of what is looked up. Assumes nothing.
use Prim.Native.Nat.{ℕ}
use mathlib.Core.Path.{◌≡◌, refl, sym, ap, ◌∙◌}
use mathlib.Core.Bool.{not, ◌&&◌, ◌||◌}
use mathlib.Core.Option.{none}
use lib.Dec.{eqb}
use Rattle.rules.specs.Lists.{any}
use Rattle.rules.specs.Words.{Statement, conflict, State}
use Rattle.rules.specs.Inputs.{is_used, current}
use Rattle.fields.specs.Names.{name_of}
use Rattle.wire.specs.Meaning.{statement_of}
use Rattle.wire.specs.declared.Statement as code
use Rattle.words.proofs.Statements.{conflict_unvoted}
use Rattle.store.specs.Decode.{statements}
use Rattle.search.specs.Lookups.{uses, of_view}

-- what holds of a stored statement holds of it as it was read
module _ (x : code.Statement) (y : Statement) (e : statement_of x y.voted ≡ y) where
  pub read_height : x.height ≡ y.height
  unfolding statement_of
  read_height = ap (λ (z : Statement). z.height) e

  pub read_conflict : (w : code.Statement) → conflict (statement_of w none) (statement_of x none) ≡ conflict (statement_of w none) y
  read_conflict w = sym (conflict_unvoted w x none y.voted) ∙ ap (conflict (statement_of w none)) e

  pub read_conflicts : conflict (statement_of x none) ≡ conflict y
  unfolding conflict statement_of
  read_conflicts = ap conflict e

  pub read_uses : (b : ℕ) → (eqb b (name_of x.name) || not x.is_new_view && eqb b (name_of x.link)) ≡ uses b y
  unfolding statement_of
  read_uses b = ap (uses b) e

-- ---- rules' names of what is looked up in a state

module _ (s : State) where
  pub used_is : (b : ℕ) → is_used b s ≡ any (uses b) s.statements
  unfolding is_used
  used_is b = refl

  pub current_is : current s ≡ of_view s.view s.statements
  unfolding current of_view
  current_is = refl
