-- What the readers of the store say of a stored statement. Assumes nothing.
use Prim.Native.Nat.{ℕ}
use mathlib.Core.Path.{◌≡◌, ap}
use mathlib.Core.Bool.{Bool, true, false, not, ◌&&◌, and-true, and-false}
use mathlib.Core.Option.{Option}
use lib.Dec.{eqb}
use borrow.Author.Tests.{eqb-true, eq-eqb, ne_eqb, not-true}
use Rattle.rules.specs.Words as words
use Rattle.rules.specs.Inputs.{is_block}
use Rattle.laws.proofs.Tests.{and_left, and_right}
use Rattle.fields.specs.Names.{name_of}
use Rattle.wire.specs.Meaning.{statement_of}
use Rattle.wire.specs.declared.Statement.{Statement}

-- the parts of a statement that was read
module _ (x : Statement) (v : Option ℕ) (y : words.Statement) (e : statement_of x v ≡ y) where
  pub height_of_lem : x.height ≡ y.height
  unfolding statement_of
  height_of_lem = ap (λ (s : words.Statement). s.height) e

  pub name_of_lem : name_of x.name ≡ y.name
  unfolding statement_of
  name_of_lem = ap (λ (s : words.Statement). s.name) e

  pub link_of_lem : name_of x.link ≡ y.link
  unfolding statement_of
  link_of_lem = ap (λ (s : words.Statement). s.link) e

  -- where the height agrees, kind and name tell
  pub block_agrees : (h n : ℕ) → h ≡ y.height → (own : Bool) → own ≡ eqb n (name_of x.name) → (not x.is_new_view && own) ≡ is_block h n y
  unfolding is_block statement_of
  block_agrees h n p own q = rw (q, name_of_lem, ap (λ (s : words.Statement). s.is_new_view) e, eq-eqb _ _ p, and-true)

pub block_differs : (h n : ℕ) (y : words.Statement) → (h ≡ y.height → ⊥) → false ≡ is_block h n y
unfolding is_block
block_differs h n y d = rw (ne_eqb _ _ d, and-false)

-- a block that is found is a propose and has the height and the name
pub block_propose : (h n : ℕ) (x : words.Statement) → is_block h n x ≡ true → x.is_new_view ≡ false
unfolding is_block
block_propose h n x e = not-true x.is_new_view (and_left (not x.is_new_view) _ (and_left (not x.is_new_view && eqb h x.height) _ e))

pub block_height : (h n : ℕ) (x : words.Statement) → is_block h n x ≡ true → h ≡ x.height
unfolding is_block
block_height h n x e = eqb-true _ _ (and_right (not x.is_new_view) _ (and_left (not x.is_new_view && eqb h x.height) _ e))

pub block_name : (h n : ℕ) (x : words.Statement) → is_block h n x ≡ true → n ≡ x.name
unfolding is_block
block_name h n x e = eqb-true _ _ (and_right (not x.is_new_view && eqb h x.height) _ e)
