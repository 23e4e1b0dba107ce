-- A statement's sameness and certificate, over the code's values. Assumes nothing.
use Prim.Native.Nat.{ℕ, ◌^◌, ◌<◌}
use mathlib.Core.Path.{◌≡◌, refl, sym}
use mathlib.Core.Bool.{true, ◌&&◌, beq}
use mathlib.Core.Option.{Option, none}
use native.Mathlib.Omega.{arith}
use lib.Dec.{eqb}
use Rattle.rules.specs.Words.{same_statement, against, conflict}
use Rattle.laws.proofs.Truths.{beq_iff}
use Rattle.fields.specs.Names.{name_of}
use Rattle.wire.specs.Meaning.{statement_of}
use Rattle.wire.specs.declared.Statement.{Statement}
use Rattle.wire.proofs.Statements.{link_word}
use Rattle.plain_words.specs.Meaning.{Certifies}

module _ (x y : Statement) where
  pub same_is : (beq x.is_new_view y.is_new_view && eqb x.view y.view && eqb x.height y.height && eqb (name_of x.name) (name_of y.name) && eqb (name_of x.link) (name_of y.link) && eqb x.author y.author)
      ≡ same_statement (statement_of x none) (statement_of y none)
  unfolding same_statement statement_of
  same_is = rw (beq_iff x.is_new_view y.is_new_view)

  -- no vote matters
  pub same_unvoted : (w : Option ℕ) → same_statement (statement_of x none) (statement_of y w) ≡ same_statement (statement_of x none) (statement_of y none)
  unfolding same_statement statement_of
  same_unvoted w = refl

  pub conflict_unvoted : (w : Option ℕ) → conflict (statement_of x none) (statement_of y w) ≡ conflict (statement_of x none) (statement_of y none)
  unfolding conflict same_statement against statement_of
  conflict_unvoted w = refl

module _ (x : Statement) (k : Certifies (statement_of x none)) (p : x.is_new_view ≡ true) where
  small : name_of x.link < 2 ^ 32
  unfolding statement_of
  small = k.view p

  pub link_view : name_of x.link ≡ x.link.fourth
  link_view = sym (link_word x.link (2 ^ 32) (omega arith) small)

  pub link_small : x.link.fourth < 2 ^ 32
  link_small = rw (sym link_view) small
