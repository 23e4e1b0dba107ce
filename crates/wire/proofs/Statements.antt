-- Statements as they are sent, and a link as its last word. Assumes nothing.
use Prim.Native.Nat.{ℕ, ◌+◌, ◌*◌, ◌^◌, ◌<◌}
use mathlib.Core.Path.{◌≡◌}
use mathlib.Core.Bool.{true, false}
use mathlib.Core.Option.{none}
use native.Mathlib.Omega.{arith}
use Rattle.fields.specs.declared.Name.{Name}
use Rattle.fields.specs.Names.{name_of}
use Rattle.rules.specs.Messages.{new_view, propose}
use Rattle.rules.specs.Words.{message}
use Rattle.wire.specs.declared.Statement.{Statement}
use Rattle.wire.specs.Meaning.{statement_of}

-- a link below a view is its last word
low_word : (n x v : ℕ) → v < 2 ^ 64 → n * 2 ^ 64 + x < v → x ≡ n * 2 ^ 64 + x
low_word n x v h k = omega arith

pub link_word : (l : Name) (v : ℕ) → v < 2 ^ 64 → name_of l < v → l.fourth ≡ name_of l
unfolding name_of
link_word l v h k = low_word ((l.first * 2 ^ 64 + l.second) * 2 ^ 64 + l.third) l.fourth v h k

-- a statement as it is sent, by its kind
module _ (x : Statement) where
  pub new_view_said_lem : x.is_new_view ≡ true
      → message (statement_of x none) ≡ new_view x.view x.height (name_of x.name) (name_of x.link) x.mask x.author
  unfolding message statement_of
  new_view_said_lem e = rw e

  pub propose_said_lem : x.is_new_view ≡ false
      → message (statement_of x none) ≡ propose x.view x.height (name_of x.name) (name_of x.link) x.mask x.author
  unfolding message statement_of
  propose_said_lem e = rw e
