-- No vote matters to a search of the statements; a vote that is noted; the step of the search for the top one. Assumes nothing.
use Prim.Native.Nat.{ℕ, ◌<◌, ◌≤◌}
use mathlib.Core.Path.{◌≡◌, refl}
use mathlib.Core.List.{List, [], ◌∷◌}
use mathlib.Core.Option.{Option, none, some}
use borrow.Author.Tests.{eq-eqb, ne_eqb, lt-ltb, le-ltb}
use Rattle.rules.specs.Words as words
use Rattle.rules.specs.Inputs as inputs
use Rattle.wire.specs.Meaning.{statement_of}
use Rattle.wire.specs.declared.Statement as wire
use Rattle.plain_words.specs.Meaning.{noted_of}
use Rattle.std.specs.Prelude as code
use Rattle.std.specs.Prelude.{Some, None}
use Rattle.plain_words.proofs.Searches.{meant}
use Rattle.plain_words.proofs.Statements.{same_unvoted, conflict_unvoted}
use Rattle.plain_statements.specs.declared.Held.{Held}
use Rattle.plain_statements.specs.Meaning.{held_of, found_of, opens, uses, over}

-- no vote matters to a search
module _ (x : wire.Statement) (h : Held) where
  pub same_held : words.same_statement (statement_of x none) (held_of h) ≡ words.same_statement (statement_of x none) (statement_of h.statement none)
  unfolding held_of
  same_held = same_unvoted x h.statement (noted_of h.voted)

  pub conflict_held : words.conflict (statement_of x none) (held_of h) ≡ words.conflict (statement_of x none) (statement_of h.statement none)
  unfolding held_of
  conflict_held = conflict_unvoted x h.statement (noted_of h.voted)

pub opens_held : (v : ℕ) (h : Held) → opens v (held_of h) ≡ opens v (statement_of h.statement none)
unfolding held_of statement_of
opens_held v h = refl

pub uses_held : (b : ℕ) (h : Held) → uses b (held_of h) ≡ uses b (statement_of h.statement none)
unfolding held_of statement_of
uses_held b h = refl

-- what a search found
pub found_meant : (o : code.Option Held) → found_of o ≡ meant held_of o
found_meant None = refl
found_meant (Some h) = refl

-- a vote that is noted
pub noted_held : (clock : ℕ) (h : Held) → held_of (record { statement = h.statement; voted = Some clock }) ≡ inputs.noted clock (held_of h)
unfolding held_of inputs.noted statement_of
noted_held clock h = refl

-- the steps of `top`
pub top_none : (v : ℕ) → none ≡ inputs.top v []
unfolding inputs.top
top_none v = refl

module _ (v : ℕ) (x : words.Statement) where
  pub over_other : (o : Option words.Statement) → (x.view ≡ v → ⊥) → o ≡ over v x o
  unfolding over
  over_other o d = rw (ne_eqb x.view v d, over)

  module _ (e : x.view ≡ v) where
    pub over_none : some x ≡ over v x none
    unfolding over
    over_none = rw (eq-eqb x.view v e, over)

    pub over_lower : (y : words.Statement) → x.height < y.height → some y ≡ over v x (some y)
    unfolding over
    over_lower y h = rw (eq-eqb x.view v e, over) (rw (lt-ltb x.height y.height h))

    pub over_greater : (y : words.Statement) → y.height ≤ x.height → some x ≡ over v x (some y)
    unfolding over
    over_greater y h = rw (eq-eqb x.view v e, over) (rw (le-ltb x.height y.height h))

  pub top_over : (xs : List words.Statement) → inputs.top v (x ∷ xs) ≡ over v x (inputs.top v xs)
  unfolding inputs.top over
  top_over xs = refl
