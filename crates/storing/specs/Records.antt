-- What is found before an act: where the tallies are, whether they need records; and what is left once records are written.
-- Assumes nothing.
use Rattle.std.specs.Prelude.{ℕ, ◌≡◌, Bool, true, false, List, leb, eqb, Option, Some, None}
use Rattle.rules.specs.Limits.{most_opened}
use Rattle.rules.specs.Lists.{any}
use Rattle.rules.specs.Words.{Statement, same_statement, Certificate, Tally, own_block, certificate, same_block, opened_by, State}
use Rattle.rules.specs.Inputs.{stored}
use Rattle.rules.specs.Refusals.{has_room}
use Rattle.store.specs.Decode.{tallies, Left}
use Rattle.store.specs.Searches.{first_from, block_at}

-- the place of a certificate's tally; genesis "has no tally" in view 0
unfoldable pub certified_at : Certificate → List Tally → Option ℕ
unfolding first_from same_block
certified_at t us = elim (eqb t.view 0) [ true ↦ None | false ↦ block_at t us ]

-- the records that a tally needs by its place
unfoldable pub needed : Certificate → Option ℕ → ℕ
needed t r = elim (eqb t.view 0) [ true ↦ 0 | false ↦ elim r [ Some j ↦ 0 | None ↦ 1 ] ]

-- a vote would open a tally, by its place, and its author opened as many as one may
unfoldable pub used_by : Option ℕ → ℕ → List Tally → Bool
unfolding opened_by
used_by (Some j) a us = false
used_by None a us = leb most_opened (opened_by a us)

-- the next state where there is room for it, else the state as it was
unfoldable pub fitting : State → State → State
unfolding has_room
fitting next s = elim (has_room next) [ true ↦ next | false ↦ s ]

-- a change is made if there is room, and the answer says whether there was
pub record Tried (next s : State) (b' : List ℕ) (r : Bool) : Type 0 where
  pub room : r ≡ has_room next
  pub left : Left b' (fitting next s)

-- a statement is new and has room, and its tallies are at these places
pub record Newly (x : Statement) (s : State) (p q : Option ℕ) : Type 0 where
  pub is_new : any (same_statement x) s.statements ≡ false
  pub room : has_room (stored x s) ≡ true
  pub certified : p ≡ certified_at (certificate x) s.tallies
  pub own : q ≡ block_at (own_block x 0) s.tallies

-- it is stored, and its own block's tally stands at place i now
pub record Stored (x : Statement) (s : State) (b' : List ℕ) (i : ℕ) : Type 0 where
  pub left : Left b' (stored x s)
  pub place : Some i ≡ block_at (own_block x 0) (tallies b')
