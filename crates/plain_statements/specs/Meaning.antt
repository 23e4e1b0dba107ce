-- What the table of statements means in the words of the rules. Assumes nothing.
use Rattle.std.specs.Prelude.{ℕ, ◌+◌, ◌≡◌, Bool, true, false, not, ◌&&◌, ◌||◌, List, ltb, eqb, Some, None}
use Rattle.std.specs.Prelude as code
use Rattle.std.proofs.Math.Option.{Option, none, some}
use Rattle.rules.specs.Limits.{most_statements_small}
use Rattle.rules.specs.Words as words
use Rattle.wire.specs.Meaning.{statement_of}
use Rattle.plain_words.specs.Meaning.{noted_of}
use Rattle.plain_words.specs.Places.{firsts, Within}
use Rattle.plain_statements.specs.declared.Held.{Held}
use Rattle.plain_statements.specs.declared.Statements.{Statements}

-- a stored statement, with the clock of its vote
unfoldable pub held_of : Held → words.Statement
unfolding statement_of
held_of h = statement_of h.statement (noted_of h.voted)

-- what stands in an item that was never written
abbrev pub blank : Held
blank =
    record {
      statement = record {
        is_new_view = false;
        view = 0;
        height = 0;
        name = record { first = 0; second = 0; third = 0; fourth = 0 };
        link = record { first = 0; second = 0; third = 0; fourth = 0 };
        mask = 0;
        author = 0;
      };
      voted = None;
    }

-- what a search found
abbrev pub found_of : code.Option Held → Option words.Statement
found_of (Some h) = some (held_of h)
found_of None = none

-- the first so many items of the array
unfoldable pub statements : Statements → List words.Statement
unfolding firsts held_of
statements t = firsts held_of t.items t.count

-- one more than the limit
abbrev pub room : ℕ
room = most_statements_small + 1

-- a table that holds these, in the room that it has
pub record Holds (t : Statements) (xs : List words.Statement) : Type 0 where
  pub within : Within room t.items t.count
  pub is : statements t ≡ xs

-- the tests of `is_opened` and `is_used`
abbrev pub opens : ℕ → words.Statement → Bool
opens v x = x.is_new_view && eqb x.view v

abbrev pub uses : ℕ → words.Statement → Bool
uses b x = eqb b x.name || not x.is_new_view && eqb b x.link

-- the step of `top`: a statement, and the top of those behind it
unfoldable pub over : ℕ → words.Statement → Option words.Statement → Option words.Statement
over v x best =
    elim (eqb x.view v) [
      | false ↦ best
      | true ↦ elim best [ none ↦ some x | some y ↦ elim (ltb x.height y.height) [ true ↦ some y | false ↦ some x ] ]
    ]
