-- What a station needs that it may vote on statements that it stored. Assumes nothing.
use Rattle.std.specs.Prelude.{ℕ, ◌+◌, ◌*◌, ◌<◌, ◌≡◌, true, List}
use Rattle.rules.specs.Lists.{any}
use Rattle.rules.specs.Words.{Statement, Tally, of_block, own_block}
use Rattle.kept.specs.Parts.{Formed}
use Rattle.kept.specs.Said.{Each}
use Rattle.plain_words.specs.Meaning.{Certifies}
use Rattle.plain_statements.specs.Meaning as statement_room
use Rattle.plain_tallies.specs.Meaning as tally_room
use Rattle.plain_tables.specs.declared.Engine.{Engine}
use Rattle.plain_tables.specs.Meaning.{state, Sized}

-- its certificate fits, and "tallies exist from now on for .. its own block"
pub record Votable (ts : List Tally) (x : Statement) : Type 0 where
  pub certifies : Certifies x
  pub there : any (of_block (own_block x 0)) ts ≡ true

abbrev pub Votables : List Tally → List Statement → Type 0
Votables ts xs = Each (Votable ts) xs

-- the bytes that a statement and the vote for it take at most, for every statement that a table has room for; and what a voting asks
-- for beyond them
abbrev pub votes_long : ℕ
votes_long = 160 * statement_room.room + 40

-- a station in a formed state whose tallies have room for one more
pub record OneFree (e : Engine) : Type 0 where
  pub sized : Sized e
  pub formed : Formed (state e)
  pub free : e.tallies.count < tally_room.room
