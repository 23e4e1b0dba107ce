-- `plain_chains::chain` meets its contract: the walk goes down, and what it found stands in the array. Assumes nothing.
use lib.ListN.{drop}
use Rattle.fields.specs.Names.{name_of}
use Rattle.rules.specs.Inputs.{chain_to}
use Rattle.plain_words.specs.Places.{firsts}
use Rattle.plain_statements.specs.Meaning.{statements}
use Rattle.plain_tables.specs.Meaning.{room}
use Rattle.plain_chains.proofs.Walks.{Walk}
use Rattle.plain_chains.proofs.chain.Given as goal

abbrev pub invariant-loop-k : goal.invariant-loop-k
invariant-loop-k l =
    Walk (statements l.xs) (chain_to (statements l.xs) l.initial.k (name_of l.initial.link) (drop l.initial.k (firsts name_of l.initial.items l.count))) l.items l.count l.k (name_of l.link) room
