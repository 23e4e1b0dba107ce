-- `plain_chains::commit` meets its contract: no chain, or the chain joined. Assumes nothing.
use mathlib.Core.Path.{sym, ◌∙◌}
use Rattle.plain_tables.specs.Meaning.{names}
use Rattle.plain_statements.specs.Meaning.{held_of, statements}
use Rattle.plain_chains.proofs.Joins.{gives_none, gives_some, gives_within, commit_passed, commit_joins}
use Rattle.plain_chains.proofs.commit.Goals as goal

pub merge-requires : goal.merge-requires
merge-requires c = (gives_within c.chain.ensures c.in-Some.own c.in-Some.is, c.requires.2)

pub returns-in-Some : goal.returns-in-Some
returns-in-Some c =
    let a = c.args in
    record {
      within = c.merge.ensures.within;
      is = c.merge.ensures.is ∙ sym (commit_joins (statements a.xs) (held_of a.x) _ (names a.log) (gives_some c.chain.ensures c.in-Some.own c.in-Some.is));
    }

pub returns-in-None : goal.returns-in-None
returns-in-None c =
    let a = c.args in
    record { within = c.requires.2; is = sym (commit_passed (statements a.xs) (held_of a.x) (names a.log) (gives_none c.chain.ensures c.in-None.is)) }
