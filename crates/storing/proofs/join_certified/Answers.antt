-- `storing::join_certified` meets its contract. Assumes nothing.
use Rattle.storing.proofs.Records.{certified_block}
use Rattle.joining.proofs.Joining.{certificate_joins, certified_some, certified_none}
use Rattle.words.specs.Meaning.{block_of}
use Rattle.store.specs.Decode.{tallies, state_of}
use mathlib.Core.Path.{◌∙◌}
use Rattle.rules.specs.Words.{moment}
use Rattle.tallies.specs.Meaning.{with_voters, voters_of, author_of}
use Rattle.storing.proofs.join_certified.Goals as goal

pub join_found-requires : goal.join_found-requires
unfolding block_of
join_found-requires c =
    let a = c.args in
    let t = block_of a.block in
    let ts = tallies a.store.now in
    let d = c.if-block-ne0.true in
    (c.requires.0, rw (← certificate_joins (moment (author_of a.voters) (state_of a.store.now)) (with_voters (voters_of a.voters) t) ts d) c.requires.1, c.requires.2 ∙ certified_block t ts d, c.requires.4, c.requires.3)

pub returns-then-block-ne0 : goal.returns-then-block-ne0
unfolding block_of
returns-then-block-ne0 c =
    let if1 = c.if-block-ne0 in
    rw (certified_some (author_of c.args.voters) (with_voters (voters_of c.args.voters) (block_of c.args.block)) (state_of c.args.store.now) if1.true) c.join_found.ensures.left

pub returns-else-block-ne0 : goal.returns-else-block-ne0
unfolding block_of
returns-else-block-ne0 c =
    record { form = c.requires.0; is = certified_none (author_of c.args.voters) (with_voters (voters_of c.args.voters) (block_of c.args.block)) (state_of c.args.store.now) c.if-block-ne0.false }
