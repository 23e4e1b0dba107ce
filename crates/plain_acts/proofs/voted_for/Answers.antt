-- `plain_acts::voted_for` meets its contract. Assumes nothing.
use mathlib.Core.Path.{ap, ◌∙◌}
use native.Mathlib.Omega.{arith}
use mathlib.Core.Option.{none}
use Rattle.rules.specs.Words as words
use Rattle.wire.specs.Meaning.{statement_of}
use Rattle.plain_words.specs.Meaning.{certificate_of}
use Rattle.plain_tallies.specs.Meaning.{moment_of}
use Rattle.plain_tables.proofs.Laws.{given}
use Rattle.plain_acts.proofs.Laws.{own_small, voted_gives}
use Rattle.plain_acts.proofs.voted_for.Goals as goal

pub mask_of-requires : goal.mask_of-requires
mask_of-requires c =
    omega (arith, own_small c.args.e c.requires.0)

pub noted-noted-requires : goal.noted-noted-requires
noted-noted-requires c =
    c.requires.0.statements

pub join-joined-requires : goal.join-joined-requires
join-joined-requires c =
    (c.requires.0.tallies, c.requires.1)

pub returns : goal.returns
returns c =
    let a = c.args in let pre = c.requires in
    let moment-of = c.moment_of-moment in let mask-of = c.mask_of in
    let own_Block = c.own_block-block in let noted = c.noted-noted in
    given c.with_tables.ensures
    (voted_gives a.e pre.0 (moment_of moment-of.result) (statement_of a.x none) (certificate_of own_Block.result) noted.result c.join-joined.result moment-of.ensures
    (own_Block.ensures ∙ ap (words.own_block (statement_of a.x none)) mask-of.ensures) noted.ensures c.join-joined.ensures)
