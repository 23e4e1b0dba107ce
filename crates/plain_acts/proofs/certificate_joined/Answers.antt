-- `plain_acts::certificate_joined` meets its contract. Assumes nothing.
use mathlib.Core.Option.{none}
use Rattle.wire.specs.Meaning.{statement_of}
use Rattle.plain_words.specs.Meaning.{certificate_of}
use Rattle.plain_tallies.specs.Meaning.{moment_of}
use Rattle.plain_tables.proofs.Laws.{given}
use Rattle.plain_acts.proofs.Laws.{certificate_gives}
use Rattle.plain_acts.proofs.certificate_joined.Goals as goal

pub certificate_of-certificate-requires : goal.certificate_of-certificate-requires
certificate_of-certificate-requires c =
    c.requires.2

pub join_certificate-now-requires : goal.join_certificate-now-requires
join_certificate-now-requires c =
    (c.requires.0.tallies, c.requires.1)

pub returns : goal.returns
returns c =
    let a = c.args in let pre = c.requires in
    let moment-of = c.moment_of-moment in let certificate-of = c.certificate_of-certificate in
    given c.with_tables.ensures (certificate_gives a.e pre.0 (moment_of moment-of.result) (statement_of a.x none) (certificate_of certificate-of.result) c.join_certificate-now.result moment-of.ensures certificate-of.ensures c.join_certificate-now.ensures)
