-- `plain_acts::tallied` meets its contract. Assumes nothing.
use Rattle.plain_words.specs.Meaning.{certificate_of}
use Rattle.plain_tallies.specs.Meaning.{opener_of, moment_of}
use Rattle.plain_tables.proofs.Laws.{given}
use Rattle.plain_acts.proofs.Laws.{tallied_gives}
use Rattle.plain_acts.proofs.tallied.Goals as goal

pub join_certificate-now-requires : goal.join_certificate-now-requires
join_certificate-now-requires c =
    (c.requires.0.tallies, c.requires.1)

pub returns : goal.returns
returns c =
    let a = c.args in let pre = c.requires in let moment-of = c.moment_of-moment in
    given c.with_tables.ensures (tallied_gives a.e pre.0 (moment_of moment-of.result) (opener_of a.opener) (certificate_of a.t) c.join_certificate-now.result moment-of.ensures c.join_certificate-now.ensures)
