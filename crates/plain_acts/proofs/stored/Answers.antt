-- `plain_acts::stored` meets its contract. Assumes nothing.
use native.Mathlib.Omega.{arith}
use mathlib.Core.Option.{none}
use Rattle.wire.specs.Meaning.{statement_of}
use Rattle.plain_words.specs.Meaning.{certificate_of}
use Rattle.plain_tallies.specs.Meaning.{moment_of}
use Rattle.plain_tallies.proofs.Laws.{certificate_count}
use Rattle.plain_tables.proofs.Laws.{given}
use Rattle.plain_acts.proofs.Laws.{stored_gives}
use Rattle.plain_acts.proofs.stored.Goals as goal

pub certificate_of-certificate-requires : goal.certificate_of-certificate-requires
certificate_of-certificate-requires c =
    c.requires.3

pub push-more-requires : goal.push-more-requires
push-more-requires c =
    (c.requires.0.statements, c.requires.1)

pub join_certificate-certified-requires : goal.join_certificate-certified-requires
join_certificate-certified-requires c =
    (c.requires.0.tallies, omega (arith, c.requires.2))

pub join-opened-requires : goal.join-opened-requires
join-opened-requires c =
    let a = c.args in let pre = c.requires in
    let moment-of = c.moment_of-moment in let certificate-of = c.certificate_of-certificate in
    (c.join_certificate-certified.ensures.within, omega (arith, pre.2, certificate_count a.e.tallies pre.0.tallies (moment_of moment-of.result) (certificate_of certificate-of.result) c.join_certificate-certified.result c.join_certificate-certified.ensures))

pub returns : goal.returns
returns c =
    let a = c.args in let pre = c.requires in
    let moment-of = c.moment_of-moment in
    let certificate-of = c.certificate_of-certificate in
    let own_Block = c.own_block-block in let push = c.push-more in
    let join-certificate = c.join_certificate-certified in
    given c.with_tables.ensures
    (stored_gives a.e pre.0 (moment_of moment-of.result) (statement_of a.x none) (certificate_of certificate-of.result) (certificate_of own_Block.result) push.result join-certificate.result c.join-opened.result moment-of.ensures certificate-of.ensures own_Block.ensures push.ensures join-certificate.ensures.is c.join-opened.ensures)
