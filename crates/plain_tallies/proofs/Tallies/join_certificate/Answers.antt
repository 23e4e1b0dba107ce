-- `plain_tallies::Tallies::join_certificate` meets its contract. Assumes nothing.
use Rattle.plain_tallies.proofs.Laws.{join_none, join_other}
use mathlib.Core.Path.{◌∙◌}
use Rattle.plain_words.specs.Meaning.{certificate_of}
use Rattle.plain_tallies.specs.Meaning.{tallies, moment_of}
use Rattle.plain_tallies.proofs.Tallies.join_certificate.Goals as goal

pub returns-then-t-eq0 : goal.returns-then-t-eq0
unfolding certificate_of
returns-then-t-eq0 c =
    let a = c.args in
    record { within = c.requires.0; is = join_none (moment_of a.moment) (certificate_of a.t) (tallies a.self) c.if-t-eq0.true }

pub returns : goal.returns
unfolding certificate_of
returns c =
    let a = c.args in
    record { within = c.join.ensures.within; is = c.join.ensures.is ∙ join_other (moment_of a.moment) (certificate_of a.t) (tallies a.self) c.if-t-eq0.false }
