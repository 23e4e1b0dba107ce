-- `plain_tallies::better` meets its contract. Assumes nothing.
use Rattle.settings.specs.Made.{settings_of}
use Rattle.plain_tallies.proofs.Laws.{best_own, best_other}
use mathlib.Core.Path.{ap, ◌∙◌}
use Rattle.rules.specs.Words as words
use Rattle.plain_words.specs.Meaning.{certificate_of}
use Rattle.rules.specs.Sizes.{quorum}
use Rattle.plain_tallies.specs.Meaning.{tally_of}
use Rattle.plain_tallies.proofs.better.Goals as goal

pub returns-then-t-view : goal.returns-then-t-view
unfolding tally_of words.certified
returns-then-t-view c =
    let a = c.args in
    let certificate-of = c.certificate_of-own in
    let from = c.from in let the-quorum = c.quorum-certified in let higher = c.higher-higher in
    best_own (settings_of a.settings) a.view (tally_of a.t) (certificate_of a.best) (certificate_of certificate-of.result) the-quorum.result higher.result certificate-of.ensures
    (the-quorum.ensures ∙ ap (quorum (settings_of a.settings)) from.ensures) higher.ensures c.if-t-view.true

pub returns : goal.returns
unfolding tally_of words.certified
returns c =
    let a = c.args in
    let certificate-of = c.certificate_of-own in
    let from = c.from in let the-quorum = c.quorum-certified in let higher = c.higher-higher in
    best_other (settings_of a.settings) a.view (tally_of a.t) (certificate_of a.best) (certificate_of certificate-of.result) the-quorum.result higher.result certificate-of.ensures
    (the-quorum.ensures ∙ ap (quorum (settings_of a.settings)) from.ensures) higher.ensures c.if-t-view.false
