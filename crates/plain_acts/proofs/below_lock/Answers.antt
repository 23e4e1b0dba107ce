-- `plain_acts::below_lock` meets its contract. Assumes nothing.
use mathlib.Core.Path.{ap, ◌∙◌}
use mathlib.Core.Bool.{Bool, ◌&&◌}
use Rattle.rules.specs.Words as words
use Rattle.plain_words.specs.Meaning.{certificate_of}
use Rattle.rules.specs.Inputs as inputs
use Rattle.wire.specs.Meaning.{statement_of}
use Rattle.plain_tables.specs.Meaning.{state}
use Rattle.plain_acts.proofs.below_lock.Goals as goal

pub returns : goal.returns
unfolding inputs.below_lock state statement_of
returns c =
    let a = c.args in
    ap (λ (t : Bool). a.x.is_new_view && t) (c.below.ensures ∙ ap (λ (t : words.Certificate). words.below t (certificate_of a.e.lock)) c.certificate_of.ensures)
