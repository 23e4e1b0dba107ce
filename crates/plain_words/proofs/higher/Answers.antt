-- `plain_words::higher` meets its contract. Assumes nothing.
use mathlib.Core.Path.{◌≡◌, ◌∙◌}
use lib.Dec.{ltb}
use Rattle.fields.specs.Names.{name_of}
use Rattle.fields.proofs.Names.{is_before}
use Rattle.plain_words.specs.Meaning.{certificate_of}
use Rattle.rules.specs.Words.{higher}
use Rattle.plain_words.proofs.higher.Goals as goal

pub returns : goal.returns
unfolding higher certificate_of
returns c =
    let a = c.args in
    let e : c.lt.result ≡ ltb (name_of a.t.name) (name_of a.u.name) = c.lt.ensures ∙ is_before (name_of a.t.name) (name_of a.u.name) in
    rw (c.below.ensures, c.below-2.ensures, e)
