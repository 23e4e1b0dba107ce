-- `reader::has` meets its contract: a tag above 8 is no kind's; else its bit. Assumes nothing.
use native.Mathlib.Omega.{arith}
use Rattle.rules.specs.Sizes.{holds}
use Rattle.wire.proofs.Reading.{tag_above}
use Rattle.reader.proofs.has.Goals as goal

pub returns-then-tag-gt8 : goal.returns-then-tag-gt8
returns-then-tag-gt8 c = tag_above _ _ c.if-tag-gt8.true

pub returns : goal.returns
unfolding holds
returns c = c.tags_of.ensures c.args.tag (omega (arith, c.if-tag-gt8.false))
