-- The bytes before the next are typed. Assumes nothing.
use Rattle.std.proofs.Common.{◌∙◌, sym, arith}
use Rattle.page.proofs.Typing.{next_byte, none_left}
use Rattle.page.proofs.Page.say.Goals as goal

pub loop-byte-preserved : goal.loop-byte-preserved
loop-byte-preserved g c =
    rw (c.put.ensures.0, c.put.ensures.1) (c.loop-byte.invariant ∙ next_byte c.args.words.now c.loop-byte.byte-index (omega arith) _ _)

pub returns : goal.returns
returns g c =
    sym (c.loop-byte.invariant ∙ none_left _ _ c.args.words.now c.loop-byte.byte-index (omega arith) (omega arith))
