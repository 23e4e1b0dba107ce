-- The bytes before the next are typed. Assumes nothing.
use Rattle.std.proofs.Common.{◌∙◌, sym, arith}
use Rattle.page.specs.Page.{typed}
use Rattle.page.proofs.Typing.{next_pair, no_pairs_left, dash, shown_pairs}
use Rattle.page.proofs.Page.bytes.Goals as goal

pub loop-byte-preserved : goal.loop-byte-preserved
loop-byte-preserved g c =
    c.loop-byte.invariant ∙ next_pair c.args.shown.now c.loop-byte.byte-index (omega arith) _ _ _ _ c.pair.ensures

pub returns : goal.returns
returns g c =
    rw (shown_pairs c.args.shown.now (λ e. omega arith)) (sym (c.loop-byte.invariant ∙ no_pairs_left _ _ c.args.shown.now c.loop-byte.byte-index (omega arith) (omega arith)))

pub returns-then-shown-eq0 : goal.returns-then-shown-eq0
unfolding typed
returns-then-shown-eq0 g c = rw (dash c.args.shown.now c.if-shown-eq0.true) (cc)
