-- `plain_arrivals::enter` meets its contract: the entry, then what is done there. Assumes nothing.
use mathlib.Core.Path.{sym, ◌∙◌}
use native.Mathlib.Omega.{arith}
use Rattle.plain_arrivals.proofs.Arriving.{ready_view, stays, entered_ready, entered_space, enters}
use Rattle.plain_arrivals.proofs.enter.Goals as goal

pub returns-then-not-enters_now : goal.returns-then-not-enters_now
returns-then-not-enters_now c = stays c.args.e c.requires.0 _ c.args.at (sym c.enters_now.ensures ∙ c.if-not-enters_now.true)

pub entered-w-requires : goal.entered-w-requires
entered-w-requires c = (c.requires.0.sized, ready_view c.args.e c.requires.0, omega (arith, c.requires.1))

pub arrive-requires : goal.arrive-requires
arrive-requires c =
    let q = sym c.enters_now.ensures ∙ c.if-not-enters_now.false in
    (entered_ready c.args.e c.requires.0 _ c.args.at q c.entered-w.ensures, entered_space c.args.e c.requires.0 _ c.args.at q c.entered-w.ensures c.requires.1)

pub returns : goal.returns
returns c =
    let enters-now = c.enters_now in
    let if1 = c.if-not-enters_now in let entered = c.entered-w in
    enters c.args.e c.requires.0 _ c.args.at (sym enters-now.ensures ∙ if1.false) entered.ensures c.arrive.ensures
