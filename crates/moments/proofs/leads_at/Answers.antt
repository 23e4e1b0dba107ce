-- `moments::leads_at` meets its contract, by the loaded numbers. Assumes nothing.
use Rattle.moments.proofs.Moments.{short_delay, loaded_never, loaded_then}
use native.Mathlib.Omega.{arith}
use mathlib.Core.Path.{sym, ◌∙◌}
use Rattle.moments.proofs.leads_at.Goals as goal

pub overflow_mul-settings : goal.overflow_mul-settings
overflow_mul-settings c =
    omega (arith, short_delay c.requires.0 c.args.station c.requires.1)

pub is_past-requires : goal.is_past-requires
is_past-requires c =
    omega (arith, short_delay c.requires.0 c.args.station c.requires.1)

pub returns-then-not-is_past : goal.returns-then-not-is_past
returns-then-not-is_past c =
    let args = c.args in let pre = c.requires in
    loaded_never pre.0 args.station pre.1 args.clock (sym c.is_past.ensures ∙ c.if-not-is_past.true)

pub returns : goal.returns
returns c =
    let args = c.args in let pre = c.requires in
    c.leads_in.ensures
    ∙ loaded_then pre.0 args.station pre.1 args.clock (sym c.is_past.ensures ∙ c.if-not-is_past.false)
