-- `plain_inputs::turn_by` meets its contract. Assumes nothing.
use native.Mathlib.Omega.{arith}
use Rattle.plain_inputs.proofs.Inputs.{by_tick, by_offer, by_step}
use Rattle.plain_inputs.proofs.turn_by.Goals as goal

pub returns-then-kind-eq1 : goal.returns-then-kind-eq1
returns-then-kind-eq1 c = by_tick c.args.kind c.args.input.now _ c.if-kind-eq1.true c.tick.ensures

pub get_name-name-requires : goal.get_name-name-requires
get_name-name-requires c = omega (arith, c.requires.1 c.if-kind-eq2.true)

pub returns-then-kind-eq2 : goal.returns-then-kind-eq2
returns-then-kind-eq2 c =
    let if1 = c.if-kind-eq1 in let if2 = c.if-kind-eq2 in
    let get-name = c.get_name-name in
    by_offer c.args.kind c.args.input.now _ if1.false if2.true (c.requires.1 if2.true) get-name.ensures.0 c.offer.ensures

pub returns : goal.returns
returns c =
    let if1 = c.if-kind-eq1 in let if2 = c.if-kind-eq2 in
    by_step c.args.kind c.args.input.now _ if1.false if2.false c.step.ensures
