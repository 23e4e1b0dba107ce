-- `moves::moving` meets its contract: three acts, each at the place after the one before. Assumes nothing.
use mathlib.Core.Path.{ap}
use native.Mathlib.Omega.{arith}
use Rattle.rules.specs.Limits.{most_statements}
use Rattle.moves.proofs.Turns.{complained_formed, complained_end, complained_room, led_formed, led_end, led_size, moved}
use Rattle.moves.proofs.moving.Goals as goal

pub lead-led-requires : goal.lead-led-requires
lead-led-requires c =
    let p = c.requires in
    let w = c.complain-complained.ensures in
    (complained_formed p.0 w, complained_room p.0 w p.1, omega (arith, (complained_end p.0 w).0, (complained_end p.0 w).1, p.2))

pub enter-requires : goal.enter-requires
enter-requires c =
    let p = c.requires in
    let w = c.complain-complained.ensures in
    let v = c.lead-led.ensures in
    (led_formed p.0 w v, omega (arith, (led_end p.0 w v).0, (led_end p.0 w v).1, p.2, ap most_statements (led_size p.0 w v)))

pub returns : goal.returns
returns c =
    let pre = c.requires in
    let complain = c.complain-complained in
    let lead = c.lead-led in let enter = c.enter in
    moved pre.0 complain.ensures lead.ensures enter.ensures
