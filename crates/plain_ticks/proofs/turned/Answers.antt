-- `plain_ticks::turned` meets its contract: one rule after another. Assumes nothing.
use mathlib.Core.Path.{◌∙◌}
use native.Mathlib.Omega.{arith}
use Rattle.outgoing.proofs.Writing.{says_length}
use Rattle.plain_tables.specs.Meaning.{names, state}
use Rattle.plain_ticks.proofs.Turning.{logged_whole, logged_space, whole_view, complained_whole, complained_space, led_ready, led_space, turned_worked}
use Rattle.plain_ticks.proofs.turned.Goals as goal

pub logging-logged-requires : goal.logging-logged-requires
logging-logged-requires c = let k = c.requires.0 in (k.whole.sized, k.within, k.grown, omega (arith, k.within.most, c.requires.1))

pub complain-complained-requires : goal.complain-complained-requires
complain-complained-requires c =
    let g = c.logging-logged in
    let k = logged_whole c.args.e c.args.log c.requires.0 _ g.ensures in
    (k.sized, whole_view g.result.engine k, omega (arith, logged_space c.args.e c.args.log c.requires.0 _ g.ensures c.requires.1))

pub lead-led-requires : goal.lead-led-requires
lead-led-requires c =
    let g = c.logging-logged in
    let k = logged_whole c.args.e c.args.log c.requires.0 _ g.ensures in
    let h = logged_space c.args.e c.args.log c.requires.0 _ g.ensures c.requires.1 in
    let b = c.complain-complained in
    (complained_whole g.result.engine k _ g.result.at b.ensures, omega (arith, complained_space g.result.engine k _ g.result.at b.ensures h))

pub enter-requires : goal.enter-requires
enter-requires c =
    let g = c.logging-logged in
    let k = logged_whole c.args.e c.args.log c.requires.0 _ g.ensures in
    let h = logged_space c.args.e c.args.log c.requires.0 _ g.ensures c.requires.1 in
    let b = c.complain-complained in
    let k' = complained_whole g.result.engine k _ g.result.at b.ensures in
    let h' = complained_space g.result.engine k _ g.result.at b.ensures h in
    let l = c.lead-led in
    (led_ready b.result.engine k' _ b.result.at l.ensures, led_space b.result.engine k' _ b.result.at l.ensures h')

pub shape_of-out : goal.shape_of-out
shape_of-out c =
    let logging = c.logging-logged in
    let complain = c.complain-complained in
    let lead = c.lead-led in
    says_length c.enter.ensures.says ∙ says_length lead.ensures.says ∙ says_length complain.ensures.says ∙ says_length logging.ensures.says

pub returns : goal.returns
returns c =
    let args = c.args in
    let logging = c.logging-logged in
    let complain = c.complain-complained in
    let lead = c.lead-led in
    turned_worked (names args.log) (state args.e) logging.ensures complain.ensures lead.ensures c.enter.ensures
