-- `plain_acts::is_in` meets its contract. Assumes nothing.
use Rattle.plain_acts.proofs.Laws.{in_view_lem, in_other}
use Rattle.plain_acts.proofs.is_in.Goals as goal

pub returns-in-InView : goal.returns-in-InView
returns-in-InView c =
    let a = c.args in
    in_view_lem a.e a.view c.in-InView.is

pub returns-in_default : goal.returns-in_default
returns-in_default c =
    let a = c.args in
    in_other a.e a.view c.in_default.not-InView
