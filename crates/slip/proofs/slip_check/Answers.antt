-- `slip_check` meets its contract: no such group, accepted, or refused. Assumes nothing.
use mathlib.Core.Path.{◌≡◌, sym, ap, ◌∙◌}
use Rattle.settings.specs.Made.{settings_of}
use Rattle.settings.specs.Made.{made_of}
use Rattle.slip.specs.Slips.{judged, answer_of}
use Rattle.slip.specs.Meaning.{verdict_of}
use Rattle.slip.proofs.Judging.{count_of, judged_most, group_bad, group_good}
use borrow.Author.Rules.{rules}
use Rattle.slip.proofs.slip_check.Goals as goal

pub returns-in_default : goal.returns-in_default
returns-in_default c =
    c.answer.ensures ∙ group_bad c.args.kind c.args.n c.args.slip.now (sym c.group_of.ensures ∙ ap made_of c.in_default.is)

pub overflow_add-result : goal.overflow_add-result
overflow_add-result c =
    let m = judged_most (settings_of c.in-Some.settings) c.args.slip.now in
    let e : c.in-Err.refused.place ≡ count_of (judged _ _) = ap count_of (sym (ap verdict_of c.in-Err.is) ∙ c.judge.ensures) in
    search (rules, m, e)

pub returns-in-Ok : goal.returns-in-Ok
unfolding answer_of
returns-in-Ok c =
    group_good c.args.kind c.args.n c.args.slip.now (sym c.group_of.ensures ∙ ap made_of c.in-Some.is)
    (sym (ap verdict_of c.in-Ok.is) ∙ c.judge.ensures)

pub returns-in-Err : goal.returns-in-Err
unfolding answer_of
returns-in-Err c =
    rw c.answer-in-Err.ensures (group_good c.args.kind c.args.n c.args.slip.now (sym c.group_of.ensures ∙ ap made_of c.in-Some.is)
    (sym (ap verdict_of c.in-Err.is) ∙ c.judge.ensures))
