-- `choose::taken` meets its contract: by the group. Assumes nothing.
use mathlib.Core.Path.{sym, ap, ◌∙◌}
use Rattle.settings.specs.Made.{made_of}
use Rattle.choose.proofs.Laws.{group_bad, group_good}
use Rattle.choose.proofs.taken.Goals as goal

pub returns-in_default : goal.returns-in_default
returns-in_default c =
    let a = c.args in
    group_bad a.kind a.n a.first.now a.second.now (sym c.group_of.ensures ∙ ap made_of c.in_default.is)

pub returns : goal.returns
returns c =
    let a = c.args in
    c.decide.ensures ∙ group_good a.kind a.n a.first.now a.second.now _ (sym c.group_of.ensures ∙ ap made_of c.in-Some.is)
