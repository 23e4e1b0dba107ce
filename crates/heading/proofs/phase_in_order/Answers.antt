-- `heading::phase_in_order` meets its contract. Assumes nothing.
use Rattle.rules.specs.Lists.{within}
use Rattle.heading.specs.Alone.{phase_in_order}
use Rattle.heading.proofs.Parts.{phase_is}
use Rattle.heading.proofs.phase_in_order.Goals as goal

pub returns-in-Waiting : goal.returns-in-Waiting
unfolding phase_in_order within
returns-in-Waiting c =
    phase_is _ _ _ _ c.in-Waiting.is

pub returns-in-InView : goal.returns-in-InView
unfolding phase_in_order
returns-in-InView c =
    phase_is _ _ _ _ c.in-InView.is

pub returns-in-Stopped : goal.returns-in-Stopped
unfolding phase_in_order
returns-in-Stopped c =
    phase_is _ _ _ _ c.in-Stopped.is
