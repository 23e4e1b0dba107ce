-- `plain_entries::enters_now` meets its contract, by the phase. Assumes nothing.
use mathlib.Core.Path.{◌∙◌}
use Rattle.laws.proofs.Allowed.{sizes}
use Rattle.settings.specs.Made.{settings_of}
use Rattle.plain_entries.proofs.Laws.{enters_in, enters_waiting, enters_stopped}
use Rattle.plain_entries.proofs.enters_now.Goals as goal

pub is_time-requires : goal.is_time-requires
is_time-requires c = (sizes (settings_of c.args.e.settings) c.requires.good).mostD

pub returns-in-InView : goal.returns-in-InView
returns-in-InView c = enters_in c.args.e c.in-InView.is

pub returns-in-Waiting : goal.returns-in-Waiting
returns-in-Waiting c = c.is_time.ensures ∙ enters_waiting c.args.e _ c.in-Waiting.is

pub returns-in-Stopped : goal.returns-in-Stopped
returns-in-Stopped c = enters_stopped c.args.e _ c.in-Stopped.is
