-- `counting::count` meets its contract. Assumes nothing.
use mathlib.Core.Path.{◌∙◌}
use Rattle.counting.proofs.Lows.{count_low}
use Rattle.counting.proofs.count.Goals as goal

pub returns : goal.returns
returns c = c.from.ensures ∙ count_low c.args.mask
