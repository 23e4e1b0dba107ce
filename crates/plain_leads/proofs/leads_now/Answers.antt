-- `plain_leads::leads_now` meets its contract. Assumes nothing.
use native.Mathlib.Omega.{arith}
use Rattle.laws.proofs.Allowed.{sizes}
use Rattle.settings.specs.Made.{settings_of}
use Rattle.plain_leads.proofs.Laws.{moment_parts}
use Rattle.plain_leads.proofs.leads_now.Goals as goal

pub overflow_mul-due : goal.overflow_mul-due
overflow_mul-due c = omega (arith, (sizes (settings_of c.args.e.settings) c.requires.good).mostD)

pub overflow_add-due : goal.overflow_add-due
overflow_add-due c = omega (arith, (sizes (settings_of c.args.e.settings) c.requires.good).mostD)

pub overflow_add-due-2 : goal.overflow_add-due-2
overflow_add-due-2 c = omega (arith, (sizes (settings_of c.args.e.settings) c.requires.good).mostD)

pub returns : goal.returns
returns c = rw (c.from.ensures, c.from-2.ensures) (moment_parts c.args.e c.leads-leading.ensures)
