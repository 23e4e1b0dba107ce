-- `phase_of` meets its contract: each number has its phase, and from 4 on the quit clock is what is left. Assumes nothing.
use Rattle.store.proofs.Values.{phase_waiting}
use borrow.Author.Rules.{rules}
use Rattle.store.proofs.phase_of.Goals as goal

pub returns-in-1 : goal.returns-in-1
returns-in-1 c =
    rw c.in-1.is

pub returns-in-2 : goal.returns-in-2
returns-in-2 c =
    rw c.in-2.is

pub returns-in-3 : goal.returns-in-3
returns-in-3 c =
    rw c.in-3.is

pub returns-in_default : goal.returns-in_default
returns-in_default c =
    phase_waiting c.args.number (search rules)
