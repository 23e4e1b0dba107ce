-- `plans::new_plan` meets its contract. Assumes nothing.
use Rattle.plans.proofs.new_plan.Goals as goal

pub returns-then-room : goal.returns-then-room
returns-then-room c =
    rw c.if-room.true
