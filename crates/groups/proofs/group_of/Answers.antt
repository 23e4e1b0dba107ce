-- `groups::group_of` meets its contract: by the kind. Assumes nothing.
use Rattle.groups.proofs.Laws.{group_small, group_large, group_other}
use Rattle.groups.proofs.group_of.Goals as goal

pub returns-in-0 : goal.returns-in-0
returns-in-0 c = rw c.in-0.is (group_small _ c.new.ensures.0)

pub returns-in-4 : goal.returns-in-4
returns-in-4 c = rw c.in-4.is (group_large _ c.new-in-4.ensures.0)

pub returns-in_default : goal.returns-in_default
returns-in_default c = group_other _ _ c.in_default.in_default-own.rest.0.1 c.in_default.in_default-own.rest.1
