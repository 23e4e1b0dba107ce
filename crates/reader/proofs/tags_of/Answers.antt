-- `reader::tags_of` meets its contract: the bits of each kind are the tags of its row. Assumes nothing.
use mathlib.Core.Path.{refl}
use Rattle.rules.specs.Lists.{iff}
use Rattle.rules.specs.Sizes.{holds}
use Rattle.wire.specs.Fields.{has}
use Rattle.wire.proofs.Reading.{tried, tags_by, tags_other, no_row}
use Rattle.reader.proofs.tags_of.Goals as goal

pub returns-in-1 : goal.returns-in-1
unfolding tried iff holds has
returns-in-1 c = rw c.in-1.is (tags_by 1 478 refl)

pub returns-in-2 : goal.returns-in-2
unfolding tried iff holds has
returns-in-2 c = rw c.in-2.is (tags_by 2 446 refl)

pub returns-in-3 : goal.returns-in-3
unfolding tried iff holds has
returns-in-3 c = rw c.in-3.is (tags_by 3 286 refl)

pub returns-in-4 : goal.returns-in-4
unfolding tried iff holds has
returns-in-4 c = rw c.in-4.is (tags_by 4 262 refl)

pub returns-in-5 : goal.returns-in-5
unfolding tried iff holds has
returns-in-5 c = rw c.in-5.is (tags_by 5 134 refl)

pub returns-in-6 : goal.returns-in-6
unfolding tried iff holds has
returns-in-6 c = rw c.in-6.is (tags_by 6 218 refl)

pub returns-in_default : goal.returns-in_default
unfolding tried iff holds has
returns-in_default c =
    let r = c.in_default.in_default-own.rest in
    tags_other c.args.kind 2 (no_row _ r.0.0.0.0.0.1 r.0.0.0.0.1 r.0.0.0.1 r.0.0.1 r.0.1 r.1) (tags_by 0 2 refl)
