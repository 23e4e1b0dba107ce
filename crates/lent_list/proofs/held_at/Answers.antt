-- `lent_list::held_at` meets its contract. Assumes nothing.
use mathlib.Core.Path.{ap, refl}
use native.Mathlib.Omega.{arith}
use Rattle.journal.specs.Journal.{slot_count}
use Rattle.lent_list.specs.Lists.{slots_in}
use Rattle.lent_list.proofs.Lengths.{lengths, behind_head}
use Rattle.lent_list.proofs.Standing.{nothing_blank, nothing_torn, nothing_bad, one_input}
use Rattle.lent_list.proofs.held_at.Goals as goal

pub slice_bounds-judge_at-count : goal.slice_bounds-judge_at-count
slice_bounds-judge_at-count c = omega (arith, (lengths c.args.list.now c.requires.0).0)

pub slice_bounds-judge_at-start : goal.slice_bounds-judge_at-start
slice_bounds-judge_at-start c = omega (arith, (lengths c.args.list.now c.requires.0).0)

pub judge_at-requires : goal.judge_at-requires
unfolding slots_in
judge_at-requires c = rw (behind_head c.args.list.now _ refl) c.requires.1

pub returns-in-Blank : goal.returns-in-Blank
returns-in-Blank c = nothing_blank c.args.list.now _ _ c.requires.1 c.judge_at.ensures refl c.in-Blank.is

pub returns-in-Torn : goal.returns-in-Torn
returns-in-Torn c = nothing_torn c.args.list.now _ _ c.requires.1 c.judge_at.ensures refl c.in-Torn.is

pub returns-in-Bad : goal.returns-in-Bad
returns-in-Bad c = nothing_bad c.args.list.now _ _ c.requires.1 c.judge_at.ensures refl c.in-Bad.is

pub returns-in-Whole : goal.returns-in-Whole
returns-in-Whole c = one_input c.args.list.now _ _ c.requires.1 c.judge_at.ensures refl c.in-Whole.is
