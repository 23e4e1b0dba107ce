-- `lent_list::has_form` meets its contract. Assumes nothing.
use native.Mathlib.Omega.{arith}
use Rattle.lent_list.proofs.Lengths.{lengths}
use Rattle.lent_list.proofs.Made.{head_good, head_bad}
use Rattle.lent_list.proofs.Placed.{bad_settings, not_zero, by_slots}
use Rattle.lent_list.proofs.has_form.Goals as goal

pub returns-in_default : goal.returns-in_default
returns-in_default c =
    let args = c.args in let settings-in = c.settings_in-head in
    let l = args.list.now in bad_settings l (head_bad l settings-in.ensures.0 settings-in.ensures.1 c.new.ensures.0 c.in_default.is)

pub all_zero-requires : goal.all_zero-requires
all_zero-requires c = omega (arith, (lengths c.args.list.now c.requires).0)

pub get-records-requires : goal.get-records-requires
get-records-requires c = omega (arith, (lengths c.args.list.now c.requires).0)

pub returns-then-all_zero : goal.returns-then-all_zero
returns-then-all_zero c =
    let args = c.args in
    let settings-in = c.settings_in-head in let made = c.new in
    let all-zero = c.all_zero in
    let l = args.list.now in by_slots l all-zero.ensures (head_good l settings-in.ensures.0 settings-in.ensures.1 made.ensures.0 c.in-Some.is) c.if-all_zero.true c.get-records.ensures.0 c.are_placed.ensures

pub returns : goal.returns
returns c = not_zero c.args.list.now c.all_zero.ensures c.if-all_zero.false
