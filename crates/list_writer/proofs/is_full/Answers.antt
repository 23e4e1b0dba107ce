-- `list_writer::is_full` meets its contract. Assumes nothing.
use native.Mathlib.Omega.{arith}
use Rattle.lent_list.proofs.Lengths.{lengths, slots_counted}
use Rattle.list_writer.proofs.Entering.{full_counted}
use Rattle.list_writer.proofs.is_full.Goals as goal

pub overflow_sub-slots : goal.overflow_sub-slots
overflow_sub-slots c = omega (arith, (lengths c.args.list.now c.requires).0)

pub get-records-requires : goal.get-records-requires
get-records-requires c = omega (arith, (lengths c.args.list.now c.requires).0)

pub returns : goal.returns
returns c = full_counted c.args.list.now (slots_counted _) c.get-records.ensures.0
