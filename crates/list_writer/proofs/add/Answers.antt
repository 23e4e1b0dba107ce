-- `list_writer::add` meets its contract. Assumes nothing.
use Prim.Native.Nat.{◌+◌, ◌*◌}
use mathlib.Core.Path.{◌∙◌}
use native.Mathlib.Omega.{arith}
use borrow.Rule.Slice.PartMut.{mid_len}
use Rattle.slots.proofs.Inputs.{input_fits}
use Rattle.lent_list.proofs.Lengths.{lengths}
use Rattle.list_writer.proofs.Adding.{within, is_added}
use Rattle.list_writer.proofs.add.Goals as goal

pub get-records-requires : goal.get-records-requires
get-records-requires c = omega (arith, (lengths c.args.list.now c.requires.0).0)

pub put-requires : goal.put-requires
put-requires c = omega (arith, (lengths c.args.list.now c.requires.0).0)

pub slice_bounds-write_record-end : goal.slice_bounds-write_record-end
slice_bounds-write_record-end c =
    let args = c.args in let pre = c.requires in
    let get = c.get-records in
    omega (arith, (within args.list.now pre.0 pre.1 get.ensures.0).1, c.put.auto.s)

pub write_record-requires : goal.write_record-requires
write_record-requires c =
    let args = c.args in let pre = c.requires in
    let get = c.get-records in let put = c.put in
    let w = within args.list.now pre.0 pre.1 get.ensures.0 in
    let f = input_fits args.kind args.input.now pre.2 in
    let at = 16 + get.result * 128 in
    (mid_len at (at + 128) put.new.s (omega (arith, w.1, put.auto.s)) ∙ omega arith, omega (arith, w.0), f.0, f.1)

pub returns : goal.returns
returns c =
    let args = c.args in let pre = c.requires in
    let get = c.get-records in let put = c.put in
    is_added args.list.now pre.0 pre.1 get.ensures.0 args.kind args.input.now put.ensures c.write_record.ensures
