-- `slots::write_record` meets its contract: the parts are written in their order. Assumes nothing.
use Rattle.slots.proofs.Records.{record_wrote}
use Rattle.slots.proofs.write_record.Goals as goal

pub returns : goal.returns
returns c =
    let a = c.args in let p = c.requires in
    let put = c.put in
    let put2 = c.put-2 in
    let put3 = c.put-3 in
    let put4 = c.put-4 in
    let copy = c.copy in let clear = c.clear in
    record_wrote a.slot.now a.sequence a.kind a.input.now p.0 p.1 p.2 p.3
    put.ensures put2.ensures put3.ensures put4.ensures copy.ensures clear.ensures c.put-5.ensures
