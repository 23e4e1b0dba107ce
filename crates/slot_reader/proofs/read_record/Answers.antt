-- `slot_reader::read_record` meets its contract, test by test. Assumes nothing.
use Prim.Native.Nat.{◌+◌, ◌-◌}
use mathlib.Core.Path.{refl}
use native.Mathlib.Omega.{arith}
use Rattle.slot_reader.proofs.Judging.{no_kind, no_room, no_input, not_same, is_whole}
use Rattle.slot_reader.proofs.read_record.Goals as goal

pub returns-then-size-eq0 : goal.returns-then-size-eq0
returns-then-size-eq0 c =
    no_kind _ c.get-size.ensures.0 c.if-size-eq0.true

pub returns-then-length-gt-MOST_INPUT : goal.returns-then-length-gt-MOST_INPUT
returns-then-length-gt-MOST_INPUT c =
    no_room _ c.requires c.get-size.ensures.0 c.if-length-gt-MOST_INPUT.true

pub returns-then-not-is_input : goal.returns-then-not-is_input
returns-then-not-is_input c =
    let z = c.get-size.result in
    no_input _ c.requires {m = (11 + (z - 1)) - 11} c.get-size.ensures.0 c.if-size-eq0.false c.get-kind.ensures.0 c.is_input.ensures (omega arith) c.if-not-is_input.true

pub returns-then-not-is_record : goal.returns-then-not-is_record
returns-then-not-is_record c =
    let z = c.get-size.result in
    not_same _ c.requires {m = (11 + (z - 1)) - 11} c.get-size.ensures.0 c.if-size-eq0.false c.get-kind.ensures.0 c.is_input.ensures (omega arith)
    {j = (11 + (z - 1)) - 11} c.get-sequence.ensures.0 c.is_record.ensures (omega arith) c.if-not-is_input.false c.if-not-is_record.true

pub returns : goal.returns
returns c =
    let z = c.get-size.result in
    is_whole _ c.requires {m = (11 + (z - 1)) - 11} c.get-size.ensures.0 c.if-size-eq0.false c.get-kind.ensures.0 c.is_input.ensures (omega arith)
    {j = (11 + (z - 1)) - 11} c.get-sequence.ensures.0 c.is_record.ensures (omega arith) c.if-not-is_input.false
    refl c.if-not-is_record.false c.if-length-gt-MOST_INPUT.false c.get-sequence.ensures.1
