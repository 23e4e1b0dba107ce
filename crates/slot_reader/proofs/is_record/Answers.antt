-- `slot_reader::is_record` meets its contract: the record is written apart, and compared. Assumes nothing.
use mathlib.Core.Path.{◌∙◌, ap}
use mathlib.Core.List.{List}
use Prim.Native.Nat.{ℕ}
use lib.Dec.{eqb}
use Rattle.fields.specs.Places.{number}
use Rattle.slot_reader.proofs.is_record.Goals as goal

pub returns : goal.returns
returns c =
    c.same.ensures ∙ ap (λ (l : List ℕ). eqb (number c.args.slot.now 0 128) (number l 0 128)) c.write_record.ensures
