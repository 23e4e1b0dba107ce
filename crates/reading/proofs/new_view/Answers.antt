-- `reading::new_view` meets its contract: each value stands at its place. Assumes nothing.
use Prim.Native.Nat.{ℕ}
use mathlib.Core.Path.{◌≡◌}
use native.Mathlib.Nat.{zero-add}
use Rattle.fields.specs.Names.{name_of}
use Rattle.rules.specs.Messages.{row_of, table, width}
use Rattle.rules.specs.Words.{message}
use Rattle.wire.specs.Fields.{values_from, made}
use Rattle.wire.specs.Meaning.{statement_of, message_of, read_of}
use Rattle.wire.proofs.Reading.{number_byte}
use Rattle.reading.proofs.new_view.Goals as goal

-- a link that is a view
link-is : (v : ℕ) → name_of (record { first = 0; second = 0; third = 0; fourth = v }) ≡ v
unfolding name_of
link-is v = zero-add v

pub returns : goal.returns
unfolding read_of message_of statement_of message made values_from row_of table width
returns c =
    let args = c.args in let get = c.get in
    let get-name = c.get_name-name in let get2 = c.get-2 in
    rw (link-is get.result, get.ensures.0, get-name.ensures.0, get2.ensures.0, c.get-3.ensures.0, c.get-4.ensures.0, number_byte args.s.now 68)
