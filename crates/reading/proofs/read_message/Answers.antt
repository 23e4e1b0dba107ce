-- `read_message` meets its contract: what is read where a reader has walked the message is what is read of it. Assumes nothing.
use mathlib.Core.Path.{ap, ◌∙◌}
use Rattle.wire.specs.Fields.{ended}
use Rattle.wire.proofs.Reading.{walked_read}
use Rattle.reading.proofs.read_message.Goals as goal

pub message_at-requires : goal.message_at-requires
message_at-requires c = c.walk-cursor.ensures

pub returns : goal.returns
returns c =
    let s = c.args.message.now in
    c.message_at.ensures ∙ ap (ended s) c.walk-cursor.ensures ∙ walked_read s c.type_inv.message
