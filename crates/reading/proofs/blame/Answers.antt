-- `reading::blame` meets its contract: each value stands at its place. Assumes nothing.
use Rattle.rules.specs.Messages.{row_of, table, width}
use Rattle.wire.specs.Fields.{values_from, made}
use Rattle.wire.specs.Meaning.{message_of, read_of}
use Rattle.wire.proofs.Reading.{number_byte}
use Rattle.reading.proofs.blame.Goals as goal

pub returns : goal.returns
unfolding read_of message_of made values_from row_of table width
returns c = rw (c.get.ensures.0, number_byte c.args.s.now 14)
