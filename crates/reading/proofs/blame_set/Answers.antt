-- `reading::blame_set` meets its contract: each value stands at its place. Assumes nothing.
use Rattle.rules.specs.Messages.{row_of, table, width}
use Rattle.wire.specs.Fields.{values_from, made}
use Rattle.wire.specs.Meaning.{message_of, read_of}
use Rattle.reading.proofs.blame_set.Goals as goal

pub returns : goal.returns
unfolding read_of message_of made values_from row_of table width
returns c = rw (c.get.ensures.0, c.get-2.ensures.0)
