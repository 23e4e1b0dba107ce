-- `reading::propose` meets its contract: each value stands at its place. Assumes nothing.
use Rattle.rules.specs.Messages.{row_of, table, width}
use Rattle.rules.specs.Words.{message}
use Rattle.wire.specs.Fields.{values_from, made}
use Rattle.wire.specs.Meaning.{statement_of, message_of, read_of}
use Rattle.wire.proofs.Reading.{number_byte}
use Rattle.reading.proofs.propose.Goals as goal

pub returns : goal.returns
unfolding read_of message_of statement_of message made values_from row_of table width
returns c =
    let args = c.args in let get-name = c.get_name-name in
    let get-name2 = c.get_name-link in let get = c.get in
    rw (get-name.ensures.0, get-name2.ensures.0, get.ensures.0, c.get-2.ensures.0, c.get-3.ensures.0, number_byte args.s.now 96)
