-- `envelope::envelope_read` meets its contract, test by test. Assumes nothing.
use Rattle.envelope.proofs.Answers.{list_short, not_envelope, is_envelope_lem, listed_all}
use Rattle.envelope.proofs.envelope_read.Goals as goal

pub returns-then-list-lt-LEAST_LIST : goal.returns-then-list-lt-LEAST_LIST
returns-then-list-lt-LEAST_LIST c = list_short _ _ c.if-list-lt-LEAST_LIST.true c.answer.ensures

pub returns-in_default : goal.returns-in_default
returns-in_default c =
    not_envelope _ _ c.if-list-lt-LEAST_LIST.false c.read_envelope.ensures c.in_default.is c.answer-in_default.ensures

pub list_messages-requires : goal.list_messages-requires
list_messages-requires c =
    let args = c.args in let if1 = c.if-list-lt-LEAST_LIST in
    let read-envelope = c.read_envelope in
    (is_envelope_lem _ args.list.now if1.false read-envelope.ensures c.in-Some.is, if1.false)

pub returns : goal.returns
returns c =
    let if1 = c.if-list-lt-LEAST_LIST in
    let read-envelope = c.read_envelope in listed_all _ _ if1.false read-envelope.ensures c.in-Some.is c.list_messages.ensures
