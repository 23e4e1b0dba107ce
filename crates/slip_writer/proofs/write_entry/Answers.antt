-- `slip_writer::write_entry` meets its contract: the head is put, then the propose. Assumes nothing.
use mathlib.Core.Path.{sym, ◌∙◌}
use native.Mathlib.Omega.{arith}
use Rattle.laws.proofs.Tests.{no_bool}
use Rattle.wire.specs.Meaning.{message_of}
use Rattle.store.proofs.Forms.{form_long, form_statements}
use Rattle.slip_writer.proofs.Chains.{is_propose, said_length, entry_says}
use Rattle.slip_writer.proofs.write_entry.Goals as goal

pub statement_at-propose-requires : goal.statement_at-propose-requires
statement_at-propose-requires c =
    let pre = c.requires in
    (form_long _ pre.0, omega (arith, pre.1, form_statements _ pre.0))

pub write_message-requires : goal.write_message-requires
unfolding message_of
write_message-requires c =
    let read = c.statement_at-propose in
    let pre = c.requires in
    (λ q. no_bool (sym q ∙ is_propose _ _ read.ensures pre.2), omega (arith, pre.3, said_length _ _ read.ensures pre.2))

pub returns : goal.returns
unfolding message_of
returns c =
    let read = c.statement_at-propose in
    let pre = c.requires in
    entry_says _ _ read.ensures pre.2 c.put.ensures c.write_message.ensures
