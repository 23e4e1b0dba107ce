-- `is_statement` meets its contract: the block decides, then kind, author and link together. Assumes nothing.
use Rattle.laws.proofs.Truths.{beq_iff}
use Rattle.store.proofs.Searches.{other_block, same_block_lem}
use Rattle.wire.specs.Meaning.{statement_of}
use mathlib.Core.Option.{none}
use mathlib.Core.Path.{ap}
use mathlib.Core.Bool.{not}
use Rattle.store.proofs.is_statement.Goals as goal

pub returns-then-not-is_block : goal.returns-then-not-is_block
unfolding statement_of
returns-then-not-is_block c =
    let a = c.args in
    other_block a.store.now c.type_inv.store (statement_of a.statement none) a.i _ c.well_formed.1.1.0.1.1.1.1.0.1 c.key_of-key.ensures _ c.is_block.ensures (ap not c.if-not-is_block.true)

pub returns : goal.returns
unfolding statement_of
returns c =
    let a = c.args in
    let y = c.statement_at-other.result in
    rw (beq_iff a.statement.is_new_view y.is_new_view, c.eq-linked.ensures)
    (same_block_lem a.store.now c.type_inv.store (statement_of a.statement none) a.i _ c.well_formed.1.1.0.1.1.1.1.0.1 c.key_of-key.ensures _ c.is_block.ensures (ap not c.if-not-is_block.false) _ c.statement_at-other.ensures)
