-- `put_statement` meets its contract: the fields are put in the order of the format. Assumes nothing.
use Rattle.wire.specs.Meaning.{statement_of}
use native.Mathlib.Omega.{arith}
use Rattle.records.proofs.put_statement.Goals as goal

pub overflow_add-at-4 : goal.overflow_add-at-4
overflow_add-at-4 c =
    omega (arith, c.requires, c.well_formed)

pub put_name-requires : goal.put_name-requires
put_name-requires c =
    omega (arith, c.requires, c.put-3.auto.s, c.put-2.auto.s, c.put.auto.s, c.put_block.auto.store)

pub overflow_add-at-5 : goal.overflow_add-at-5
overflow_add-at-5 c =
    omega (arith, c.requires, c.well_formed)

pub put-requires-4 : goal.put-requires-4
put-requires-4 c =
    omega (arith, c.requires, c.put_name.auto.s, c.put-3.auto.s, c.put-2.auto.s, c.put.auto.s, c.put_block.auto.store)

pub returns : goal.returns
unfolding statement_of
returns c =
    rw (c.put-4.ensures, c.put_name.ensures, c.put-3.ensures, c.put-2.ensures, c.put.ensures, c.put_block.ensures, c.kind_number-kind.ensures)
