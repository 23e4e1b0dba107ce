-- `slip_writer::write_slip` meets its contract: the head, the name, then the chain. Assumes nothing.
use native.Mathlib.Omega.{arith}
use Rattle.fields.specs.Names.{name_of}
use Rattle.fields.proofs.Names.{name_lt}
use Rattle.store.specs.Layout.{size_in}
use Rattle.store.proofs.Forms.{form_log}
use Rattle.slip_writer.proofs.Chains.{slip_fits, slip_says}
use Rattle.slip_writer.proofs.write_slip.Goals as goal

pub put-requires : goal.put-requires
put-requires c =
    omega (arith, c.requires.3, slip_fits (size_in c.args.store.now))

pub put_name-requires : goal.put_name-requires
put_name-requires c =
    omega (arith, c.requires.3, slip_fits (size_in c.args.store.now))

pub write_chain-requires : goal.write_chain-requires
write_chain-requires c =
    (c.requires.0, c.requires.1, c.requires.2, omega (arith, c.requires.2, c.requires.3, form_log _ c.requires.0, slip_fits (size_in c.args.store.now)))

pub returns : goal.returns
returns c =
    let a = c.args in
    slip_says a.out.now (name_of a.name) _ (name_lt a.name (omega (arith, c.well_formed)) (omega (arith, c.well_formed)) (omega (arith, c.well_formed)) (omega (arith, c.well_formed)))
    c.put.ensures c.put_name.ensures c.write_chain.ensures
