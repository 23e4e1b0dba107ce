-- `open_tally` meets its contract: a record is put behind the last, and counted. Assumes nothing.
use Rattle.joining.proofs.Tallies.{add_tally, tally_fits}
use Rattle.fields.proofs.Names.{name_lt}
use Rattle.tallies.specs.Meaning.{tally_of}
use Rattle.store.proofs.Forms.{form_long, behind_last}
use native.Mathlib.Omega.{arith}
use Rattle.joining.proofs.open_tally.Goals as goal

pub get_count-count-requires : goal.get_count-count-requires
get_count-count-requires c = omega (arith, form_long _ c.requires.0)

pub tally_place-requires : goal.tally_place-requires
tally_place-requires c = behind_last _ (c.requires.0, c.requires.1) c.get_count-count.ensures.0

pub put-requires : goal.put-requires
put-requires c = omega (arith, form_long _ c.requires.0)

pub returns : goal.returns
returns c =
    let a = c.args in
    let g = c.well_formed.1.0.1.1.0.1.1 in
    let n = g.1.1.0.1.1 in
    let name = name_lt a.tally.block.name n.0.1 n.1.0.1 n.1.1.0.1 n.1.1.1.0.1 in (
      c.get_count-count.ensures.0,
      rw (c.put.ensures, c.put_tally.ensures, c.tally_place.ensures.0, c.get_count-count.ensures.0)
          (add_tally a.store.now c.requires.0 (tally_of a.tally) c.requires.1 (tally_fits a.tally g.0.1 g.1.0.1 name g.1.1.1.0.1 c.requires.2)),
    )
