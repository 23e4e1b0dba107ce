-- `put_voters` meets its contract: two numbers of a record are put. Assumes nothing.
use native.Mathlib.Omega.{arith}
use Rattle.store.proofs.Forms.{form_long, form_tallies}
use Rattle.joining.proofs.put_voters.Goals as goal

pub tally_place-at-requires : goal.tally_place-at-requires
tally_place-at-requires c =
    (form_long _ c.requires.0, omega (arith, form_tallies _ c.requires.0, c.requires.1))

pub returns : goal.returns
returns c =
    record {
      is = rw (c.put-2.ensures, c.put.ensures, c.tally_place-at.ensures.0, c.reached_number.ensures, c.from.ensures);
      mask_fits = c.ranges.mask.fits;
      reached_fits = c.requires.2;
    }
