-- `join_at` meets its contract: the mask and the clock of a record change. Assumes nothing.
use native.Mathlib.Omega.{arith}
use Rattle.tallies.specs.Meaning.{voters_of, moment_of}
use Rattle.joining.proofs.Tallies.{grown_at, clock_fits}
use Rattle.store.proofs.Forms.{form_long, form_tallies}
use Rattle.joining.proofs.join_at.Goals as goal

pub tally_at-requires : goal.tally_at-requires
tally_at-requires c =
    (form_long _ c.requires.0, omega (arith, form_tallies _ c.requires.0, c.requires.1))

pub put_voters-requires : goal.put_voters-requires
unfolding moment_of
put_voters-requires c =
    let a = c.args in
    (c.requires.0, c.requires.1, clock_fits a.store.now c.requires.0.bytes (moment_of a.moment) a.i (voters_of a.voters) c.tally_at.result c.joined-tally.result c.tally_at.ensures c.joined-tally.ensures c.requires.2)

pub returns : goal.returns
returns c =
    let a = c.args in
    grown_at a.store.now c.requires.0 (moment_of a.moment) a.i (voters_of a.voters) c.tally_at.result c.joined-tally.result c.requires.1 c.tally_at.ensures c.joined-tally.ensures c.put_voters.ensures
