-- `stated::propose_said` meets its contract. Assumes nothing.
use Rattle.stated.proofs.Parts.{propose_said_lem, propose_low}
use Rattle.settings.specs.Made.{settings_of}
use native.Mathlib.Omega.{arith}
use Rattle.stated.proofs.propose_said.Goals as goal

pub returns-then-height-lt1 : goal.returns-then-height-lt1
returns-then-height-lt1 c =
    propose_low (settings_of c.args.settings) c.args.store.now c.args.at _ c.requires.1 c.if-height-lt1.true

pub returns : goal.returns
returns c =
    rw (c.mask_allowed.ensures, c.height_good.ensures)
    (propose_said_lem (settings_of c.args.settings) c.args.store.now c.args.at _ _ _ c.requires.1 c.requires.2 c.all_zero-zero.ensures (omega (arith, c.if-height-lt1.false)))
