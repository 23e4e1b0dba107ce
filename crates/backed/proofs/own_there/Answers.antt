-- `backed::own_there` meets its contract. Assumes nothing.
use native.Mathlib.Omega.{arith}
use mathlib.Core.Path.{sym}
use Rattle.backed.proofs.own_there.Goals as goal

pub returns-then-own : goal.returns-then-own
returns-then-own c =
    sym (c.requires.3.has c.if-own.true)

pub has_tally-requires : goal.has_tally-requires
has_tally-requires c =
    (c.requires.0, record { salt = c.args.salt; hang = c.requires.1; mixes = c.requires.3.mixes }, omega (arith, c.requires.0.long, c.requires.2))

pub returns : goal.returns
returns c =
    c.has_tally.ensures _ c.requires.3.keyed
