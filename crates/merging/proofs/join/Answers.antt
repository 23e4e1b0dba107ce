-- `merging::join` meets its contract. Assumes nothing.
use Rattle.merging.proofs.Joining.{join_differs, join_stays, join_grows}
use Prim.Native.Nat.{◌≤◌}
use native.Mathlib.Omega.{arith}
use Rattle.merging.proofs.join.Goals as goal

pub agrees-requires : goal.agrees-requires
agrees-requires c =
    let least = c.min.ensures in
    (c.requires.0, c.requires.1, omega (arith, least), omega (arith, least))

pub returns-then-not-agrees : goal.returns-then-not-agrees
returns-then-not-agrees c =
    let agrees = c.agrees in
    let least = c.min.ensures in
    join_differs _ _ _ _ _ _ c.requires.0 _ agrees.result agrees.ensures (omega (arith, least)) (omega (arith, least)) c.if-not-agrees.true

pub returns-then-height-len : goal.returns-then-height-len
returns-then-height-len c =
    let agrees = c.agrees in
    let short = c.if-height-len.true in
    join_stays _ _ _ _ _ _ c.requires.0 _ agrees.result agrees.ensures short (omega (arith, short, c.min.ensures)) c.if-not-agrees.false

pub copy_places-requires : goal.copy_places-requires
copy_places-requires c =
    let pre = c.requires.0 in
    (omega (arith, pre.high, pre.whole), omega (arith, pre.high, pre.long))

pub returns : goal.returns
returns c =
    let pre = c.requires.0 in
    let agrees = c.agrees in
    let long : c.args.len ≤ c.args.height = omega (arith, c.if-height-len.false) in
    join_grows _ _ _ _ _ _ pre _ agrees.result agrees.ensures long (omega (arith, long, c.min.ensures)) c.if-not-agrees.false _ c.copy_places.ensures
