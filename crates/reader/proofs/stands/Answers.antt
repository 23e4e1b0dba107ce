-- `reader::stands` meets its contract: the tag, then the length, where there is room for the field. Assumes nothing.
use Prim.Native.Nat.{ℕ}
use lib.Dec.{eqb}
use mathlib.Core.Path.{ap, ◌∙◌}
use native.Mathlib.Omega.{arith}
use Rattle.wire.proofs.Reading.{field_short, field_other, field_same}
use Rattle.reader.proofs.stands.Goals as goal

pub returns-then-size-at : goal.returns-then-size-at
returns-then-size-at c = let a = c.args in field_short a.s.now a.at a.tag a.width (omega arith)

pub returns-then-size-at-2 : goal.returns-then-size-at-2
returns-then-size-at-2 c = let a = c.args in field_short a.s.now a.at a.tag a.width (omega arith)

pub returns-then-s-at : goal.returns-then-s-at
returns-then-s-at c =
    let a = c.args in
    field_other a.s.now c.type_inv.s a.at a.tag a.width c.requires c.if-s-at.true

pub returns : goal.returns
returns c =
    let a = c.args in
    ap (λ (n : ℕ). eqb n a.width) c.get.ensures.0
    ∙ field_same a.s.now c.type_inv.s a.at a.tag a.width c.requires (omega arith) c.if-s-at.false
