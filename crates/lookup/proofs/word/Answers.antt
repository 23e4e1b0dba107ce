-- Answers to the goals of `lookup::word`. Assumes nothing.
use Prim.Native.Nat.{◌+◌, ◌-◌, ◌<◌}
use mathlib.Core.Path.{refl, sym, ◌∙◌}
use native.Mathlib.Omega.{arith}
use Rattle.fields.specs.Places.{Bytes}
use Rattle.fields.proofs.Laws.{pow_small}
use Rattle.lookup.proofs.Turns.{turn_number, turn_end, turn_room}
use Rattle.lookup.proofs.word.Goals as goal

pub loop-k-init : goal.loop-k-init
loop-k-init c = (omega arith, refl, omega arith)

pub overflow_mul-value : goal.overflow_mul-value
overflow_mul-value c = let l = c.loop-k in omega (arith, l.invariant.2, pow_small (8 - l.k) (omega arith))

pub overflow_add-value : goal.overflow_add-value
overflow_add-value c = let l = c.loop-k in omega (arith, l.invariant.2, pow_small (8 - l.k) (omega arith))

pub loop-k-preserved : goal.loop-k-preserved
loop-k-preserved c =
    let a = c.args in
    let l = c.loop-k in
    let b : Bytes a.s.now = c.type_inv.s in
    let x : c.from.result < 256 = omega (arith, c.from.ensures, b (a.at + (l.k - 1))) in
    (omega (arith, l.invariant.0), l.invariant.1 ∙ rw c.from.ensures (turn_number _ b _ l.k _ (omega arith)), turn_room l.k l.value _ (omega arith) l.invariant.0 l.invariant.2 x)

pub returns : goal.returns
returns c = let l = c.loop-k in sym (l.invariant.1 ∙ turn_end l.k _ _ (omega arith))
