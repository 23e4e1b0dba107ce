-- `glance::is_of_view` meets its contract: by the lower half. Assumes nothing.
use Rattle.glance.proofs.Viewing.{lower_half}
use Rattle.store.specs.Decode.{statement_at}
use Rattle.store.specs.Layout.{statement_table, place_of}
use Rattle.fields.proofs.Laws.{number_split}
use Rattle.fields.specs.Places.{number}
use Rattle.rules.specs.Limits.{small}
use lib.Dec.{eqb}
use Prim.Native.Nat.{ℕ, ◌+◌, ◌*◌}
use native.Mathlib.Omega.{arith}
use mathlib.Core.Path.{ap, ◌∙◌}
use Rattle.glance.proofs.is_of_view.Goals as goal

pub overflow_mul-result : goal.overflow_mul-result
overflow_mul-result c = omega (arith, c.get-second.ensures.1)

pub overflow_add-result : goal.overflow_add-result
overflow_add-result c = omega (arith, c.get-first.ensures.1, c.get-second.ensures.1)

pub returns : goal.returns
unfolding statement_at
returns c =
    let a = c.args in
    let b = a.store.now in
    let at = place_of statement_table small a.i + 0 in
    let first = c.get-first in
    let second = c.get-second in
    let halves = number_split b at 2 2 in
    let bytes = number_split b (at + 2) 1 1 in
    ap (λ (t : ℕ). eqb (first.result + 256 * second.result) t) c.turned.ensures
    ∙ lower_half _ a.view (number b at 2) first.result second.result (omega (arith, halves, bytes, first.ensures.0, second.ensures.0)) (omega (arith, first.ensures.1))
    (omega (arith, second.ensures.1)) c.requires.2 c.requires.3
