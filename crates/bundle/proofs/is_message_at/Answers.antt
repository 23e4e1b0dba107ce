-- `bundle::is_message_at` meets its contract. Assumes nothing.
use Prim.Native.Nat.{◌+◌, ◌-◌}
use mathlib.Core.Path.{◌≡◌}
use native.Mathlib.Omega.{arith}
use Rattle.bundle.proofs.Totals.{outside, within}
use Rattle.bundle.proofs.is_message_at.Goals as goal

pub returns-then-bytes-end : goal.returns-then-bytes-end
returns-then-bytes-end c = outside _ _ _ c.if-bytes-end.true

pub returns : goal.returns
returns c =
    let a = c.args in
    within _ _ _ c.if-bytes-end.false (let e : (a.offset + a.size) - a.offset ≡ a.size = omega arith in e) c.is_readable.ensures
