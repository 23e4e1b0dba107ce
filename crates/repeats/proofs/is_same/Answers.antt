-- `repeats::is_same` meets its contract. Assumes nothing.
use Rattle.repeats.proofs.Hanging.{same_where}
use Rattle.laws.proofs.Truths.{beq_iff}
use mathlib.Core.Path.{refl}
use Rattle.repeats.proofs.is_same.Goals as goal

pub returns : goal.returns
returns c =
    let a = c.args in
    let same = c.same in
    let same2 = c.same-2 in let get = c.get in let get2 = c.get-2 in
    rw (same.ensures, same2.ensures, get.ensures.0, get2.ensures.0, c.same-3.ensures, c.kind_at.ensures, c.kind_at-2.ensures, beq_iff)
    (same_where a.store.now c.type_inv.store a.i a.k _ _ refl refl)
