-- `heads_stand` meets its contract: seven tests joined. Assumes nothing.
use mathlib.Core.Path.{refl}
use Rattle.slip_entries.specs.Heads.{heads_stand}
use Rattle.slip_entries.proofs.heads_stand.Goals as goal

pub returns : goal.returns
unfolding heads_stand
returns c =
    let get = c.get in let get2 = c.get-2 in
    let get3 = c.get-3 in let get4 = c.get-4 in
    rw (get.ensures.0, get2.ensures.0, get3.ensures.0, get4.ensures.0, c.get-5.ensures.0, c.get-6.ensures.0, c.get-7.ensures.0)
    refl
