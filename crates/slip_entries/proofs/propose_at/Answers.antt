-- `propose_at` meets its contract: each number stands at its place. Assumes nothing.
use mathlib.Core.Path.{refl}
use Rattle.wire.specs.Meaning.{statement_of}
use Rattle.slip_entries.specs.Heads.{propose_at}
use Rattle.slip_entries.proofs.propose_at.Goals as goal

pub returns : goal.returns
unfolding propose_at statement_of
returns c =
    let get = c.get-view in let get2 = c.get-height in let get-name = c.get_name-name in
    rw (get.ensures.0, get2.ensures.0, get-name.ensures.0, c.get_name-link.ensures.0, c.get-mask.ensures.0, c.get-author.ensures.0)
    refl
