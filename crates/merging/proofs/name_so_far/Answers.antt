-- `merging::name_so_far` meets its contract. Assumes nothing.
use Rattle.merging.proofs.Places.{so_far_old, so_far_new}
use mathlib.Core.Path.{◌∙◌, sym}
use native.Mathlib.Omega.{arith}
use Rattle.merging.proofs.name_so_far.Goals as goal

pub returns-then-k-logged : goal.returns-then-k-logged
returns-then-k-logged c =
    c.name_at.ensures ∙ sym (so_far_old _ c.args.gained.now c.args.k (omega (arith, c.requires.1)))

pub name_in-requires : goal.name_in-requires
name_in-requires c =
    (c.requires.0, c.requires.3, c.requires.4 (omega arith))

pub returns : goal.returns
returns c =
    c.name_in.ensures ∙ sym (so_far_new _ c.args.gained.now c.args.k (omega (arith, c.requires.1)))
