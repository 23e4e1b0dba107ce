-- `join_blame` meets its contract: one mask of the table changes. Assumes nothing.
use Rattle.records.proofs.Changes.{put_blame}
use Rattle.store.proofs.Forms.{form_long}
use native.Mathlib.Omega.{arith}
use Rattle.records.proofs.join_blame.Goals as goal

pub blame_at-requires : goal.blame_at-requires
blame_at-requires c =
    (form_long _ c.requires.0, omega (arith, c.requires.1, c.requires.2))

pub blame_place-requires : goal.blame_place-requires
blame_place-requires c =
    (form_long _ c.requires.0, omega (arith, c.requires.1, c.requires.2))

pub put-requires : goal.put-requires
put-requires c =
    omega (arith, c.blame_place.ensures.1)

pub returns : goal.returns
returns c =
    let a = c.args in
    rw (c.put.ensures, c.blame_place.ensures.0, c.joined-joined.ensures, c.blame_at.ensures)
    (put_blame a.store.now c.requires.0 a.view a.mask c.requires.1 c.requires.2 c.ranges.mask.fits)
