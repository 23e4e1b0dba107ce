-- `set_phase` meets its contract: the first field of the header changes. Assumes nothing.
use Rattle.records.proofs.Changes.{put_phase}
use Rattle.store.proofs.Forms.{form_long}
use Rattle.store.specs.Meaning.{course_of}
use native.Mathlib.Omega.{arith}
use Rattle.records.proofs.set_phase.Goals as goal

pub put-requires : goal.put-requires
put-requires c =
    omega (arith, form_long _ c.requires.0)

pub returns : goal.returns
returns c =
    rw (c.put.ensures, c.phase_number.ensures) (put_phase c.args.store.now c.requires.0 (course_of c.args.phase) c.requires.1)
