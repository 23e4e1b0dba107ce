-- `note_vote` meets its contract: one field of a record changes. Assumes nothing.
use Rattle.records.proofs.Changes.{put_vote}
use Rattle.store.proofs.Forms.{form_long, form_statements}
use native.Mathlib.Omega.{arith}
use Rattle.records.proofs.note_vote.Goals as goal

pub overflow_mul-i : goal.overflow_mul-i
overflow_mul-i c =
    omega (arith, form_statements _ c.requires.0)

pub overflow_add-i : goal.overflow_add-i
overflow_add-i c =
    omega (arith, form_statements _ c.requires.0)

pub overflow_add-i-2 : goal.overflow_add-i-2
overflow_add-i-2 c =
    omega (arith, form_statements _ c.requires.0)

pub put-requires : goal.put-requires
put-requires c =
    omega (arith, form_long _ c.requires.0, form_statements _ c.requires.0)

pub returns : goal.returns
returns c =
    rw c.put.ensures (put_vote c.args.store.now c.requires.0 c.args.i c.args.clock c.requires.1 (omega (arith, c.requires.2)))
