-- `lines::kinds::has` meets its contract: a test of each kind against the table. Assumes nothing.
use Rattle.lines.proofs.Messages.{has_by}
use Rattle.wire.proofs.Reading.{tried}
use Rattle.lines.specs.Kinds.{has}
use mathlib.Core.Bool.{not, ◌&&◌, ◌||◌}
use mathlib.Core.Path.{refl}
use native.Mathlib.Omega.{arith}
use lib.Dec.{eqb}
use Rattle.rules.specs.Lists.{iff}
use Rattle.lines.proofs.kinds.has.Goals as goal

pub returns-in-NewView : goal.returns-in-NewView
unfolding tried has iff
returns-in-NewView c =
    rw c.in-NewView.is (has_by 1 (λ t. not (eqb t 5)) refl c.args.tag (omega arith) (omega arith))

pub returns-in-Propose : goal.returns-in-Propose
unfolding tried has iff
returns-in-Propose c =
    rw c.in-Propose.is (has_by 2 (λ t. not (eqb t 6)) refl c.args.tag (omega arith) (omega arith))

pub returns-in-Vote : goal.returns-in-Vote
unfolding tried has iff
returns-in-Vote c =
    rw c.in-Vote.is (has_by 3 (λ t. not (eqb t 5) && not (eqb t 6) && not (eqb t 7)) refl c.args.tag (omega arith) (omega arith))

pub returns-in-Blame : goal.returns-in-Blame
unfolding tried has iff
returns-in-Blame c =
    rw c.in-Blame.is (has_by 4 (λ t. eqb t 2 || eqb t 8) refl c.args.tag (omega arith) (omega arith))

pub returns-in-BlameSet : goal.returns-in-BlameSet
unfolding tried has iff
returns-in-BlameSet c =
    rw c.in-BlameSet.is (has_by 5 (λ t. eqb t 2 || eqb t 7) refl c.args.tag (omega arith) (omega arith))

pub returns-in-Status : goal.returns-in-Status
unfolding tried has iff
returns-in-Status c =
    rw c.in-Status.is (has_by 6 (λ t. not (eqb t 2) && not (eqb t 5) && not (eqb t 8)) refl c.args.tag (omega arith) (omega arith))
