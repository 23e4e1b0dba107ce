-- `plain_acts::voting` meets its contract. Assumes nothing.
use mathlib.Core.Path.{sym, ◌∙◌}
use mathlib.Core.Option.{none}
use Rattle.wire.specs.Meaning.{statement_of}
use Rattle.plain_acts.proofs.Laws.{passed_over, voted_worked}
use Rattle.plain_acts.proofs.voting.Goals as goal

pub below_lock-requires : goal.below_lock-requires
below_lock-requires c =
    c.requires.2

pub returns-then-below_lock : goal.returns-then-below_lock
returns-then-below_lock c =
    let a = c.args in
    passed_over (statement_of a.x none) a.e c.requires.0 _ a.at (sym c.below_lock.ensures ∙ c.if-below_lock.true)

pub ballot-next-requires : goal.ballot-next-requires
ballot-next-requires c =
    (c.requires.0, c.requires.3, c.requires.4)

pub voted_for-engine-requires : goal.voted_for-engine-requires
voted_for-engine-requires c =
    (c.requires.0, c.requires.1)

pub returns : goal.returns
returns c =
    let a = c.args in let pre = c.requires in
    let below-lock = c.below_lock in let if1 = c.if-below_lock in
    let ballot = c.ballot-next in
    voted_worked (statement_of a.x none) a.e pre.0 _ a.at (sym below-lock.ensures ∙ if1.false) c.voted_for-engine.ensures ballot.ensures
