-- `plain_statements::greater` meets its contract. Assumes nothing.
use mathlib.Core.Path.{sym, ap, ◌∙◌}
use Rattle.std.specs.Prelude.{Option}
use Rattle.wire.specs.Meaning.{statement_of}
use Rattle.plain_statements.specs.declared.Held.{Held}
use Rattle.plain_statements.specs.Meaning.{held_of, found_of, over}
use Rattle.plain_statements.proofs.Laws.{over_other, over_none, over_lower, over_greater}
use Rattle.plain_statements.proofs.greater.Goals as goal

pub returns-then-held-view : goal.returns-then-held-view
unfolding held_of statement_of
returns-then-held-view c =
    let a = c.args in
    over_other a.view (held_of a.held) (found_of a.best) c.if-held-view.true

pub returns-in-Some : goal.returns-in-Some
unfolding held_of statement_of
returns-in-Some c =
    let a = c.args in
    over_lower a.view (held_of a.held) c.if-held-view.false (held_of c.in-Some.other) c.if-held-other.true
    ∙ ap (λ (o : Option Held). over a.view (held_of a.held) (found_of o)) (sym c.in-Some.is)

pub returns-in_default : goal.returns-in_default
unfolding held_of statement_of
returns-in_default c =
    let a = c.args in
    over_greater a.view (held_of a.held) c.if-held-view.false (held_of c.in-Some.other) c.if-held-other.false
    ∙ ap (λ (o : Option Held). over a.view (held_of a.held) (found_of o)) (sym c.in-Some.is)

pub returns-in_default-2 : goal.returns-in_default-2
unfolding held_of statement_of
returns-in_default-2 c =
    let a = c.args in
    over_none a.view (held_of a.held) c.if-held-view.false
    ∙ ap (λ (o : Option Held). over a.view (held_of a.held) (found_of o)) (sym c.in_default.is)
