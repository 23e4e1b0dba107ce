-- `plain_turns::if_room` meets its contract. Assumes nothing.
use mathlib.Core.Path.{sym, ap, ◌∙◌}
use mathlib.Core.Bool.{Bool}
use Rattle.plain_turns.specs.Turns.{refusing, chosen}
use Rattle.plain_turns.proofs.if_room.Goals as goal

pub returns-then-has_room : goal.returns-then-has_room
returns-then-has_room c =
    let a = c.args in
    ap (λ (b : Bool). chosen b a.e a.w) (sym (sym c.has_room.ensures ∙ c.if-has_room.true))

pub returns : goal.returns
returns c =
    let a = c.args in
    c.refused.ensures ∙ ap (refusing 6) c.with_phase.ensures ∙ ap (λ (b : Bool). chosen b a.e a.w) (sym (sym c.has_room.ensures ∙ c.if-has_room.false))
