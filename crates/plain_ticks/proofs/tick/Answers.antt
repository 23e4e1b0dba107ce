-- `plain_ticks::tick` meets its contract. Assumes nothing.
use mathlib.Core.Path.{sym, ◌∙◌}
use Rattle.plain_tables.specs.Meaning.{state}
use Rattle.plain_tables.specs.declared.Cause.TheVariants.{Clock}
use Rattle.plain_turns.proofs.Laws.{refused_turned, turn_as, turn_is}
use Rattle.plain_ticks.proofs.Ticking.{halted_turned, tick_stopped, tick_last, tick_ticking, before_last, tick_answered}
use Rattle.plain_ticks.proofs.tick.Goals as goal

pub returns-then-not-running : goal.returns-then-not-running
returns-then-not-running c =
    let e = c.args.e in
    tick_answered e c.requires.0 _ _
    (turn_is c.refused.ensures (turn_as (tick_stopped (state e) (sym c.running.ensures ∙ c.if-not-running.true)) (refused_turned 3 e _ c.requires.0.sized)))

pub returns-then-e-eq-LAST_CLOCK : goal.returns-then-e-eq-LAST_CLOCK
unfolding state
returns-then-e-eq-LAST_CLOCK c =
    let e = c.args.e in
    tick_answered e c.requires.0 _ _
    (turn_is c.halted.ensures (turn_as (tick_last (state e) (sym c.running.ensures ∙ c.if-not-running.false) c.if-e-eq-LAST_CLOCK.true) (halted_turned 8 Clock e _ c.requires.0.sized)))

pub ticked-requires : goal.ticked-requires
ticked-requires c =
    (c.requires.0, sym c.running.ensures ∙ c.if-not-running.false, before_last c.args.e c.requires.0 c.if-e-eq-LAST_CLOCK.false, c.requires.1)

pub returns : goal.returns
unfolding state
returns c =
    let running = c.running in let if1 = c.if-not-running in
    let if2 = c.if-e-eq-LAST_CLOCK in
    let e = c.args.e in
    tick_answered e c.requires.0 _ _
    (turn_as (tick_ticking (state e) (sym running.ensures ∙ if1.false) if2.false) c.ticked.ensures)
