-- `stops::stop` meets its contract. Assumes nothing.
use Rattle.answer.specs.Numbers.{number_of}
use Rattle.store.specs.Decode.{state_of}
use Rattle.store.specs.Meaning.{cause_of}
use Rattle.stops.proofs.Stops.{cause_small, stopped_answers}
use Rattle.stops.proofs.stop.Goals as goal

pub set_phase-requires : goal.set_phase-requires
set_phase-requires c =
    (c.requires, cause_small c.args.cause)

pub returns : goal.returns
returns c =
    let a = c.args in stopped_answers (number_of a.refusal) (cause_of a.cause) (state_of a.store.now) c.set_phase.ensures c.answer.ensures
