-- `messages::counted` meets its contract: it fits, or the station stops. Assumes nothing.
use Rattle.store.specs.Decode.{state_of}
use Rattle.words.specs.Meaning.{block_of}
use Rattle.tallies.specs.Meaning.{with_voters, voters_of, author_of}
use Rattle.messages.proofs.Rooms.{tallied_answers, tallied_stops}
use mathlib.Core.Path.{ap}
use mathlib.Core.Bool.{not}
use Rattle.messages.proofs.counted.Goals as goal

pub returns-then-not-tallied : goal.returns-then-not-tallied
returns-then-not-tallied c =
    let a = c.args in
    let tallied = c.tallied in let if1 = c.if-not-tallied in
    tallied_stops (author_of a.voters) (with_voters (voters_of a.voters) (block_of a.block)) (state_of a.store.now) tallied.ensures (if1.true) c.stop.ensures

pub returns : goal.returns
returns c =
    let a = c.args in
    tallied_answers (author_of a.voters) (with_voters (voters_of a.voters) (block_of a.block)) (state_of a.store.now) c.tallied.ensures c.if-not-tallied.false
