-- `storing::tallied` meets its contract: what was found decides. Assumes nothing.
use Rattle.storing.proofs.Records.{needed_few, tallied_full, tallied_fits, tallied_done}
use Rattle.storing.specs.Records.{needed}
use Rattle.store.proofs.Loaded.{loaded_tallies}
use Rattle.store.proofs.Forms.{form_long, form_tallies}
use Rattle.words.specs.Meaning.{block_of}
use native.Mathlib.Omega.{arith}
use Prim.Native.Nat.{◌+◌}
use mathlib.Core.Path.{ap₂}
use Rattle.tallies.specs.Meaning.{voters_of, author_of}
use Rattle.storing.proofs.tallied.Goals as goal

pub load-station-requires : goal.load-station-requires
load-station-requires c =
    omega (arith, form_long _ c.requires.0)

pub overflow_add-station : goal.overflow_add-station
overflow_add-station c =
    let load = c.load-station in
    omega (arith, loaded_tallies load.result c.args.store.now load.ensures, form_tallies _ c.requires.0, c.needed.ensures, needed_few (block_of c.args.block) c.args.place)

pub returns-then-most_tallies_in-station : goal.returns-then-most_tallies_in-station
returns-then-most_tallies_in-station c =
    let load = c.load-station in
    let most-tallies-in = c.most_tallies_in in
    tallied_full c.requires.0 (author_of c.args.voters) (block_of c.args.block) (voters_of c.args.voters) c.args.place c.requires.1 _ (ap₂ ◌+◌ (loaded_tallies load.result c.args.store.now load.ensures) c.needed.ensures) (omega (arith, c.if-most_tallies_in-station.true, most-tallies-in.ensures))

pub join_certified-requires : goal.join_certified-requires
join_certified-requires c =
    let load = c.load-station in
    let most-tallies-in = c.most_tallies_in in
    let needed = c.needed in
    (c.requires.0, tallied_fits c.requires.0 (author_of c.args.voters) (block_of c.args.block) (voters_of c.args.voters) c.args.place c.requires.1 _ (ap₂ ◌+◌ (loaded_tallies load.result c.args.store.now load.ensures) needed.ensures) (omega (arith, c.if-most_tallies_in-station.false, most-tallies-in.ensures)), c.requires.1, c.requires.2, c.requires.3)

pub returns : goal.returns
returns c =
    let load = c.load-station in
    let most-tallies-in = c.most_tallies_in in let needed = c.needed in
    let if1 = c.if-most_tallies_in-station in
    tallied_done c.requires.0 (author_of c.args.voters) (block_of c.args.block) (voters_of c.args.voters) c.args.place c.requires.1 _ (ap₂ ◌+◌ (loaded_tallies load.result c.args.store.now load.ensures) needed.ensures) (omega (arith, if1.false, most-tallies-in.ensures)) c.join_certified.ensures
