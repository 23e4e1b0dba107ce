-- `formed::tables_good` meets its contract. Assumes nothing.
use Rattle.settings.specs.Made.{settings_of}
use Rattle.formed.proofs.Whole.{untold, tables_not, tables_then}
use mathlib.Core.Path.{ap}
use mathlib.Core.Bool.{not}
use Rattle.formed.proofs.tables_good.Goals as goal

pub returns-then-not-good_and_apart : goal.returns-then-not-good_and_apart
returns-then-not-good_and_apart c =
    untold (tables_not _ _ _ _ c.good_and_apart.ensures.is (ap not c.if-not-good_and_apart.true))

pub there_and_apart-requires : goal.there_and_apart-requires
there_and_apart-requires c =
    let p = c.requires.0 in
    (p.tallies, c.good_and_apart.ensures.hang c.if-not-good_and_apart.false, p.statements, p.certify)

pub returns : goal.returns
returns c =
    let args = c.args in
    let good-and-apart = c.good_and_apart in
    let if1 = c.if-not-good_and_apart in let there-and-apart = c.there_and_apart in
    let all-good = c.all_good in
    let linked = c.is_linked.ensures in
    record {
      is =
          rw (there-and-apart.ensures, all-good.ensures, linked.is, c.few_opened.ensures)
          (tables_then (settings_of args.station.settings) _ _ _ good-and-apart.ensures.is (ap not if1.false));
      told = λ q. linked.told;
    }
