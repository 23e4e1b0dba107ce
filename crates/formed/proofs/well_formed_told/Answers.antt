-- `formed::well_formed_told` meets its contract. Assumes nothing.
use Rattle.formed.proofs.Whole.{untold, formless, counted, ready, formed_not, formed_then}
use mathlib.Core.Path.{◌∙◌}
use mathlib.Core.Path.{ap}
use mathlib.Core.Bool.{not}
use Rattle.formed.proofs.well_formed_told.Goals as goal

pub has_form-requires : goal.has_form-requires
has_form-requires c =
    record { long = c.requires.0; holds = c.load-station.ensures }

pub returns-then-not-has_form : goal.returns-then-not-has_form
returns-then-not-has_form c =
    untold (formless _ _ c.has_form.ensures (ap not c.if-not-has_form.true))

pub all_good-requires : goal.all_good-requires
all_good-requires c =
    let pre = c.requires in let load = c.load-station in let has-form = c.has_form in
    counted _ load.result pre.0 load.ensures _ has-form.ensures (ap not c.if-not-has_form.false)

pub returns-then-not-good : goal.returns-then-not-good
returns-then-not-good c =
    let pre = c.requires in let load = c.load-station in
    let has-form = c.has_form in let if1 = c.if-not-has_form in
    untold (formed_not _ load.result pre.0 load.ensures _ has-form.ensures (ap not if1.false) _ _ c.header_good.ensures c.all_good.ensures (ap not c.if-not-good.true))

pub tables_good-requires : goal.tables_good-requires
tables_good-requires c =
    let pre = c.requires in let load = c.load-station in
    let has-form = c.has_form in let if1 = c.if-not-has_form in
    let header-good = c.header_good in
    (ready _ load.result pre.0 load.ensures _ has-form.ensures (ap not if1.false) _ _ header-good.ensures c.all_good.ensures (ap not c.if-not-good.false), pre.1)

pub returns : goal.returns
returns c =
    let pre = c.requires in
    let load = c.load-station in let has-form = c.has_form in
    let if1 = c.if-not-has_form in let header-good = c.header_good in
    let all-good = c.all_good in
    let tables = c.tables_good.ensures in
    record {
      is = tables.is ∙ formed_then _ load.result pre.0 load.ensures _ has-form.ensures (ap not if1.false) _ _ header-good.ensures all-good.ensures (ap not c.if-not-good.false);
      told = tables.told;
    }
