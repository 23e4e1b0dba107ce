-- `form::has_form` meets its contract. Assumes nothing.
use mathlib.Core.Path.{ap, ◌∙◌}
use native.Mathlib.Omega.{arith}
use Rattle.rules.specs.Limits.{most_statements, most_tallies}
use Rattle.form.proofs.Forms.{tested_by, counts_statements, tests_fail, tests_hold, tests_then}
use mathlib.Core.Bool.{not}
use Rattle.form.proofs.has_form.Goals as goal

pub table_fits-statements-requires : goal.table_fits-statements-requires
table_fits-statements-requires c =
    let pre = c.requires in
    omega (arith, pre.long, c.most_statements-most.ensures ∙ ap most_statements pre.holds.size)

pub table_fits-tallies-requires : goal.table_fits-tallies-requires
table_fits-tallies-requires c =
    let pre = c.requires in
    omega (arith, pre.long, c.tallies_in.ensures, c.most_tallies.ensures ∙ ap most_tallies pre.holds.size)

pub table_fits-log-requires : goal.table_fits-log-requires
table_fits-log-requires c =
    let pre = c.requires in
    omega (arith, pre.long, c.log_in.ensures, c.most_statements-most.ensures ∙ ap most_statements pre.holds.size)

pub returns-then-not-tables : goal.returns-then-not-tables
returns-then-not-tables c =
    let tests = tested_by _ c.args.station c.requires c.most_statements-most.ensures c.most_tallies.ensures c.tallies_in.ensures c.log_in.ensures c.table_fits-statements.ensures c.table_fits-tallies.ensures c.table_fits-log.ensures in
    tests_fail _ c.args.station c.requires tests (ap not c.if-not-tables.true)

pub kinds_good-requires : goal.kinds_good-requires
kinds_good-requires c =
    let tests = tested_by _ c.args.station c.requires c.most_statements-most.ensures c.most_tallies.ensures c.tallies_in.ensures c.log_in.ensures c.table_fits-statements.ensures c.table_fits-tallies.ensures c.table_fits-log.ensures in
    counts_statements _ c.args.station c.requires (tests_hold _ c.args.station c.requires tests (ap not c.if-not-tables.false))

pub returns : goal.returns
returns c =
    let tests = tested_by _ c.args.station c.requires c.most_statements-most.ensures c.most_tallies.ensures c.tallies_in.ensures c.log_in.ensures c.table_fits-statements.ensures c.table_fits-tallies.ensures c.table_fits-log.ensures in
    c.kinds_good.ensures ∙ tests_then _ c.args.station c.requires tests (ap not c.if-not-tables.false)
