-- `turns::enter` meets its contract: the view is entered, then the station arrives in it. Assumes nothing.
use Rattle.turns.proofs.Arriving.{enter_not, enter_goes, entered_formed, entered_size}
use Rattle.turns.proofs.Entering.{report_ends}
use Rattle.turns.proofs.Parts.{works_still, works_then}
use Rattle.acts.proofs.Works.{works_is}
use Rattle.rules.specs.Inputs.{arrive}
use Rattle.outgoing.proofs.Writing.{says_length}
use native.Mathlib.Omega.{arith}
use mathlib.Core.Path.{sym, ap, ◌∙◌}
use Rattle.rules.specs.Limits.{most_statements}
use borrow.Author.Rules.{rules}
use Rattle.turns.proofs.enter.Goals as goal

pub returns-then-not-enters_now : goal.returns-then-not-enters_now
returns-then-not-enters_now c =
    let args = c.args in
    works_still args.out.now args.at c.requires.0.form (enter_not _ (sym c.enters_now.ensures ∙ c.if-not-enters_now.true))

pub entered-next-requires : goal.entered-next-requires
entered-next-requires c =
    let pre = c.requires in
    (pre.0, sym c.enters_now.ensures ∙ c.if-not-enters_now.false, omega (arith, pre.1))

pub arrive-requires : goal.arrive-requires
arrive-requires c =
    let pre = c.requires in
    let enters-now = c.enters_now in
    let if1 = c.if-not-enters_now in
    let entered = c.entered-next in
    let w = entered.ensures in
    (entered_formed pre.0 (sym enters-now.ensures ∙ if1.false) w, omega (arith, report_ends _ w, says_length w.says, pre.1, ap most_statements (entered_size _ w)), search rules)

pub returns : goal.returns
returns c =
    let enters-now = c.enters_now in
    let if1 = c.if-not-enters_now in
    let entered = c.entered-next in
    let the-arrive = c.arrive in
    works_is (enter_goes _ (sym enters-now.ensures ∙ if1.false)) (works_then arrive entered.ensures the-arrive.ensures)
