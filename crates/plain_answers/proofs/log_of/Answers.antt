-- `plain_answers::log_of` meets its contract. Assumes nothing.
use native.Mathlib.Omega.{arith}
use Rattle.plain_lists.proofs.Bars.{bar_small, open_list}
use Rattle.plain_answers.proofs.Logs.{log_barred, log_none, log_fits, log_told}
use Rattle.plain_answers.proofs.Folding.{came_whole}
use Rattle.plain_answers.proofs.log_of.Goals as goal

pub refuse-requires : goal.refuse-requires
refuse-requires c = let a = c.args in omega (arith, bar_small a.list.now a.out.now, c.barred-number.ensures)

pub returns-then-number-ne0 : goal.returns-then-number-ne0
returns-then-number-ne0 c = let a = c.args in log_barred a.list.now a.out.now c.barred-number.ensures c.if-number-ne0.true c.refuse.ensures

pub fold-requires : goal.fold-requires
fold-requires c = let a = c.args in open_list a.list.now a.out.now c.barred-number.ensures c.if-number-ne0.false

pub write_log-requires : goal.write_log-requires
write_log-requires c =
    let args = c.args in let barred = c.barred-number in
    let if1 = c.if-number-ne0 in let fold = c.fold in
    ((came_whole fold.ensures c.in-Some.is).sized.log, log_fits args.list.now args.out.now barred.ensures if1.false fold.ensures)

pub returns : goal.returns
returns c =
    let args = c.args in
    let barred = c.barred-number in
    let if1 = c.if-number-ne0 in let fold = c.fold in
    let if2 = c.in-Some in let write-log = c.write_log in
    log_told args.list.now args.out.now barred.ensures if1.false fold.ensures if2.is write-log.ensures.0 write-log.ensures.1

pub returns-in_default : goal.returns-in_default
returns-in_default c =
    let args = c.args in let barred = c.barred-number in
    let if1 = c.if-number-ne0 in
    log_none args.list.now args.out.now barred.ensures if1.false c.fold.ensures c.in_default.is c.answer.ensures
