-- `plain_answers::answered` meets its contract. Assumes nothing.
use Prim.Native.Nat.{ℕ}
use mathlib.Core.Path.{◌≡◌, refl, sym, ◌∙◌}
use native.Mathlib.Omega.{arith}
use lib.ListN.{length, length-replicate}
use Rattle.rules.specs.Limits.{least_out_small}
use Rattle.lent_list.specs.Lists.{input_of}
use Rattle.plain_lists.proofs.Bars.{bar_small, open_list}
use Rattle.plain_answers.proofs.Answers.{is_barred, no_state, answered_by, count_fits, may_enter, handed, plain_bytes}
use Rattle.plain_answers.proofs.answered.Goals as goal

pub refuse-requires : goal.refuse-requires
refuse-requires c = let a = c.args in omega (arith, bar_small a.list.now a.out.now, c.barred-number.ensures)

pub returns-then-number-ne0 : goal.returns-then-number-ne0
returns-then-number-ne0 c =
    let args = c.args in
    is_barred args.list.now args.out.now (input_of args.kind args.input.now) c.barred-number.ensures c.if-number-ne0.true c.refuse.ensures

pub fold-requires : goal.fold-requires
fold-requires c = let a = c.args in open_list a.list.now a.out.now c.barred-number.ensures c.if-number-ne0.false

pub slice_bounds-enter-end : goal.slice_bounds-enter-end
slice_bounds-enter-end c =
    let args = c.args in
    let barred = c.barred-number in
    let if1 = c.if-number-ne0 in
    let fold = c.fold in let if2 = c.in-Some in
    let turn_by = c.turn_by-t in
    count_fits args.list.now args.out.now (input_of args.kind args.input.now) barred.ensures if1.false fold.ensures if2.is turn_by.ensures (let n : length turn_by.new.out ≡ least_out_small = turn_by.auto.out ∙ length-replicate {A = ℕ} least_out_small 0 in n)

pub enter-requires : goal.enter-requires
enter-requires c =
    let barred = c.barred-number in
    let if1 = c.if-number-ne0 in
    let fold = c.fold in
    let if2 = c.in-Some in let turn_by = c.turn_by-t in
    let a = c.args in
    let m =
    may_enter
    a.list.now
    a.out.now
    (input_of a.kind a.input.now)
    barred.ensures
    if1.false
    fold.ensures
    if2.is
    turn_by.ensures
    (let n : length turn_by.new.out ≡ least_out_small = turn_by.auto.out ∙ length-replicate {A = ℕ} least_out_small 0 in n)
    (sym c.requires.kind)
    (sym c.requires.bytes)
    (plain_bytes a.input.now c.type_inv.input)
    (handed a.kind a.input.now c.requires.named) in
    record { list_value = m.0; number_bound = m.1 }

pub returns : goal.returns
returns c =
    let barred = c.barred-number in
    let if1 = c.if-number-ne0 in
    let fold = c.fold in
    let if2 = c.in-Some in
    let turn_by = c.turn_by-t in let enter = c.enter in
    let a = c.args in
    answered_by a.list.now a.out.now (input_of a.kind a.input.now) barred.ensures if1.false fold.ensures if2.is turn_by.ensures (sym c.requires.kind) (sym c.requires.bytes) refl enter.ensures

pub returns-in_default : goal.returns-in_default
returns-in_default c =
    let args = c.args in let barred = c.barred-number in
    let if1 = c.if-number-ne0 in
    no_state args.list.now args.out.now (input_of args.kind args.input.now) barred.ensures if1.false c.fold.ensures c.in_default.is c.answer.ensures
