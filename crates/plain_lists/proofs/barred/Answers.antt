-- `plain_lists::barred` meets its contract. Assumes nothing.
use mathlib.Core.Path.{sym, ◌∙◌}
use Rattle.plain_lists.proofs.Bars.{out_short, list_wrong, form_wrong, form_good}
use Rattle.plain_lists.proofs.barred.Goals as goal

pub returns-then-out-lt-LEAST_OUT : goal.returns-then-out-lt-LEAST_OUT
returns-then-out-lt-LEAST_OUT c = out_short c.args.list.now c.args.out.now c.if-out-lt-LEAST_OUT.true

pub has_form-requires : goal.has_form-requires
has_form-requires c = sym c.has_length.ensures ∙ c.if-has_length.true

pub returns-then-has_form : goal.returns-then-has_form
returns-then-has_form c =
    let args = c.args in let if1 = c.if-out-lt-LEAST_OUT in
    let has-length = c.has_length in
    form_good args.list.now args.out.now if1.false has-length.ensures c.if-has_length.true c.has_form.ensures c.if-has_form.true

pub returns-then-has_length : goal.returns-then-has_length
returns-then-has_length c =
    let args = c.args in let if1 = c.if-out-lt-LEAST_OUT in
    let has-length = c.has_length in
    form_wrong args.list.now args.out.now if1.false has-length.ensures c.if-has_length.true c.has_form.ensures c.if-has_form.false

pub returns : goal.returns
returns c = list_wrong c.args.list.now c.args.out.now c.if-out-lt-LEAST_OUT.false c.has_length.ensures c.if-has_length.false
