-- `fresh_list::plain_fresh` meets its contract. Assumes nothing.
use mathlib.Core.Path.{refl, sym, ◌∙◌}
use native.Mathlib.Omega.{arith}
use Rattle.lent_list.proofs.Lengths.{lengths}
use Rattle.lent_list.proofs.Made.{made_good, made_bad}
use Rattle.fresh_list.proofs.Fresh.{length_refused, settings_refused, is_fresh}
use Rattle.fresh_list.proofs.plain_fresh.Goals as goal

pub returns-in_default : goal.returns-in_default
returns-in_default c =
    let args = c.args in let has-length = c.has_length in
    let if1 = c.if-has_length in let made = c.new in
    settings_refused args.list.now args.n args.d args.own (sym has-length.ensures ∙ if1.true) (made_bad args.n args.d args.own made.ensures.0 c.in_default.is) c.answer.ensures

pub put-requires : goal.put-requires
put-requires c = omega (arith, (lengths c.args.list.now (sym c.has_length.ensures ∙ c.if-has_length.true)).0)

pub put-requires-then-has_length : goal.put-requires-then-has_length
put-requires-then-has_length c =
    let args = c.args in
    let has-length = c.has_length in
    let if1 = c.if-has_length in let put = c.put in
    omega (arith, (lengths args.list.now (sym has-length.ensures ∙ if1.true)).0, put.auto.s)

pub put-requires-then-has_length-2 : goal.put-requires-then-has_length-2
put-requires-then-has_length-2 c =
    let args = c.args in
    let has-length = c.has_length in
    let if1 = c.if-has_length in
    let put = c.put in let put2 = c.put-then-has_length in
    omega (arith, (lengths args.list.now (sym has-length.ensures ∙ if1.true)).0, put.auto.s, put2.auto.s)

pub overflow_sub-rest : goal.overflow_sub-rest
overflow_sub-rest c =
    let args = c.args in
    let has-length = c.has_length in
    let if1 = c.if-has_length in
    let put = c.put in let put2 = c.put-then-has_length in
    omega (arith, (lengths args.list.now (sym has-length.ensures ∙ if1.true)).0, put.auto.s, put2.auto.s, c.put-then-has_length-2.auto.s)

pub clear-requires : goal.clear-requires
clear-requires c =
    let args = c.args in
    let has-length = c.has_length in
    let if1 = c.if-has_length in
    let put = c.put in
    let put2 = c.put-then-has_length in let put3 = c.put-then-has_length-2 in
    omega (arith, (lengths args.list.now (sym has-length.ensures ∙ if1.true)).0, put.auto.s, put2.auto.s, put3.auto.s)

pub returns-then-has_length : goal.returns-then-has_length
returns-then-has_length c =
    let args = c.args in
    let has-length = c.has_length in
    let if1 = c.if-has_length in
    let made = c.new in
    let put = c.put in
    let put2 = c.put-then-has_length in let put3 = c.put-then-has_length-2 in
    is_fresh args.list.now args.n args.d args.own (sym has-length.ensures ∙ if1.true) (made_good args.n args.d args.own made.ensures.0 c.in-Some.is) put.ensures put2.ensures put3.ensures refl c.clear.ensures

pub returns : goal.returns
returns c = let a = c.args in length_refused a.list.now a.n a.d a.own (sym c.has_length.ensures ∙ c.if-has_length.false) c.answer-2.ensures
