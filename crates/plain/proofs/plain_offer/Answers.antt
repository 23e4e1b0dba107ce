-- `plain::plain_offer` meets its contract. Assumes nothing.
use mathlib.Core.Path.{refl}
use Rattle.lent_list.specs.Lists.{kind_of, bytes_of, input_of}
use Rattle.plain.proofs.Offers.{name_short, name_good}
use Rattle.plain.proofs.plain_offer.Goals as goal

pub returns-then-name-ne32 : goal.returns-then-name-ne32
returns-then-name-ne32 c = let a = c.args in name_short a.name.now a.list.now a.out.now c.if-name-ne32.true c.answer.ensures

pub answered-requires : goal.answered-requires
unfolding kind_of bytes_of input_of
answered-requires c = record { kind = refl; bytes = refl; named = λ e. c.if-name-ne32.false }

pub returns : goal.returns
unfolding input_of
returns c =
    let args = c.args in
    let if1 = c.if-name-ne32 in let answered = c.answered in
    name_good args.name.now args.list.now args.out.now if1.false answered.ensures
