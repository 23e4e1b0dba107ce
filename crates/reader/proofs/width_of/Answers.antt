-- `reader::width_of` meets its contract: the table is that of the rules. Assumes nothing.
use mathlib.Core.Path.{sym, ap}
use Rattle.rules.specs.Messages.{width}
use Rattle.wire.proofs.Reading.{no_width}
use Rattle.reader.proofs.width_of.Goals as goal

pub returns-in-1 : goal.returns-in-1
unfolding width
returns-in-1 c = sym (ap width c.in-1.is)

pub returns-in-2 : goal.returns-in-2
unfolding width
returns-in-2 c = sym (ap width c.in-2.is)

pub returns-in-3 : goal.returns-in-3
unfolding width
returns-in-3 c = sym (ap width c.in-3.is)

pub returns-in-4 : goal.returns-in-4
unfolding width
returns-in-4 c = sym (ap width c.in-4.is)

pub returns-in-5 : goal.returns-in-5
unfolding width
returns-in-5 c = sym (ap width c.in-5.is)

pub returns-in-6 : goal.returns-in-6
unfolding width
returns-in-6 c = sym (ap width c.in-6.is)

pub returns-in-7 : goal.returns-in-7
unfolding width
returns-in-7 c = sym (ap width c.in-7.is)

pub returns-in-8 : goal.returns-in-8
unfolding width
returns-in-8 c = sym (ap width c.in-8.is)

pub returns-in_default : goal.returns-in_default
returns-in_default c =
    let r = c.in_default.in_default-own.rest in
    no_width c.args.tag r.0.0.0.0.0.0.0.1 r.0.0.0.0.0.0.1 r.0.0.0.0.0.1 r.0.0.0.0.1 r.0.0.0.1 r.0.0.1 r.0.1 r.1
