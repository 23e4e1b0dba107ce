-- `fields::get_name` meets its contract: the number of 32 bytes by its words. Assumes nothing.
use mathlib.Core.Path.{sym}
use Rattle.fields.specs.Names.{name_of}
use Rattle.fields.proofs.Names.{number_words, name_lt}
use Rattle.fields.proofs.get_name.Goals as goal

pub returns : goal.returns
unfolding name_of
returns c =
    let a = c.args in
    let first = c.get-first.ensures in
    let second = c.get-second.ensures in
    let third = c.get-third.ensures in
    let fourth = c.get-fourth.ensures in
    (rw (first.0, second.0, third.0, fourth.0) (sym (number_words a.s.now a.at)), name_lt _ first.1 second.1 third.1 fourth.1)
