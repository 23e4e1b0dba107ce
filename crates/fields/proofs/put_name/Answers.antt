-- `fields::put_name` meets its contract: the words go to their places, the last first. Assumes nothing.
use Rattle.fields.proofs.Names.{words, put_words}
use Rattle.fields.proofs.put_name.Goals as goal

pub returns : goal.returns
returns c =
    let a = c.args in
    let g = c.well_formed.1.1.0.1.1 in
    let w = words a.name g.0.1 g.1.0.1 g.1.1.0.1 g.1.1.1.0.1 in
    rw (c.put-4.ensures, c.put-3.ensures, c.put-2.ensures, c.put.ensures) (put_words a.s.now a.at a.name w)
