-- `plain_statements::Statements::push` meets its contract. Assumes nothing.
use mathlib.Core.Path.{◌∙◌}
use native.Mathlib.Omega.{arith}
use lib.ListN.{length-set}
use Rattle.plain_words.proofs.Firsts.{firsts_more}
use Rattle.plain_statements.specs.Meaning.{held_of, statements}
use Rattle.plain_statements.proofs.Statements.push.Goals as goal

pub returns : goal.returns
unfolding statements held_of
returns c =
    let t = c.args.self in
    let w = c.requires.0 in
    record {
      within = record { long = length-set t.items t.count _ ∙ w.long; most = omega arith };
      is = firsts_more held_of t.items t.count _ (omega (arith, w.long));
    }
