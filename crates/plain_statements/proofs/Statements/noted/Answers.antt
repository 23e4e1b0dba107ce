-- `plain_statements::Statements::noted` meets its contract. Assumes nothing.
use mathlib.Core.Path.{sym, ◌∙◌}
use mathlib.Core.Option.{none}
use lib.ListN.{get_or}
use Rattle.rules.specs.Words as words
use Rattle.rules.specs.Inputs as inputs
use Rattle.wire.specs.Meaning.{statement_of}
use Rattle.plain_words.proofs.Tables.{altered, unaltered, within_set}
use Rattle.plain_statements.specs.Meaning.{held_of, blank, statements, room}
use Rattle.plain_statements.proofs.Laws.{noted_held}
use Rattle.plain_statements.proofs.Statements.noted.Goals as goal

pub returns-in-Some : goal.returns-in-Some
unfolding statements
returns-in-Some c =
    let a = c.args in let w = c.requires in let i = c.in-Some.i in
    record {
      within = within_set room a.self.items a.self.count w i _;
      is = altered held_of blank room a.self.items a.self.count w (words.same_statement (statement_of a.x none)) i (sym c.place_of.ensures.found ∙ c.in-Some.is) (inputs.noted a.clock) _ (noted_held a.clock (get_or a.self.items i blank));
    }

pub returns-in_default : goal.returns-in_default
unfolding statements
returns-in_default c =
    let a = c.args in let w = c.requires in
    record {
      within = w;
      is = unaltered held_of blank room a.self.items a.self.count w (words.same_statement (statement_of a.x none)) (sym c.place_of.ensures.found ∙ c.in_default.is) (inputs.noted a.clock);
    }
