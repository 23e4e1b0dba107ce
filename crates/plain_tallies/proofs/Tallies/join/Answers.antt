-- `plain_tallies::Tallies::join` meets its contract. Assumes nothing.
use mathlib.Core.Path.{sym, ◌∙◌}
use Rattle.plain_words.specs.Meaning.{certificate_of}
use Rattle.plain_tallies.specs.Meaning.{tallies, room, moment_of}
use Rattle.plain_words.proofs.Tables.{within_set, within_more}
use Rattle.plain_tallies.proofs.Laws.{joined_here, joined_new}
use Rattle.plain_tallies.proofs.Tallies.join.Goals as goal

pub returns-in-Some : goal.returns-in-Some
unfolding tallies certificate_of
returns-in-Some c =
    let a = c.args in
    let w = c.requires.0 in
    let i = c.in-Some.i in
    record {
      within = within_set room a.self.items a.self.count w i c.grown.result;
      is = joined_here (certificate_of a.t) a.self w i (sym c.place_of.ensures.found ∙ c.in-Some.is) (moment_of a.moment) c.grown.result c.grown.ensures;
    }

pub returns : goal.returns
unfolding tallies
returns c =
    let a = c.args in let pre = c.requires in
    let w = pre.0 in
    record {
      within = within_more room a.self.items a.self.count w a.self.count c.opened.result pre.1;
      is = joined_new (certificate_of a.t) a.self w (sym c.place_of.ensures.found ∙ c.in_default.is) (moment_of a.moment) c.opened.result pre.1 c.opened.ensures;
    }
