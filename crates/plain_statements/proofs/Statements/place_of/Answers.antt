-- `plain_statements::Statements::place_of` meets its contract. Assumes nothing.
use mathlib.Core.Path.{◌≡◌, sym, ◌∙◌}
use mathlib.Core.Option.{none}
use lib.ListN.{take}
use Rattle.std.proofs.Common.{rules, tests}
use Rattle.std.proofs.lemmas.Iterator.{YieldsList-from_slice}
use Rattle.std.proofs.lemmas.Iterator.Search.{position_from_yields_List}
use Rattle.rules.specs.Words as words
use Rattle.wire.specs.Meaning.{statement_of}
use Rattle.plain_words.proofs.Searches.{position_firsts}
use Rattle.plain_statements.specs.Meaning.{held_of, statements}
use Rattle.plain_statements.specs.declared.Held.{Held}
use Rattle.plain_statements.proofs.Laws.{same_held}
use Rattle.plain_statements.proofs.Statements.place_of.Goals as goal

pub returns-clause-found : goal.returns-clause-found
unfolding statements
returns-clause-found c =
    let a = c.args in let test = words.same_statement (statement_of a.x none) in
    position_from_yields_List (λ (h : Held). test (held_of h)) _ _ c.position.result c.position.ensures.ran (YieldsList-from_slice (take a.self.count a.self.items) (cc))
    (λ h b q k. (search rules, (let e : b ≡ test (statement_of h.now.statement none) = search (rules, tests) in e ∙ sym (same_held a.x h.now))))
    ∙ position_firsts held_of test a.self.items a.self.count
