-- `plain_statements::Statements::any_same` meets its contract. Assumes nothing.
use mathlib.Core.Path.{◌≡◌, sym, ◌∙◌}
use lib.ListN.{take}
use Rattle.std.proofs.Common.{rules, tests}
use Rattle.std.proofs.lemmas.Iterator.{YieldsList-from_slice}
use Rattle.std.proofs.lemmas.Iterator.Search.{any_from_yields_List}
use mathlib.Core.Option.{none}
use Rattle.rules.specs.Words as words
use Rattle.wire.specs.Meaning.{statement_of}
use Rattle.plain_statements.specs.Meaning.{held_of, statements}
use Rattle.plain_words.proofs.Searches.{any_firsts}
use Rattle.plain_statements.specs.declared.Held.{Held}
use Rattle.plain_statements.proofs.Laws.{same_held}
use Rattle.plain_statements.proofs.Statements.any_same.Goals as goal

pub returns : goal.returns
unfolding statements
returns c =
    let a = c.args in let test = words.same_statement (statement_of a.x none) in
    any_from_yields_List (λ (h : Held). test (held_of h)) _ _ c.any.result c.any.ensures.ran (YieldsList-from_slice (take a.self.count a.self.items) (cc))
    (λ h b q k. (search rules, (let e : b ≡ test (statement_of h.now.statement none) = search (rules, tests) in e ∙ sym (same_held a.x h.now))))
    ∙ any_firsts held_of test a.self.items a.self.count
