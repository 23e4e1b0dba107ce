-- `plain_statements::Statements::first_conflict` meets its contract. Assumes nothing.
use mathlib.Core.Path.{◌≡◌, sym, ap, ◌∙◌}
use mathlib.Core.Option.{none}
use lib.ListN.{take}
use Rattle.std.proofs.Common.{rules, tests}
use Rattle.std.proofs.lemmas.Iterator.{YieldsList-from_slice}
use Rattle.std.proofs.lemmas.Iterator.Search.{find_from_yields_List}
use Rattle.rules.specs.Words as words
use Rattle.wire.specs.Meaning.{statement_of}
use Rattle.plain_words.proofs.Searches.{meant, find_firsts}
use Rattle.plain_statements.specs.Meaning.{held_of, found_of, statements}
use Rattle.plain_statements.specs.declared.Held.{Held}
use Rattle.plain_statements.proofs.Laws.{conflict_held, found_meant}
use Rattle.plain_statements.proofs.Statements.first_conflict.Goals as goal

pub returns : goal.returns
unfolding statements
returns c =
    let a = c.args in let test = words.conflict (statement_of a.x none) in
    ap found_of c.copied.ensures
    ∙ found_meant _
    ∙ ap (meant held_of)
    (find_from_yields_List (λ (h : Held). test (held_of h)) _ _ c.find.result c.find.ensures.ran (YieldsList-from_slice (take a.self.count a.self.items) (cc))
    (λ h b q k. (search rules, (let e : b ≡ test (statement_of h.now.statement none) = search (rules, tests) in e ∙ sym (conflict_held a.x h.now)))))
    ∙ find_firsts held_of test a.self.items a.self.count
