-- `plain_statements::Statements::is_used` meets its contract. Assumes nothing.
use mathlib.Core.Path.{◌≡◌, sym, ◌∙◌}
use lib.ListN.{take}
use Rattle.std.proofs.Common.{rules, tests}
use Rattle.std.proofs.lemmas.Iterator.{YieldsList-from_slice}
use Rattle.std.proofs.lemmas.Iterator.Search.{any_from_yields_List}
use mathlib.Core.Option.{none}
use Rattle.fields.specs.Names.{name_of}
use Rattle.wire.specs.Meaning.{statement_of}
use Rattle.plain_statements.specs.Meaning.{held_of, statements, uses}
use Rattle.plain_words.proofs.Searches.{any_firsts}
use Rattle.plain_statements.specs.declared.Held.{Held}
use Rattle.plain_statements.proofs.Laws.{uses_held}
use Rattle.plain_statements.proofs.Statements.is_used.Goals as goal

pub returns : goal.returns
unfolding statements
returns c =
    let a = c.args in let test = uses (name_of a.name) in
    any_from_yields_List (λ (h : Held). test (held_of h)) _ _ c.any.result c.any.ensures.ran (YieldsList-from_slice (take a.self.count a.self.items) (cc))
    (λ h b q k. (search rules, (let e : b ≡ test (statement_of h.now.statement none) = search (rules, tests) in e ∙ sym (uses_held (name_of a.name) h.now))))
    ∙ any_firsts held_of test a.self.items a.self.count
