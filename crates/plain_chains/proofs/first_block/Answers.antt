-- `plain_chains::first_block` meets its contract. Assumes nothing.
use mathlib.Core.Path.{◌≡◌, sym, ap, ◌∙◌}
use lib.ListN.{take}
use Rattle.std.proofs.Common.{rules, tests}
use Rattle.std.proofs.lemmas.Iterator.{YieldsList-from_slice}
use Rattle.std.proofs.lemmas.Iterator.Search.{find_from_yields_List}
use Rattle.fields.specs.Names.{name_of}
use Rattle.rules.specs.Inputs.{is_block}
use Rattle.plain_words.proofs.Searches.{meant, find_firsts}
use Rattle.plain_statements.specs.Meaning.{held_of, found_of, statements}
use Rattle.plain_statements.specs.declared.Held.{Held}
use Rattle.plain_statements.proofs.Laws.{found_meant}
use Rattle.plain_chains.proofs.first_block.Goals as goal

pub returns : goal.returns
unfolding statements
returns c =
    let a = c.args in let test = is_block a.height (name_of a.name) in
    ap found_of c.copied.ensures
    ∙ found_meant _
    ∙ ap (meant held_of)
    (find_from_yields_List (λ (h : Held). test (held_of h)) _ _ c.find.result c.find.ensures.ran (YieldsList-from_slice (take a.xs.count a.xs.items) (cc))
    (λ h b q k. search (rules, tests)))
    ∙ find_firsts held_of test a.xs.items a.xs.count
