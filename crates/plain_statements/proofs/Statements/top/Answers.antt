-- `plain_statements::Statements::top` meets its contract. Assumes nothing.
use mathlib.Core.Path.{◌≡◌, sym, ap, ◌∙◌}
use mathlib.Core.List.{List, reverse, map}
use lib.ListN.{take}
use Rattle.std.proofs.Common.{rules}
use Rattle.std.proofs.lemmas.Fn.{fold_over}
use Rattle.std.proofs.lemmas.Iterator.Adapters.{YieldsList-from_rev_slice}
use Rattle.std.specs.Iterator.Adapters.{rev_steps}
use Rattle.std.specs.Slice.Iter.{iter_steps_back}
use Rattle.rules.specs.Inputs as inputs
use Rattle.plain_words.proofs.Searches.{back_more, back_firsts}
use Rattle.plain_statements.specs.Meaning.{held_of, found_of, statements, over}
use Rattle.plain_statements.proofs.Laws.{top_none, top_over}
use Rattle.plain_statements.proofs.Statements.top.Goals as goal

pub returns : goal.returns
unfolding statements
returns c =
    let a = c.args in let top = inputs.top a.view in
    fold_over (rev_steps iter_steps_back) _ _ (λ hs o. found_of o ≡ top (map held_of (reverse hs))) _
    (λ hs o h r f' j k.
    let e : found_of r ≡ over a.view (held_of h.now) (found_of o) = search rules in
    (e ∙ ap (over a.view (held_of h.now)) j ∙ sym (top_over a.view _ _) ∙ ap top (sym (back_more held_of hs h.now)), search rules))
    c.rev.result _ _ _ (YieldsList-from_rev_slice {s = c.rev.result} (take a.self.count a.self.items) (cc)).runs (top_none a.view) c.fold.ensures.ran
    ∙ ap top (back_firsts held_of a.self.items a.self.count)
