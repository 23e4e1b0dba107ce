-- `plain_tallies::Tallies::highest` meets its contract. Assumes nothing.
use mathlib.Core.Path.{◌≡◌, sym, ap, ◌∙◌}
use mathlib.Core.List.{List, reverse, map}
use lib.ListN.{take}
use Rattle.std.proofs.Common.{rules}
use Rattle.std.proofs.lemmas.Fn.{fold_over}
use Rattle.std.proofs.lemmas.Iterator.Adapters.{YieldsList-from_rev_slice}
use Rattle.std.specs.Iterator.Adapters.{rev_steps}
use Rattle.std.specs.Slice.Iter.{iter_steps_back}
use Rattle.rules.specs.Words as words
use Rattle.settings.specs.Made.{settings_of}
use Rattle.plain_words.specs.Meaning.{certificate_of}
use Rattle.plain_words.proofs.Searches.{back_more, back_firsts}
use Rattle.plain_tallies.specs.Meaning.{tally_of, blank, tallies, room, best_of}
use Rattle.plain_tallies.proofs.Laws.{highest_none, highest_best}
use Rattle.plain_tallies.proofs.Tallies.highest.Goals as goal

pub returns : goal.returns
unfolding tallies
returns c =
    let a = c.args in let g = settings_of a.settings in let highest = words.highest g a.view in
    fold_over (rev_steps iter_steps_back) _ _ (λ ys b. certificate_of b ≡ highest (map tally_of (reverse ys))) _
    (λ ys b x d f' j k.
    let e : certificate_of d ≡ best_of g a.view (tally_of x.now) (certificate_of b) = search rules in
    (e ∙ ap (best_of g a.view (tally_of x.now)) j ∙ sym (highest_best g a.view _ _) ∙ ap highest (sym (back_more tally_of ys x.now)), search rules))
    c.rev.result _ _ _ (YieldsList-from_rev_slice {s = c.rev.result} (take a.self.count a.self.items) (cc)).runs (c.genesis.ensures ∙ highest_none g a.view) c.fold.ensures.ran
    ∙ ap highest (back_firsts tally_of a.self.items a.self.count)
