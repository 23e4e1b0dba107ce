-- `certificates::better` meets its contract. Assumes nothing.
use mathlib.Core.Path.{◌∙◌, sym}
use Rattle.settings.specs.Made.{settings_of}
use Rattle.words.specs.Meaning.{block_of}
use Rattle.certificates.proofs.Ranks.{chosen_late, chosen_few, chosen_lower, chosen_here}
use Rattle.certificates.proofs.better.Goals as goal

pub returns-then-view-block : goal.returns-then-view-block
unfolding block_of
returns-then-view-block c =
    let a = c.args in
    chosen_late (settings_of a.settings) a.view (block_of a.block) (block_of a.best) c.if-view-block.true

pub returns-then-not-higher : goal.returns-then-not-higher
unfolding block_of
returns-then-not-higher c =
    let a = c.args in
    chosen_lower (settings_of a.settings) a.view (block_of a.block) (block_of a.best) (sym c.higher.ensures ∙ c.if-not-higher.true)

pub returns-then-not-quorum : goal.returns-then-not-quorum
unfolding block_of
returns-then-not-quorum c =
    let a = c.args in
    chosen_few (settings_of a.settings) a.view (block_of a.block) (block_of a.best) (sym (simp c.from.ensures at c.quorum.ensures) ∙ c.if-not-quorum.true)

pub returns : goal.returns
unfolding block_of
returns c =
    let a = c.args in
    let if1 = c.if-view-block in
    let higher = c.higher in let if2 = c.if-not-higher in
    chosen_here (settings_of a.settings) a.view (block_of a.block) (block_of a.best) if1.false (sym (simp c.from.ensures at c.quorum.ensures) ∙ c.if-not-quorum.false) (sym higher.ensures ∙ if2.false)
