-- Answers to the goals of `blames::all_good`. Assumes nothing.
use mathlib.Core.Path.{sym, ap, ◌∙◌}
use native.Mathlib.Omega.{arith}
use Rattle.rules.specs.WellFormed.{is_mask}
use Rattle.rules.specs.Limits.{last_view}
use Rattle.rules.specs.Lists.{all}
use Rattle.settings.specs.Made.{settings_of}
use Rattle.store.specs.Decode.{blame_at}
use Rattle.blames.proofs.Laws.{blames_are}
use Rattle.form.proofs.Walks.{rows_whole, all_end, all_here, all_next}
use Rattle.blames.proofs.all_good.Goals as goal

pub loop-i-init : goal.loop-i-init
loop-i-init c =
    let same = c.requires.1 in
    blames_are _ _ same ∙ ap (all _) (rows_whole (blame_at _) _ _ (c.last_view-last.ensures ∙ ap last_view same))

pub blame_at-mask-requires : goal.blame_at-mask-requires
blame_at-mask-requires c =
    let pre = c.requires in
    (pre.0, omega (arith, c.last_view-last.ensures ∙ ap last_view pre.1, c.loop-i-test.true))

pub returns-then-not-mask_within : goal.returns-then-not-mask_within
unfolding is_mask
returns-then-not-mask_within c =
    let args = c.args in let loop = c.loop-i in
    let loop-test = c.loop-i-test in
    let g = settings_of args.settings in
    sym (loop.invariant ∙ all_here (blame_at _) _ (is_mask g) _ loop-test.true (ap (is_mask g) (sym c.blame_at-mask.ensures) ∙ sym c.mask_within.ensures ∙ c.if-not-mask_within.true))

pub loop-i-preserved : goal.loop-i-preserved
unfolding is_mask
loop-i-preserved c =
    let args = c.args in let loop = c.loop-i in
    let loop-test = c.loop-i-test in
    let g = settings_of args.settings in
    loop.invariant ∙ all_next (blame_at _) _ (is_mask g) _ loop-test.true (ap (is_mask g) (sym c.blame_at-mask.ensures) ∙ sym c.mask_within.ensures ∙ c.if-not-mask_within.false)

pub returns : goal.returns
returns c =
    sym (c.loop-i.invariant ∙ all_end (blame_at _) _ (is_mask _) _ c.loop-i-test.false)
