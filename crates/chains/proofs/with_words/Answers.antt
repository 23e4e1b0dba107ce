-- Answers to the goals of `chains::with_words`. Assumes nothing.
use Rattle.std.proofs.Common.{◌≡◌, refl, ap, ◌∙◌, add-one, arith, lit≤}
use Rattle.chains.specs.Chains.{stir_words}
use Rattle.chains.proofs.with_words.Goals as goal

pub loop-k-init : goal.loop-k-init
unfolding stir_words
loop-k-init c = (omega arith, refl)

pub get-requires : goal.get-requires
get-requires c = (lit≤ tt, omega (arith, c.requires, c.loop-k-test.true))

pub loop-k-preserved : goal.loop-k-preserved
unfolding stir_words
loop-k-preserved c =
    let loop = c.loop-k in
    let more = c.loop-k-test.true in
    (omega arith, rw (add-one loop.k) (c.stirred-mixed.ensures ∙ rw (c.get.ensures.0, loop.invariant.1)))

pub returns : goal.returns
returns c =
    let a = c.args in
    let loop = c.loop-k in
    let e : loop.k ≡ a.words = omega (arith, loop.invariant.0, c.loop-k-test.false) in
    loop.invariant.1 ∙ ap (stir_words a.store.now a.mix a.at) e
