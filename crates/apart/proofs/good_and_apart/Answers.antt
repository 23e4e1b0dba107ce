-- Answers to the goals of `apart::good_and_apart`. Assumes nothing.
use Prim.Native.Nat.{◌-◌, ◌+◌}
use mathlib.Core.Path.{◌≡◌, sym, ap, ap₂, ◌∙◌}
use mathlib.Core.Bool.{◌&&◌, and-false}
use native.Mathlib.Omega.{arith}
use Rattle.rules.specs.Lists.{all, distinct}
use Rattle.rules.specs.WellFormed.{tally_good, same_tally}
use Rattle.laws.proofs.Tests.{no_bool}
use Rattle.settings.specs.Made.{settings_of}
use Rattle.store.specs.Decode.{tally_at, tallies}
use Rattle.form.proofs.Walks.{distinct_end, distinct_next}
use Rattle.chains.proofs.Walks.{chained_none}
use Rattle.chains.proofs.Apart.{distinct_not, distinct_whole}
use Rattle.apart.proofs.good_and_apart.Goals as goal

pub returns-then-not-all_good : goal.returns-then-not-all_good
returns-then-not-all_good c =
    let store = c.args.store.now in
    record {
      is = sym (ap (◌&& distinct same_tally (tallies store)) (sym c.all_good.ensures ∙ c.if-not-all_good.true));
      hang = λ e. no_bool (sym e);
    }

pub loop-i-init : goal.loop-i-init
loop-i-init c =
    (omega arith, chained_none _ _ _ _ c.requires.2, distinct_end (tally_at _) _ same_tally _ (omega arith))

pub repeated-requires : goal.repeated-requires
repeated-requires c =
    let loop = c.loop-i in
    let more = c.loop-i-test.true in
    let e : loop.i - 1 + 1 ≡ loop.i = omega (arith, more) in
    (c.requires.0, omega (arith, loop.invariant.0, more), rw e loop.invariant.1)

pub returns-then-repeated : goal.returns-then-repeated
unfolding tallies
returns-then-repeated c =
    let loop = c.loop-i in
    let loop-test = c.loop-i-test in
    let good = all (tally_good (settings_of c.args.settings) c.args.clock) (tallies c.args.store.now) in
    let twice = distinct_not (tally_at c.args.store.now) same_tally (loop.i - 1) _ _ c.requires.0.is (omega (arith, loop.invariant.0, loop-test.true)) (sym c.repeated.ensures.is ∙ c.if-repeated.true) in
    record { is = sym (ap (good &&◌) twice ∙ and-false good); hang = λ e. no_bool (sym e) }

pub loop-i-preserved : goal.loop-i-preserved
loop-i-preserved c =
    let store = c.args.store.now in
    let loop = c.loop-i in
    let more = c.loop-i-test.true in
    let e : loop.i - 1 + 1 ≡ loop.i = omega (arith, more) in (
      omega (arith, loop.invariant.0),
      c.repeated.ensures.hangs c.if-repeated.false,
      distinct_next (tally_at store) _ same_tally (loop.i - 1) (omega (arith, loop.invariant.0, more)) (sym c.repeated.ensures.is ∙ c.if-repeated.false) ∙ rw e loop.invariant.2,
    )

pub returns : goal.returns
unfolding tallies
returns c =
    let loop = c.loop-i in
    let e : loop.i ≡ 0 = omega (arith, c.loop-i-test.false) in
    record {
      is = sym (ap₂ ◌&&◌ (sym c.all_good.ensures ∙ c.if-not-all_good.false) (distinct_whole (tally_at c.args.store.now) same_tally _ _ _ c.requires.0.is c.loop-i-test.false loop.invariant.2));
      hang = λ t. rw e at loop.invariant.1;
    }
