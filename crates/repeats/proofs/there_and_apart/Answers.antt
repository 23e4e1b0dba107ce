-- Answers to the goals of `repeats::there_and_apart`. Assumes nothing.
use Rattle.repeats.proofs.Hanging.{keyed_stirs}
use Rattle.backed.proofs.Keys.{found_block}
use Rattle.chains.proofs.Apart.{whole_rows, all_not, distinct_not}
use Rattle.chains.proofs.Walks.{chained_none}
use Rattle.chains.specs.Chains.{chain_of, stir}
use Rattle.form.proofs.Walks.{all_end, all_next, distinct_end, distinct_next}
use Rattle.store.specs.Decode.{statement_at, statements, tallies}
use Rattle.rules.specs.WellFormed.{tallies_there}
use Rattle.rules.specs.Words.{same_statement}
use Rattle.rules.specs.Lists.{all, distinct}
use native.Mathlib.Omega.{arith}
use mathlib.Core.Bool.{Bool, ◌&&◌, and-false}
use mathlib.Core.Path.{◌≡◌, sym, ap, ap₂, ◌∙◌}
use Prim.Native.Nat.{◌-◌, ◌+◌, ◌<◌, ◌≤◌}
use Rattle.repeats.proofs.there_and_apart.Goals as goal

pub returns-then-stored-eq0 : goal.returns-then-stored-eq0
unfolding statements
returns-then-stored-eq0 c =
    let store = c.args.store.now in
    let none : c.args.stored ≤ 0 = omega (arith, c.if-stored-eq0.true) in
    let whole = whole_rows (statement_at store) 0 _ _ c.requires.2.is (omega arith) in
    sym (ap₂ ◌&&◌ (ap (all (tallies_there (tallies store))) whole ∙ all_end (statement_at store) _ (tallies_there (tallies store)) 0 none) (ap (distinct same_statement) whole ∙ distinct_end (statement_at store) _ same_statement 0 none))

pub loop-i-init : goal.loop-i-init
loop-i-init c = (
  omega arith,
  chained_none _ _ _ _ c.new-hung.ensures,
  distinct_end (statement_at _) _ same_statement _ (omega arith),
  all_end (statement_at _) _ _ _ (omega arith),
  record { fits = omega (arith, c.requires.0.long); mixes = λ l. absurd (omega (arith, l)); has = λ l. absurd (omega (arith, l)) },
)

pub certified_block-block-requires : goal.certified_block-block-requires
certified_block-block-requires c =
    let loop = c.loop-i in
    let more = c.loop-i-test.true in
    (c.requires.2.long, omega (arith, c.requires.2.room, loop.invariant.0, more), c.requires.3 _ (omega (arith, loop.invariant.0, more)))

pub own_block-own-requires : goal.own_block-own-requires
own_block-own-requires c =
    let loop = c.loop-i in
    let more = c.loop-i-test.true in
    (c.requires.2.long, omega (arith, c.requires.2.room, loop.invariant.0, more), c.requires.3 _ (omega (arith, loop.invariant.0, more)), c.certified_block-block.ensures.keyed.key_is, loop.invariant.4)

pub there-requires : goal.there-requires
there-requires c =
    let loop = c.loop-i in
    let more = c.loop-i-test.true in
    (c.requires.0, c.requires.1, omega (arith, c.requires.2.room, loop.invariant.0, more), c.own_block-own.ensures, c.certified_block-block.ensures)

pub returns-then-not-there : goal.returns-then-not-there
unfolding statements
returns-then-not-there c =
    let loop = c.loop-i in
    let loop-test = c.loop-i-test in
    let more = loop-test.true in
    let store = c.args.store.now in
    ap (λ (x : Bool). x && distinct same_statement (statements store)) (sym (all_not (statement_at store) (tallies_there (tallies store)) (loop.i - 1) _ _ c.requires.2.is (omega (arith, loop.invariant.0, more)) (sym c.there.ensures ∙ c.if-not-there.true)))

pub repeated-requires : goal.repeated-requires
repeated-requires c =
    let loop = c.loop-i in
    let loop-test = c.loop-i-test in
    let block = c.certified_block-block in
    let own = c.own_block-own in
    let stirred = c.stirred in let chain-of = c.chain_of-chain in
    let more = loop-test.true in
    let bytes = c.type_inv.store in
    let store = c.args.store.now in
    let chain = chain-of.ensures.0 ∙ ap chain_of (stirred.ensures ∙ ap₂ stir (own.ensures.mixes ∙ keyed_stirs store bytes c.args.salt _ _ _ own.ensures.keyed) (block.ensures.mixes ∙ keyed_stirs store bytes c.args.salt _ _ _ block.ensures.keyed)) in
    let e : loop.i - 1 + 1 ≡ loop.i = omega (arith, more) in
    (c.requires.2, omega (arith, loop.invariant.0, more), rw e loop.invariant.1, chain, chain-of.ensures.1)

pub returns-then-repeated : goal.returns-then-repeated
unfolding statements
returns-then-repeated c =
    let loop = c.loop-i in
    let more = c.loop-i-test.true in
    let store = c.args.store.now in
    let there = all (tallies_there (tallies store)) (statements store) in
    sym (ap (λ (x : Bool). there && x) (distinct_not (statement_at store) same_statement (loop.i - 1) _ _ c.requires.2.is (omega (arith, loop.invariant.0, more)) (sym c.repeated.ensures.is ∙ c.if-repeated.true)) ∙ and-false there)

pub loop-i-preserved : goal.loop-i-preserved
loop-i-preserved c =
    let loop = c.loop-i in
    let more = c.loop-i-test.true in
    let bytes = c.type_inv.store in
    let block = c.certified_block-block in
    let store = c.args.store.now in
    let e : loop.i - 1 + 1 ≡ loop.i = omega (arith, more) in
    let less : loop.i - 1 < c.args.stored = omega (arith, loop.invariant.0, more) in
    let there = sym c.there.ensures ∙ c.if-not-there.false in (
      omega (arith, loop.invariant.0),
      c.repeated.ensures.hangs c.if-repeated.false,
      distinct_next (statement_at store) _ same_statement (loop.i - 1) less (sym c.repeated.ensures.is ∙ c.if-repeated.false) ∙ rw e loop.invariant.2,
      all_next (statement_at store) _ (tallies_there (tallies store)) (loop.i - 1) less there ∙ rw e loop.invariant.3,
      found_block store bytes c.args.salt (loop.i - 1) _ _ _ block.ensures there,
    )

pub returns : goal.returns
unfolding statements
returns c =
    let loop = c.loop-i in
    let store = c.args.store.now in
    let whole = whole_rows (statement_at store) loop.i _ _ c.requires.2.is c.loop-i-test.false in
    sym (ap₂ ◌&&◌ (ap (all (tallies_there (tallies store))) whole ∙ loop.invariant.3) (ap (distinct same_statement) whole ∙ loop.invariant.2))
