-- Answers to the goals of `lookup::ahead`. Assumes nothing.
use Prim.Native.Nat.{ℕ, ◌+◌, ◌-◌}
use mathlib.Core.Path.{◌≡◌, sym, ap, ap₂, ◌∙◌}
use native.Mathlib.Omega.{arith}
use Rattle.lookup.specs.Search.{seek, has_mark}
use Rattle.lookup.proofs.Seeks.{record_within, places_few, seek_end, seek_here, seek_next}
use Rattle.lookup.proofs.ahead.Goals as goal

pub loop-i-init : goal.loop-i-init
loop-i-init c =
    let from = c.args.from in
    let d : 16 ≡ from + 16 - from = omega arith in
    ap (seek _ from) d

pub overflow_add-i-end : goal.overflow_add-i-end
overflow_add-i-end c = omega (arith, places_few _ _ (c.args.from + 16) _ c.requires.0 c.requires.1)

pub overflow_mul-size : goal.overflow_mul-size
overflow_mul-size c =
    omega (arith, record_within c.args.base c.args.size c.loop-i.i (c.args.from + 16) _ (omega arith) c.requires.1)

pub overflow_add-base : goal.overflow_add-base
overflow_add-base c =
    omega (arith, record_within c.args.base c.args.size c.loop-i.i (c.args.from + 16) _ (omega arith) c.requires.1)

pub overflow_add-base-in-loop-i : goal.overflow_add-base-in-loop-i
overflow_add-base-in-loop-i c =
    omega (arith, c.requires.0, record_within c.args.base c.args.size c.loop-i.i (c.args.from + 16) _ (omega arith) c.requires.1)

pub is_word-requires : goal.is_word-requires
is_word-requires c =
    omega (arith, c.requires.0, record_within c.args.base c.args.size c.loop-i.i (c.args.from + 16) _ (omega arith) c.requires.1)

pub overflow_add-result : goal.overflow_add-result
overflow_add-result c =
    omega (arith, places_few _ _ (c.args.from + 16) _ c.requires.0 c.requires.1)

pub returns-then-is_word : goal.returns-then-is_word
returns-then-is_word c =
    let l = c.loop-i in
    sym (l.invariant ∙ seek_here _ _ _ (omega arith) (sym c.is_word.ensures ∙ c.if-is_word.true))

pub loop-i-preserved : goal.loop-i-preserved
loop-i-preserved c =
    let l = c.loop-i in
    l.invariant ∙ seek_next _ _ _ (omega arith) (sym c.is_word.ensures ∙ c.if-is_word.false)

pub returns : goal.returns
returns c =
    let l = c.loop-i in
    let e : c.args.from + 16 ≡ l.i = omega arith in
    e ∙ sym (l.invariant ∙ seek_end _ l.i _ (omega arith))
