-- Answers to the goals of `lookup::marked`. Assumes nothing.
use Prim.Native.Nat.{◌+◌, ◌-◌}
use mathlib.Core.Path.{◌≡◌, refl, sym, ap, ◌∙◌}
use native.Mathlib.Omega.{arith}
use Rattle.lookup.specs.Search.{seek, has_mark}
use Rattle.lookup.proofs.Seeks.{record_within, turn_within, seek_end, seek_here, seek_next, seek_stops, seek_passes}
use Rattle.lookup.proofs.marked.Goals as goal

pub loop-i-init : goal.loop-i-init
loop-i-init c = refl

pub overflow_sub-end : goal.overflow_sub-end
overflow_sub-end c = omega arith

pub ahead-next-requires : goal.ahead-next-requires
ahead-next-requires c =
    (c.requires.0, turn_within _ _ c.loop-i.i 16 c.args.end _ (omega arith) c.requires.1)

pub overflow_add-i : goal.overflow_add-i
overflow_add-i c = omega arith

pub returns-then-next-i : goal.returns-then-next-i
returns-then-next-i c =
    let l = c.loop-i in
    c.ahead-next.ensures ∙ sym (l.invariant ∙ seek_stops _ l.i 16 _ (omega arith) (rw (← c.ahead-next.ensures) c.if-next-i.true))

pub overflow_add-i-then-end-i-ge-TURN : goal.overflow_add-i-then-end-i-ge-TURN
overflow_add-i-then-end-i-ge-TURN c = omega arith

pub loop-i-smaller-then-end-i-ge-TURN : goal.loop-i-smaller-then-end-i-ge-TURN
loop-i-smaller-then-end-i-ge-TURN c = omega arith

pub loop-i-preserved-then-end-i-ge-TURN : goal.loop-i-preserved-then-end-i-ge-TURN
loop-i-preserved-then-end-i-ge-TURN c =
    let l = c.loop-i in
    let a = c.args in
    let e : a.end - l.i - 16 ≡ a.end - (l.i + 16) = omega arith in
    l.invariant ∙ seek_passes _ l.i 16 _ (omega arith) (rw (← c.ahead-next.ensures) c.if-next-i.false) ∙ ap (seek (has_mark a.s.now a.base a.size a.mark) (l.i + 16)) e

pub overflow_mul-size : goal.overflow_mul-size
overflow_mul-size c =
    omega (arith, record_within c.args.base c.args.size c.loop-i.i c.args.end _ (omega arith) c.requires.1)

pub overflow_add-base : goal.overflow_add-base
overflow_add-base c =
    omega (arith, record_within c.args.base c.args.size c.loop-i.i c.args.end _ (omega arith) c.requires.1)

pub overflow_add-base-in-loop-i : goal.overflow_add-base-in-loop-i
overflow_add-base-in-loop-i c =
    omega (arith, c.requires.0, record_within c.args.base c.args.size c.loop-i.i c.args.end _ (omega arith) c.requires.1)

pub is_word-requires : goal.is_word-requires
is_word-requires c =
    omega (arith, c.requires.0, record_within c.args.base c.args.size c.loop-i.i c.args.end _ (omega arith) c.requires.1)

pub returns-then-is_word : goal.returns-then-is_word
returns-then-is_word c =
    let l = c.loop-i in
    sym (l.invariant ∙ seek_here _ l.i _ (omega arith) (sym c.is_word.ensures ∙ c.if-is_word.true))

pub overflow_add-i-in-loop-i : goal.overflow_add-i-in-loop-i
overflow_add-i-in-loop-i c = omega arith

pub loop-i-smaller : goal.loop-i-smaller
loop-i-smaller c = omega arith

pub loop-i-preserved : goal.loop-i-preserved
loop-i-preserved c =
    let l = c.loop-i in
    l.invariant ∙ seek_next _ l.i _ (omega arith) (sym c.is_word.ensures ∙ c.if-is_word.false)

pub returns : goal.returns
returns c = sym (c.loop-i.invariant ∙ seek_end _ c.loop-i.i _ (omega arith))
