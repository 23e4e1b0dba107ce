-- Answers to the goals of `hex_words::write_bytes`. Assumes nothing.
use Rattle.hex_words.proofs.Hex.{pairs_step, pairs_end, wrote_further}
use Prim.Native.Nat.{ℕ, ◌+◌, ◌*◌}
use mathlib.Core.Path.{refl, sym, ap, ap₂, ◌∙◌}
use mathlib.Core.List.{◌∷◌}
use native.Mathlib.Omega.{arith}
use native.Mathlib.Nat.{add-zero}
use lib.ListN.{drop, length-set}
use Rattle.outgoing.specs.Wrote.{wrote}
use Rattle.text.specs.Words.{pairs}
use Rattle.hex_words.proofs.write_bytes.Goals as goal

pub loop-i-init : goal.loop-i-init
loop-i-init c =
    let a = c.args in (refl, ap (λ (k : ℕ). wrote a.bytes.now k (pairs a.word.now)) (sym (add-zero a.at)))

pub loop-i-preserved : goal.loop-i-preserved
loop-i-preserved c =
    let at = c.loop-i in
    let a = c.args in
    let w = a.word.now in
    (simp length-set at.invariant.0, at.invariant.1 ∙ ap (wrote at.bytes (a.at + at.i)) (pairs_step w at.i (omega arith) ∙ ap (◌∷ pairs (drop (2 * (at.i + 1)) w)) (ap₂ (λ (x y : ℕ). x * 16 + y) (sym c.digit-high.ensures.0) (sym c.digit-low.ensures.0))) ∙ wrote_further at.bytes a.at at.i _ _)

pub shape_of-bytes : goal.shape_of-bytes
shape_of-bytes c = c.loop-i.invariant.0

pub returns : goal.returns
unfolding wrote
returns c =
    let at = c.loop-i in
    sym (at.invariant.1 ∙ ap (wrote at.bytes (c.args.at + at.i)) (pairs_end c.args.word.now at.i (omega arith)))
