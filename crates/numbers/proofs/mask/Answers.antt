-- Answers to the goals of `numbers::mask`. Assumes nothing.
use Rattle.numbers.proofs.Digits.{mask_dash, mask_split, mask_none, mask_last, mask_next, decimal_most}
use Rattle.text.specs.Words.{in_station, stations, split}
use Rattle.rules.specs.Sizes.{joined as union}
use Prim.Native.Nat.{ℕ, ◌+◌}
use mathlib.Core.Path.{sym, ap, ◌∙◌}
use mathlib.Core.Option.{some}
use native.Mathlib.Omega.{arith}
use lib.ListN.{drop}
use borrow.Author.Rules.{rules}
use Rattle.numbers.proofs.mask.Goals as goal

pub returns-then-is_dash : goal.returns-then-is_dash
returns-then-is_dash c = sym (mask_dash _ (sym c.is_dash.ensures ∙ c.if-is_dash.true))

pub loop-station-init : goal.loop-station-init
loop-station-init c = (omega arith, mask_split _ (sym c.is_dash.ensures ∙ c.if-is_dash.false))

pub returns-in_err-station : goal.returns-in_err-station
unfolding in_station
returns-in_err-station c =
    rw c.from_residual.ensures (sym (c.loop-station.invariant.1 ∙ mask_none _ _ _ _ (c.run-end.ensures.runs in_station (λ b r h e. search rules)) (sym c.in_err-station.ensures)))

pub only-joined-requires : goal.only-joined-requires
only-joined-requires c =
    omega (arith, decimal_most 15 _ _ (sym c.in_ok-station.ensures))

pub returns-then-end-word : goal.returns-then-end-word
unfolding union in_station
returns-then-end-word c =
    let at = c.loop-station in
    let run = c.run-end.ensures.runs in_station (λ b r h e. search rules) in
    sym (at.invariant.1 ∙ mask_last _ _ _ _ run _ c.if-end-word.true (sym c.in_ok-station.ensures) ∙ ap (λ (x : ℕ). some (union at.joined x)) (sym c.only-joined.ensures))

pub loop-station-preserved : goal.loop-station-preserved
unfolding union in_station
loop-station-preserved c =
    let args = c.args in
    let at = c.loop-station in
    let run = c.run-end.ensures.runs in_station (λ b r h e. search rules) in
    let w = args.word.now in
    let end = c.run-end.result in
    (search rules, at.invariant.1 ∙ mask_next _ _ _ _ run _ c.if-end-word.false (sym c.in_ok-station.ensures) ∙ ap (λ (x : ℕ). stations (union at.joined x) (split (drop (end + 1) w))) (sym c.only-joined.ensures))
