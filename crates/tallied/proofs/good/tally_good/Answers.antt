-- `tallied::good::tally_good` meets its contract. Assumes nothing.
use Rattle.tallied.proofs.Parts.{bad_view, bad_block, bad_mask, bad_opener, as_since}
use Rattle.rules.specs.Messages.{view_allowed, block_allowed}
use Rattle.rules.specs.Sizes.{only}
use native.Mathlib.Omega.{arith}
use borrow.Author.Tests.{lt-ltb, le-ltb}
use Prim.Native.Nat.{ℕ, ◌+◌, ◌^◌}
use Rattle.fields.specs.Places.{number}
use mathlib.Core.Path.{sym, ap, ◌∙◌}
use Rattle.tallied.proofs.good.tally_good.Goals as goal

pub returns-then-not-view_allowed : goal.returns-then-not-view_allowed
returns-then-not-view_allowed c =
    let a = c.args in
    bad_view a.settings a.clock a.store.now c.type_inv.store a.i _ c.tally_place-at.ensures.0
    (ap (view_allowed _) (sym c.get.ensures.0) ∙ sym c.view_allowed.ensures ∙ c.if-not-view_allowed.true)

pub returns-then-not-block_good : goal.returns-then-not-block_good
returns-then-not-block_good c =
    let a = c.args in
    let place = c.tally_place-at.result in
    bad_block a.settings a.clock a.store.now c.type_inv.store a.i _ c.tally_place-at.ensures.0
    (ap (λ (h : ℕ). block_allowed h (number a.store.now (place + 8) 32)) (sym c.get-2.ensures.0) ∙ sym c.block_good.ensures ∙ c.if-not-block_good.true)

pub returns-then-only-from : goal.returns-then-only-from
unfolding only
returns-then-only-from c =
    let a = c.args in
    let tally-place = c.tally_place-at in
    let place = tally-place.result in
    bad_mask a.settings a.clock a.store.now c.type_inv.store a.i _ tally-place.ensures.0
    (le-ltb (number a.store.now (place + 40) 2) (2 ^ a.settings.n) (omega (arith, c.if-only-from.true, c.only.ensures, c.from.ensures, c.get-mask.ensures.0)))

pub returns-then-not-opener_good : goal.returns-then-not-opener_good
returns-then-not-opener_good c =
    let a = c.args in
    let tally-place = c.tally_place-at in
    let get3 = c.get-mask in
    bad_opener a.settings a.clock a.store.now c.type_inv.store a.i _ tally-place.ensures.0
    (rw (← get3.ensures.0, ← c.opener_at.ensures) (sym c.opener_good.ensures ∙ c.if-not-opener_good.true))

pub returns : goal.returns
unfolding only
returns c =
    let a = c.args in
    let tally-place = c.tally_place-at in
    let get = c.get in
    let view-allowed = c.view_allowed in
    let if1 = c.if-not-view_allowed in
    let get2 = c.get-2 in
    let block-good = c.block_good in
    let if2 = c.if-not-block_good in let get3 = c.get-mask in
    let only = c.only in let if3 = c.if-only-from in
    let opener-at = c.opener_at in let opener-good = c.opener_good in
    let place = tally-place.result in
    c.reached_good.ensures ∙ rw (get3.ensures.0, c.reached_at.ensures)
    (as_since a.settings a.clock a.store.now c.type_inv.store a.i _ tally-place.ensures.0
    (ap (view_allowed _) (sym get.ensures.0) ∙ sym view-allowed.ensures ∙ if1.false)
    (ap (λ (h : ℕ). block_allowed h (number a.store.now (place + 8) 32)) (sym get2.ensures.0) ∙ sym block-good.ensures ∙ if2.false)
    (lt-ltb (number a.store.now (place + 40) 2) (2 ^ a.settings.n) (omega (arith, if3.false, only.ensures, c.from.ensures, get3.ensures.0)))
    (rw (← get3.ensures.0, ← opener-at.ensures) (sym opener-good.ensures ∙ c.if-not-opener_good.false)))
