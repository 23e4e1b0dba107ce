-- `fresh` meets its contract: the length decides, then the settings; a cleared store with the fresh header is the bytes of the fresh state. Assumes nothing.
use mathlib.Core.Path.{sym, ◌∙◌}
use native.Mathlib.Omega.{arith}
use borrow.Author.Tests.{eqb-true, eqb-false}
use Rattle.fresh.proofs.Starts.{length_refused, settings_refused, made_good, made_bad, made_fresh, fresh_left}
use lib.ListN.{length}
use Rattle.store.specs.Layout.{store_length, size_in}
use Rattle.fresh.proofs.fresh.Goals as goal

pub returns-then-not-is_whole : goal.returns-then-not-is_whole
returns-then-not-is_whole c =
    rw c.answer.ensures (length_refused c.args.store.now c.args.n c.args.d c.args.own (eqb-false _ _ (sym c.is_whole.ensures ∙ c.if-not-is_whole.true)))

pub returns-in_default : goal.returns-in_default
returns-in_default c =
    let a = c.args in
    rw c.answer-in_default.ensures (settings_refused a.store.now a.n a.d a.own c.size_in-size.result c.size_in-size.ensures
    (eqb-true _ _ (sym c.is_whole.ensures ∙ c.if-not-is_whole.false))
    (made_bad a.store.now a.n a.d a.own c.size_in-size.result c.size_in-size.ensures (sym c.new.ensures.0 ∙ c.in_default.is)))

pub save-requires : goal.save-requires
save-requires c =
    let is_whole = c.is_whole in
    let if1 = c.if-not-is_whole in let clear = c.clear in
    let b = c.args.store.now in
    let l = eqb-true (length b) (store_length (size_in b)) (sym is_whole.ensures ∙ if1.false) in
    omega (arith, l, clear.auto.s)

pub returns : goal.returns
returns c =
    let slice-known = c.slice_known-1 in
    let is_whole = c.is_whole in
    let if1 = c.if-not-is_whole in
    let size = c.size_in-size in
    let made = c.new in
    let clear = c.clear in let starting = c.starting in
    let a = c.args in
    let y = size.result in
    let same = size.ensures in
    let b = c.args.store.now in
    let l = eqb-true (length b) (store_length (size_in b)) (sym is_whole.ensures ∙ if1.false) in
    let m = made_good a.store.now a.n a.d a.own y same _ (sym made.ensures.0 ∙ c.in-Some.is) in
    made_fresh a.store.now a.n a.d a.own y same l m.0
    (rw (c.save.ensures, starting.ensures, clear.ensures, l, m.1) (fresh_left a.store.now slice-known.given l _ m.0 same))
