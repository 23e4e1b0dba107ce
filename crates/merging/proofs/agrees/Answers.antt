-- Answers to the goals of `merging::agrees`. Assumes nothing.
use Rattle.store.proofs.Forms.{form_long, form_statements, form_log}
use Rattle.merging.proofs.Places.{so_far_old}
use borrow.Author.Count.{below_more}
use borrow.Author.Tests.{eqb-true, eqb-false, not-true, not-false}
use mathlib.Core.Path.{◌∙◌, sym}
use native.Mathlib.Omega.{arith}
use Prim.Native.Nat.{◌<◌}
use Rattle.merging.proofs.agrees.Goals as goal

pub loop-k-init : goal.loop-k-init
loop-k-init c =
    let known = c.requires.1 in
    λ j l m. known.names j l ∙ sym (so_far_old _ _ j (omega (arith, known.logged)))

pub name_in-own-requires : goal.name_in-own-requires
name_in-own-requires c =
    let r = c.requires.0 in
    let low : c.loop-k.k < c.args.height = omega (arith, c.requires.3, c.loop-k-test.true) in
    (form_long _ r.form, omega (arith, r.high, r.whole), omega (arith, r.blocks c.loop-k.k (omega arith) low, form_statements _ r.form))

pub name_so_far-old-requires : goal.name_so_far-old-requires
name_so_far-old-requires c =
    let r = c.requires.0 in
    let low : c.loop-k.k < c.args.len = omega (arith, c.requires.2, c.loop-k-test.true) in
    (form_long _ r.form, r.old, omega (arith, r.old, form_log _ r.form), omega (arith, r.fits, r.long), λ l. omega (arith, r.gains c.loop-k.k l low, form_statements _ r.form))

pub loop-k-preserved : goal.loop-k-preserved
loop-k-preserved c =
    let alike = eqb-true _ _ (not-false _ (sym c.ne.ensures ∙ c.if-ne.false)) in
    below_more _ c.loop-k.k c.loop-k.invariant (λ m. sym c.name_in-own.ensures ∙ alike ∙ c.name_so_far-old.ensures)

pub returns : goal.returns
returns c =
    λ k l. c.loop-k.invariant k (omega (arith, l, c.loop-k-test.false)) l

pub returns-then-ne : goal.returns-then-ne
returns-then-ne c =
    let differ = eqb-false _ _ (not-true _ (sym c.ne.ensures ∙ c.if-ne.true)) in
    (c.loop-k.k, omega arith, λ e. differ (c.name_in-own.ensures ∙ e ∙ sym c.name_so_far-old.ensures))
