-- Answers to the goals of `display::show_all`. Assumes nothing.
use Prim.Native.Nat.{ℕ}
use mathlib.Core.Path.{◌≡◌, refl, ap, ◌∙◌}
use native.Mathlib.Omega.{arith}
use Rattle.rules.specs.Words.{in_view}
use Rattle.store.specs.Meaning.{course_of}
use Rattle.store.specs.Layout.{size_in}
use Rattle.store.specs.declared.Phase.{Phase}
use Rattle.store.specs.declared.Phase.TheVariants.{InView, Waiting, Stopped}
use Rattle.store.proofs.Forms.{form_long, form_statements}
use Rattle.store.proofs.Loaded.{loaded_phase, loaded_statements}
use Rattle.outgoing.proofs.Writing.{says_length}
use Rattle.display.proofs.Shown.{not_in_shows_none}
use Rattle.display.proofs.Bytes.{display_fits, says_nothing, far_none, far_more, far_all}
use Rattle.display.proofs.show_all.Goals as goal

-- any other phase is no view
outside : (p : Phase) → (p ≡ InView → ⊥) → course_of p ≡ in_view → ⊥
outside InView k e = k refl
outside (Waiting q) k e = let z : ◌≡◌ {A = ℕ} 0 1 = cc in omega arith
outside (Stopped w) k e = let z : ◌≡◌ {A = ℕ} 0 1 = cc in omega arith

pub load-station-requires : goal.load-station-requires
load-station-requires c =
    omega (arith, form_long _ c.requires.0)

pub returns-in_default : goal.returns-in_default
returns-in_default c =
    let load = c.load-station in
    says_nothing _ _ _ (not_in_shows_none _ (λ e. outside load.result.phase c.in_default.not-InView (loaded_phase _ _ load.ensures ∙ e)))

pub loop-i-init : goal.loop-i-init
loop-i-init c =
    (omega arith, far_none _ _)

pub show_one-next-requires : goal.show_one-next-requires
show_one-next-requires c =
    let args = c.args in let pre = c.requires in
    let load = c.load-station in
    let loop = c.loop-i in
    let inv = loop.invariant in
    let i = c.loop-i-test.true in
    (pre.0, load.ensures, ap course_of c.in-InView.is, omega (arith, i, loaded_statements _ _ load.ensures), omega (arith, pre.1, inv.1.few, i, loaded_statements _ _ load.ensures, form_statements _ pre.0, display_fits (size_in args.store.now), says_length inv.1.says))

pub loop-i-preserved : goal.loop-i-preserved
loop-i-preserved c =
    (omega (arith, c.loop-i-test.true), far_more c.loop-i.invariant.1 c.show_one-next.ensures)

pub shape_of-out : goal.shape_of-out
shape_of-out c =
    says_length c.loop-i.invariant.1.says

pub returns : goal.returns
returns c =
    let inv = c.loop-i.invariant in
    far_all inv.1 (omega (arith, inv.0, c.loop-i-test.false, loaded_statements _ _ c.load-station.ensures))
