-- `commit::commits` meets its contract. Assumes nothing.
use Rattle.glance.proofs.Seeing.{begun, delay_is, delay_short}
use Rattle.commit.proofs.Ticks.{tick_in, tick_out, gained_none, gained}
use Rattle.store.proofs.Loaded.{loaded_phase, loaded_view, loaded_clock, loaded_logged}
use Rattle.store.proofs.Forms.{form_log}
use Rattle.store.specs.Meaning.{course_of}
use Rattle.store.specs.declared.Phase.TheVariants.{InView, Waiting, Stopped}
use Rattle.store.specs.declared.Phase.{Phase}
use Rattle.store.specs.contracts.Phase.{the_type}
use Rattle.rules.specs.Words.{in_view}
use denote.Enum.Declared.{tag_of}
use types.Run.{OneOf, miss}
use borrow.Enum.Refused.{opened}
use native.Mathlib.Omega.{arith}
use mathlib.Core.List.{[], ◌∷◌}
use mathlib.Core.Path.{◌≡◌, refl, sym, ap, ◌∙◌}
use Prim.Native.Nat.{ℕ, ◌+◌}
use Rattle.commit.proofs.commits.Goals as goal

-- any other phase is no view
outside : (p : Phase) → OneOf (1 ∷ 2 ∷ []) (tag_of the_type p) → course_of p ≡ in_view → ⊥
outside InView k e = miss (1 ∷ 2 ∷ []) 0 tt k
outside (Waiting q) k e = let z : ◌≡◌ {A = ℕ} 0 1 = cc in omega arith
outside (Stopped w) k e = let z : ◌≡◌ {A = ℕ} 0 1 = cc in omega arith

pub returns-in_default : goal.returns-in_default
returns-in_default c =
    let header = c.requires.2 in
    gained_none _ _ _ (loaded_logged _ _ header) (form_log _ c.requires.0).1
    (tick_out _ (λ e. outside c.args.station.phase (opened c.in_default.in_default-own.keys2) (loaded_phase _ _ header ∙ e)))

pub overflow_mul-wait : goal.overflow_mul-wait
overflow_mul-wait c =
    omega (arith, delay_short _ _ c.requires.2 c.requires.0.bytes)

pub commit_due-requires : goal.commit_due-requires
commit_due-requires c =
    let pre = c.requires in
    (begun _ _ _ pre.2 pre.0 pre.1 pre.3, loaded_logged _ _ pre.2, rw c.from-clock.ensures pre.4, pre.5, refl)

pub returns : goal.returns
returns c =
    let header = c.requires.2 in
    let in-view = sym (loaded_phase _ _ header) ∙ ap course_of c.in-InView.is in
    let later = ap (λ (k : ℕ). k + 1) (c.from-clock.ensures ∙ loaded_clock _ _ header) in
    gained _ _ (tick_in _ in-view _ _ _ (loaded_view _ _ header) (delay_is _ _ header) later) _ c.commit_due.result c.commit_due.ensures
