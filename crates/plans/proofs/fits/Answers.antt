-- `plans::fits` meets its contract. Assumes nothing.
use mathlib.Core.Path.{◌≡◌, refl, sym, ap}
use mathlib.Core.Bool.{true}
use Rattle.plans.specs.declared.Plan.{Plan}
use Rattle.plans.specs.declared.Plan.TheVariants.{Repeat, New, Full}
use Rattle.plans.specs.Plans.{fits}
use Rattle.plans.proofs.fits.Goals.{in-Full, in_default}
use Rattle.plans.proofs.fits.Goals as goal

not_full : (p : Plan) → (p ≡ Full → ⊥) → true ≡ fits p
unfolding fits
not_full Repeat n = refl
not_full (New p q) n = refl
not_full Full n = absurd (n refl)

pub returns : goal.returns
unfolding fits
returns c =
    elim c.match-matches.branch [
      | in-Full w ↦ rw w.matches-is (sym (ap fits w.in-Full.is))
      | in_default w ↦ rw w.matches-is (not_full c.args.plan w.in_default.not-Full)
    ]
