-- What is made of settings, and what the paper answers to them. Assumes nothing.
use Prim.Native.Nat.{ℕ}
use mathlib.Core.Path.{◌≡◌, ap, ◌∙◌}
use Rattle.rules.specs.Sizes as sizes
use Rattle.rules.specs.Sizes.{good_settings}
use Rattle.settings.specs.declared.Settings.{Settings}
use Rattle.rules.specs.Refusals.{fresh_number}
use Rattle.laws.proofs.Tests.{by_bool}
use Rattle.settings.specs.Made.{size_from, made, answer_of, answered}
use Rattle.settings.specs.declared.Size.{Size}
use Rattle.std.specs.Prelude.{Option}

pub as_made : (n delay own : ℕ) (z : Size) {r : Option Settings} → r ≡ made n delay own z → (r ≡ made n delay own z) × (answer_of r ≡ answered n delay own z)
unfolding made answered fresh_number
as_made n delay own z e =
    let g : sizes.Settings = record { n = n; D = delay; own = own; size = size_from z } in
    (e, ap answer_of e ∙ by_bool (good_settings g) (λ q. rw (q, answered, fresh_number)) (λ q. rw (q, answered, fresh_number)))
