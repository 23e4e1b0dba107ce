-- The group of each kind. Assumes nothing.
use Prim.Native.Nat.{ℕ}
use mathlib.Core.Path.{◌≡◌}
use mathlib.Core.Option.{none}
use borrow.Author.Tests.{ne_eqb}
use Rattle.rules.specs.Limits.{small, large, least_delay}
use Rattle.rules.specs.Sizes.{good_settings}
use Rattle.settings.specs.declared.Settings.{Settings}
use Rattle.laws.proofs.Tests.{by_bool}
use Rattle.settings.specs.Made.{made_of, made}
use Rattle.settings.specs.declared.Size.TheVariants.{Small, Large}
use Rattle.std.specs.Prelude.{Option}
use Rattle.groups.specs.Groups.{size_of_kind, stations, group}

pub group_small : (n : ℕ) {r : Option Settings} → r ≡ made n least_delay 0 Small → made_of r ≡ group 0 n
unfolding group size_of_kind made
group_small n e = rw e (by_bool (good_settings (stations n small)) (λ q. rw (q, group)) (λ q. rw (q, group)))

pub group_large : (n : ℕ) {r : Option Settings} → r ≡ made n least_delay 0 Large → made_of r ≡ group 4 n
unfolding group size_of_kind made
group_large n e = rw e (by_bool (good_settings (stations n large)) (λ q. rw (q, group)) (λ q. rw (q, group)))

pub group_other : (k n : ℕ) → (k ≡ 0 → ⊥) → (k ≡ 4 → ⊥) → none ≡ group k n
unfolding group size_of_kind
group_other k n a b = rw (ne_eqb k 0 a, group, size_of_kind, ne_eqb k 4 b)
