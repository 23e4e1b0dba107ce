-- 02: a kind of group and its number of stations, for calls that are given no store. Assumes nothing.
use Rattle.std.specs.Prelude.{ℕ, true, false, eqb}
use Rattle.std.proofs.Math.Option.{Option, none, some}
use Rattle.rules.specs.Limits.{Size, small, large, least_delay}
use Rattle.rules.specs.Sizes.{Settings, good_settings}

-- a kind of group: 0 goes by the small limits, 4 by the large ones, no other is good
unfoldable pub size_of_kind : ℕ → Option Size
size_of_kind k = elim (eqb k 0) [ true ↦ some small | false ↦ elim (eqb k 4) [ true ↦ some large | false ↦ none ] ]

-- a group of n stations; no message is held against the delay or the own number
abbrev pub stations : ℕ → Size → Settings
stations n z = record { n = n; D = least_delay; own = 0; size = z }

unfoldable pub group : ℕ → ℕ → Option Settings
unfolding size_of_kind good_settings
group k n =
    elim (size_of_kind k) [ none ↦ none | some z ↦ elim (good_settings (stations n z)) [ true ↦ some (stations n z) | false ↦ none ] ]
