-- The station that a store's header holds, and the test of its clocks that the code makes. Assumes nothing.
use Rattle.std.specs.Prelude.{ℕ, Bool, true, []}
use Rattle.rules.specs.Lists.{within}
use Rattle.rules.specs.Words as words
use Rattle.settings.specs.Made.{size_from}
use Rattle.store.specs.Decode.{state_from}
use Rattle.store.specs.Meaning.{header_of}
use Rattle.store.specs.declared.Station.{Station}

-- a station without its tables
abbrev pub alone : Station → words.State
alone s = state_from (size_from s.settings.size) (header_of s) [] [] [] []

-- a quit, if waiting, is from the entry to the clock
unfoldable pub phase_in_order : ℕ → ℕ → words.Phase → Bool
unfolding within
phase_in_order entry clock p = elim p [ words.in_view ↦ true | words.waiting q ↦ within entry clock q | words.stopped c ↦ true ]
