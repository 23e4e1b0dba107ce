-- What the code's phase and station mean in the words of the rules, and in the numbers of the store's header. Assumes nothing.
use Rattle.std.specs.Prelude.{◌≡◌, ℕ, List, [], ◌∷◌}
use Rattle.fields.specs.Names.{name_of}
use Rattle.rules.specs.Words as words
use Rattle.fields.specs.Records.{fields}
use Rattle.settings.specs.Made.{size_from}
use Rattle.store.specs.Layout.{header_format, size_in}
use Rattle.store.specs.Decode.{phase_number}
use Rattle.store.specs.declared.Cause.{Cause}
use Rattle.store.specs.declared.Cause.TheVariants.{Full, Split, Clock}
use Rattle.store.specs.declared.Phase.{Phase}
use Rattle.store.specs.declared.Phase.TheVariants.{InView, Waiting, Stopped}
use Rattle.store.specs.declared.Station.{Station}

-- why a station stopped
abbrev pub cause_of : Cause → words.Cause
cause_of Full = words.full
cause_of Split = words.split
cause_of Clock = words.clock

-- where a station is in its course
abbrev pub course_of : Phase → words.Phase
course_of InView = words.in_view
course_of (Waiting q) = words.waiting q
course_of (Stopped c) = words.stopped (cause_of c)

-- the numbers of a station, as the header has them
unfoldable pub header_of : Station → List ℕ
unfolding name_of
header_of s =
    phase_number (course_of s.phase) ∷ s.settings.n ∷ s.settings.delay ∷ s.settings.own ∷ s.view ∷ s.entry ∷ s.clock
    ∷ s.lock.view ∷ s.lock.height ∷ name_of s.lock.name ∷ s.lock.mask
    ∷ s.statements ∷ s.tallies ∷ s.logged ∷ []

-- a station is what stands in a store's header, with the limits of the store's length
pub record Loads (s : Station) (b : List ℕ) : Type 0 where
  pub header : header_of s ≡ fields b 0 header_format
  pub size : size_from s.settings.size ≡ size_in b
