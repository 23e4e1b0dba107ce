-- What the search for the propose of a logged name answers. Assumes nothing.
use Rattle.std.specs.Prelude.{ℕ, ◌-◌, ◌<◌, false, List, Option, None, Some}
use Rattle.linked.specs.Links.{Foremosts}
use Rattle.linked.specs.declared.Sought.{Sought}

-- its place, and whether it is also the first of the name with any parent; or that there is none
abbrev pub Answered : List ℕ → ℕ → ℕ → Option Sought → Type 0
Answered b k n None = Foremosts b k n 0 false
Answered b k n (Some s) = (s.place < n) × Foremosts b k n (n - s.place) s.foremost
