-- What the table of tallies means in the words of the rules. Assumes nothing.
use Rattle.std.specs.Prelude.{ℕ, ◌+◌, ◌≡◌, true, false, ◌&&◌, List, ltb, Option, Some, None}
use Rattle.std.proofs.Math.Option.{none, some}
use Rattle.fields.specs.Names.{name_of}
use Rattle.rules.specs.Limits.{most_tallies_small}
use Rattle.rules.specs.Sizes.{Settings}
use Rattle.rules.specs.Words as words
use Rattle.settings.specs.Made.{settings_of}
use Rattle.plain_words.specs.Meaning.{noted_of}
use Rattle.plain_words.specs.Places.{firsts, Within}
use Rattle.plain_tallies.specs.declared.Moment.{Moment}
use Rattle.plain_tallies.specs.declared.Tally.{Tally}
use Rattle.plain_tallies.specs.declared.Tallies.{Tallies}

abbrev pub opener_of : Option ℕ → words.Opener
opener_of None = none
opener_of (Some a) = some a

-- what a joining is told
abbrev pub moment_of : Moment → words.Moment
moment_of k = record { settings = settings_of k.settings; clock = k.clock; opener = opener_of k.opener }

unfoldable pub tally_of : Tally → words.Tally
unfolding name_of
tally_of t = record { view = t.view; height = t.height; name = name_of t.name; mask = t.mask; opener = opener_of t.opener; reached = noted_of t.reached }

-- what stands in an item that was never written
abbrev pub blank : Tally
blank = record { view = 0; height = 0; name = record { first = 0; second = 0; third = 0; fourth = 0 }; mask = 0; opener = None; reached = None }

-- the first so many items of the array
unfoldable pub tallies : Tallies → List words.Tally
unfolding firsts tally_of
tallies t = firsts tally_of t.items t.count

-- three more than the limit
abbrev pub room : ℕ
room = most_tallies_small + 3

-- a table that holds these, in the room that it has
pub record Holds (t : Tallies) (xs : List words.Tally) : Type 0 where
  pub within : Within room t.items t.count
  pub is : tallies t ≡ xs

-- the step of `highest`: a tally, and the highest certificate of those behind it
unfoldable pub best_of : Settings → ℕ → words.Tally → words.Certificate → words.Certificate
best_of g v t best =
    elim (ltb t.view v && words.certified g t && words.higher (words.certificate_of t) best) [ true ↦ words.certificate_of t | false ↦ best ]
