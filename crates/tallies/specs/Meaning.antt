-- What the code's tally, the moment of a joining and who joins mean in the words of the rules. Assumes nothing.
use Rattle.std.specs.Prelude.{ℕ, ◌<◌}
use Rattle.std.proofs.Math.Option.{none, some}
use Rattle.fields.specs.Names.{name_of}
use Rattle.rules.specs.Limits.{mask_bits}
use Rattle.rules.specs.Sizes.{only}
use Rattle.rules.specs.Words as words
use Rattle.settings.specs.Made.{settings_of}
use Rattle.tallies.specs.Values.{told}
use Rattle.tallies.specs.declared.Tally.{Tally}
use Rattle.tallies.specs.declared.Moment.{Moment}
use Rattle.tallies.specs.declared.Voters.{Voters}
use Rattle.tallies.specs.declared.Voters.TheVariants.{One, Mask}

-- a record of the table
unfoldable pub tally_of : Tally → words.Tally
unfolding name_of
tally_of t = record { view = t.block.view; height = t.block.height; name = name_of t.block.name; mask = t.block.mask; opener = told t.opener; reached = told t.reached }

-- what a joining is told
unfoldable pub moment_of : Moment → words.Moment
moment_of k = record { settings = settings_of k.settings; clock = k.clock; opener = told k.opener }

-- who joins a tally, as a mask; one voter is a station that a mask has a bit for
abbrev pub voters_of : Voters → ℕ
voters_of (One i) = only i
voters_of (Mask m) = m

-- who opens the tally that they join, if it is missing: the author of a vote; a mask says nobody
abbrev pub author_of : Voters → words.Opener
author_of (One i) = some i
author_of (Mask m) = none

abbrev pub Numbered : Voters → Type 0
Numbered (One i) = i < mask_bits
Numbered (Mask m) = Unit {0}

-- a block of a view, with these voters
abbrev pub with_voters : ℕ → words.Certificate → words.Certificate
with_voters m t = record { view = t.view; height = t.height; name = t.name; mask = m }
