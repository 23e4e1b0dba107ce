-- A station that enters the next view. Assumes nothing.
use Rattle.std.specs.Prelude.{◌+◌}
use Rattle.plain_words.specs.declared.Certificate.{Certificate}
use Rattle.plain_tables.specs.declared.Phase.TheVariants.{InView}
use Rattle.plain_tables.specs.declared.Engine.{Engine}

abbrev pub next_view : Certificate → Engine → Engine
next_view t e =
    record { settings = e.settings; phase = InView; view = e.view + 1; entry = e.clock; clock = e.clock; lock = t; statements = e.statements; tallies = e.tallies; blames = e.blames; log = e.log }
