-- A station with another log. Assumes nothing.
use Rattle.plain_tables.specs.declared.Names.{Names}
use Rattle.plain_tables.specs.declared.Engine.{Engine}

abbrev pub logged : Names → Engine → Engine
logged l e =
    record { settings = e.settings; phase = e.phase; view = e.view; entry = e.entry; clock = e.clock; lock = e.lock; statements = e.statements; tallies = e.tallies; blames = e.blames; log = l }
