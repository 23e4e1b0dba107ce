-- The place of the code's cursor. Assumes nothing.
use Rattle.wire.specs.Fields.{Place}
use Rattle.reader.specs.declared.Cursor.{Cursor}

-- a cursor: its place, and its kind
unfoldable pub place_of : Cursor → Place
place_of c = record { at = c.at; kind = c.kind }
