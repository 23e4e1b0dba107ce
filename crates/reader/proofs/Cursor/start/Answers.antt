-- `Cursor::start` meets its contract: nothing read yet. Assumes nothing.
use mathlib.Core.Path.{refl}
use Rattle.reader.specs.Places.{place_of}
use Rattle.reader.proofs.Cursor.start.Goals as goal

pub returns : goal.returns
unfolding place_of
returns c = refl
