-- A station whose tables keep to their room, in a well-formed state. Assumes nothing.
use Rattle.std.specs.Prelude.{◌≡◌, true}
use Rattle.rules.specs.WellFormed.{well_formed}
use Rattle.plain_tables.specs.declared.Engine.{Engine}
use Rattle.plain_tables.specs.Meaning.{state, Sized}

pub record Whole (e : Engine) : Type 0 where
  pub sized : Sized e
  pub formed : well_formed (state e) ≡ true
