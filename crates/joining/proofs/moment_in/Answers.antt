-- `moment_in` meets its contract: the settings and the clock of the header, and who votes. Assumes nothing.
use native.Mathlib.Omega.{arith}
use Rattle.tallies.specs.Meaning.{moment_of}
use Rattle.store.proofs.Forms.{form_long}
use Rattle.store.proofs.Loaded.{loaded_settings, loaded_clock}
use Rattle.joining.proofs.moment_in.Goals as goal

pub load-station-requires : goal.load-station-requires
load-station-requires c = omega (arith, form_long _ c.requires.0)

pub returns : goal.returns
unfolding moment_of
returns c =
    let load = c.load-station in
    λ i. record { settings = loaded_settings _ _ load.ensures i; clock = loaded_clock _ _ load.ensures i; opener = c.opener-opener.ensures i }
