-- `Moment::reached` meets its contract: the clock stays, or a quorum sets it. Assumes nothing.
use mathlib.Core.Path.{◌≡◌, refl}
use mathlib.Core.Bool.{Bool, true, false}
use mathlib.Core.Option.{Option, none, some}
use Prim.Native.Nat.{ℕ}
use Rattle.std.specs.Bool.{then_some}
use Rattle.rules.specs.Words.{reached_at}
use Rattle.tallies.specs.Meaning.{moment_of}
use Rattle.tallies.specs.Values.{told}
use Rattle.tallies.proofs.Moment.reached.Goals as goal

pub returns-in-Some : goal.returns-in-Some
unfolding reached_at
returns-in-Some c = rw c.in-Some.is

-- a quorum sets the clock
set-by : (q : Bool) (clock : ℕ) → told (then_some q clock) ≡ elim q [ true ↦ some clock | false ↦ none ]
set-by true clock = refl
set-by false clock = refl

pub returns-in-None : goal.returns-in-None
unfolding reached_at moment_of
returns-in-None c = rw (c.in-None.is, c.then_some.ensures, c.quorum.ensures, c.from.ensures) (set-by _ _)
