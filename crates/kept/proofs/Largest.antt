-- The bound on a tick is reached: a station that waits with its table full of proposes of the next view, and isn't its leader. Assumes nothing.
use mathlib.Core.Path.{◌≡◌, refl}
use Prim.Native.Nat.{ℕ, zero, suc}
use mathlib.Core.Bool.{false, true}
use mathlib.Core.List.{List, [], ◌∷◌, ◌++◌}
use mathlib.Core.Option.{none, some}
use lib.ListN.{length, replicate}
use Rattle.rules.specs.Limits.{small, last_view, most_statements}
use Rattle.rules.specs.Messages.{outgoing}
use Rattle.rules.specs.Words.{Statement, Tally, genesis, waiting, State}
use Rattle.rules.specs.Refusals.{tick}
use Rattle.rules.specs.WellFormed.{well_formed}
use Rattle.kept.proofs.Ticking.{largest_tick}

-- the proposes of view 2 up to a height, each block named by its height
proposes_to : ℕ → List Statement
proposes_to zero = []
proposes_to (suc h) =
    proposes_to h
    ++ record { is_new_view = false; view = 2; height = suc h; name = suc h; link = h; mask = 3; author = 2; voted = none } ∷ []

tallies_to : ℕ → List Tally
tallies_to zero = record { view = 2; height = 0; name = 0; mask = 3; opener = none; reached = some 0 } ∷ []
tallies_to (suc h) = tallies_to h ++ record { view = 2; height = suc h; name = suc h; mask = 3; opener = none; reached = some 0 } ∷ []

pub largest : State
unfolding proposes_to tallies_to
largest =
    record {
      settings = record { n = 3; D = 1; own = 0; size = small };
      phase = waiting 5;
      view = 1;
      entry = 0;
      clock = 6;
      lock = genesis;
      statements = proposes_to (most_statements small);
      tallies = tallies_to (most_statements small);
      blames = replicate (suc (last_view small)) 0;
      log = [];
    }

pub largest_whole : well_formed largest ≡ true
unfolding largest well_formed
largest_whole = refl

pub largest_reached : length (outgoing (tick largest).out) ≡ largest_tick small
unfolding largest tick outgoing
largest_reached = refl
