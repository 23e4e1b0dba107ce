-- `Tally::with_voter` meets its contract: the mask of one station joins. Assumes nothing.
use mathlib.Core.Path.{ap, ◌∙◌}
use Rattle.rules.specs.Words.{grown}
use Rattle.tallies.specs.Meaning.{tally_of, moment_of}
use Rattle.tallies.proofs.Values.{voter_fits}
use Rattle.tallies.proofs.Tally.with_voter.Goals as goal

pub overflow_cast-only : goal.overflow_cast-only
overflow_cast-only c =
    record { fits = rw c.only.ensures (voter_fits _ c.requires) }

pub returns : goal.returns
returns c =
    c.grown.ensures ∙ ap (grown (moment_of c.args.moment) (tally_of c.args.self)) c.only.ensures
