-- `Tally::empty` meets its contract: the block without a voter. Assumes nothing.
use Rattle.rules.specs.Words.{reached_at}
use Rattle.laws.proofs.Tallies.{no_quorum}
use Rattle.settings.specs.Made.{settings_of}
use Rattle.words.specs.Meaning.{block_of}
use Rattle.tallies.specs.Meaning.{tally_of, moment_of}
use Rattle.tallies.proofs.Tally.empty.Goals as goal

pub returns : goal.returns
unfolding block_of tally_of moment_of reached_at
returns c = rw (no_quorum (settings_of c.args.moment.settings), reached_at)
