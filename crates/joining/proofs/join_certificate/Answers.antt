-- `join_certificate` meets its contract: genesis in view 0 has no tally, every other certificate joins one. Assumes nothing.
use Rattle.joining.proofs.Joining.{certificate_joins, certified_some, certified_none}
use Rattle.words.specs.Meaning.{block_of}
use Rattle.store.specs.Decode.{tallies, state_of}
use mathlib.Core.Option.{none}
use Rattle.rules.specs.Words.{moment}
use Rattle.joining.proofs.join_certificate.Goals as goal

pub join_tally-requires : goal.join_tally-requires
unfolding block_of
join_tally-requires c =
    (c.requires.0, rw (← certificate_joins (moment none (state_of c.args.store.now)) (block_of c.args.certificate) (tallies c.args.store.now) c.if-certificate-ne0.true) c.requires.1, c.requires.2)

pub returns-then-certificate-ne0 : goal.returns-then-certificate-ne0
unfolding block_of
returns-then-certificate-ne0 c =
    rw (certified_some none (block_of c.args.certificate) (state_of c.args.store.now) c.if-certificate-ne0.true) c.join_tally.ensures

pub returns-else-certificate-ne0 : goal.returns-else-certificate-ne0
unfolding block_of
returns-else-certificate-ne0 c =
    record { form = c.requires.0; is = certified_none none (block_of c.args.certificate) (state_of c.args.store.now) c.if-certificate-ne0.false }
