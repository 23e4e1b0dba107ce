-- `storing::find_certificate` meets its contract. Assumes nothing.
use Rattle.storing.proofs.Records.{certified_genesis, certified_block}
use Rattle.words.specs.Meaning.{block_of}
use Rattle.store.specs.Decode.{tallies}
use mathlib.Core.Path.{sym, ◌∙◌}
use Rattle.storing.proofs.find_certificate.Goals as goal

pub returns-then-certificate-eq0 : goal.returns-then-certificate-eq0
unfolding block_of
returns-then-certificate-eq0 c =
    let a = c.args in
    certified_genesis (block_of a.certificate) (tallies a.store.now) c.if-certificate-eq0.true

pub returns : goal.returns
unfolding block_of
returns c =
    let a = c.args in
    c.find_tally.ensures ∙ sym (certified_block (block_of a.certificate) (tallies a.store.now) c.if-certificate-eq0.false)
