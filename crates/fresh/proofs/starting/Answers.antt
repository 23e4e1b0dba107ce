-- `starting` meets its contract: each field is that of the fresh state. Assumes nothing.
use Rattle.store.specs.Meaning.{header_of}
use Rattle.store.specs.Decode.{header_values}
use mathlib.Core.Path.{ap}
use Rattle.rules.specs.Words.{Certificate, fresh}
use Rattle.words.specs.Meaning.{block_of}
use Rattle.fresh.proofs.starting.Goals as goal

pub returns : goal.returns
unfolding header_of header_values fresh block_of
returns c =
    let g = c.genesis-lock.ensures in
    rw (ap (λ (x : Certificate). x.view) g, ap (λ (x : Certificate). x.height) g, ap (λ (x : Certificate). x.name) g, ap (λ (x : Certificate). x.mask) g)
