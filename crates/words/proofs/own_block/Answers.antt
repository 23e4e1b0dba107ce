-- `words::own_block` meets its contract. Assumes nothing.
use mathlib.Core.Path.{refl}
use Rattle.rules.specs.Words.{own_block}
use Rattle.wire.specs.Meaning.{statement_of}
use Rattle.words.specs.Meaning.{block_of}
use Rattle.words.proofs.own_block.Goals as goal

pub returns : goal.returns
unfolding block_of own_block statement_of
returns c =
    refl
