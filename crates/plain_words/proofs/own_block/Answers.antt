-- `plain_words::own_block` meets its contract. Assumes nothing.
use mathlib.Core.Path.{refl}
use Rattle.wire.specs.Meaning.{statement_of}
use Rattle.plain_words.specs.Meaning.{certificate_of}
use Rattle.rules.specs.Words.{own_block}
use Rattle.plain_words.proofs.own_block.Goals as goal

pub returns : goal.returns
unfolding certificate_of own_block statement_of
returns c =
    refl
