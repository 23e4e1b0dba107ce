-- `numbers::is_decimal` meets its contract. Assumes nothing.
use Rattle.text.specs.Words.{is_decimal}
use Rattle.rules.specs.Lists.{within}
use Rattle.numbers.proofs.is_decimal.Goals as goal

pub returns : goal.returns
unfolding is_decimal within
returns c = c.is_ascii_digit.ensures.value
