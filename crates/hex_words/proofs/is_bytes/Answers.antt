-- `hex_words::is_bytes` meets its contract. Assumes nothing.
use Rattle.text.specs.Words.{is_bytes}
use mathlib.Core.Path.{sym, ◌∙◌}
use borrow.Author.Tests.{eq-eqb, ne_eqb}
use Rattle.hex_words.proofs.Hex.{hex_digits}
use Rattle.hex_words.proofs.is_bytes.Goals as goal

pub returns-then-is_dash : goal.returns-then-is_dash
unfolding is_bytes
returns-then-is_dash c = let e = sym c.is_dash.ensures ∙ c.if-is_dash.true in rw e

pub returns-then-word-ne0 : goal.returns-then-word-ne0
unfolding is_bytes
returns-then-word-ne0 c =
    let e = sym c.is_dash.ensures ∙ c.if-is_dash.false in rw (e, ne_eqb _ 0 c.if-word-ne0.true)

pub returns : goal.returns
unfolding is_bytes
returns c =
    let e = sym c.is_dash.ensures ∙ c.if-is_dash.false in rw (e, eq-eqb _ 0 c.if-word-ne0.false) (c.all_hex.ensures ∙ hex_digits c.args.word.now)
