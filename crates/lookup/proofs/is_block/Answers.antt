-- `lookup::is_block` meets its contract: a record is of the block where its five words are. Assumes nothing.
use mathlib.Core.Path.{sym, ◌∙◌}
use Rattle.fields.proofs.Names.{words}
use Rattle.lookup.proofs.Marks.{other_fourth, other_key, three_left}
use Rattle.lookup.proofs.is_block.Goals as goal

pub returns-then-not-is_word : goal.returns-then-not-is_word
returns-then-not-is_word c =
    let a = c.args in
    let g = c.well_formed.1.1.1.0 in
    other_fourth a.s.now c.type_inv.s a.name (words a.name g.1.1.0.1 g.1.1.1.0.1 g.1.1.1.1.0.1 g.1.1.1.1.1.0.1) a.key a.at (sym c.is_word.ensures ∙ c.if-not-is_word.true)

pub returns-then-not-is_word-2 : goal.returns-then-not-is_word-2
returns-then-not-is_word-2 c =
    let shared-slice-known = c.shared_slice_known-1 in
    let a = c.args in
    let g = c.well_formed.1.1.1.0 in
    other_key a.s.now shared-slice-known.given a.name (words a.name g.1.1.0.1 g.1.1.1.0.1 g.1.1.1.1.0.1 g.1.1.1.1.1.0.1) a.key a.at (sym c.is_word-2.ensures ∙ c.if-not-is_word-2.true)

pub returns : goal.returns
returns c =
    let a = c.args in
    let g = c.well_formed.1.1.1.0 in
    rw (c.is_word-3.ensures, c.is_word-4.ensures, c.is_word-5.ensures)
    (three_left a.s.now c.type_inv.s a.name (words a.name g.1.1.0.1 g.1.1.1.0.1 g.1.1.1.1.0.1 g.1.1.1.1.1.0.1) a.key a.at (sym c.is_word-2.ensures ∙ c.if-not-is_word-2.false) (sym c.is_word.ensures ∙ c.if-not-is_word.false))
