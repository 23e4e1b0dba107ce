-- `items::read_envelope` meets its contract, test by test. Assumes nothing.
use mathlib.Core.Path.{refl}
use native.Mathlib.Omega.{arith}
use Rattle.items.proofs.Openings.{read_long, read_other, read_cut, read_inside}
use Rattle.items.proofs.read_envelope.Goals as goal

pub returns-then-s-gt-MOST_BYTES : goal.returns-then-s-gt-MOST_BYTES
returns-then-s-gt-MOST_BYTES c = read_long _ c.if-s-gt-MOST_BYTES.true

pub returns-then-s-lt3 : goal.returns-then-s-lt3
returns-then-s-lt3 c = read_cut _ c.if-s-gt-MOST_BYTES.false (let h = c.if-s-lt3.true in λ e. omega arith)

pub returns-then-s-ne-ENVELOPE_TAG : goal.returns-then-s-ne-ENVELOPE_TAG
returns-then-s-ne-ENVELOPE_TAG c = read_other _ c.if-s-gt-MOST_BYTES.false c.if-s-ne-ENVELOPE_TAG.true

pub returns-then-s-size : goal.returns-then-s-size
returns-then-s-size c =
    let d = c.if-s-size.true in
    let n = c.get-size.ensures.0 in
    let h = c.if-s-lt3.false in
    read_cut _ c.if-s-gt-MOST_BYTES.false (λ e. d (omega arith))

pub returns : goal.returns
returns c =
    let n = c.get-size.ensures.0 in
    let h = c.if-s-lt3.false in
    read_inside _ c.if-s-gt-MOST_BYTES.false c.if-s-ne-ENVELOPE_TAG.false (let q = c.if-s-size.false in omega arith) refl c.read_items.ensures
