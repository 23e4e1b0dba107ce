-- `lines::named` meets its contract. Assumes nothing.
use Rattle.rules.specs.Lists.{unbe}
use Rattle.laws.proofs.Bytes.{length_unbe}
use Rattle.fields.specs.Names.{name_of}
use Rattle.fields.proofs.Names.{name_lt}
use Rattle.outgoing.proofs.Writing.{put_wrote}
use Rattle.lines.specs.Script.{given}
use Rattle.lines.proofs.Messages.{meant_wrong}
use Rattle.lines.proofs.Replies.{refused, too_long, written_good, meant_got}
use mathlib.Core.Path.{sym, ◌∙◌}
use native.Mathlib.Omega.{arith}
use Rattle.lines.proofs.named.Goals as goal

pub returns-in_err-ending : goal.returns-in_err-ending
returns-in_err-ending c = refused _ c.from_residual.ensures (meant_wrong _ _ _ c.in_err-ending.ensures)

pub returns-then-bytes-lt32 : goal.returns-then-bytes-lt32
returns-then-bytes-lt32 c =
    let a = c.args in
    let bs = unbe 32 (name_of a.name) in
    too_long bs _ _ _ (meant_got (given a.what bs) _ c.in_ok-ending.ensures) (omega (arith, length_unbe 32 (name_of a.name), c.if-bytes-lt32.true))

pub returns : goal.returns
returns c =
    let a = c.args in
    let small = name_lt a.name (omega (arith, c.well_formed)) (omega (arith, c.well_formed)) (omega (arith, c.well_formed)) (omega (arith, c.well_formed)) in
    let bs = unbe 32 (name_of a.name) in
    let l = length_unbe 32 (name_of a.name) in
    written_good bs _ _ _ (meant_got (given a.what bs) _ c.in_ok-ending.ensures) (omega (arith, l, c.if-bytes-lt32.false)) _ _ (sym l)
    (c.put_name.ensures ∙ put_wrote a.bytes.now 0 32 (name_of a.name) small)
