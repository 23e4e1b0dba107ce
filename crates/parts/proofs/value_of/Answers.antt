-- `parts::value_of` meets its contract: by the sort. Assumes nothing.
use Rattle.parts.proofs.Fields.{says_number, says_mask, says_name, gives, took, lacked}
use Rattle.parts.specs.Fields.{says, flaw_of}
use Rattle.numbers.specs.Meaning.{number_of}
use mathlib.Core.Path.{sym, ap, ◌∙◌}
use Rattle.parts.proofs.value_of.Goals as goal

pub returns-in_err-value-in-Number : goal.returns-in_err-value-in-Number
unfolding says flaw_of
returns-in_err-value-in-Number c =
    let none = lacked _ _ _ c.in_err-value-in-Number.ensures.value in
    rw (c.in-Number.is, gives _ _ c.from_residual.ensures) (sym c.decimal.ensures ∙ ap number_of none.0, none.1)

pub returns-in_ok-value-in-Number : goal.returns-in_ok-value-in-Number
returns-in_ok-value-in-Number c =
    rw (c.in-Number.is, c.small.ensures) (says_number _ _ _ (sym c.decimal.ensures ∙ ap number_of (took _ _ _ c.in_ok-value-in-Number.ensures.value)))

pub returns-in-Name : goal.returns-in-Name
returns-in-Name c = rw (c.in-Name.is, c.ok_or-in-Name.ensures.value) (says_name _ _ c.name.ensures)

pub returns-in_err-value-in-Mask : goal.returns-in_err-value-in-Mask
unfolding says flaw_of
returns-in_err-value-in-Mask c =
    let none = lacked _ _ _ c.in_err-value-in-Mask.ensures.value in
    rw (c.in-Mask.is, gives _ _ c.from_residual-in_err-value-in-Mask.ensures) (sym c.mask.ensures ∙ ap number_of none.0, none.1)

pub returns-in_ok-value-in-Mask : goal.returns-in_ok-value-in-Mask
returns-in_ok-value-in-Mask c =
    rw (c.in-Mask.is, c.small-in-Mask.ensures) (says_mask _ _ (sym c.mask.ensures ∙ ap number_of (took _ _ _ c.in_ok-value-in-Mask.ensures.value)))
