-- `refusals::barred` meets its contract: what the check says, or the phase. Assumes nothing.
use Rattle.refusals.proofs.Opening.{refusal_some, lent, lent_formed, barred_unformed, barred_stopped, barred_not}
use native.Mathlib.Omega.{arith}
use mathlib.Core.Path.{sym, ap, ◌∙◌}
use Rattle.std.proofs.lemmas.Result.{err_from_is_err_and}
use Rattle.answer.specs.Numbers.{number_of}
use Rattle.refusals.specs.Barred.{refusal_number}
use Rattle.refusals.proofs.barred.Goals as goal

pub returns-in_err-checked : goal.returns-in_err-checked
returns-in_err-checked c =
    let is = c.in_err-checked.ensures.is in
    let made = err_from_is_err_and c.from_residual.result c.from_residual.ensures.1 in
    ap refusal_number made.1 ∙ ap number_of made.2 ∙ is ∙ barred_unformed _ _ (λ z. refusal_some _ (is ∙ z))

pub load-station-requires : goal.load-station-requires
load-station-requires c =
    omega (arith, (lent _ _ (sym c.in_ok-checked.ensures.is)).long)

pub is_running-requires : goal.is_running-requires
is_running-requires c =
    ((lent_formed _ _ (lent _ _ (sym c.in_ok-checked.ensures.is)) c.type_inv.store).form, c.load-station.ensures)

pub returns-then-not-is_running : goal.returns-then-not-is_running
returns-then-not-is_running c =
    barred_stopped _ _ (lent _ _ (sym c.in_ok-checked.ensures.is)) (sym c.is_running.ensures ∙ c.if-not-is_running.true)

pub returns : goal.returns
returns c =
    barred_not _ _ (lent _ _ (sym c.in_ok-checked.ensures.is)) (sym c.is_running.ensures ∙ c.if-not-is_running.false)
