-- `lines::kinds::said` meets its contract: field by field. Assumes nothing.
use Rattle.lines.proofs.Messages.{said_good, said_wrong, own_before}
use Rattle.parts.proofs.Fields.{gives}
use Rattle.parts.specs.Fields.{field_of}
use Rattle.lines.specs.Script.{message}
use Rattle.rules.specs.Messages as messages
use Rattle.rules.specs.Messages.{write}
use mathlib.Core.Path.{sym, ap, ◌∙◌}
use native.Mathlib.Omega.{arith}
use Rattle.lines.proofs.kinds.said.Goals as goal

pub returns-in_err-view : goal.returns-in_err-view
returns-in_err-view c =
    rw (gives _ _ c.from_residual.ensures) (sym (said_wrong c.args.kind _ _ (c.in_err-view.ensures _)), tt)

pub returns-in_err-height : goal.returns-in_err-height
returns-in_err-height c =
    rw (gives _ _ c.from_residual-in_err-height.ensures) (sym (said_wrong c.args.kind _ _ (own_before _ _ _ _ c.in_ok-view.ensures _ _ (c.in_err-height.ensures _))), tt)

pub returns-in_err-name : goal.returns-in_err-name
returns-in_err-name c =
    rw (gives _ _ c.from_residual-in_err-name.ensures) (sym (said_wrong c.args.kind _ _ (own_before _ _ _ _ c.in_ok-view.ensures _ _ (own_before _ _ _ _ c.in_ok-height.ensures _ _ (c.in_err-name.ensures _)))), tt)

pub returns-in_err-parent : goal.returns-in_err-parent
returns-in_err-parent c =
    rw (gives _ _ c.from_residual-in_err-parent.ensures) (sym (said_wrong c.args.kind _ _ (own_before _ _ _ _ c.in_ok-view.ensures _ _ (own_before _ _ _ _ c.in_ok-height.ensures _ _ (own_before _ _ _ _ c.in_ok-name.ensures _ _ (c.in_err-parent.ensures _))))), tt)

pub returns-in_err-cert : goal.returns-in_err-cert
returns-in_err-cert c =
    rw (gives _ _ c.from_residual-in_err-cert.ensures) (sym (said_wrong c.args.kind _ _ (own_before _ _ _ _ c.in_ok-view.ensures _ _ (own_before _ _ _ _ c.in_ok-height.ensures _ _ (own_before _ _ _ _ c.in_ok-name.ensures _ _ (own_before _ _ _ _ c.in_ok-parent.ensures _ _ (c.in_err-cert.ensures _)))))), tt)

pub returns-in_err-mask : goal.returns-in_err-mask
returns-in_err-mask c =
    rw (gives _ _ c.from_residual-in_err-mask.ensures) (sym (said_wrong c.args.kind _ _ (own_before _ _ _ _ c.in_ok-view.ensures _ _ (own_before _ _ _ _ c.in_ok-height.ensures _ _ (own_before _ _ _ _ c.in_ok-name.ensures _ _ (own_before _ _ _ _ c.in_ok-parent.ensures _ _ (own_before _ _ _ _ c.in_ok-cert.ensures _ _ (c.in_err-mask.ensures _))))))), tt)

pub returns-in_err-author : goal.returns-in_err-author
returns-in_err-author c =
    rw (gives _ _ c.from_residual-in_err-author.ensures) (sym (said_wrong c.args.kind _ _ (own_before _ _ _ _ c.in_ok-view.ensures _ _ (own_before _ _ _ _ c.in_ok-height.ensures _ _ (own_before _ _ _ _ c.in_ok-name.ensures _ _ (own_before _ _ _ _ c.in_ok-parent.ensures _ _ (own_before _ _ _ _ c.in_ok-cert.ensures _ _ (own_before _ _ _ _ c.in_ok-mask.ensures _ _ (c.in_err-author.ensures _)))))))), tt)

pub returns-in_err-ending : goal.returns-in_err-ending
returns-in_err-ending c =
    rw (gives _ _ c.from_residual-in_err-ending.ensures) (sym (said_wrong c.args.kind _ _ (own_before _ _ _ _ c.in_ok-view.ensures _ _ (own_before _ _ _ _ c.in_ok-height.ensures _ _ (own_before _ _ _ _ c.in_ok-name.ensures _ _ (own_before _ _ _ _ c.in_ok-parent.ensures _ _ (own_before _ _ _ _ c.in_ok-cert.ensures _ _ (own_before _ _ _ _ c.in_ok-mask.ensures _ _ (own_before _ _ _ _ c.in_ok-author.ensures _ _ c.in_err-ending.ensures)))))))), tt)

pub overflow_cast-view : goal.overflow_cast-view
unfolding field_of
overflow_cast-view c = omega (arith, c.in_ok-view.ensures.holds.1)

pub overflow_cast-height : goal.overflow_cast-height
unfolding field_of
overflow_cast-height c = omega (arith, c.in_ok-height.ensures.holds.1)

pub overflow_cast-cert : goal.overflow_cast-cert
unfolding field_of
overflow_cast-cert c = omega (arith, c.in_ok-cert.ensures.holds.1)

pub overflow_cast-mask : goal.overflow_cast-mask
unfolding field_of
overflow_cast-mask c = omega (arith, c.in_ok-mask.ensures.holds.1)

pub overflow_cast-author : goal.overflow_cast-author
unfolding field_of
overflow_cast-author c = omega (arith, c.in_ok-author.ensures.holds.1)

pub returns : goal.returns
returns c = (
  ap (λ (x : messages.Message). message (write x)) c.made.ensures.0
      ∙ sym (said_good _ _ _ _ _ _ _ _ _ _ c.in_ok-view.ensures c.in_ok-height.ensures c.in_ok-name.ensures c.in_ok-parent.ensures c.in_ok-cert.ensures c.in_ok-mask.ensures c.in_ok-author.ensures c.in_ok-ending.ensures),
  c.made.ensures.1,
)
