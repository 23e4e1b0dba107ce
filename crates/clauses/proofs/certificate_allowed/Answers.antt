-- `clauses::certificate_allowed` meets its contract: by the test of certificate view 0. Assumes nothing.
use borrow.Author.Tests.{eq-eqb, ne_eqb}
use Rattle.rules.specs.Messages.{certificate_allowed}
use Rattle.clauses.proofs.certificate_allowed.Goals as goal

pub returns-then-cert-eq0 : goal.returns-then-cert-eq0
unfolding certificate_allowed
returns-then-cert-eq0 c =
    rw (eq-eqb c.args.cert 0 c.if-cert-eq0.true, certificate_allowed)

pub returns : goal.returns
unfolding certificate_allowed
returns c =
    rw (ne_eqb c.args.cert 0 c.if-cert-eq0.false, certificate_allowed, c.last_view.ensures, c.mask_allowed.ensures)
