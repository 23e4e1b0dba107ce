-- `glance::vote_in` meets its contract. Assumes nothing.
use Rattle.glance.proofs.Voting.{vote_new_view, vote_other, vote_own}
use mathlib.Core.Path.{sym, ap, ◌∙◌}
use Rattle.tallies.specs.Values.{vote_number}
use Rattle.tallies.proofs.Values.{vote_number_lem}
use Rattle.glance.proofs.vote_in.Goals as goal

pub returns-then-view_at-view : goal.returns-then-view_at-view
returns-then-view_at-view c =
    vote_other _ _ _ (λ e. c.if-view_at-view.true (c.view_at.ensures ∙ e))

pub returns-then-kind_at-eq1 : goal.returns-then-kind_at-eq1
returns-then-kind_at-eq1 c =
    vote_new_view _ _ _ (sym c.kind_at.ensures ∙ c.if-kind_at-eq1.true)

pub returns : goal.returns
returns c =
    ap vote_number c.voted_at.ensures ∙ vote_number_lem _ ∙ vote_own _ _ _ (sym c.view_at.ensures ∙ c.if-view_at-view.false) (λ e. c.if-kind_at-eq1.false (c.kind_at.ensures ∙ e))
