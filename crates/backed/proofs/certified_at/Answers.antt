-- `backed::certified_at` meets its contract. Assumes nothing.
use mathlib.Core.Path.{sym, ◌∙◌}
use native.Mathlib.Omega.{arith}
use Rattle.backed.proofs.Keys.{new_name, propose_name}
use Rattle.backed.proofs.certified_at.Goals as goal

pub returns-then-kind_at-eq1 : goal.returns-then-kind_at-eq1
returns-then-kind_at-eq1 c =
    (new_name _ c.type_inv.store _ (sym c.kind_at.ensures ∙ c.if-kind_at-eq1.true), omega (arith, c.requires.0, c.requires.1))

pub returns : goal.returns
returns c =
    (propose_name _ c.type_inv.store _ (λ e. c.if-kind_at-eq1.false (c.kind_at.ensures ∙ e)), omega (arith, c.requires.0, c.requires.1))
