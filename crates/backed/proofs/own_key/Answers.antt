-- `backed::own_key` meets its contract. Assumes nothing.
use Rattle.backed.proofs.Keys.{propose_own}
use Rattle.fields.proofs.Laws.{number_lt}
use Rattle.rules.specs.Limits.{small}
use Rattle.store.specs.Layout.{statement_table, place_of}
use native.Mathlib.Omega.{arith}
use mathlib.Core.Path.{◌∙◌}
use Rattle.backed.proofs.own_key.Goals as goal

pub overflow_add-result : goal.overflow_add-result
overflow_add-result c =
    let own = propose_own c.args.store.now c.type_inv.store c.args.i c.requires.2 (λ e. c.if-kind_at-eq1.false (c.kind_at.ensures ∙ e)) _ c.requires.3 in
    record { fits = omega (arith, own, number_lt c.args.store.now c.type_inv.store (place_of statement_table small c.args.i) 8) }

pub returns : goal.returns
returns c =
    propose_own c.args.store.now c.type_inv.store c.args.i c.requires.2 (λ e. c.if-kind_at-eq1.false (c.kind_at.ensures ∙ e)) _ c.requires.3
