-- `repeats::repeated` meets its contract. Assumes nothing.
use Rattle.repeats.proofs.Hanging.{met_start, met_is, met_hangs}
use Rattle.form.proofs.Forms.{few_statements_lem}
use Rattle.laws.proofs.Tests.{no_bool}
use native.Mathlib.Omega.{arith}
use mathlib.Core.Path.{sym, ◌∙◌}
use Rattle.repeats.proofs.repeated.Goals as goal

pub overflow_cast-left : goal.overflow_cast-left
overflow_cast-left c =
    let a = c.args in
    let walk = met_start a.store.now c.type_inv.store a.salt a.count a.i c.requires.2 c.requires.1 _ c.requires.3 c.requires.4 in
    record { fits = omega (arith, walk.within, few_statements_lem c.requires.0) }

pub met-requires : goal.met-requires
met-requires c =
    let a = c.args in
    (c.requires.0, c.requires.1, met_start a.store.now c.type_inv.store a.salt a.count a.i c.requires.2 c.requires.1 _ c.requires.3 c.requires.4)

pub returns-then-met : goal.returns-then-met
returns-then-met c =
    let a = c.args in
    let met = met_is a.store.now c.type_inv.store a.salt a.count a.i c.requires.2 c.requires.1 _ c.requires.3 c.requires.4 in
    record { is = sym c.if-met.true ∙ c.met.ensures ∙ met; hangs = λ e. no_bool e }

pub hang-requires : goal.hang-requires
hang-requires c =
    let few = few_statements_lem c.requires.0 in
    (c.requires.4, omega (arith, c.requires.1), omega arith)

pub returns : goal.returns
returns c =
    let a = c.args in
    let b = a.store.now in
    let bytes = c.type_inv.store in
    let met = met_is b bytes a.salt a.count a.i c.requires.2 c.requires.1 _ c.requires.3 c.requires.4 in
    let hangs = met_hangs b bytes a.salt a.count a.i c.requires.2 c.requires.1 _ c.requires.3 c.requires.4 in
    record { is = sym c.if-met.false ∙ c.met.ensures ∙ met; hangs = λ e. rw (c.hang.ensures.0, c.hang.ensures.1) (hangs (few_statements_lem c.requires.0)) }
