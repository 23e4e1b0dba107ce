-- `refusals::checked` meets its contract, test by test in 01's order. Assumes nothing.
use Rattle.refusals.proofs.Opening.{unformed_store, unformed_out, lent_long, unformed_bytes, unformed_not, checks_untold}
use native.Mathlib.Omega.{arith}
use mathlib.Core.Path.{sym, ◌∙◌}
use mathlib.Core.Path.{ap}
use mathlib.Core.Bool.{not}
use Rattle.refusals.proofs.checked.Goals as goal

pub returns-then-not-is_whole : goal.returns-then-not-is_whole
returns-then-not-is_whole c =
    let a = c.args in checks_untold (omega arith) (unformed_store a.store.now a.out.now c.is_whole.ensures (ap not c.if-not-is_whole.true))

pub returns-then-out-least_out_in : goal.returns-then-out-least_out_in
returns-then-out-least_out_in c =
    let a = c.args in checks_untold (omega arith) (unformed_out a.store.now a.out.now (omega (arith, c.if-out-least_out_in.true, c.least_out_in.ensures)))

pub well_formed_told-requires : goal.well_formed_told-requires
well_formed_told-requires c =
    let args = c.args in let pre = c.requires in
    let is_whole = c.is_whole in let if1 = c.if-not-is_whole in
    (lent_long args.store.now args.out.now is_whole.ensures (ap not if1.false), pre)

pub returns-then-not-well_formed_told : goal.returns-then-not-well_formed_told
returns-then-not-well_formed_told c =
    let a = c.args in
    let is_whole = c.is_whole in
    let if1 = c.if-not-is_whole in let least-out-in = c.least_out_in in let if2 = c.if-out-least_out_in in
    checks_untold (omega arith) (unformed_bytes a.store.now a.out.now is_whole.ensures (ap not if1.false) (omega (arith, if2.false, least-out-in.ensures)) (sym c.well_formed_told.ensures.is ∙ c.if-not-well_formed_told.true))

pub returns : goal.returns
returns c =
    let a = c.args in
    let is_whole = c.is_whole in
    let if1 = c.if-not-is_whole in let least-out-in = c.least_out_in in let if2 = c.if-out-least_out_in in
    let told = c.well_formed_told.ensures in
    let good = c.if-not-well_formed_told.false in
    record {
      is = unformed_not a.store.now a.out.now is_whole.ensures (ap not if1.false) (omega (arith, if2.false, least-out-in.ensures)) (sym told.is ∙ good);
      told = λ z. told.told good;
    }
