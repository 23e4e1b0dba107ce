-- `bundle::envelope_write` meets its contract, test by test. Assumes nothing.
use mathlib.Core.Path.{sym, ◌∙◌}
use Rattle.bundle.proofs.Answers.{not_eights, out_short, not_bundled, is_bundled}
use Rattle.bundle.proofs.envelope_write.Goals as goal

pub returns-then-list-ne0 : goal.returns-then-list-ne0
returns-then-list-ne0 c = not_eights _ _ _ c.if-list-ne0.true c.answer.ensures

pub returns-then-out-lt-MOST_BYTES : goal.returns-then-out-lt-MOST_BYTES
returns-then-out-lt-MOST_BYTES c = out_short _ _ _ c.if-out-lt-MOST_BYTES.true c.answer-then-out-lt-MOST_BYTES.ensures

pub returns-in_default : goal.returns-in_default
returns-in_default c =
    not_bundled _ _ _ c.if-list-ne0.false c.if-out-lt-MOST_BYTES.false c.total_of.ensures c.in_default.is c.answer-in_default.ensures

pub write_bundle-requires : goal.write_bundle-requires
write_bundle-requires c = record { is = sym c.in-Some.is ∙ c.total_of.ensures; room = c.if-out-lt-MOST_BYTES.false }

pub returns : goal.returns
returns c =
    let if1 = c.if-list-ne0 in let if2 = c.if-out-lt-MOST_BYTES in
    let total_of = c.total_of in is_bundled _ _ _ if1.false if2.false total_of.ensures c.in-Some.is c.write_bundle.ensures
