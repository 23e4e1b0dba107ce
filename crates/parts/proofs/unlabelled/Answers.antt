-- `parts::unlabelled` meets its contract. Assumes nothing.
use Rattle.parts.proofs.Fields.{label_yes, label_no}
use Rattle.std.proofs.Common.{◌-◌, take, drop}
use mathlib.Core.Path.{sym, ◌∙◌}
use Rattle.text.proofs.Runs.{same_is}
use Rattle.parts.proofs.unlabelled.Goals as goal

pub returns-then-eq : goal.returns-then-eq
returns-then-eq c =
    let first = c.word-first.ensures in
    rw (label_yes _ _ (rw first.is at (sym (c.eq.ensures ∙ same_is (take (c.word-first.result.end - c.word-first.result.start) (drop c.word-first.result.start c.args.line.now)) c.args.label.now) ∙ c.if-eq.true)), ← first.after) c.word.ensures

pub returns : goal.returns
returns c =
    let first = c.word-first.ensures in
    rw (label_no _ _ (rw first.is at (sym (c.eq.ensures ∙ same_is (take (c.word-first.result.end - c.word-first.result.start) (drop c.word-first.result.start c.args.line.now)) c.args.label.now) ∙ c.if-eq.false))) first
