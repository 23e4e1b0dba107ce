-- `lines::chosen` meets its contract. Assumes nothing.
use Rattle.outgoing.proofs.Writing.{wrote_append}
use Rattle.outgoing.specs.Wrote.{wrote}
use Rattle.text.specs.Words.{word, pairs}
use Rattle.lines.proofs.TwoWords.{first_long, second_long, both_long, both_meant}
use Rattle.lines.proofs.Replies.{refused, too_long, written_good, chosen_wrong}
use Prim.Native.Nat.{ℕ}
use mathlib.Core.Path.{◌≡◌, sym, ap₂, ◌∙◌}
use native.Mathlib.Omega.{arith}
use native.Mathlib.Nat.{zero-add}
use mathlib.Core.List.{List, ◌++◌}
use lib.ListN.{drop}
use Rattle.lines.proofs.chosen.Goals as goal

pub returns-in_err-word : goal.returns-in_err-word
returns-in_err-word c = refused _ c.from_residual.ensures c.in_err-word.ensures.1

pub returns-in_err-other : goal.returns-in_err-other
returns-in_err-other c =
    let w = c.in_ok-word.ensures in
    refused _ c.from_residual-in_err-other.ensures (chosen_wrong _ w.1 w.2 _ (rw w.0.after at c.in_err-other.ensures))

pub returns-then-bytes-len : goal.returns-then-bytes-len
returns-then-bytes-len c =
    let a = c.args in
    let w = c.in_ok-word.ensures in
    let v = c.in_ok-other.ensures in
    let s = a.line.now in
    let n = first_long s a.at w.0 w.1 w.2 v.0 v.1 in
    let m = second_long s a.at w.0 w.1 w.2 v.0 v.1 in
    let all = both_long s a.at w.0 w.1 w.2 v.0 v.1 in
    too_long _ _ _ _ (both_meant s a.at w.0 w.1 w.2 v.0 v.1) (omega (arith, n, m, all, c.if-bytes-len.true))

pub returns : goal.returns
returns c =
    let a = c.args in
    let w = c.in_ok-word.ensures in
    let v = c.in_ok-other.ensures in
    let s = a.line.now in
    let t = drop a.at s in
    let u = drop c.in_ok-word.word.end s in
    let n = first_long s a.at w.0 w.1 w.2 v.0 v.1 in
    let m = second_long s a.at w.0 w.1 w.2 v.0 v.1 in
    let all = both_long s a.at w.0 w.1 w.2 v.0 v.1 in
    let both : _ ≡ wrote a.bytes.now 0 (pairs (word t) ++ pairs (word u)) = (rw v.0.is at c.write_bytes-2.ensures) ∙ ap₂ (λ (l : List ℕ) (k : ℕ). wrote l k (pairs (word u))) (rw w.0.is at c.write_bytes.ensures) (sym n ∙ sym (zero-add _)) ∙ sym (wrote_append a.bytes.now 0 (pairs (word t)) (pairs (word u))) in
    written_good _ _ _ _ (both_meant s a.at w.0 w.1 w.2 v.0 v.1) (omega (arith, n, m, all, c.if-bytes-len.false)) _ _ (omega (arith, n, m, all)) both
