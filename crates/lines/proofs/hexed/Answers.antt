-- `lines::hexed` meets its contract. Assumes nothing.
use Rattle.text.proofs.Runs.{word_length}
use Rattle.hex_words.proofs.Hex.{length_pairs}
use Rattle.lines.proofs.Replies.{refused, too_long, written_good, hexed_wrong, hexed_good}
use Rattle.text.specs.Words.{word}
use Prim.Native.Nat.{ℕ, ◌/◌}
use mathlib.Core.Path.{sym, ap, ◌∙◌}
use native.Mathlib.Omega.{arith}
use lib.ListN.{drop}
use Rattle.lines.proofs.hexed.Goals as goal

pub returns-in_err-word : goal.returns-in_err-word
returns-in_err-word c = refused _ c.from_residual.ensures (hexed_wrong _ _ _ c.in_err-word.ensures)

pub returns-then-bytes-len : goal.returns-then-bytes-len
returns-then-bytes-len c =
    let w = c.in_ok-word.ensures in
    let n = length_pairs (word (drop c.args.at c.args.line.now)) ∙ ap (λ (k : ℕ). k / 2) (word_length w.0) in
    too_long _ _ _ _ (hexed_good _ _ _ w.1) (omega (arith, n))

pub returns : goal.returns
returns c =
    let w = c.in_ok-word.ensures in
    let n = length_pairs (word (drop c.args.at c.args.line.now)) ∙ ap (λ (k : ℕ). k / 2) (word_length w.0) in
    written_good _ _ _ _ (hexed_good _ _ _ w.1) (omega (arith, n)) _ _ (sym n) (rw w.0.is at c.write_bytes.ensures)
