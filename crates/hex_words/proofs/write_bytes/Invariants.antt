-- `hex_words::write_bytes` meets its contract. The invariant: what is left to write makes the whole. Assumes nothing.
use Prim.Native.Nat.{◌+◌, ◌*◌}
use mathlib.Core.Path.{◌≡◌}
use lib.ListN.{length, drop}
use Rattle.outgoing.specs.Wrote.{wrote}
use Rattle.text.specs.Words.{pairs}
use Rattle.hex_words.proofs.write_bytes.Given as goal

abbrev pub invariant-loop-i : goal.invariant-loop-i
invariant-loop-i l =
    (length l.bytes ≡ length l.initial.bytes) × (wrote l.initial.bytes l.at (pairs l.word) ≡ wrote l.bytes (l.at + l.i) (pairs (drop (2 * l.i) l.word)))
