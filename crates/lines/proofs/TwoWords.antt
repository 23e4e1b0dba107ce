-- Two words of bytes in hex: how long what they say is, and what a line of them means. Assumes nothing.
use Prim.Native.Nat.{ℕ, ◌+◌, ◌-◌, ◌/◌}
use mathlib.Core.Path.{◌≡◌, sym, ap, ◌∙◌}
use mathlib.Core.Bool.{true, false}
use mathlib.Core.List.{List, ◌++◌}
use lib.ListN.{length, drop, length-append}
use Rattle.text.specs.Words.{word, no_word, pairs, is_bytes}
use Rattle.text.specs.Places.{WordOf}
use Rattle.text.specs.declared.Span.{Span}
use Rattle.text.proofs.Runs.{word_length}
use Rattle.hex_words.proofs.Hex.{length_pairs}
use Rattle.parts.specs.Fields.{got}
use Rattle.lines.specs.Script.{hex, chosen, given}
use Rattle.lines.specs.declared.What.TheVariants.{Choose}
use Rattle.lines.proofs.Replies.{chosen_both}

module _ (s : List ℕ) (at : ℕ) {w v : Span} (one : WordOf s (drop at s) w) (some_word : no_word (drop at s) ≡ false) (good : is_bytes (word (drop at s)) ≡ true)
    (other : WordOf s (drop w.end s) v) (read : hex (drop w.end s) ≡ got (pairs (word (drop w.end s)))) where
  abbrev pub first : List ℕ
  first = pairs (word (drop at s))

  abbrev pub second : List ℕ
  second = pairs (word (drop w.end s))

  pub first_long : length first ≡ (w.end - w.start) / 2
  first_long = length_pairs (word (drop at s)) ∙ ap (λ (k : ℕ). k / 2) (word_length one)

  pub second_long : length second ≡ (v.end - v.start) / 2
  second_long = length_pairs (word (drop w.end s)) ∙ ap (λ (k : ℕ). k / 2) (word_length other)

  pub both_long : length (first ++ second) ≡ length first + length second
  both_long = length-append first second

  pub both_meant : chosen (drop at s) ≡ given (Choose ((w.end - w.start) / 2)) (first ++ second)
  both_meant = chosen_both (drop at s) some_word good _ (sym first_long) second (sym (ap hex one.after) ∙ read)
