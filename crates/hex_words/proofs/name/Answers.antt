-- `hex_words::name` meets its contract: four parts of its digits are the four words. Assumes nothing.
use Rattle.hex_words.proofs.Hex.{hex_digits, name_empty, name_long, name_other, name_is, name_words}
use mathlib.Core.Path.{sym, ap, ◌∙◌}
use mathlib.Core.Option.{some}
use native.Mathlib.Omega.{arith}
use lib.ListN.{length-take, length-drop}
use Rattle.hex_words.proofs.name.Goals as goal

pub returns-then-end-eq0 : goal.returns-then-end-eq0
returns-then-end-eq0 c = sym (name_empty _ c.if-end-eq0.true)

pub returns-then-end-gt64 : goal.returns-then-end-gt64
returns-then-end-gt64 c = sym (name_long _ c.if-end-gt64.true)

pub returns-then-not-all_hex : goal.returns-then-not-all_hex
returns-then-not-all_hex c = sym (name_other _ (sym (c.all_hex.ensures ∙ hex_digits _) ∙ c.if-not-all_hex.true))

pub hex_number-requires-3 : goal.hex_number-requires-3
hex_number-requires-3 c =
    simp (length-take, length-drop) (omega (arith, c.saturating_sub-third.ensures, c.saturating_sub-fourth.ensures))

pub hex_number-requires-4 : goal.hex_number-requires-4
hex_number-requires-4 c =
    simp (length-take, length-drop) (omega (arith, c.saturating_sub-fourth.ensures))

pub returns : goal.returns
returns c =
    let args = c.args in
    let if1 = c.if-end-eq0 in
    let if2 = c.if-end-gt64 in
    let all-hex = c.all_hex in
    let if3 = c.if-not-all_hex in
    let back = c.saturating_sub-fourth in
    let back2 = c.saturating_sub-third in
    let back3 = c.saturating_sub-second in let hex-number = c.hex_number in
    let hex-number2 = c.hex_number-2 in
    let w = args.word.now in
    sym (name_is w if1.false if2.false (sym (all-hex.ensures ∙ hex_digits _) ∙ if3.false) ∙ ap some (sym (name_words w _ _ _ _ if2.false back.ensures back2.ensures back3.ensures hex-number.ensures hex-number2.ensures c.hex_number-3.ensures c.hex_number-4.ensures)))
