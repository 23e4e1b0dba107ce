-- An input by its kind. Assumes nothing.
use Prim.Native.Nat.{ℕ}
use mathlib.Core.Path.{◌≡◌, sym, ap, ◌∙◌}
use mathlib.Core.List.{List}
use lib.ListN.{length}
use borrow.Author.Tests.{eq-eqb, ne_eqb}
use Rattle.rules.specs.Lists.{be}
use Rattle.rules.specs.Words.{State}
use Rattle.rules.specs.Refusals as rules
use Rattle.fields.specs.Places.{number}
use Rattle.wire.proofs.Reading.{be_number}
use Rattle.lent_list.specs.Lists.{input_of}
use Rattle.lent_list.specs.Plain.{answer_to}
use Rattle.plain_turns.specs.Turns.{Answered}
use Rattle.plain_turns.specs.declared.Turn.{Turn}

module _ (k : ℕ) (bs : List ℕ) (s : State) {t : Turn} {o : List ℕ} where
  pub by_tick : k ≡ 1 → Answered (rules.tick s) t o → Answered (answer_to (input_of k bs) s) t o
  unfolding answer_to input_of
  by_tick e h = rw (eq-eqb k 1 e, input_of) h

  pub by_offer : {b : ℕ} → (k ≡ 1 → ⊥) → k ≡ 2 → length bs ≡ 32 → b ≡ number bs 0 32 → Answered (rules.offer b s) t o → Answered (answer_to (input_of k bs) s) t o
  unfolding answer_to input_of
  by_offer {b} d e i n h =
      let c : be bs ≡ b = be_number bs ∙ ap (number bs 0) i ∙ sym n in
      rw (ne_eqb k 1 d, input_of, eq-eqb k 2 e, c) h

  pub by_step : (k ≡ 1 → ⊥) → (k ≡ 2 → ⊥) → Answered (rules.step bs s) t o → Answered (answer_to (input_of k bs) s) t o
  unfolding answer_to input_of
  by_step d e h = rw (ne_eqb k 1 d, input_of, ne_eqb k 2 e) h
