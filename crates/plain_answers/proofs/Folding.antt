-- The fold over a list, slot by slot. Assumes nothing.
use Prim.Native.Nat.{ℕ, ◌+◌, ◌≤◌}
use mathlib.Core.Path.{◌≡◌, sym, ap, ap₂, ◌∙◌, subst}
use mathlib.Core.Bool.{Bool, true, false}
use mathlib.Core.List.{List, ◌++◌}
use mathlib.Core.Option.{Option, none, some}
use lib.ListN.{length}
use lib.Dec.{eqb}
use borrow.Author.Tests.{eqb-true}
use Rattle.rules.specs.Sizes.{good_settings}
use Rattle.rules.specs.Words as words
use Rattle.rules.specs.Words.{State}
use Rattle.rules.specs.WellFormed.{well_formed}
use Rattle.laws.proofs.Truths.{and_3}
use Rattle.kept.proofs.WellFormed.{fresh_whole}
use Rattle.fields.specs.Places.{number}
use Rattle.settings.specs.Made.{settings_of}
use Rattle.settings.specs.declared.Settings.{Settings}
use Rattle.slots.specs.Slots.{is_input, is_kept}
use Rattle.slots.proofs.Inputs.{input_fits, offer_input}
use Rattle.journal.specs.Journal.{slots_of}
use Rattle.lent_list.specs.Lists as lists
use Rattle.lent_list.specs.Lists.{records_in, slots_in, has_form, settings_in, count_in, are_placed, input_of, inputs_of, inputs_after}
use Rattle.lent_list.specs.Plain.{answer_to, folded, held}
use Rattle.lent_list.specs.Meaning.{held_of, Within, Stands}
use Rattle.lent_list.specs.declared.Held.{Held}
use Rattle.std.specs.Prelude.{Option as Maybe, Some, None}
use Rattle.lent_list.proofs.Standing.{after_first, after_last}
use Rattle.plain_tables.specs.Meaning.{state, Gives}
use Rattle.plain_messages.specs.Whole.{Whole}
use Rattle.plain_turns.specs.Turns.{Answered}
use Rattle.plain_answers.specs.Meaning.{fold_of, FoldedTo}
use Rattle.plain_tables.specs.declared.Engine.{Engine}
use Rattle.std.specs.Prelude as code
use Rattle.std.specs.Prelude.{Some, None}
use Rattle.plain_turns.specs.declared.Turn.{Turn}

module _ {s : Option State} {f : code.Option Engine} (g : FoldedTo s f) where
  -- what a fold came to
  pub came_none : f ≡ None → none ≡ s
  came_none u = sym (ap fold_of u) ∙ g.is

  module _ {e : Engine} (u : f ≡ Some e) where
    pub came_some : some (state e) ≡ s
    came_some = sym (ap fold_of u) ∙ g.is

    pub came_whole : Whole e
    came_whole = rw u at g.whole

module _ (l : List ℕ) where
  pub good_head : (g : Settings) → has_form l ≡ true → settings_of g ≡ settings_in l → good_settings (settings_of g) ≡ true
  unfolding has_form
  good_head g f e = ap good_settings e ∙ (and_3 (good_settings (settings_in l)) (eqb (number l 8 8) 0) (are_placed (count_in l) 0 (slots_of (records_in l))) f).0

  pub fresh_is_whole : (g : Settings) (e : Engine) → good_settings (settings_of g) ≡ true → Gives e (words.fresh (settings_of g)) → Whole e
  fresh_is_whole g e h k = record { sized = k.sized; formed = ap well_formed k.is ∙ fresh_whole (settings_of g) h }

  abbrev gives : Bool → Option State
  gives z = elim z [ false ↦ none | true ↦ folded (words.fresh (settings_in l)) (inputs_of l) ]

  pub formless : has_form l ≡ false → held l ≡ none
  unfolding held
  formless f = ap gives f

  pub fold_starts : (g : Settings) (e : Engine) → has_form l ≡ true → settings_of g ≡ settings_in l → Gives e (words.fresh (settings_of g)) → folded (state e) (inputs_after l 0) ≡ held l
  unfolding held
  fold_starts g e f h k =
      ap₂ folded (k.is ∙ ap words.fresh h) (after_first l) ∙ sym (ap gives f)

  module _ (p : ℕ) (e : Engine) (i : folded (state e) (inputs_after l p) ≡ held l) where
    pub fold_ends : Whole e → slots_in l ≤ p → FoldedTo (held l) (Some e)
    unfolding folded
    fold_ends w h = record { is = sym (ap (folded (state e)) (after_last l p h)) ∙ i; whole = w }

    module _ {r : Maybe Held} (s : Stands l p r) where
      pub fold_skips : r ≡ None → folded (state e) (inputs_after l (p + 1)) ≡ held l
      unfolding held_of
      fold_skips f = sym (ap (folded (state e)) (s.is ∙ ap (λ (y : Maybe Held). held_of y ++ inputs_after l (p + 1)) f)) ∙ i

      module _ {h : Held} (f : r ≡ Some h) where
        abbrev x : lists.Input
        x = input_of h.kind h.input.now

        abbrev goes : Bool → Option State
        goes z = elim z [ true ↦ folded (answer_to x (state e)).next (inputs_after l (p + 1)) | false ↦ none ]

        stepped : {z : Bool} → is_kept (answer_to x (state e)).number ≡ z → goes z ≡ held l
        unfolding held_of folded
        stepped u = sym (ap goes u) ∙ sym (ap (folded (state e)) (s.is ∙ ap (λ (y : Maybe Held). held_of y ++ inputs_after l (p + 1)) f)) ∙ i

        module _ {t : Turn} {o : List ℕ} (y : Answered (answer_to x (state e)) t o) {z : Bool} (d : z ≡ is_kept t.number) where
          known : {w : Bool} → z ≡ w → is_kept (answer_to x (state e)).number ≡ w
          known u = ap is_kept (sym y.turned.number) ∙ sym d ∙ u

          pub fold_next : z ≡ true → folded (state t.engine) (inputs_after l (p + 1)) ≡ held l
          fold_next u = ap (λ (v : State). folded v (inputs_after l (p + 1))) y.turned.next.is ∙ stepped (known u)

          pub fold_stops : z ≡ false → FoldedTo (held l) None
          fold_stops u = record { is = stepped (known u); whole = tt }

-- what a held input is
pub held_input : {l : List ℕ} {p : ℕ} {r : Maybe Held} → Stands l p r → (h : Held) → r ≡ Some h → is_input h.kind h.input.now ≡ true
held_input s h f = subst Within f s.within

pub name_long : (k : ℕ) (bs : List ℕ) → is_input k bs ≡ true → k ≡ 2 → length bs ≡ 32
name_long k bs i e = eqb-true (length bs) 32 (offer_input k bs (input_fits k bs i).1 e ∙ i)
