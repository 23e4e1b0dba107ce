-- The inputs of a list, slot by slot. Assumes nothing.
use Prim.Native.Nat.{ℕ, ◌+◌, ◌-◌, ◌*◌, ◌<◌, ◌≤◌}
use mathlib.Core.Path.{◌≡◌, sym, ap, ap₂, ◌∙◌, subst}
use mathlib.Core.Bool.{true}
use mathlib.Core.List.{List, [], ◌∷◌}
use native.Mathlib.Omega.{arith}
use lib.ListN.{length, take, drop}
use lib.Seq.{take-add, take_all, drop_at, take-take, drop-drop, length-take-le}
use lib.Dec.{leb, eqb}
use denote.Bor.{Bor}
use borrow.Author.Tests.{leb-true, leb-false}
use Rattle.laws.proofs.Tests.{by_bool, and_left}
use Rattle.fields.specs.Places.{number}
use Rattle.slots.specs.Slots as slots
use Rattle.slots.specs.Slots.{slot_length, most_input, is_input, record_bytes, sequence_in, kind_in, input_in, is_record, judged, whole}
use Rattle.slot_reader.specs.Meaning.{input_place, slot_of, Within, Judged}
use Rattle.slot_reader.specs.declared.Slot.{Slot}
use Rattle.slot_reader.specs.declared.Slot.TheVariants.{Blank, Torn, Bad, Whole}
use Rattle.slot_reader.proofs.OneForm.{whole_only}
use Rattle.journal.specs.Journal.{slot_count, slot_at, slots_from, slots_of}
use Rattle.journal.proofs.Rooms.{slots_step, slots_end}
use Rattle.lent_list.specs.Lists.{head_length, records_in, slots_in, has_length, input_of, inputs_in, inputs_of, inputs_after}
use Rattle.lent_list.specs.Meaning.{held_of, Stands}
use Rattle.std.specs.Prelude.{Some, None}
use Rattle.lent_list.proofs.Lengths.{behind_head}

-- from the first place on, and behind the last one
pub after_first : (l : List ℕ) → inputs_after l 0 ≡ inputs_of l
unfolding inputs_after inputs_of slots_of slots_in
after_first l = let e : slot_count (records_in l) - 0 ≡ slot_count (records_in l) = omega arith in ap (λ (n : ℕ). inputs_in (slots_from (records_in l) 0 n)) e

pub after_last : (l : List ℕ) (p : ℕ) → slots_in l ≤ p → inputs_after l p ≡ []
unfolding inputs_after inputs_in
after_last l p h = ap inputs_in (slots_end (records_in l) p (slots_in l) h)

-- what is judged whole is an input
whole_input : (s : List ℕ) (q k : ℕ) (bs : List ℕ) → judged s ≡ whole q k bs → is_input k bs ≡ true
unfolding is_record
whole_input s q k bs e =
    let w = whole_only s q k bs e in
    inputs (and_left (is_input (kind_in s) (input_in s)) (eqb (number s 0 slot_length) (number (record_bytes (sequence_in s) (kind_in s) (input_in s)) 0 slot_length)) w.0) w.1
  where
    inputs : is_input (kind_in s) (input_in s) ≡ true → whole (sequence_in s) (kind_in s) (input_in s) ≡ whole q k bs → is_input k bs ≡ true
    inputs i r = let a : kind_in s ≡ k = cc in let b : input_in s ≡ bs = cc in sym (ap₂ is_input a b) ∙ i

-- one slot, as the code judged it behind the head
module _ (l : List ℕ) (p n : ℕ) (d : p < slots_in l) {r : Slot} (g : Judged (judged (slot_at (take n (drop head_length l)) p)) r) (e : n ≡ length l - head_length) where
  here : {x : slots.Slot} → slot_of r ≡ x → judged (slot_at (records_in l) p) ≡ x
  here f = sym (g.is ∙ ap (λ (y : List ℕ). judged (slot_at y p)) (behind_head l n e)) ∙ f

  stepped : {x : slots.Slot} → slot_of r ≡ x → inputs_after l p ≡ inputs_in (x ∷ slots_from (records_in l) (p + 1) (slots_in l - (p + 1)))
  unfolding inputs_after
  stepped f =
      ap inputs_in (slots_step (records_in l) p (slots_in l) d) ∙ ap (λ x. inputs_in (x ∷ slots_from (records_in l) (p + 1) (slots_in l - (p + 1)))) (here f)

  pub nothing_blank : r ≡ Blank → Stands l p None
  unfolding held_of slot_of inputs_in inputs_after
  nothing_blank f = record { is = stepped (ap slot_of f); within = tt }

  pub nothing_torn : r ≡ Torn → Stands l p None
  unfolding held_of slot_of inputs_in inputs_after
  nothing_torn f = record { is = stepped (ap slot_of f); within = tt }

  pub nothing_bad : r ≡ Bad → Stands l p None
  unfolding held_of slot_of inputs_in inputs_after
  nothing_bad f = record { is = stepped (ap slot_of f); within = tt }

  pub one_input : {q k : ℕ} {i : Bor (List ℕ)} → r ≡ Whole q k i → Stands l p (Some (record { kind = k; input = i }))
  unfolding held_of slot_of inputs_in inputs_after
  one_input {q} {k} {i} f = record { is = stepped (ap slot_of f); within = whole_input (slot_at (records_in l) p) q k i.now (here (ap slot_of f)) }
