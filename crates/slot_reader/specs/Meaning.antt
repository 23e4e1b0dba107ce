-- What the code's answer on a slot means, and that its input is as short as a slot has room for. Assumes nothing.
use Rattle.std.specs.Prelude.{ℕ, ◌^◌, ◌<◌, ◌≤◌, ◌≡◌, length}
use Rattle.slots.specs.Slots as slots
use Rattle.slots.specs.Slots.{most_input}
use Rattle.slot_reader.specs.declared.Slot.{Slot}
use Rattle.slot_reader.specs.declared.Slot.TheVariants.{Blank, Torn, Bad, Whole}

-- the input of a record begins behind two tags, two lengths, its number and its kind
abbrev pub input_place : ℕ
input_place = 11

unfoldable pub slot_of : Slot → slots.Slot
slot_of Blank = slots.blank
slot_of Torn = slots.torn
slot_of Bad = slots.bad
slot_of (Whole q k i) = slots.whole q k i.now

abbrev pub Within : Slot → Type 0
Within Blank = Unit
Within Torn = Unit
Within Bad = Unit
Within (Whole q k i) = (length i.now ≤ most_input) × (q < 2 ^ 32)

-- the code's answer is what the slot holds
pub record Judged (held : slots.Slot) (r : Slot) : Type 0 where
  pub is : slot_of r ≡ held
  pub within : Within r
