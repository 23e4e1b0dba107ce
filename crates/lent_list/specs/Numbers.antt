-- The numbers of the plain engine's own refusals: 01, 'When the desk says no', and those of 02's request 13. Assumes nothing.
use Rattle.std.specs.Prelude.{ℕ}
use Rattle.lent_list.specs.declared.Refusal.{Refusal}
use Rattle.lent_list.specs.declared.Refusal.TheVariants.{Lengths, Malformed, BadSettings, NoSlot}

abbrev pub number_of : Refusal → ℕ
number_of Lengths = 1
number_of Malformed = 2
number_of BadSettings = 10
number_of NoSlot = 13
