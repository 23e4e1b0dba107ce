-- The numbers of refusals: 01, 'When the desk says no', and those of 02's requests. Assumes nothing.
use Rattle.std.specs.Prelude.{ℕ}
use Rattle.answer.specs.declared.Refusal.{Refusal}
use Rattle.answer.specs.declared.Refusal.TheVariants.{Lengths, Malformed, Stopped, Unreadable, NotAllowed, Full, Split, Clock, NoOffer, BadSettings, Ahead, UsedUp, Journal, Envelope, Slip}

abbrev pub number_of : Refusal → ℕ
number_of Lengths = 1
number_of Malformed = 2
number_of Stopped = 3
number_of Unreadable = 4
number_of NotAllowed = 5
number_of Full = 6
number_of Split = 7
number_of Clock = 8
number_of NoOffer = 9
number_of BadSettings = 10
number_of Ahead = 11
number_of UsedUp = 12
number_of Journal = 13
number_of Envelope = 14
number_of Slip = 15
