-- Lines and what they mean, evaluated together under a single claim. Assumes nothing.
use Rattle.std.specs.Prelude.{◌≡◌, refl, [], ◌∷◌, map, ◌-◌, ◌^◌}
use Prim.Native.String.{String}
use Rattle.rules.specs.Lists.{unbe}
use Rattle.rules.specs.Messages.{new_view, propose, vote, blame, blame_set, status, write}
use Rattle.text.specs.Words.{bytes}
use Rattle.lines.specs.Script.{Meaning, blank, fresh, tick, given, message, offer, log, display, bad, line_of}
use Rattle.lines.specs.declared.What.TheVariants.{Envelope, Slip, Certified, Choose}
use Rattle.parts.specs.declared.Flaw.TheVariants.{Word, Missing, Extra, Number, Hex, Name, Mask}

meant : String → Meaning
unfolding line_of bytes
meant t = line_of (bytes t)

the_lines : map meant
    ("" ∷ " \t\r" ∷ "# fresh 3 2 1" ∷ "fresh 3 2 1" ∷ "fresh\t3 2  1\r" ∷ "fresh 3 2" ∷ "fresh 3 2 1 0" ∷ "fresh 3 two 1"
    ∷ "tick" ∷ "tick 13# now" ∷ "tick 18446744073709551615" ∷ "tick 18446744073709551616" ∷ "tick -1" ∷ "tick 1 2"
    ∷ "message 00fF1a" ∷ "message -" ∷ "message 0" ∷ "message 0g" ∷ "message" ∷ "message 00 11" ∷ "offer 01" ∷ "log" ∷ "state 1" ∷ "states" ∷ "display" ∷ "display 1"
    ∷ "envelope 3000" ∷ "envelope" ∷ "choose 01 0203" ∷ "choose - -" ∷ "choose 01" ∷ "choose 0 01" ∷ "choose 01 0" ∷ "choose 01 02 03" ∷ "slip ff" ∷ "slip name ff 1" ∷ "slip"
    ∷ "certified 1 3 ff" ∷ "certified view 33 height 0 name 0" ∷ "certified 1 3" ∷ "certified 4294967296 3 ff" ∷ "certified 1 3 fg" ∷ "certified 1 3 ff 0"
    ∷ "blame view 1 author 2" ∷ "blame 1 2" ∷ "blame 1 author 2" ∷ "blame author 1 2" ∷ "blame view" ∷ "blame 4294967296 2" ∷ "blame 1 256"
    ∷ "vote view 1 height 3 name a1b2 author 0" ∷ "vote 1 3 a1b2 0" ∷ "vote 33 3 A1B2 255" ∷ "vote 1 3 a1g2 0"
    ∷ "blame-set 1 0+2" ∷ "blame-set view 1 mask 2+0+15" ∷ "blame-set 1 -" ∷ "blame-set 1 16" ∷ "blame-set 1 0+" ∷ "blame-set 1 0,2"
    ∷ "new-view 2 1 ff certificate 1 0+1 author 2" ∷ "propose 1 1 ff parent 0 mask 0+1 1" ∷ "status 1 ff certificate 1 mask 0+1" ∷ [])
    ≡ blank ∷ blank ∷ blank ∷ fresh 3 2 1 ∷ fresh 3 2 1 ∷ bad Missing ∷ bad Extra ∷ bad Number
    ∷ tick 1 ∷ tick 13 ∷ tick (2 ^ 64 - 1) ∷ bad Number ∷ bad Number ∷ bad Extra
    ∷ message (0x00 ∷ 0xFF ∷ 0x1A ∷ []) ∷ message [] ∷ bad Hex ∷ bad Hex ∷ bad Missing ∷ bad Extra ∷ offer (0x01 ∷ []) ∷ log ∷ bad Extra ∷ bad Word ∷ display ∷ bad Extra
    ∷ given Envelope (0x30 ∷ 0x00 ∷ []) ∷ bad Missing ∷ given (Choose 1) (0x01 ∷ 0x02 ∷ 0x03 ∷ []) ∷ given (Choose 0) [] ∷ bad Missing ∷ bad Hex ∷ bad Hex ∷ bad Extra
    ∷ given Slip (unbe 32 255) ∷ bad Extra ∷ bad Missing
    ∷ given (Certified 1 3) (unbe 32 255) ∷ given (Certified 33 0) (unbe 32 0) ∷ bad Missing ∷ bad Number ∷ bad Name ∷ bad Extra
    ∷ message (write (blame 1 2)) ∷ message (write (blame 1 2)) ∷ message (write (blame 1 2)) ∷ bad Number ∷ bad Missing ∷ bad Number ∷ bad Number
    ∷ message (write (vote 1 3 0xA1B2 0)) ∷ message (write (vote 1 3 0xA1B2 0)) ∷ message (write (vote 33 3 0xA1B2 255)) ∷ bad Name
    ∷ message (write (blame_set 1 5)) ∷ message (write (blame_set 1 32773)) ∷ message (write (blame_set 1 0)) ∷ bad Mask ∷ bad Mask ∷ bad Mask
    ∷ message (write (new_view 2 1 255 1 3 2)) ∷ message (write (propose 1 1 255 0 3 1)) ∷ message (write (status 1 255 1 3)) ∷ []
unfolding meant write unbe
the_lines = refl
