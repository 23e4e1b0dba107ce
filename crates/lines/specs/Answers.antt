-- What the code answers, in the words of the definitions. Assumes nothing.
use Rattle.std.specs.Prelude.{ℕ, ◌≤◌, ◌≡◌, true, false, List, length, drop, leb, Result, Ok, Err}
use Rattle.outgoing.specs.Wrote.{wrote}
use Rattle.text.specs.Words.{word, no_word, is_bytes, pairs}
use Rattle.text.specs.Places.{WordOf}
use Rattle.text.specs.declared.Span.{Span}
use Rattle.parts.specs.Fields.{got, wrong}
use Rattle.lines.specs.Script.{hex, chosen, Meaning, blank, fresh, tick, given, log, state, display, bad}
use Rattle.parts.specs.declared.Flaw.TheVariants.{Long}
use Rattle.parts.specs.declared.Flaw.{Flaw}
use Rattle.lines.specs.declared.Line.{Line}
use Rattle.lines.specs.declared.Line.TheVariants.{Blank, Fresh, Tick, Bytes, Log, State, Display, Bad}

-- the answer to a line that means m, with a buffer of so much room, and what it leaves of the buffer
unfoldable pub answer : ℕ → Meaning → Line
answer room blank = Blank
answer room (fresh n d own) = Fresh n d own
answer room (tick k) = Tick k
answer room (given x bs) = elim (leb (length bs) room) [ true ↦ Bytes x (length bs) | false ↦ Bad Long ]
answer room log = Log
answer room state = State
answer room display = Display
answer room (bad f) = Bad f

-- the bytes of a line stand at the buffer's start, if there is room; all else is as it was
unfoldable pub fill : List ℕ → List ℕ → List ℕ
unfolding wrote
fill o bs = elim (leb (length bs) (length o)) [ true ↦ wrote o 0 bs | false ↦ o ]

unfoldable pub left : List ℕ → Meaning → List ℕ
unfolding fill
left o blank = o
left o (fresh n d own) = o
left o (tick k) = o
left o (given x bs) = fill o bs
left o log = o
left o state = o
left o display = o
left o (bad f) = o

-- a line that writes nothing to the buffer, whatever its room
pub record WritesNothing (m : Meaning) (r : Line) : Type 0 where
  pub is : (room : ℕ) → r ≡ answer room m
  pub still : (o : List ℕ) → left o m ≡ o

-- what is wrong with a line is an answer too
abbrev pub or_bad : Result Line Flaw → Line
or_bad (Ok r) = r
or_bad (Err f) = Bad f

-- a word of bytes in hex stands at a place, or what is wrong with one such word and with two
abbrev pub HexWord : List ℕ → ℕ → Result Span Flaw → Type 0
HexWord s at (Ok w) = WordOf s (drop at s) w × (no_word (drop at s) ≡ false) × (is_bytes (word (drop at s)) ≡ true)
HexWord s at (Err f) = (hex (drop at s) ≡ wrong f) × (chosen (drop at s) ≡ bad f)

-- the same, and no word stands behind it
abbrev pub LastHex : List ℕ → ℕ → Result Span Flaw → Type 0
LastHex s at (Ok w) = WordOf s (drop at s) w × (hex (drop at s) ≡ got (pairs (word (drop at s))))
LastHex s at (Err f) = hex (drop at s) ≡ wrong f

-- how many bytes of the buffer a line fills
abbrev pub filled : Line → ℕ
filled Blank = 0
filled (Fresh n d own) = 0
filled (Tick k) = 0
filled (Bytes x k) = k
filled Log = 0
filled State = 0
filled Display = 0
filled (Bad f) = 0

-- reading a line that means m into the buffer o leaves the buffer o' and answers r
pub record Reads (m : Meaning) (o o' : List ℕ) (r : Line) : Type 0 where
  pub is : r ≡ answer (length o) m
  pub out : o' ≡ left o m
  pub fits : filled r ≤ length o
  pub kept : length o' ≡ length o
