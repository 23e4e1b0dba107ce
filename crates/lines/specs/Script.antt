-- docs/SCRIPT.md, 'Lines': the first words, and what a line means. Assumes nothing.
use Rattle.std.specs.Prelude.{ℕ, true, false, List, [], ◌∷◌, ◌++◌, length, get_or}
use Prim.Native.String.{String}
use Rattle.std.proofs.Math.Option.{none, some}
use Rattle.rules.specs.Lists.{unbe}
use Rattle.rules.specs.Messages.{write, row_of}
use Rattle.rules.specs.Script.{same_list}
use Rattle.text.specs.Words.{bytes, word, rest, no_word, pairs, is_bytes}
use Rattle.parts.specs.Fields.{Got, got, wrong, reads}
use Rattle.parts.specs.declared.Flaw.{Flaw}
use Rattle.parts.specs.declared.Flaw.TheVariants as flaw
use Rattle.lines.specs.declared.What.{What}
use Rattle.lines.specs.declared.What.TheVariants.{Message, Offer, Envelope, Slip, Certified, Choose}

-- one word of bytes in hex, and then no word
unfoldable pub hex : List ℕ → Got
unfolding no_word is_bytes pairs word rest
hex s =
    elim (no_word s) [
      | true ↦ wrong flaw.Missing
      | false ↦ elim (is_bytes (word s)) [
        | false ↦ wrong flaw.Hex
        | true ↦ elim (no_word (rest s)) [ true ↦ got (pairs (word s)) | false ↦ wrong flaw.Extra ]
      ]
    ]

-- ---- what a line means

pub data Meaning : Type 0 where
  blank : Meaning
  fresh : (n delay own : ℕ) → Meaning
  tick : (count : ℕ) → Meaning
  given : What → List ℕ → Meaning
  log : Meaning
  state : Meaning
  display : Meaning
  bad : Flaw → Meaning

abbrev pub message : List ℕ → Meaning
message = given Message

abbrev pub offer : List ℕ → Meaning
offer = given Offer

unfoldable pub meant : (List ℕ → Meaning) → Got → Meaning
meant f (got vs) = f vs
meant f (wrong e) = bad e

-- a message in words: the fields of its kind
unfoldable pub spoken : ℕ → List ℕ → Meaning
unfolding row_of meant reads write
spoken k s =
    elim (row_of k) [
      | none ↦ bad flaw.Word
      | some row ↦ meant (λ vs. message (write (row.make (λ i. get_or vs i 0)))) (reads row.tags s)
    ]

unfoldable pub freshened : List ℕ → Meaning
unfolding meant reads
freshened s = meant (λ vs. fresh (get_or vs 0 0) (get_or vs 1 0) (get_or vs 2 0)) (reads (0 ∷ 0 ∷ 0 ∷ []) s)

-- "`tick`: one tick of the clock; `tick K`: K ticks"
unfoldable pub ticked : List ℕ → Meaning
unfolding no_word meant reads
ticked s = elim (no_word s) [ true ↦ tick 1 | false ↦ meant (λ vs. tick (get_or vs 0 0)) (reads (0 ∷ []) s) ]

unfoldable pub alone : Meaning → List ℕ → Meaning
unfolding meant reads
alone m s = meant (λ _. m) (reads [] s)

unfoldable pub hexed : What → List ℕ → Meaning
unfolding meant hex
hexed x s = meant (given x) (hex s)

-- two words of bytes in hex, and then no word
unfoldable pub chosen : List ℕ → Meaning
unfolding no_word is_bytes pairs word rest meant hex
chosen s =
    elim (no_word s) [
      | true ↦ bad flaw.Missing
      | false ↦ elim (is_bytes (word s)) [
        | false ↦ bad flaw.Hex
        | true ↦ meant (λ bs. given (Choose (length (pairs (word s)))) (pairs (word s) ++ bs)) (hex (rest s))
      ]
    ]

-- a name, as its 32 bytes
unfoldable pub slipped : List ℕ → Meaning
unfolding meant reads unbe
slipped s = meant (λ vs. given Slip (unbe 32 (get_or vs 0 0))) (reads (4 ∷ []) s)

-- a view and a height, and a name as its 32 bytes
unfoldable pub certified : List ℕ → Meaning
unfolding meant reads unbe
certified s = meant (λ vs. given (Certified (get_or vs 0 0) (get_or vs 1 0)) (unbe 32 (get_or vs 2 0))) (reads (2 ∷ 3 ∷ 4 ∷ []) s)

-- a first word, and what it makes of the words behind it
pub record Order : Type 0 where
  pub first : List ℕ
  pub means : List ℕ → Meaning

unfoldable pub order : String → (List ℕ → Meaning) → Order
unfolding bytes
order t f = record { first = bytes t; means = f }

unfoldable pub orders : List Order
unfolding order spoken freshened ticked alone hexed chosen slipped certified
orders =
    order "new-view" (spoken 1)
    ∷ order "propose" (spoken 2)
    ∷ order "vote" (spoken 3)
    ∷ order "blame" (spoken 4)
    ∷ order "blame-set" (spoken 5)
    ∷ order "status" (spoken 6)
    ∷ order "fresh" freshened
    ∷ order "tick" ticked
    ∷ order "message" (hexed Message)
    ∷ order "offer" (hexed Offer)
    ∷ order "log" (alone log)
    ∷ order "state" (alone state)
    ∷ order "display" (alone display)
    ∷ order "envelope" (hexed Envelope)
    ∷ order "choose" chosen
    ∷ order "slip" slipped
    ∷ order "certified" certified
    ∷ []

-- the order of a first word, "a line that is none of these is said to be so"
unfoldable pub ordered : List Order → List ℕ → List ℕ → Meaning
unfolding same_list
ordered [] w s = bad flaw.Word
ordered (o ∷ os) w s = elim (same_list o.first w) [ true ↦ o.means s | false ↦ ordered os w s ]

-- "a line without a word is passed over"
unfoldable pub line_of : List ℕ → Meaning
unfolding no_word ordered orders word rest
line_of s = elim (no_word s) [ true ↦ blank | false ↦ ordered orders (word s) (rest s) ]
