-- Fields at places of a message, and the place of a reader in it. A reader that misses a field is lost: its place is past the end, where nothing stands. Assumes nothing.
use Rattle.std.specs.Prelude.{ℕ, zero, suc, ◌+◌, ◌*◌, ◌≤◌, ◌≡◌, Bool, true, false, ◌&&◌, List, [], ◌∷◌, length, get_or, leb, eqb}
use Rattle.std.proofs.Math.Option.{Option, none, some}
use Rattle.fields.specs.Places.{number}
use Rattle.rules.specs.Lists.{any}
use Rattle.rules.specs.Messages.{Message, width, tags_of, row_of}
use Rattle.rules.specs.Sizes.{holds}

-- the tag and the length of a field, as one number of three bytes
abbrev pub head : ℕ → ℕ → ℕ
head t w = t * 65_536 + w

-- whether a field of this tag and width stands at a place
unfoldable pub is_field : List ℕ → ℕ → ℕ → ℕ → Bool
unfolding number
is_field s at t w = leb (at + 3 + w) (length s) && eqb (number s at 3) (head t w)

-- the place behind it, past the end where it doesn't stand there
unfoldable pub behind : List ℕ → ℕ → ℕ → ℕ → ℕ
unfolding is_field
behind s at t w = elim (is_field s at t w) [ true ↦ at + 3 + w | false ↦ suc (length s) ]

-- "exactly these": whether a message of a kind has a field of a tag; every message has its kind
unfoldable pub has : ℕ → ℕ → Bool
unfolding any tags_of
has k t = any (eqb t) (1 ∷ tags_of k)

-- the same of tags as the bits of a number
abbrev pub Tags : ℕ → ℕ → Type 0
Tags k m = (t : ℕ) → t ≤ 8 → holds m t ≡ has k t

-- a place in a message, and the kind that was read before it, 0 where none was
pub record Place : Type 0 where
  pub at : ℕ
  pub kind : ℕ

-- the first place
abbrev pub start : Place
start = record { at = 0; kind = 0 }

-- the kind behind the field of a tag: "01 kind"
unfoldable pub kind_behind : List ℕ → ℕ → Place → ℕ
unfolding is_field number width
kind_behind s t p = elim (is_field s p.at t (width t) && eqb t 1) [ true ↦ number s (p.at + 3) 1 | false ↦ p.kind ]

-- the place behind the field of a tag, if the kind has one
unfoldable pub moved : List ℕ → ℕ → Place → Place
unfolding has behind kind_behind width
moved s t p =
    elim (has p.kind t) [
      | true ↦ record { at = behind s p.at t (width t); kind = kind_behind s t p }
      | false ↦ p
    ]

-- "fields stand in ascending tag order": the place behind those of the tags up to one
unfoldable pub walked : List ℕ → ℕ → Place
unfolding moved
walked s zero = start
walked s (suc t) = moved s (suc t) (walked s t)

-- the values of fields that stand one behind the other, from a place on
unfoldable pub values_from : List ℕ → List ℕ → ℕ → List ℕ
unfolding number width
values_from s [] at = []
values_from s (t ∷ ts) at = number s (at + 3) (width t) ∷ values_from s ts (at + 3 + width t)

-- the message of a kind whose fields stand behind the first; none where the kind isn't one
unfoldable pub made : List ℕ → ℕ → Option Message
unfolding row_of values_from
made s k = elim (row_of k) [ none ↦ none | some row ↦ some (row.make (λ i. get_or (values_from s row.tags 4) i 0)) ]

-- what is read where the fields are behind: a message, if this is its end
unfoldable pub ended : List ℕ → Place → Option Message
unfolding made
ended s p = elim (eqb p.at (length s)) [ true ↦ made s p.kind | false ↦ none ]
