-- The fields of a kind, and the message that they make. Assumes nothing.
use Rattle.std.specs.Prelude.{ℕ, ◌≡◌, ◌≤◌, Bool, true, false, List, ◌∷◌, length, drop, eqb, Result, Ok, Err}
use Rattle.rules.specs.Lists.{any}
use Rattle.rules.specs.Messages as messages
use Rattle.rules.specs.Messages.{tags_of, write, new_view, propose, vote, blame, blame_set, status}
use Rattle.fields.specs.Names.{name_of}
use Rattle.wire.specs.declared.Message.{Message}
use Rattle.wire.specs.Meaning.{message_of, Writable}
use Rattle.parts.specs.Fields.{Got, wrong, onto, reads, field_of}
use Rattle.parts.specs.Places.{Holds}
use Rattle.parts.specs.declared.Flaw.{Flaw}
use Rattle.parts.specs.declared.Part.{Part}
use Rattle.lines.specs.Script.{Meaning, message, bad}
use Rattle.lines.specs.declared.kinds.Kind.{Kind}
use Rattle.lines.specs.declared.kinds.Kind.TheVariants.{NewView, Propose, Vote, Blame, BlameSet, Status}

-- a kind's number in the rules' table
abbrev pub number_of : Kind → ℕ
number_of NewView = 1
number_of Propose = 2
number_of Vote = 3
number_of Blame = 4
number_of BlameSet = 5
number_of Status = 6

-- whether a kind has a field, by its tag
unfoldable pub has : ℕ → ℕ → Bool
unfolding any tags_of
has k t = any (eqb t) (tags_of k)

-- the tags of a kind from one on, and a value that is there if its tag is
unfoldable pub tagged : ℕ → ℕ → List ℕ → List ℕ
unfolding has
tagged k t ts = elim (has k t) [ true ↦ t ∷ ts | false ↦ ts ]

unfoldable pub onto_if : ℕ → ℕ → ℕ → Got → Got
unfolding has onto
onto_if k t v g = elim (has k t) [ true ↦ onto v g | false ↦ g ]

-- a field of a kind that may not have it was read: its value, and the place behind it
pub record Own (s : List ℕ) (at : ℕ) (k : Kind) (t : ℕ) (p : Part) : Type 0 where
  pub goes : (ts : List ℕ) → reads (tagged (number_of k) t ts) (drop at s) ≡ onto_if (number_of k) t (name_of p.value) (reads ts (drop p.next s))
  pub inside : p.next ≤ length s
  pub holds : Holds (field_of t).sort p.value

-- the same, or what is wrong, whatever fields stand behind
abbrev pub OwnRead : List ℕ → ℕ → Kind → ℕ → Result Part Flaw → Type 0
OwnRead s at k t (Ok p) = Own s at k t p
OwnRead s at k t (Err f) = (ts : List ℕ) → reads (tagged (number_of k) t ts) (drop at s) ≡ wrong f

-- the message of a kind and of the values by tag
unfoldable pub makes : ℕ → (v h b p c m a : ℕ) → messages.Message
makes k v h b p c m a =
    elim (eqb k 1) [
      | true ↦ new_view v h b c m a
      | false ↦
          elim (eqb k 2) [
            | true ↦ propose v h b p m a
            | false ↦
                elim (eqb k 3) [
                  | true ↦ vote v h b a
                  | false ↦
                      elim (eqb k 4) [
                        | true ↦ blame v a
                        | false ↦
                            elim (eqb k 5) [ true ↦ blame_set v m | false ↦ status h b c m ]
                      ]
                ]
          ]
    ]

abbrev pub heard_of : Result Message Flaw → Meaning
heard_of (Ok m) = message (write (message_of m))
heard_of (Err f) = bad f

abbrev pub CanWrite : Result Message Flaw → Type 0
CanWrite (Ok m) = Writable m
CanWrite (Err f) = Unit
