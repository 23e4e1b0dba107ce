-- 02, request 1: the bytes of a journal's record, what a slot of 128 bytes holds, and what writing one record answers. Assumes nothing.
use Rattle.std.specs.Prelude.{ℕ, ◌-◌, ◌*◌, ◌^◌, Bool, true, false, ◌&&◌, ◌||◌, List, [], ◌∷◌, ◌++◌, length, take, drop, get_or, replicate, leb, ltb, eqb}
use Rattle.std.proofs.Math.Option.{none, some}
use Rattle.rules.specs.Lists.{unbe}
use Rattle.rules.specs.Messages.{field, read}
use Rattle.fields.specs.Places.{number}

-- "slots of 128 bytes"
abbrev pub slot_length : ℕ
slot_length = 128

-- what a slot has room for beside its tags, lengths, numbers and last byte
abbrev pub most_input : ℕ
most_input = 116

unfoldable pub is_readable : List ℕ → Bool
is_readable bs = elim (read bs) [ none ↦ false | some m ↦ true ]

-- "one input (a kind byte, 1 tick, 2 offer, 3 message, then nothing, the name or the message)"
unfoldable pub is_input : ℕ → List ℕ → Bool
is_input k bs =
    leb (length bs) most_input
    && elim (eqb k 1) [ true ↦ eqb (length bs) 0 | false ↦ elim (eqb k 2) [ true ↦ eqb (length bs) 32 | false ↦ eqb k 3 && is_readable bs ] ]

-- "one input answered 0, 6, 7 or 8": whether one that is answered with this number is kept
unfoldable pub is_kept : ℕ → Bool
is_kept k = eqb k 0 || eqb k 6 || eqb k 7 || eqb k 8

-- "tag 20 with a four-byte sequence number, tag 21 with one input, zeros, and last byte 5A"
unfoldable pub record_bytes : ℕ → ℕ → List ℕ → List ℕ
record_bytes q k bs = field 0x20 (unbe 4 q) ++ (field 0x21 (k ∷ bs) ++ (replicate (most_input - length bs) 0 ++ (0x5A ∷ [])))

-- "slots start zeroed"
unfoldable pub is_blank : List ℕ → Bool
is_blank s = eqb (number s 0 slot_length) 0

-- "last byte 5A"
unfoldable pub is_ended : List ℕ → Bool
is_ended s = eqb (get_or s 127 0) 0x5A

-- what stands where a record has its number, its kind and its input
unfoldable pub sequence_in : List ℕ → ℕ
sequence_in s = number s 3 4

unfoldable pub value_in : List ℕ → List ℕ
value_in s = take (number s 8 2) (drop 10 s)

unfoldable pub kind_in : List ℕ → ℕ
kind_in s = get_or (value_in s) 0 0

unfoldable pub input_in : List ℕ → List ℕ
input_in s = drop 1 (value_in s)

-- a slot is such a record to the last byte
unfoldable pub is_record : List ℕ → Bool
is_record s =
    is_input (kind_in s) (input_in s) && eqb (number s 0 slot_length) (number (record_bytes (sequence_in s) (kind_in s) (input_in s)) 0 slot_length)

-- a slot: "torn (not blank, last byte not 5A)"; bad is "a slot ending in 5A that doesn't read"
pub data Slot : Type 0 where
  blank torn bad : Slot
  whole : (sequence kind : ℕ) (input : List ℕ) → Slot

-- what a slot ending in 5A holds
unfoldable pub record_in : List ℕ → Slot
record_in s = elim (is_record s) [ false ↦ bad | true ↦ whole (sequence_in s) (kind_in s) (input_in s) ]

unfoldable pub judged : List ℕ → Slot
judged s = elim (is_blank s) [ true ↦ blank | false ↦ elim (is_ended s) [ false ↦ torn | true ↦ record_in s ] ]

-- ---- writing one record into a slot

-- what a host is told, and what is left of the bytes that it lent
pub record Written : Type 0 where
  pub result : ℕ
  pub bytes : List ℕ

unfoldable pub written : ℕ → List ℕ → Written
written r b = record { result = r; bytes = b }

-- a record may go into a slot that is blank, under a number of 4 bytes, if it is an input
unfoldable pub may_put : List ℕ → ℕ → ℕ → List ℕ → Bool
may_put s q k bs = is_blank s && ltb q (2 ^ 32) && is_input k bs

-- 1 for a slot that isn't of its length; "refused with 13 and nothing is written"; else the record, and its length as count
unfoldable pub putting : List ℕ → ℕ → ℕ → List ℕ → Written
putting s q k bs =
    elim (eqb (length s) slot_length) [
      | false ↦ written (1 * 2 ^ 32) s
      | true ↦ elim (may_put s q k bs) [ false ↦ written (13 * 2 ^ 32) s | true ↦ written slot_length (record_bytes q k bs) ]
    ]
