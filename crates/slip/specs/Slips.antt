-- 02, request 6: a slip, its bytes, and the first bad place of any bytes. Nothing here knows of a store. Assumes nothing.
use Rattle.std.specs.Prelude.{ℕ, zero, suc, ◌+◌, ◌*◌, ◌^◌, Bool, true, false, not, ◌&&◌, List, [], ◌∷◌, ◌++◌, length, eqb}
use Rattle.std.proofs.Math.Option.{none, some}
use Rattle.fields.specs.Places.{number}
use Rattle.rules.specs.Lists.{unbe}
use Rattle.rules.specs.Messages.{field, allowed}
use Rattle.rules.specs.Sizes.{Settings, quorum}
use Rattle.rules.specs.Words.{Statement, message, certificate, same_block}
use Rattle.wire.specs.Fields.{is_field}
use Rattle.groups.specs.Groups.{group}
use Rattle.slip_entries.specs.Entries.{entry_bytes, entry_at, parent_in}

-- ---- "a block name and a list of proposes, from that block down to height 1"

-- "each propose is allowed"
unfoldable pub is_entry : Settings → Statement → Bool
unfolding allowed message
is_entry g x = not x.is_new_view && allowed g (message x)

-- a block as the entry above it certifies it: in that entry's view
unfoldable pub certifies : Settings → Statement → Statement → Bool
unfolding quorum same_block certificate
certifies g x y = quorum g x.mask && same_block (certificate x) (record { view = x.view; height = y.height; name = y.name; mask = 0 })

-- "each parent is the next name, heights fall by one, and each entry below the top is certified by the one above it"
unfoldable pub follows : Settings → Statement → Statement → Bool
unfolding certifies
follows g x y = eqb x.link y.name && eqb x.height (suc y.height) && certifies g x y

-- from an entry down to height 1
unfoldable pub is_chain : Settings → Statement → List Statement → Bool
unfolding is_entry follows
is_chain g x [] = is_entry g x && eqb x.height 1
is_chain g x (y ∷ ys) = is_entry g x && follows g x y && is_chain g y ys

-- the slip of a name
unfoldable pub is_slip : Settings → ℕ → List Statement → Bool
unfolding is_chain
is_slip g b [] = false
is_slip g b (x ∷ xs) = eqb b x.name && is_chain g x xs

-- ---- "tag 40 with the name, then each propose in a tag 41"

unfoldable pub entries_bytes : List Statement → List ℕ
unfolding entry_bytes
entries_bytes [] = []
entries_bytes (x ∷ xs) = entry_bytes x ++ entries_bytes xs

unfoldable pub slip_bytes : ℕ → List Statement → List ℕ
unfolding field unbe entries_bytes
slip_bytes b xs = field 0x40 (unbe 32 b) ++ entries_bytes xs

-- ---- the checker: "whoever put the slip together"

-- where the name ends, and where the entry of a place stands
abbrev pub name_end : ℕ
name_end = 35

abbrev pub entry_length : ℕ
entry_length = 100

abbrev pub entry_place : ℕ → ℕ
entry_place k = name_end + entry_length * k

-- accepted, with the number of entries; or refused, with "the first bad place, counted from the top"
pub data Verdict : Type 0 where
  accepted : (entries : ℕ) → Verdict
  refused : (place : ℕ) → Verdict

-- from a place on, where the block of a height and a name is to stand: "a missing, extra or unreadable entry at its own place"
unfoldable pub judge_from : Settings → List ℕ → ℕ → ℕ → ℕ → Verdict
unfolding entry_at parent_in
judge_from g s zero b k = elim (eqb (entry_place k) (length s)) [ true ↦ accepted k | false ↦ refused k ]
judge_from g s (suc h) b k = elim (parent_in g (suc h) b (entry_at s (entry_place k))) [ none ↦ refused k | some p ↦ judge_from g s h p (suc k) ]

-- the top says its height itself; where it is missing it isn't below height 1
unfoldable pub top_height : List ℕ → ℕ
unfolding entry_at
top_height s = elim (entry_at s name_end) [ none ↦ 1 | some x ↦ x.height ]

-- "the top is place 0; a bad name counts there"
unfoldable pub judged : Settings → List ℕ → Verdict
unfolding is_field number judge_from top_height
judged g s = elim (is_field s 0 0x40 32) [ false ↦ refused 0 | true ↦ judge_from g s (top_height s) (number s 3 32) 0 ]

-- ---- what a host is told

-- "refused with number 15 and the first bad place"
unfoldable pub answer_of : Verdict → ℕ
answer_of (accepted k) = k
answer_of (refused k) = 15 * 2 ^ 32 + k

-- 10 for a kind or an n that isn't good
unfoldable pub checked : ℕ → ℕ → List ℕ → ℕ
unfolding group judged answer_of
checked k n s = elim (group k n) [ none ↦ 10 * 2 ^ 32 | some g ↦ answer_of (judged g s) ]
