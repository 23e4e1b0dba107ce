-- 02, request 8: the places of the messages inside an envelope, and the list of them. Assumes nothing.
use Rattle.std.specs.Prelude.{ℕ, ◌+◌, List, [], ◌∷◌, ◌++◌, length, take, drop}
use Rattle.rules.specs.Lists.{unbe}
use Rattle.items.specs.Items.{Items, end, message, envelope, bytes_of}

-- a message's offset and its length, "of the message itself and not of its tag 31"
pub record Place : Type 0 where
  pub offset : ℕ
  pub size : ℕ

abbrev pub part_at : List ℕ → Place → List ℕ
part_at s p = take p.size (drop p.offset s)

-- the places of the messages in items that begin at an offset
unfoldable pub places_of : ℕ → Items → List Place
unfolding bytes_of
places_of at end = []
places_of at (message m r) = record { offset = at + 3; size = length m } ∷ places_of (at + 3 + length m) r
places_of at (envelope i r) = places_of (at + 3) i ++ places_of (at + 3 + length (bytes_of i)) r

-- "the list: 8 bytes for each message, its offset (4) and its length (4)"
unfoldable pub list_bytes : List Place → List ℕ
unfolding unbe
list_bytes [] = []
list_bytes (p ∷ ps) = unbe 4 p.offset ++ (unbe 4 p.size ++ list_bytes ps)
