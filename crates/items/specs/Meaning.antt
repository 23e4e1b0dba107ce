-- What the code's answers on an item and on a list of items mean. Assumes nothing.
use Rattle.std.specs.Prelude.{ℕ, ◌+◌, ◌≤◌, ◌≡◌, List, length, Option as Maybe, Some, None}
use Rattle.std.proofs.Math.Option.{Option, none, some}
use Rattle.fields.specs.Places.{number}
use Rattle.items.specs.Items.{Items, messages_of}
use Rattle.items.specs.Reading.{item_in, inside}
use Rattle.items.specs.declared.Item.{Item}

-- the number of messages of what was read
unfoldable pub count_of : Option Items → Maybe ℕ
count_of none = None
count_of (some i) = Some (length (messages_of i))

-- of an item also its bytes
unfoldable pub item_of : List ℕ → Option Items → Maybe Item
item_of bs none = None
item_of bs (some i) = Some (record { size = 3 + number bs 1 2; count = length (messages_of i) })

-- no more messages than bytes
abbrev pub Few : ℕ → Maybe ℕ → Type 0
Few n (Some m) = m ≤ n
Few n None = Unit

-- an item takes three bytes at least, and no more than there are
abbrev pub Within : ℕ → Maybe Item → Type 0
Within n (Some i) = (3 ≤ i.size) × (i.size ≤ n) × (i.count ≤ i.size)
Within n None = Unit

-- the code's answer on the first of some items, and on all of them, where envelopes of d depths more may be read
pub record FirstOf (d : ℕ) (bs : List ℕ) (r : Maybe Item) : Type 0 where
  pub is : r ≡ item_of bs (item_in (inside d) bs)
  pub within : Within (length bs) r

pub record AllOf (o : Option Items) (bs : List ℕ) (r : Maybe ℕ) : Type 0 where
  pub is : r ≡ count_of o
  pub few : Few (length bs) r
