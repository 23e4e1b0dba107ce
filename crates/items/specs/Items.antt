-- 02, request 8: "an envelope is tag 30 with a list of items; an item is a message in tag 31 or another envelope". What items are, their
-- bytes and the messages inside. Assumes nothing.
use Rattle.std.specs.Prelude.{ℕ, zero, suc, ◌≡◌, true, List, [], ◌∷◌, ◌++◌}
use Rattle.rules.specs.Messages.{field}
use Rattle.slots.specs.Slots.{is_readable}

-- no items; or a message or an envelope, and the items behind it
pub data Items : Type 0 where
  end : Items
  message : (bytes : List ℕ) (behind : Items) → Items
  envelope : (inside behind : Items) → Items

abbrev pub envelope_tag : ℕ
envelope_tag = 0x30

abbrev pub message_tag : ℕ
message_tag = 0x31

unfoldable pub bytes_of : Items → List ℕ
unfolding field
bytes_of end = []
bytes_of (message m r) = field message_tag m ++ bytes_of r
bytes_of (envelope i r) = field envelope_tag (bytes_of i) ++ bytes_of r

-- "every message inside", "once, left to right"
unfoldable pub messages_of : Items → List (List ℕ)
messages_of end = []
messages_of (message m r) = m ∷ messages_of r
messages_of (envelope i r) = messages_of i ++ messages_of r

-- some items, and others behind them
unfoldable pub joined : Items → Items → Items
joined end j = j
joined (message m r) j = message m (joined r j)
joined (envelope i r) j = envelope i (joined r j)

-- messages as items: what "flat envelopes" hold
unfoldable pub flat : List (List ℕ) → Items
flat [] = end
flat (m ∷ ms) = message m (flat ms)

-- what may stand in an envelope, where envelopes of d depths more may stand below it: every message is readable
abbrev pub Held : ℕ → Items → Type 0
Held d end = Unit
Held d (message m r) = (is_readable m ≡ true) × Held d r
Held zero (envelope i r) = ⊥
Held (suc d) (envelope i r) = Held d i × Held (suc d) r
