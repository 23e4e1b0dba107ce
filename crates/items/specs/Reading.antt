-- 02, request 8: reading the items of an envelope, a pure function on bytes. "Reading an envelope reads its items, and reading an item
-- may read an envelope". Assumes nothing.
use Rattle.std.specs.Prelude.{ℕ, zero, suc, ◌+◌, Bool, true, false, ◌&&◌, List, [], ◌∷◌, length, take, drop, get_or, leb, eqb}
use Rattle.std.proofs.Math.Option.{Option, none, some, map}
use Rattle.fields.specs.Places.{number}
use Rattle.slots.specs.Slots.{is_readable}
use Rattle.items.specs.Items.{Items, end, message, envelope, envelope_tag, message_tag, joined}

-- "8,192 bytes in all"
abbrev pub most_bytes : ℕ
most_bytes = 8192

-- "to depth 4 (the outermost is depth 1)"
abbrev pub most_depth : ℕ
most_depth = 4

-- whether the length behind the first tag needs no more than the bytes at hand; what it spans; what stands behind that
unfoldable pub is_whole : List ℕ → Bool
unfolding number
is_whole bs = leb (3 + number bs 1 2) (length bs)

unfoldable pub value_in : List ℕ → List ℕ
unfolding number
value_in bs = take (number bs 1 2) (drop 3 bs)

unfoldable pub rest_in : List ℕ → List ℕ
unfolding number
rest_in bs = drop (3 + number bs 1 2) bs

-- "an item is a message in tag 31 or another envelope"; `inner` reads what stands in an envelope
unfoldable pub item_of : (List ℕ → Option Items) → ℕ → List ℕ → Option Items
unfolding is_readable
item_of inner t v =
    elim (eqb t message_tag) [
      | true ↦ elim (is_readable v) [ true ↦ some (message v end) | false ↦ none ]
      | false ↦ elim (eqb t envelope_tag) [ true ↦ map (λ i. envelope i end) (inner v) | false ↦ none ]
    ]

-- the first item of some bytes
unfoldable pub item_in : (List ℕ → Option Items) → List ℕ → Option Items
unfolding is_whole value_in item_of
item_in inner bs = elim (is_whole bs) [ true ↦ item_of inner (get_or bs 0 0) (value_in bs) | false ↦ none ]

-- "a list of items": one after another to the last byte; each takes some bytes, so that one turn more than bytes is enough
unfoldable pub items_from : (List ℕ → Option Items) → ℕ → List ℕ → Option Items
unfolding item_in rest_in joined
items_from inner zero bs = none
items_from inner (suc k) bs =
    elim bs [
      | [] ↦ some end
      | b ∷ r ↦ elim (item_in inner (b ∷ r)) [ none ↦ none | some i ↦ map (joined i) (items_from inner k (rest_in (b ∷ r))) ]
    ]

-- what stands in an envelope, where envelopes of d depths may be read: none at 0
unfoldable pub inside : ℕ → List ℕ → Option Items
unfolding items_from
inside zero bs = none
inside (suc d) bs = items_from (inside d) (suc (length bs)) bs

-- "an envelope is tag 30": its length spans all bytes behind it
unfoldable pub is_opened : List ℕ → Bool
unfolding number
is_opened s = leb (length s) most_bytes && eqb (get_or s 0 0) envelope_tag && eqb (3 + number s 1 2) (length s)

-- what an envelope holds
unfoldable pub envelope_in : List ℕ → Option Items
unfolding is_opened inside
envelope_in s = elim (is_opened s) [ true ↦ inside most_depth (drop 3 s) | false ↦ none ]
