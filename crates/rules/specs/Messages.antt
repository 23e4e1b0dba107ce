-- 01, 'Messages on the wire': the six kinds by one table, writing, reading, what is allowed, and the outgoing fields. Assumes nothing.
use Rattle.std.specs.Prelude.{ℕ, zero, suc, ◌-◌, ◌^◌, ◌<◌, Bool, true, false, ◌&&◌, List, [], ◌∷◌, ◌++◌, length, take, drop, get_or, leb, ltb, eqb}
use Rattle.std.proofs.Math.Option.{Option, none, some, map}
use Rattle.std.proofs.Math.ListN.{get_elem?}
use Rattle.rules.specs.Limits.{first_view, last_view, last_height}
use Rattle.rules.specs.Lists.{be, unbe, iff, within}
use Rattle.rules.specs.Sizes.{Settings, leader, quorum}

pub data Message : Type 0 where
  new_view : (view height name cert mask author : ℕ) → Message
  propose : (view height name parent mask author : ℕ) → Message
  vote : (view height name author : ℕ) → Message
  blame : (view author : ℕ) → Message
  blame_set : (view mask : ℕ) → Message
  status : (height name cert mask : ℕ) → Message

-- "one-byte tag, two-byte length, then the value"
unfoldable pub field : ℕ → List ℕ → List ℕ
unfolding unbe
field t bs = t ∷ unbe 2 (length bs) ++ bs

-- "01 kind (1 byte), 02 view (4), 03 height (4), 04 block name (32), 05 parent name (32), 06 certificate view (4), 07 mask (2), 08 author (1)"
unfoldable pub width : ℕ → ℕ
width t = get_or (0 ∷ 1 ∷ 4 ∷ 4 ∷ 32 ∷ 32 ∷ 4 ∷ 2 ∷ 1 ∷ []) t 0

-- a kind: the tags of its fields after the first, and the message that their values make
pub record Row : Type 0 where
  pub tags : List ℕ
  pub make : (ℕ → ℕ) → Message

-- "fields stand in ascending tag order, exactly these"
unfoldable pub table : List Row
table =
    record { tags = 2 ∷ 3 ∷ 4 ∷ 6 ∷ 7 ∷ 8 ∷ []; make = λ v. new_view (v 0) (v 1) (v 2) (v 3) (v 4) (v 5) }
    ∷ record { tags = 2 ∷ 3 ∷ 4 ∷ 5 ∷ 7 ∷ 8 ∷ []; make = λ v. propose (v 0) (v 1) (v 2) (v 3) (v 4) (v 5) }
    ∷ record { tags = 2 ∷ 3 ∷ 4 ∷ 8 ∷ []; make = λ v. vote (v 0) (v 1) (v 2) (v 3) }
    ∷ record { tags = 2 ∷ 8 ∷ []; make = λ v. blame (v 0) (v 1) }
    ∷ record { tags = 2 ∷ 7 ∷ []; make = λ v. blame_set (v 0) (v 1) }
    ∷ record { tags = 3 ∷ 4 ∷ 6 ∷ 7 ∷ []; make = λ v. status (v 0) (v 1) (v 2) (v 3) }
    ∷ []

unfoldable pub row_of : ℕ → Option Row
unfolding table
row_of zero = none
row_of (suc k) = get_elem? table k

unfoldable pub tags_of : ℕ → List ℕ
unfolding row_of
tags_of k = elim (row_of k) [ none ↦ [] | some r ↦ r.tags ]

-- ---- writing

unfoldable pub kind : Message → ℕ
kind (new_view v h b c m a) = 1
kind (propose v h b p m a) = 2
kind (vote v h b a) = 3
kind (blame v a) = 4
kind (blame_set v m) = 5
kind (status h b c m) = 6

unfoldable pub values : Message → List ℕ
values (new_view v h b c m a) = v ∷ h ∷ b ∷ c ∷ m ∷ a ∷ []
values (propose v h b p m a) = v ∷ h ∷ b ∷ p ∷ m ∷ a ∷ []
values (vote v h b a) = v ∷ h ∷ b ∷ a ∷ []
values (blame v a) = v ∷ a ∷ []
values (blame_set v m) = v ∷ m ∷ []
values (status h b c m) = h ∷ b ∷ c ∷ m ∷ []

-- the view that a message is of, its field 02; a status has none
unfoldable pub view_of : Message → ℕ
view_of (new_view v h b c m a) = v
view_of (propose v h b p m a) = v
view_of (vote v h b a) = v
view_of (blame v a) = v
view_of (blame_set v m) = v
view_of (status h b c m) = 0

unfoldable pub writes : List ℕ → List ℕ → List ℕ
unfolding field width unbe
writes [] vs = []
writes (t ∷ ts) [] = []
writes (t ∷ ts) (v ∷ vs) = field t (unbe (width t) v) ++ writes ts vs

unfoldable pub write : Message → List ℕ
unfolding writes tags_of kind values
write m = writes (1 ∷ tags_of (kind m)) (kind m ∷ values m)

-- the table's column 'bytes'
unfoldable pub size : Message → ℕ
size (new_view v h b c m a) = 69
size (propose v h b p m a) = 97
size (vote v h b a) = 57
size (blame v a) = 15
size (blame_set v m) = 16
size (status h b c m) = 58

-- each number fits the bytes of its field
abbrev pub InWidth : List ℕ → List ℕ → Type 0
InWidth [] [] = Unit
InWidth [] (v ∷ vs) = ⊥
InWidth (t ∷ ts) [] = ⊥
InWidth (t ∷ ts) (v ∷ vs) = (v < 256 ^ width t) × InWidth ts vs

abbrev pub Fitting : Message → Type 0
Fitting m = InWidth (tags_of (kind m)) (values m)

-- ---- reading

-- what stands behind a given beginning
unfoldable pub after : List ℕ → List ℕ → Option (List ℕ)
after [] bs = some bs
after (p ∷ ps) [] = none
after (p ∷ ps) (b ∷ bs) = elim (eqb p b) [ true ↦ after ps bs | false ↦ none ]

-- the value of the field of a tag, and what stands behind it, for whoever reads on
unfoldable pub read_field {ℓ} : {X : Type ℓ} → ℕ → List ℕ → (ℕ → List ℕ → Option X) → Option X
unfolding after be unbe width
read_field t bs go =
    elim (after (t ∷ unbe 2 (width t)) bs) [
      | none ↦ none
      | some r ↦ elim (leb (width t) (length r)) [ true ↦ go (be (take (width t) r)) (drop (width t) r) | false ↦ none ]
    ]

unfoldable pub reads : List ℕ → List ℕ → Option (List ℕ)
unfolding read_field
reads [] [] = some []
reads [] (b ∷ bs) = none
reads (t ∷ ts) bs = read_field t bs (λ v r. map (v ∷◌) (reads ts r))

-- the message of a kind, from the bytes of its fields after the first
unfoldable pub body : ℕ → List ℕ → Option Message
unfolding reads row_of
body k r = elim (row_of k) [ none ↦ none | some row ↦ map (λ vs. row.make (λ i. get_or vs i 0)) (reads row.tags r) ]

-- "anything else is unreadable": none
unfoldable pub read : List ℕ → Option Message
unfolding read_field body
read bs = read_field 1 bs body

-- ---- allowed

-- "numbers within the limits; view at least 1"
unfoldable pub view_allowed : Settings → ℕ → Bool
unfolding within last_view
view_allowed g v = within first_view (last_view g.size) v

-- "numbers within the limits"; "height 0 exactly when the name is all zero (genesis)"
unfoldable pub block_allowed : ℕ → ℕ → Bool
unfolding iff
block_allowed h b = leb h last_height && iff (eqb h 0) (eqb b 0)

-- "no mask bit at n or above"; "masks hold at least f+1 bits"
unfoldable pub mask_allowed : Settings → ℕ → Bool
unfolding quorum
mask_allowed g m = ltb m (2 ^ g.n) && quorum g m

-- "certificate view 0 goes with height 0 and mask 0 only"; else a quorum
unfoldable pub certificate_allowed : Settings → ℕ → ℕ → ℕ → Bool
unfolding mask_allowed last_view
certificate_allowed g h c m = elim (eqb c 0) [ true ↦ eqb h 0 && eqb m 0 | false ↦ leb c (last_view g.size) && mask_allowed g m ]

-- "author below n"; "the leader of the view for kinds 1 and 2"; "a propose has height at least 1", and its
-- "parent is all zero exactly at height 1"; "a new-view has certificate view below its view"
unfoldable pub allowed : Settings → Message → Bool
unfolding view_allowed block_allowed mask_allowed certificate_allowed leader
allowed g (new_view v h b c m a) = view_allowed g v && block_allowed h b && ltb c v && certificate_allowed g h c m && eqb a (leader g v)
allowed g (propose v h b p m a) =
    view_allowed g v && leb 1 h && block_allowed h b && block_allowed (h - 1) p && mask_allowed g m && eqb a (leader g v)
allowed g (vote v h b a) = view_allowed g v && block_allowed h b && ltb a g.n
allowed g (blame v a) = view_allowed g v && ltb a g.n
allowed g (blame_set v m) = view_allowed g v && mask_allowed g m
allowed g (status h b c m) = block_allowed h b && certificate_allowed g h c m

-- ---- outgoing

pub data Effect : Type 0 where
  to_all : Message → Effect
  to_one : (station : ℕ) → Message → Effect
  committed : (height name : ℕ) → Effect

-- "tag 10 to all; tag 11 to one (station byte, message); tag 12 committed (height 4, name 32)"
unfoldable pub effect : Effect → List ℕ
unfolding field write unbe
effect (to_all m) = field 0x10 (write m)
effect (to_one i m) = field 0x11 (i ∷ write m)
effect (committed h b) = field 0x12 (unbe 4 h ++ unbe 32 b)

-- the bytes that are written for what is said, in its order
unfoldable pub outgoing : List Effect → List ℕ
unfolding effect
outgoing [] = []
outgoing (e ∷ es) = effect e ++ outgoing es
