-- An entry read by its places is the entry that is read: where the heads stand, and nowhere else, there is a propose. Assumes nothing.
use Prim.Native.Nat.{ℕ, suc, ◌+◌, ◌-◌, ◌^◌, ◌<◌, ◌≤◌}
use mathlib.Core.Path.{◌≡◌, refl, sym, ap, ap₂, ◌∙◌}
use mathlib.Core.Bool.{Bool, true, false, ◌&&◌}
use mathlib.Core.List.{List, [], ◌∷◌, ◌++◌}
use mathlib.Core.Option.{Option, none, some, some-injective}
use native.Mathlib.Omega.{arith}
use lib.ListN.{length, take, drop, length-drop}
use lib.Seq.{take-add, take_at, drop_at, drop-drop, length-take-le}
use lib.Dec.{eqb, leb, lit<}
use borrow.Author.Tests.{eqb-true, eq-eqb, leb-true, leb-false}
use Rattle.fields.specs.Places.{number, Bytes}
use Rattle.fields.specs.Records.{Format, fields}
use Rattle.fields.proofs.Laws.{number_lt}
use Rattle.fields.proofs.Lists.{number_piece, bytes_take, bytes_drop}
use Rattle.rules.specs.Lists.{be, unbe}
use Rattle.rules.specs.Messages.{Message, new_view, propose, vote, blame, blame_set, status, field, width, table, row_of, tags_of, kind, values, writes, write, Fitting, read}
use Rattle.rules.specs.Words.{Statement, message}
use Rattle.laws.proofs.Bytes as rules
use Rattle.laws.proofs.Bytes.{length_unbe, be_unbe, unbe_be}
use Rattle.laws.proofs.ReadBack.{write_read}
use Rattle.laws.proofs.Written.{read_write}
use Rattle.laws.proofs.Tests.{by_bool, by_option, no_some, no_bool, and_right}
use Rattle.wire.specs.Fields.{head, is_field}
use Rattle.wire.proofs.Reading.{be_number, field_test, field_short}
use Rattle.slip_entries.specs.Entries.{propose_of, propose_in, entry_at}
use Rattle.slip_entries.specs.Heads.{heads_stand, propose_at}

-- ---- numbers side by side

-- the bytes of numbers of some widths, the places of such numbers from an offset on, and how many bytes they are
joined : List ℕ → List ℕ → List ℕ
joined [] vs = []
joined (w ∷ ws) [] = []
joined (w ∷ ws) (v ∷ vs) = unbe w v ++ joined ws vs

abbrev spaced : ℕ → List ℕ → Format
spaced o [] = []
spaced o (w ∷ ws) = (o, w) ∷ spaced (o + w) ws

abbrev total : List ℕ → ℕ
total [] = 0
total (w ∷ ws) = w + total ws

pub bytes_all : (s : List ℕ) → Bytes s → rules.Bytes s
bytes_all [] h = rules.none
bytes_all (x ∷ s) h = rules.one (h 0).fits (bytes_all s (λ i. h (suc i)))

module _ (s : List ℕ) (b : Bytes s) where
  -- the bytes of a place's number stand there
  pub piece : (k w : ℕ) → k + w ≤ length s → unbe w (number s k w) ≡ take w (drop k s)
  piece k w h =
      let p = take w (drop k s) in
      let l : length p ≡ w = length-take-le w (drop k s) (rw length-drop (omega arith)) in
      let e : be p ≡ number s k w = be_number p ∙ ap (number p 0) l ∙ number_piece s k w in
      ap₂ unbe (sym l) (sym e) ∙ unbe_be (bytes_all p (bytes_take (drop k s) (bytes_drop s b k) w))

  pieces : (at o : ℕ) (ws : List ℕ) → at + o + total ws ≤ length s → joined ws (fields s at (spaced o ws)) ≡ take (total ws) (drop (at + o) s)
  unfolding joined
  pieces at o [] h = refl
  pieces at o (w ∷ ws) h =
      let e : at + (o + w) ≡ at + o + w = omega arith in
      ap₂ ◌++◌ (piece (at + o) w (omega arith)) (pieces at (o + w) ws (omega arith) ∙ ap (λ (k : ℕ). take (total ws) (drop k s)) e ∙ sym (ap (take (total ws)) (drop-drop w (at + o) s)))
      ∙ sym (take-add w (total ws) (drop (at + o) s))

-- numbers whose bytes are the same, one by one
abbrev Same : List ℕ → List ℕ → List ℕ → Type 0
Same [] us vs = Unit {0}
Same (w ∷ ws) [] vs = Unit {0}
Same (w ∷ ws) (u ∷ us) [] = Unit {0}
Same (w ∷ ws) (u ∷ us) (v ∷ vs) = (unbe w u ≡ unbe w v) × Same ws us vs

same : (ws us vs : List ℕ) → joined ws us ≡ joined ws vs → Same ws us vs
unfolding joined
same [] us vs e = tt
same (w ∷ ws) [] vs e = tt
same (w ∷ ws) (u ∷ us) [] e = tt
same (w ∷ ws) (u ∷ us) (v ∷ vs) e =
    let a = length_unbe w u in
    let c = length_unbe w v in (
      sym (take_at (unbe w u) (joined ws us) w a) ∙ ap (take w) e ∙ take_at (unbe w v) (joined ws vs) w c,
      same ws us vs (sym (drop_at (unbe w u) (joined ws us) w a) ∙ ap (drop w) e ∙ drop_at (unbe w v) (joined ws vs) w c),
    )

number_same : (w u v : ℕ) → u < 256 ^ w → v < 256 ^ w → unbe w u ≡ unbe w v → u ≡ v
number_same w u v h k e = sym (be_unbe w u h) ∙ ap be e ∙ be_unbe w v k

-- ---- a propose, as numbers side by side

abbrev widths : List ℕ
widths = 7 ∷ 4 ∷ 3 ∷ 4 ∷ 3 ∷ 32 ∷ 3 ∷ 32 ∷ 3 ∷ 2 ∷ 3 ∷ 1 ∷ []

abbrev numbers : ℕ → ℕ → ℕ → ℕ → ℕ → ℕ → List ℕ
numbers v h b p m a = 0x01000102020004 ∷ v ∷ 0x030004 ∷ h ∷ 0x040020 ∷ b ∷ 0x050020 ∷ p ∷ 0x070002 ∷ m ∷ 0x080001 ∷ a ∷ []

write_joined : (v h b p m a : ℕ) → write (propose v h b p m a) ≡ joined widths (numbers v h b p m a)
unfolding write writes field width tags_of row_of table kind values unbe joined
write_joined v h b p m a = refl

-- a message that is a propose, and the one that is made of it
propose_of_lem : (m : Message) (y : Statement) → propose_of m ≡ some y → (y.is_new_view ≡ false) × (m ≡ message y)
unfolding propose_of message
propose_of_lem (new_view v h b c m a) y e = no_some e
propose_of_lem (propose v h b p m a) y e = rw (← some-injective (record { is_new_view = false; view = v; height = h; name = b; link = p; mask = m; author = a; voted = none }) y e) (refl, refl)
propose_of_lem (vote v h b a) y e = no_some e
propose_of_lem (blame v a) y e = no_some e
propose_of_lem (blame_set v m) y e = no_some e
propose_of_lem (status h b c m) y e = no_some e

pub propose_read : (bs : List ℕ) (y : Statement) → propose_in bs ≡ some y → (y.is_new_view ≡ false) × (read bs ≡ some (message y))
unfolding propose_in
propose_read bs y e =
    by_option (read bs) (λ q. no_some (rw (q, propose_in) at e)) λ m q.
    let t = propose_of_lem m y (rw (q, propose_in) at e) in
    (t.0, q ∙ ap some t.1)

written : (y : Statement) → y.is_new_view ≡ false → write (message y) ≡ joined widths (numbers y.view y.height y.name y.link y.mask y.author)
unfolding message
written y e = rw (e, message) (write_joined y.view y.height y.name y.link y.mask y.author)

-- an entry stands in its field
pub entry_framed : (s : List ℕ) (at : ℕ) (y : Statement) → entry_at s at ≡ some y → (number s at 3 ≡ 0x410061) × (propose_in (take 97 (drop (at + 3) s)) ≡ some y)
unfolding entry_at is_field
entry_framed s at y e =
    by_bool (is_field s at 0x41 97)
    (λ q. (eqb-true (number s at 3) (head 0x41 97) (and_right (leb (at + 3 + 97) (length s)) (eqb (number s at 3) (head 0x41 97)) q), rw (q, entry_at) at e))
    (λ q. no_some (rw (q, entry_at) at e))

-- ---- where the heads stand

and_7 : (a b c d e f h : Bool) → (a && b && c && d && e && f && h) ≡ true → (a ≡ true) × (b ≡ true) × (c ≡ true) × (d ≡ true) × (e ≡ true) × (f ≡ true) × (h ≡ true)
and_7 true true true true true true true q = (refl, refl, refl, refl, refl, refl, refl)
and_7 false b c d e f h q = no_bool (sym q)
and_7 true false c d e f h q = no_bool (sym q)
and_7 true true false d e f h q = no_bool (sym q)
and_7 true true true false e f h q = no_bool (sym q)
and_7 true true true true false f h q = no_bool (sym q)
and_7 true true true true true false h q = no_bool (sym q)
and_7 true true true true true true false q = no_bool (sym q)

module _ (s : List ℕ) (b : Bytes s) (at : ℕ) (l : at + 100 ≤ length s) where
  abbrev x : Statement
  x = propose_at s at

  abbrev held : List ℕ
  held = take 97 (drop (at + 3) s)

  abbrev there : List ℕ
  there = fields s at (spaced 3 widths)

  held_is : joined widths there ≡ held
  held_is = pieces s b at 3 widths (omega arith)

  fitting : Fitting (message x)
  unfolding message propose_at kind values tags_of row_of table width
  fitting = (number_lt s b (at + 10) 4, (number_lt s b (at + 17) 4, (number_lt s b (at + 24) 32, (number_lt s b (at + 59) 32, (number_lt s b (at + 94) 2, (number_lt s b (at + 99) 1, tt))))))

  -- the field that an entry is in
  framed : number s at 3 ≡ 0x410061 → entry_at s at ≡ propose_in held
  unfolding entry_at
  framed e =
      let f : is_field s at 0x41 97 ≡ true = sym (field_test s at 0x41 97 (omega arith)) ∙ eq-eqb (number s at 3) (head 0x41 97) e in
      rw (f, entry_at)

  pub entry_here : heads_stand s at ≡ true → some x ≡ entry_at s at
  unfolding heads_stand propose_in propose_of propose_at message
  entry_here h =
      let t = and_7 (eqb (number s at 3) 0x410061) (eqb (number s (at + 3) 7) 0x01000102020004) (eqb (number s (at + 14) 3) 0x030004) (eqb (number s (at + 21) 3) 0x040020) (eqb (number s (at + 56) 3) 0x050020)
      (eqb (number s (at + 91) 3) 0x070002) (eqb (number s (at + 96) 3) 0x080001) h in
      let n : there ≡ numbers x.view x.height x.name x.link x.mask x.author =
      rw (eqb-true (number s (at + 3) 7) 0x01000102020004 t.1, eqb-true (number s (at + 14) 3) 0x030004 t.2, eqb-true (number s (at + 21) 3) 0x040020 t.3, eqb-true (number s (at + 56) 3) 0x050020 t.4, eqb-true (number s (at + 91) 3) 0x070002 t.5, eqb-true (number s (at + 96) 3) 0x080001 t.6) in
      let w : held ≡ write (message x) = sym held_is ∙ ap (joined widths) n ∙ sym (write_joined x.view x.height x.name x.link x.mask x.author) in
      let r : read held ≡ some (message x) = ap read w ∙ read_write (message x) fitting in
      sym (framed (eqb-true (number s at 3) 0x410061 t.0) ∙ rw (r, propose_in))

  stand : number s at 3 ≡ 0x410061 → number s (at + 3) 7 ≡ 0x01000102020004 → number s (at + 14) 3 ≡ 0x030004 → number s (at + 21) 3 ≡ 0x040020 → number s (at + 56) 3 ≡ 0x050020 → number s (at + 91) 3 ≡ 0x070002 → number s (at + 96) 3 ≡ 0x080001
      → heads_stand s at ≡ true
  unfolding heads_stand
  stand p q r t u v z = rw (p, q, r, t, u, v, z)

  -- what is read there has the heads of a propose
  heads_of : (y : Statement) → entry_at s at ≡ some y → heads_stand s at ≡ true
  heads_of y e =
      let f = entry_framed s at y e in
      let m = propose_read held y f.1 in
      let w : held ≡ write (message y) = write_read held (message y) (bytes_all held (bytes_take (drop (at + 3) s) (bytes_drop s b (at + 3)) 97)) m.1 in
      let t : Same widths there (numbers y.view y.height y.name y.link y.mask y.author) =
      same widths there (numbers y.view y.height y.name y.link y.mask y.author) (held_is ∙ w ∙ written y m.0) in
      stand f.0 (number_same 7 _ _ (number_lt s b (at + 3) 7) (lit< tt) t.0) (number_same 3 _ _ (number_lt s b (at + 14) 3) (lit< tt) t.1.1.0) (number_same 3 _ _ (number_lt s b (at + 21) 3) (lit< tt) t.1.1.1.1.0)
      (number_same 3 _ _ (number_lt s b (at + 56) 3) (lit< tt) t.1.1.1.1.1.1.0) (number_same 3 _ _ (number_lt s b (at + 91) 3) (lit< tt) t.1.1.1.1.1.1.1.1.0) (number_same 3 _ _ (number_lt s b (at + 96) 3) (lit< tt) t.1.1.1.1.1.1.1.1.1.1.0)

  pub entry_other : heads_stand s at ≡ false → none ≡ entry_at s at
  entry_other h = by_option (entry_at s at) (λ q. sym q) (λ y q. no_bool (sym (heads_of y q) ∙ h))

-- ---- where there is no room

module _ (s : List ℕ) (at : ℕ) where
  pub entry_short : length s < at + 100 → none ≡ entry_at s at
  unfolding entry_at
  entry_short h = let f : is_field s at 0x41 97 ≡ false = sym (field_short s at 0x41 97 (omega arith)) in sym (rw (f, entry_at))

  pub entry_room : (y : Statement) → entry_at s at ≡ some y → at + 100 ≤ length s
  entry_room y e = by_bool (leb (at + 100) (length s)) (λ q. leb-true (at + 100) (length s) q) (λ q. no_some (entry_short (leb-false (at + 100) (length s) q) ∙ e))
