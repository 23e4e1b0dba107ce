-- "Such a slip always passes": the bytes of a slip of a name are accepted, with the number of its entries. Assumes nothing.
use Prim.Native.Nat.{ℕ, suc, ◌+◌, ◌-◌, ◌^◌, ◌<◌}
use mathlib.Core.Path.{◌≡◌, refl, sym, ap, ap₂, ◌∙◌}
use mathlib.Core.Bool.{true, false, not, ◌&&◌}
use mathlib.Core.List.{List, [], ◌∷◌, ◌++◌, append_assoc}
use mathlib.Core.Option.{none, some}
use native.Mathlib.Omega.{arith}
use native.Mathlib.Nat.{add-zero, zero-add}
use lib.ListN.{length, take, drop, length-append}
use lib.Seq.{take_at, drop-append-add}
use lib.Dec.{eqb}
use borrow.Author.Tests.{eqb-true, eq-eqb, not-true}
use Rattle.fields.specs.Places.{number}
use Rattle.fields.proofs.Lists.{number_append_right, number_append_left}
use Rattle.rules.specs.Lists.{unbe}
use Rattle.rules.specs.Messages.{propose, field, write, Fitting, read, allowed, size}
use Rattle.rules.specs.Sizes.{Settings, good_settings}
use Rattle.rules.specs.Words.{Statement, message}
use Rattle.laws.proofs.Allowed.{sizes}
use Rattle.laws.proofs.Bytes.{length_unbe, be_unbe}
use Rattle.laws.proofs.Written.{read_write}
use Rattle.laws.proofs.Tests.{and_left, and_right, eqb_self, no_bool}
use Rattle.kept.proofs.Sendable.{sendable}
use Rattle.wire.specs.Fields.{head, is_field}
use Rattle.wire.proofs.Reading.{field_test, be_number}
use Rattle.laws.proofs.Lengths.{length_write, length_field}
use Rattle.slip_entries.specs.Entries.{entry_bytes, propose_of, propose_in, entry_at, parent_in}
use Rattle.slip.specs.Slips.{is_entry, certifies, follows, is_chain, is_slip, entries_bytes, slip_bytes, entry_place, accepted, judge_from, top_height, judged}
use Rattle.slip_entries.proofs.Parents.{parent_here}
use Rattle.slip.proofs.Judging.{top_here}

-- the names of entries are of 32 bytes
abbrev pub Named : List Statement → Type 0
Named [] = Unit {0}
Named (x ∷ xs) = (x.name < 256 ^ 32) × (x.link < 256 ^ 32) × Named xs

-- an entry as it is read: nobody knows of a vote
abbrev pub bare : Statement → Statement
bare x = record { is_new_view = false; view = x.view; height = x.height; name = x.name; link = x.link; mask = x.mask; author = x.author; voted = none }

-- the definitions, a step at a time
entry_in : (s : List ℕ) (at : ℕ) → is_field s at 0x41 97 ≡ true → entry_at s at ≡ propose_in (take 97 (drop (at + 3) s))
unfolding entry_at
entry_in s at i = rw (i, entry_at)

propose_in_lem : (x : Statement) (bs : List ℕ) → read bs ≡ some (propose x.view x.height x.name x.link x.mask x.author) → propose_in bs ≡ some (bare x)
unfolding propose_in propose_of
propose_in_lem x bs e = rw (e, propose_in)

framed : (r : List ℕ) → number (0x41 ∷ 0x00 ∷ 0x61 ∷ r) 0 3 ≡ head 0x41 97
unfolding number
framed r = refl

named_head : (r : List ℕ) → number (0x40 ∷ 0x00 ∷ 0x20 ∷ r) 0 3 ≡ head 0x40 32
unfolding number
named_head r = refl

pub entries_cons : (x : Statement) (xs : List Statement) → entries_bytes (x ∷ xs) ≡ entry_bytes x ++ entries_bytes xs
unfolding entries_bytes
entries_cons x xs = refl

pub slip_cons : (b : ℕ) (xs : List Statement) → slip_bytes b xs ≡ field 0x40 (unbe 32 b) ++ entries_bytes xs
unfolding slip_bytes
slip_cons b xs = refl

judge_step : (g : Settings) (s : List ℕ) (h b k p n : ℕ) → h ≡ suc n → parent_in g h b (entry_at s (entry_place k)) ≡ some p → judge_from g s h b k ≡ judge_from g s n p (suc k)
unfolding judge_from
judge_step g s h b k p n e q = let r : parent_in g (suc n) b (entry_at s (entry_place k)) ≡ some p = ap (λ (i : ℕ). parent_in g i b (entry_at s (entry_place k))) (sym e) ∙ q in ap (λ (i : ℕ). judge_from g s i b k) e ∙ rw (r, judge_from)

judge_end : (g : Settings) (s : List ℕ) (b k : ℕ) → entry_place k ≡ length s → judge_from g s 0 b k ≡ accepted k
unfolding judge_from
judge_end g s b k e = rw (eq-eqb (entry_place k) (length s) e, judge_from)

-- a slip's name is read as it was written
module _ (g : Settings) (b : ℕ) (xs : List Statement) (h : b < 256 ^ 32) where
  abbrev slip : List ℕ
  slip = slip_bytes b xs

  name_shape : slip ≡ 0x40 ∷ 0x00 ∷ 0x20 ∷ (unbe 32 b ++ entries_bytes xs)
  unfolding slip_bytes field
  name_shape = ap (λ (n : ℕ). 0x40 ∷ (unbe 2 n ++ unbe 32 b) ++ entries_bytes xs) (length_unbe 32 b) ∙ two (unbe 32 b) (entries_bytes xs)
    where
      two : (u v : List ℕ) → 0x40 ∷ (unbe 2 32 ++ u) ++ v ≡ 0x40 ∷ 0x00 ∷ 0x20 ∷ (u ++ v)
      two u v = refl

  judge_named : judged g slip ≡ judge_from g slip (top_height slip) b 0
  unfolding judged
  judge_named =
      let l : length slip ≡ 35 + length (entries_bytes xs) = ap length name_shape ∙ omega (arith, length-append (unbe 32 b) (entries_bytes xs), length_unbe 32 b) in
      let i : is_field slip 0 0x40 32 ≡ true = sym (field_test slip 0 0x40 32 (omega (arith, l))) ∙ eq-eqb (number slip 0 3) (head 0x40 32) (ap (λ (t : List ℕ). number t 0 3) name_shape ∙ named_head (unbe 32 b ++ entries_bytes xs)) in
      let u : number slip 3 32 ≡ b =
      ap (λ (t : List ℕ). number t 3 32) name_shape ∙ number_append_right (0x40 ∷ 0x00 ∷ 0x20 ∷ []) (unbe 32 b ++ entries_bytes xs) 0 32
      ∙ number_append_left (unbe 32 b) (entries_bytes xs) 0 32 (omega (arith, length_unbe 32 b)) ∙ ap (number (unbe 32 b) 0) (sym (length_unbe 32 b)) ∙ sym (be_number (unbe 32 b)) ∙ be_unbe 32 b h in
      rw (i, judged, u)

module _ (x : Statement) (e : x.is_new_view ≡ false) where
  pub message_is : message x ≡ propose x.view x.height x.name x.link x.mask x.author
  unfolding message
  message_is = rw (e, message)

  pub length_message : length (write (message x)) ≡ 97
  unfolding size
  length_message = ap (λ m. length (write m)) message_is ∙ length_write (propose x.view x.height x.name x.link x.mask x.author)

  pub length_entry : length (entry_bytes x) ≡ 100
  unfolding entry_bytes
  length_entry = omega (arith, length_field 0x41 (write (message x)), length_message)

  pub shape : entry_bytes x ≡ 0x41 ∷ 0x00 ∷ 0x61 ∷ write (message x)
  unfolding entry_bytes field unbe
  shape = ap (λ (n : ℕ). 0x41 ∷ unbe 2 n ++ write (message x)) length_message

  -- what is written there is read there
  pub entry_back : Fitting (message x) → (pre r : List ℕ) → entry_at (pre ++ (entry_bytes x ++ r)) (length pre) ≡ some (bare x)
  entry_back f pre r =
      let w = write (message x) in
      let s = pre ++ (entry_bytes x ++ r) in
      let t : entry_bytes x ++ r ≡ 0x41 ∷ 0x00 ∷ 0x61 ∷ (w ++ r) = ap (◌++ r) shape in
      let n : number s (length pre) 3 ≡ head 0x41 97 =
      ap (λ (k : ℕ). number s k 3) (sym (add-zero (length pre))) ∙ number_append_right pre (entry_bytes x ++ r) 0 3 ∙ ap (λ (l : List ℕ). number l 0 3) t ∙ framed (w ++ r) in
      let l : length s ≡ length pre + (100 + length r) = length-append pre (entry_bytes x ++ r) ∙ ap (length pre +◌) (length-append (entry_bytes x) r ∙ ap (◌+ length r) length_entry) in
      let i : is_field s (length pre) 0x41 97 ≡ true = sym (field_test s (length pre) 0x41 97 (omega (arith, l))) ∙ eq-eqb (number s (length pre) 3) (head 0x41 97) n in
      let d : take 97 (drop (length pre + 3) s) ≡ w = ap (take 97) (drop-append-add pre (entry_bytes x ++ r) 3 ∙ ap (drop 3) t) ∙ take_at w r 97 length_message in
      entry_in s (length pre) i ∙ propose_in_lem x (take 97 (drop (length pre + 3) s)) (ap read d ∙ read_write (message x) f ∙ ap some message_is)

-- ---- a chain is walked down

-- a chain's first entry, and what it says of the next
pub chain_entry : (g : Settings) (x : Statement) (xs : List Statement) → is_chain g x xs ≡ true → is_entry g x ≡ true
unfolding is_chain
chain_entry g x [] e = and_left (is_entry g x) (eqb x.height 1) e
chain_entry g x (y ∷ ys) e = and_left (is_entry g x) (follows g x y) (and_left (is_entry g x && follows g x y) (is_chain g y ys) e)

pub chain_last : (g : Settings) (x : Statement) → is_chain g x [] ≡ true → x.height ≡ 1
unfolding is_chain
chain_last g x e = eqb-true x.height 1 (and_right (is_entry g x) (eqb x.height 1) e)

pub chain_next : (g : Settings) (x y : Statement) (ys : List Statement) → is_chain g x (y ∷ ys) ≡ true → (x.link ≡ y.name) × (x.height ≡ suc y.height) × (certifies g x y ≡ true) × (is_chain g y ys ≡ true)
unfolding is_chain follows
chain_next g x y ys e =
    let f = and_right (is_entry g x) (follows g x y) (and_left (is_entry g x && follows g x y) (is_chain g y ys) e) in
    let t = and_left (eqb x.link y.name && eqb x.height (suc y.height)) (certifies g x y) f in (
      eqb-true x.link y.name (and_left (eqb x.link y.name) (eqb x.height (suc y.height)) t),
      eqb-true x.height (suc y.height) (and_right (eqb x.link y.name) (eqb x.height (suc y.height)) t),
      and_right (eqb x.link y.name && eqb x.height (suc y.height)) (certifies g x y) f,
      and_right (is_entry g x && follows g x y) (is_chain g y ys) e,
    )

pub entry_parts : (g : Settings) (x : Statement) → is_entry g x ≡ true → (x.is_new_view ≡ false) × (allowed g (message x) ≡ true)
unfolding is_entry
entry_parts g x e = (not-true x.is_new_view (and_left (not x.is_new_view) (allowed g (message x)) e), and_right (not x.is_new_view) (allowed g (message x)) e)

module _ (g : Settings) (q : good_settings g ≡ true) where
  -- an entry with its names fits its fields
  pub fits : (x : Statement) → is_entry g x ≡ true → x.name < 256 ^ 32 → x.link < 256 ^ 32 → Fitting (message x)
  fits x e n l =
      let p = entry_parts g x e in
      let m = message_is x p.0 in
      rw m (sendable (propose x.view x.height x.name x.link x.mask x.author) (sizes g q) (rw m at p.1) (n, l)).fits

  -- an entry that stands at its place leads to its parent
  led : (x : Statement) (s : List ℕ) (at : ℕ) → is_entry g x ≡ true → entry_at s at ≡ some (bare x) → parent_in g x.height x.name (entry_at s at) ≡ some x.link
  led x s at e r =
      let p = entry_parts g x e in
      sym (parent_here g x.height x.name r {p = true} {q = true} (sym (eqb_self x.name)) (sym (ap (allowed g) (bare_message x p.0) ∙ p.1)) (rw (eqb_self x.height)))
    where
      bare_message : (x : Statement) → x.is_new_view ≡ false → message (bare x) ≡ message x
      bare_message x e = sym (message_is x e ∙ sym (message_is (bare x) refl))

  walk : (pre s : List ℕ) (k : ℕ) (x : Statement) (xs : List Statement) → s ≡ pre ++ entries_bytes (x ∷ xs) → length pre ≡ entry_place k → is_chain g x xs ≡ true → Named (x ∷ xs)
      → judge_from g s x.height x.name k ≡ accepted (k + length (x ∷ xs))
  unfolding entries_bytes
  walk pre s k x [] b l c n =
      let e = chain_entry g x [] c in
      let p = (entry_parts g x e).0 in
      let t : s ≡ pre ++ (entry_bytes x ++ []) = b ∙ ap (pre ++◌) (entries_cons x []) in
      let a : entry_at s (entry_place k) ≡ some (bare x) = ap₂ entry_at t (sym l) ∙ entry_back x p (fits x e n.0 n.1) pre [] in
      let m : length s ≡ entry_place (suc k) = ap length t ∙ length-append pre (entry_bytes x ++ []) ∙ omega (arith, length-append (entry_bytes x) [], length_entry x p, l) in
      judge_step g s x.height x.name k x.link 0 (chain_last g x c) (led x s (entry_place k) e a) ∙ judge_end g s x.link (suc k) (sym m) ∙ ap accepted (omega arith)
  walk pre s k x (y ∷ ys) b l c n =
      let e = chain_entry g x (y ∷ ys) c in
      let p = (entry_parts g x e).0 in
      let d = chain_next g x y ys c in
      let t : s ≡ pre ++ (entry_bytes x ++ entries_bytes (y ∷ ys)) = b ∙ ap (pre ++◌) (entries_cons x (y ∷ ys)) in
      let a : entry_at s (entry_place k) ≡ some (bare x) = ap₂ entry_at t (sym l) ∙ entry_back x p (fits x e n.0 n.1) pre (entries_bytes (y ∷ ys)) in
      let m : length (pre ++ entry_bytes x) ≡ entry_place (suc k) = length-append pre (entry_bytes x) ∙ omega (arith, length_entry x p, l) in
      judge_step g s x.height x.name k x.link y.height d.1 (led x s (entry_place k) e a) ∙ ap (λ (v : ℕ). judge_from g s y.height v (suc k)) d.0
      ∙ walk (pre ++ entry_bytes x) s (suc k) y ys (t ∙ sym (append_assoc pre (entry_bytes x) (entries_bytes (y ∷ ys)))) m d.3 n.2 ∙ ap accepted (omega arith)

  -- "such a slip always passes"
  pub passes : (b : ℕ) (xs : List Statement) → is_slip g b xs ≡ true → Named xs → judged g (slip_bytes b xs) ≡ accepted (length xs)
  unfolding is_slip
  passes b [] e n = no_bool (sym e)
  passes b (x ∷ xs) e n =
      let c = and_right (eqb b x.name) (is_chain g x xs) e in
      let z = eqb-true b x.name (and_left (eqb b x.name) (is_chain g x xs) e) in
      let i = chain_entry g x xs c in
      let s = slip_bytes b (x ∷ xs) in
      let pre = field 0x40 (unbe 32 b) in
      let l : length pre ≡ entry_place 0 = length_field 0x40 (unbe 32 b) ∙ ap (3 +◌) (length_unbe 32 b) in
      let h : top_height s ≡ x.height = sym (top_here s (ap (entry_at s) (sym l) ∙ ap (λ (t : List ℕ). entry_at t (length pre)) (slip_cons b (x ∷ xs) ∙ ap (pre ++◌) (entries_cons x xs)) ∙ entry_back x (entry_parts g x i).0 (fits x i n.0 n.1) pre (entries_bytes xs))) in
      judge_named g b (x ∷ xs) (rw z n.0) ∙ ap₂ (λ (u v : ℕ). judge_from g s u v 0) h z ∙ walk pre s 0 x xs (slip_cons b (x ∷ xs)) l c n
      ∙ ap accepted (zero-add (length (x ∷ xs)))
