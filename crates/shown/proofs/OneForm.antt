-- A slip has one form: the same bytes are of the same name and the same proposes. Assumes nothing.
use Prim.Native.Nat.{ℕ, ◌+◌, ◌^◌, ◌<◌}
use mathlib.Core.Path.{◌≡◌, refl, sym, ap, ap₂, ◌∙◌}
use mathlib.Core.Bool.{true, false}
use mathlib.Core.List.{List, [], ◌∷◌, ◌++◌, map}
use mathlib.Core.Option.{some, some-injective}
use native.Mathlib.Omega.{arith}
use lib.ListN.{length, take, drop, length-append}
use lib.Seq.{take_at, drop_at}
use lib.Dec.{eqb}
use borrow.Author.Tests.{eqb-true}
use Rattle.rules.specs.Lists.{be, unbe}
use Rattle.rules.specs.Messages.{Message, field, write}
use Rattle.rules.specs.Sizes.{Settings, good_settings}
use Rattle.rules.specs.Words.{Statement, message}
use Rattle.laws.proofs.Bytes.{length_unbe, be_unbe}
use Rattle.laws.proofs.Tests.{no_bool, and_left, and_right}
use Rattle.laws.proofs.Lengths.{length_field}
use Rattle.slip_entries.specs.Entries.{entry_bytes, entry_at}
use Rattle.slip.specs.Slips.{is_entry, is_chain, is_slip, entries_bytes, slip_bytes}
use Rattle.shown.proofs.Passing.{Named, bare, message_is, length_entry, entries_cons, slip_cons, entry_parts, entry_back, fits, chain_entry, chain_next}

-- each is an entry
abbrev Entries : Settings → List Statement → Type 0
Entries g [] = Unit {0}
Entries g (x ∷ xs) = (is_entry g x ≡ true) × Entries g xs

chain_entries : (g : Settings) (x : Statement) (xs : List Statement) → is_chain g x xs ≡ true → Entries g (x ∷ xs)
chain_entries g x [] c = (chain_entry g x [] c, tt)
chain_entries g x (y ∷ ys) c = (chain_entry g x (y ∷ ys) c, chain_entries g y ys (chain_next g x y ys c).3)

bare_message : (x : Statement) → x.is_new_view ≡ false → message x ≡ message (bare x)
bare_message x e = message_is x e ∙ sym (message_is (bare x) refl)

entry_of : (x y : Statement) → message x ≡ message y → entry_bytes x ≡ entry_bytes y
unfolding entry_bytes
entry_of x y e = ap (λ (m : Message). field 0x41 (write m)) e

no_entries : (y : Statement) (ys : List Statement) → y.is_new_view ≡ false → {P : Type 0} → [] ≡ entries_bytes (y ∷ ys) → P
no_entries y ys p e = absurd (omega (arith, ap length (e ∙ entries_cons y ys), length-append (entry_bytes y) (entries_bytes ys), length_entry y p))

field_drop : (u : List ℕ) → drop 3 (field 0x40 u) ≡ u
unfolding field unbe
field_drop u = refl

nil_bytes : entries_bytes [] ≡ []
unfolding entries_bytes
nil_bytes = refl

module _ (g : Settings) (q : good_settings g ≡ true) where
  same_entries : (xs ys : List Statement) → Entries g xs → Entries g ys → Named xs → Named ys → entries_bytes xs ≡ entries_bytes ys → map message xs ≡ map message ys
  same_entries [] [] i j m n e = refl
  same_entries [] (y ∷ ys) i j m n e = no_entries y ys (entry_parts g y j.0).0 (sym nil_bytes ∙ e)
  same_entries (x ∷ xs) [] i j m n e = no_entries x xs (entry_parts g x i.0).0 (sym nil_bytes ∙ sym e)
  same_entries (x ∷ xs) (y ∷ ys) i j m n e =
      let a = (entry_parts g x i.0).0 in
      let b = (entry_parts g y j.0).0 in
      let t : entry_bytes x ++ entries_bytes xs ≡ entry_bytes y ++ entries_bytes ys = sym (entries_cons x xs) ∙ e ∙ entries_cons y ys in
      let r : some (bare x) ≡ some (bare y) =
      sym (entry_back x a (fits g q x i.0 m.0 m.1) [] (entries_bytes xs)) ∙ ap (λ (s : List ℕ). entry_at s 0) t ∙ entry_back y b (fits g q y j.0 n.0 n.1) [] (entries_bytes ys) in
      let k : message x ≡ message y = bare_message x a ∙ ap message (some-injective (bare x) (bare y) r) ∙ sym (bare_message y b) in
      let d : entries_bytes xs ≡ entries_bytes ys =
      sym (drop_at (entry_bytes x) (entries_bytes xs) 100 (length_entry x a)) ∙ ap (drop 100) t ∙ drop_at (entry_bytes y) (entries_bytes ys) 100 (length_entry y b) in
      ap₂ ◌∷◌ k (same_entries xs ys i.1 j.1 m.2 n.2 d)

  -- a slip is named as its top, and has entries alone
  slip_parts : (b : ℕ) (xs : List Statement) → is_slip g b xs ≡ true → Named xs → (b < 256 ^ 32) × Entries g xs
  unfolding is_slip
  slip_parts b [] e n = no_bool (sym e)
  slip_parts b (x ∷ xs) e n =
      (rw (eqb-true b x.name (and_left (eqb b x.name) (is_chain g x xs) e)) n.0, chain_entries g x xs (and_right (eqb b x.name) (is_chain g x xs) e))

  pub one_form : (b c : ℕ) (xs ys : List Statement) → is_slip g b xs ≡ true → is_slip g c ys ≡ true → Named xs → Named ys → slip_bytes b xs ≡ slip_bytes c ys
      → (b ≡ c) × (map message xs ≡ map message ys)
  one_form b c xs ys i j m n e =
      let u = slip_parts b xs i m in
      let v = slip_parts c ys j n in
      let k = named_length b in
      let l = named_length c in
      let t : field 0x40 (unbe 32 b) ++ entries_bytes xs ≡ field 0x40 (unbe 32 c) ++ entries_bytes ys = sym (slip_cons b xs) ∙ e ∙ slip_cons c ys in
      let h : field 0x40 (unbe 32 b) ≡ field 0x40 (unbe 32 c) = sym (take_at (field 0x40 (unbe 32 b)) (entries_bytes xs) 35 k) ∙ ap (take 35) t ∙ take_at (field 0x40 (unbe 32 c)) (entries_bytes ys) 35 l in
      let d : entries_bytes xs ≡ entries_bytes ys = sym (drop_at (field 0x40 (unbe 32 b)) (entries_bytes xs) 35 k) ∙ ap (drop 35) t ∙ drop_at (field 0x40 (unbe 32 c)) (entries_bytes ys) 35 l in
      (sym (be_unbe 32 b u.0) ∙ ap be (field_value b c h) ∙ be_unbe 32 c v.0, same_entries xs ys u.1 v.1 m n d)
    where
      named_length : (b : ℕ) → length (field 0x40 (unbe 32 b)) ≡ 35
      named_length b = length_field 0x40 (unbe 32 b) ∙ ap (3 +◌) (length_unbe 32 b)

      field_value : (b c : ℕ) → field 0x40 (unbe 32 b) ≡ field 0x40 (unbe 32 c) → unbe 32 b ≡ unbe 32 c
      field_value b c h = sym (field_drop (unbe 32 b)) ∙ ap (drop 3) h ∙ field_drop (unbe 32 c)
