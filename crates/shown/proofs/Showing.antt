-- What an accepted slip shows: its bytes are those of a slip of its name, a chain from genesis with a certificate for each entry
-- below the top; and a slip has one form. Assumes nothing.
use Prim.Native.Nat.{ℕ, zero, suc, ◌+◌, ◌-◌, ◌≤◌}
use mathlib.Core.Path.{◌≡◌, refl, sym, ap, ap₂, ◌∙◌}
use mathlib.Core.Bool.{Bool, true, false}
use mathlib.Core.List.{List, [], ◌∷◌, ◌++◌}
use mathlib.Core.Option.{some}
use native.Mathlib.Omega.{arith}
use native.Mathlib.Nat.{zero-add}
use lib.ListN.{length, take, drop, take-append-drop}
use lib.Seq.{drop-drop, drop-length}
use lib.Dec.{eqb, leb}
use borrow.Author.Tests.{eqb-true, eq-eqb}
use Rattle.fields.specs.Places.{number, Bytes}
use Rattle.fields.proofs.Lists.{bytes_take, bytes_drop}
use Rattle.rules.specs.Lists.{unbe}
use Rattle.rules.specs.Messages.{propose, field, write}
use Rattle.rules.specs.Sizes.{Settings, quorum}
use Rattle.rules.specs.Words.{Statement, message, certificate, same_block}
use Rattle.laws.proofs.Allowed.{allowed_rights, mask_parts, genesis_zero}
use Rattle.laws.proofs.Bytes.{length_unbe}
use Rattle.laws.proofs.ReadBack.{write_read}
use Rattle.laws.proofs.Tests.{by_bool, by_option, no_bool, and_left, and_right, eqb_self}
use Rattle.wire.specs.Fields.{head, is_field}
use Rattle.wire.proofs.Reading.{field_room}
use Rattle.slip_entries.specs.Entries.{entry_bytes, entry_at, parent_in}
use Rattle.slip.specs.Slips.{is_entry, certifies, follows, is_chain, is_slip, entries_bytes, slip_bytes, name_end, entry_place, Verdict, accepted, refused, judge_from, top_height, judged}
use Rattle.slip_entries.proofs.Reading.{bytes_all, piece, propose_read, entry_framed, entry_room}
use Rattle.slip_entries.proofs.Parents.{leads}
use Rattle.slip.proofs.Judging.{count_of, top_unread}
use Rattle.shown.proofs.Passing.{message_is, shape, slip_cons, entry_parts, chain_entry, chain_last, chain_next}

is_accepted : Verdict → Bool
is_accepted (accepted k) = true
is_accepted (refused k) = false

not_refused : {P : Type 0} {k n : ℕ} → refused k ≡ accepted n → P
unfolding is_accepted
not_refused e = no_bool (sym (ap is_accepted e))

-- ---- an entry that is read is the bytes that are written

module _ (s : List ℕ) (b : Bytes s) where
  first_three : (at n : ℕ) → at + 3 ≤ length s → number s at 3 ≡ n → drop at s ≡ unbe 3 n ++ drop (at + 3) s
  first_three at n l e =
      sym (take-append-drop 3 (drop at s)) ∙ ap₂ ◌++◌ (sym (piece s b at 3 l) ∙ ap (unbe 3) e) (drop-drop 3 at s)

  pub entry_bytes_lem : (at : ℕ) (x : Statement) → entry_at s at ≡ some x → (x.is_new_view ≡ false) × (drop at s ≡ entry_bytes x ++ drop (at + 100) s)
  unfolding unbe
  entry_bytes_lem at x e =
      let f = entry_framed s at x e in
      let r = entry_room s at x e in
      let held = take 97 (drop (at + 3) s) in
      let p = propose_read held x f.1 in
      let w : held ≡ write (message x) = write_read held (message x) (bytes_all held (bytes_take (drop (at + 3) s) (bytes_drop s b (at + 3)) 97)) p.1 in
      let z : at + 3 + 97 ≡ at + 100 = omega arith in
      let d : drop (at + 3) s ≡ write (message x) ++ drop (at + 100) s =
      sym (take-append-drop 97 (drop (at + 3) s)) ∙ ap₂ ◌++◌ w (drop-drop 97 (at + 3) s ∙ ap (λ (k : ℕ). drop k s) z) in
      (p.0, first_three at 0x410061 (omega arith) f.0 ∙ ap (λ (t : List ℕ). 0x41 ∷ 0x00 ∷ 0x61 ∷ t) d ∙ ap (◌++ drop (at + 100) s) (sym (shape x p.0)))

-- ---- from a place down

-- a block of a height and a name, and the entries from it down: each allowed, the block that is asked for, and above the next
abbrev Down : Settings → ℕ → ℕ → List Statement → Type 0
Down g zero b [] = Unit {0}
Down g zero b (x ∷ xs) = ⊥
Down g (suc h) b [] = ⊥
Down g (suc h) b (x ∷ xs) = (is_entry g x ≡ true) × (b ≡ x.name) × (suc h ≡ x.height) × Down g h x.link xs

record Stands (g : Settings) (s : List ℕ) (h b k n : ℕ) : Type 0 where
  entries : List Statement
  bytes : drop (entry_place k) s ≡ entries_bytes entries
  down : Down g h b entries
  many : n ≡ k + length entries

stands : (g : Settings) (s : List ℕ) → Bytes s → (h b k n : ℕ) → judge_from g s h b k ≡ accepted n → Stands g s h b k n
unfolding judge_from entries_bytes is_entry
stands g s a zero b k n e =
    by_bool (eqb (entry_place k) (length s))
    (λ q.
    record {
      entries = [];
      bytes = ap (λ (i : ℕ). drop i s) (eqb-true (entry_place k) (length s) q) ∙ drop-length s;
      down = tt;
      many = sym (ap count_of (rw (q, judge_from) at e)) ∙ omega arith;
    })
    (λ q. not_refused (rw (q, judge_from) at e))
stands g s a (suc h) b k n e =
    by_option (parent_in g (suc h) b (entry_at s (entry_place k))) (λ q. not_refused (rw (q, judge_from) at e)) λ p q.
    let l = leads g (suc h) b p (entry_at s (entry_place k)) q in
    let x = l.entry in
    let w = entry_bytes_lem s a (entry_place k) x l.is in
    let r = stands g s a h p (suc k) n (rw (q, judge_from) at e) in
    record {
      entries = x ∷ r.entries;
      bytes = w.1 ∙ ap (entry_bytes x ++◌) (ap (λ (i : ℕ). drop i s) (let z : entry_place k + 100 ≡ entry_place (suc k) = omega arith in z) ∙ r.bytes);
      down = (rw w.0 l.right, l.named, l.high, rw l.parent r.down);
      many = r.many ∙ omega arith;
    }

-- ---- so it is a chain

-- an entry certifies the block that its parent names, one lower
pub certified_by : (g : Settings) (x y : Statement) → is_entry g x ≡ true → x.link ≡ y.name → x.height ≡ suc y.height → certifies g x y ≡ true
unfolding certifies same_block certificate
certified_by g x y e l h =
    let p = entry_parts g x e in
    let m = message_is x p.0 in
    let a = allowed_rights g (propose x.view x.height x.name x.link x.mask x.author) (rw m at p.1) in
    let k : x.height - 1 ≡ y.height = omega arith in
    rw ((mask_parts g x.mask a.4).1, p.0, eqb_self x.view, eq-eqb (x.height - 1) y.height k, eq-eqb x.link y.name l)

down_chain : (g : Settings) (h b : ℕ) (x : Statement) (xs : List Statement) → Down g (suc h) b (x ∷ xs) → is_chain g x xs ≡ true
unfolding is_chain follows
down_chain g zero b x [] d = rw (d.0, eq-eqb x.height 1 (sym d.2))
down_chain g (suc h) b x [] d = absurd d.3
down_chain g zero b x (y ∷ ys) d = absurd d.3
down_chain g (suc h) b x (y ∷ ys) d =
    let t = d.3 in
    let k : x.height ≡ suc y.height = sym d.2 ∙ ap suc t.2 in
    rw (d.0, eq-eqb x.link y.name t.1, eq-eqb x.height (suc y.height) k, certified_by g x y d.0 t.1 k, down_chain g h x.link y ys t)

-- a slip in some bytes: its name and its entries
pub record Shows (g : Settings) (s : List ℕ) (n : ℕ) : Type 0 where
  pub name : ℕ
  pub entries : List Statement
  pub bytes : s ≡ slip_bytes name entries
  pub slip : is_slip g name entries ≡ true
  pub many : length entries ≡ n

-- the name comes first
named_first : (g : Settings) (s : List ℕ) (n : ℕ) → judged g s ≡ accepted n → (is_field s 0 0x40 32 ≡ true) × (judge_from g s (top_height s) (number s 3 32) 0 ≡ accepted n)
unfolding judged
named_first g s n e = by_bool (is_field s 0 0x40 32) (λ q. (q, rw (q, judged) at e)) (λ q. not_refused (rw (q, judged) at e))

headed : (s : List ℕ) → Bytes s → is_field s 0 0x40 32 ≡ true → s ≡ field 0x40 (unbe 32 (number s 3 32)) ++ drop 35 s
unfolding is_field field
headed s a q =
    let v = number s 3 32 in
    let l : 35 ≤ length s = field_room s 0 0x40 32 q in
    let n = eqb-true (number s 0 3) (head 0x40 32) (and_right (leb (0 + 3 + 32) (length s)) (eqb (number s 0 3) (head 0x40 32)) q) in
    let d : drop 3 s ≡ unbe 32 v ++ drop 35 s = sym (take-append-drop 32 (drop 3 s)) ∙ ap₂ ◌++◌ (sym (piece s a 3 32 l)) (drop-drop 32 3 s) in
    first_three s a 0 (head 0x40 32) (omega arith) n ∙ ap (unbe 3 (head 0x40 32) ++◌) d ∙ sized (unbe 32 v) (drop 35 s) (length_unbe 32 v)
  where
    sized : (u r : List ℕ) → length u ≡ 32 → unbe 3 (head 0x40 32) ++ (u ++ r) ≡ (0x40 ∷ unbe 2 (length u) ++ u) ++ r
    sized u r l = unfold unbe in sym (ap (λ (k : ℕ). (0x40 ∷ unbe 2 k ++ u) ++ r) l)

-- an accepted slip has a top, above genesis
top_stands : (g : Settings) (s : List ℕ) (n : ℕ) → judge_from g s (top_height s) (number s 3 32) 0 ≡ accepted n → top_height s ≡ 0 → ⊥
unfolding judge_from
top_stands g s n j z =
    by_option (entry_at s name_end) (λ q. omega (arith, z, top_unread s q)) λ x q.
    let r = entry_room s name_end x q in
    let t : judge_from g s 0 (number s 3 32) 0 ≡ accepted n = ap (λ (h : ℕ). judge_from g s h (number s 3 32) 0) (sym z) ∙ j in
    by_bool (eqb (entry_place 0) (length s)) (λ p. omega (arith, r, eqb-true (entry_place 0) (length s) p)) (λ p. not_refused (rw (p, judge_from) at t))

shown_from : (g : Settings) (s : List ℕ) (n h : ℕ) (xs : List Statement) → (h ≡ 0 → ⊥) → Down g h (number s 3 32) xs → s ≡ slip_bytes (number s 3 32) xs → n ≡ 0 + length xs → Shows g s n
unfolding is_slip
shown_from g s n zero xs z d w m = absurd (z refl)
shown_from g s n (suc h) [] z d w m = absurd d
shown_from g s n (suc h) (x ∷ xs) z d w m =
    record {
      name = number s 3 32;
      entries = x ∷ xs;
      bytes = w;
      slip = rw (eq-eqb (number s 3 32) x.name d.1, down_chain g h (number s 3 32) x xs d);
      many = sym (m ∙ zero-add (length (x ∷ xs)));
    }

-- "accepted only if each propose is allowed, each parent is the next name, heights fall by one, and each entry below the top is
-- certified by the one above it"
pub shows : (g : Settings) (s : List ℕ) (n : ℕ) → Bytes s → judged g s ≡ accepted n → Shows g s n
shows g s n a e =
    let (q, j) = named_first g s n e in
    let r = stands g s a (top_height s) (number s 3 32) 0 n j in
    shown_from g s n (top_height s) r.entries (top_stands g s n j) r.down (headed s a q ∙ ap (field 0x40 (unbe 32 (number s 3 32)) ++◌) r.bytes ∙ sym (slip_cons (number s 3 32) r.entries)) r.many

-- the last entry stands on genesis
pub on_genesis : (g : Settings) (x : Statement) → is_chain g x [] ≡ true → x.link ≡ 0
on_genesis g x c =
    let p = entry_parts g x (chain_entry g x [] c) in
    let a = allowed_rights g (propose x.view x.height x.name x.link x.mask x.author) (rw (message_is x p.0) at p.1) in
    let z : x.height - 1 ≡ 0 = omega (arith, chain_last g x c) in
    genesis_zero x.link (rw z at a.3)

-- each entry below the top has a certificate of f+1 stations: that of the entry above it
pub has_certificate : (g : Settings) (x y : Statement) (ys : List Statement) → is_chain g x (y ∷ ys) ≡ true
    → (quorum g x.mask ≡ true) × (same_block (certificate x) (record { view = x.view; height = y.height; name = y.name; mask = 0 }) ≡ true)
unfolding certifies
has_certificate g x y ys c = let t = (chain_next g x y ys c).2 in (and_left (quorum g x.mask) _ t, and_right (quorum g x.mask) _ t)
