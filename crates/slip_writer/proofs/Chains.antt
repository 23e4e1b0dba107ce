-- The chain of the log, entry by entry, as it is looked up and written. Assumes nothing.
use Prim.Native.Nat.{ℕ, zero, suc, ◌+◌, ◌-◌, ◌*◌, ◌^◌, ◌<◌, ◌≤◌}
use mathlib.Core.Path.{◌≡◌, refl, sym, ap, ap₂, subst, ◌∙◌}
use mathlib.Core.Bool.{Bool, true, false, not, ◌&&◌}
use mathlib.Core.List.{List, [], ◌∷◌, ◌++◌, append_assoc, append-nil}
use mathlib.Core.Option.{Option, none, some}
use native.Mathlib.Omega.{arith}
use native.Mathlib.Nat.{zero-add}
use lib.ListN.{length, get_or, length-append}
use lib.Dec.{eqb, lit<, lit≤}
use borrow.Author.Tests.{eqb-true, not-true}
use Rattle.rules.specs.Limits.{Size, small, large, most_statements, least_out}
use Rattle.rules.specs.Lists.{unbe, first}
use Rattle.rules.specs.Messages.{field, write, size}
use Rattle.rules.specs.Words.{Statement, message}
use Rattle.rules.specs.Inputs.{is_block}
use Rattle.laws.proofs.Searches.{first_any}
use Rattle.laws.proofs.Tests.{by_bool, by_option, no_bool, and_left, and_right}
use Rattle.laws.proofs.Bytes.{length_unbe}
use Rattle.fields.specs.Places.{put}
use Rattle.wire.specs.Fields.{head}
use Rattle.wire.specs.Meaning.{statement_of}
use Rattle.wire.specs.declared.Statement as code
use Rattle.outgoing.specs.Wrote.{Says}
use Rattle.laws.proofs.Lengths.{length_field, length_write}
use Rattle.outgoing.proofs.Writing.{says_none, says_both, put_says, field_says}
use Rattle.store.specs.Layout.{statement_table, log_table, count_of}
use Rattle.store.specs.Decode.{statement_at, name_at, statements, names}
use Rattle.store.specs.Searches.{pick, first_from}
use Rattle.std.specs.Prelude.{Option as Maybe, Some, None}
use Rattle.store.proofs.Rows.{rows_at, rows_length}
use Rattle.store.proofs.Searches.{found_within, found_matches, found_first, missing_first}
use Rattle.linked.specs.Links.{is_link}
use Rattle.slip_entries.specs.Entries.{entry_bytes}
use Rattle.slip.specs.Slips.{entries_bytes, slip_bytes}
use Rattle.slip_writer.specs.Writer.{logged_at, height_from, log_chain}

-- ---- the names of the log

pub logged_zero : (l : List ℕ) {h n : ℕ} → h ≡ 0 → n ≡ 0 → n ≡ logged_at l h
unfolding logged_at
logged_zero l e q = rw (e, logged_at) q

pub logged_is : (b : List ℕ) {h n : ℕ} → (h ≡ 0 → ⊥) → h ≤ count_of log_table b → n ≡ name_at b (h - 1) → n ≡ logged_at (names b) h
unfolding logged_at names
logged_is b {h} {n} z l e =
    let s : h ≡ suc (h - 1) = omega (arith, z) in
    let r : get_or (names b) (h - 1) 0 ≡ name_at b (h - 1) = rows_at (name_at b) 0 0 (count_of log_table b) (h - 1) (omega (arith, z, l)) ∙ ap (name_at b) (zero-add (h - 1)) in
    e ∙ sym r ∙ sym (ap (logged_at (names b)) s)

-- the height of a name that is found in the log, and of one that isn't
Heights : ℕ → ℕ → List ℕ → Maybe ℕ → Type 0
Heights b i l None = height_from (suc i) b l ≡ none
Heights b i l (Some j) = (height_from (suc i) b l ≡ some (suc j)) × (j < i + length l)

heights : (b i : ℕ) (l : List ℕ) → Heights b i l (first_from (eqb b) i l)
unfolding Heights height_from first_from
heights b i [] = refl
heights b i (c ∷ l) = go (eqb b c) (first_from (eqb b) (suc i) l) refl (heights b (suc i) l)
  where
    go : (t : Bool) (r : Maybe ℕ) → eqb b c ≡ t → Heights b (suc i) l r → Heights b i (c ∷ l) (pick t (Some i) r)
    go true r e h = (rw (e, height_from), omega arith)
    go false None e h = rw (e, height_from) h
    go false (Some j) e h = (rw (e, height_from) h.0, omega (arith, h.1))

module _ (b : List ℕ) (n : ℕ) {r : Maybe ℕ} (e : r ≡ first_from (eqb n) 0 (names b)) where
  told : Heights n 0 (names b) r
  told = subst (Heights n 0 (names b)) (sym e) (heights n 0 (names b))

  pub name_found : {j : ℕ} → r ≡ Some j → (height_from 1 n (names b) ≡ some (suc j)) × (suc j ≤ count_of log_table b)
  unfolding Heights names
  name_found {j} q =
      let t = subst (Heights n 0 (names b)) q told in
      (t.0, omega (arith, t.1, rows_length (name_at b) 0 (count_of log_table b)))

  pub name_missing : r ≡ None → height_from 1 n (names b) ≡ none
  unfolding Heights
  name_missing q = subst (Heights n 0 (names b)) q told

-- ---- one entry

-- the same message, whatever is known of the vote
said_is : (x : code.Statement) (y : Statement) → statement_of x y.voted ≡ y → message (statement_of x none) ≡ message y
unfolding message statement_of
said_is x y f = ap message f

propose_length : (y : Statement) → y.is_new_view ≡ false → length (write (message y)) ≡ 97
unfolding message size
propose_length y e = length_write (message y) ∙ rw (e, message)

pub length_entry : (y : Statement) → y.is_new_view ≡ false → length (entry_bytes y) ≡ 100
unfolding entry_bytes
length_entry y e = omega (arith, length_field 0x41 (write (message y)), propose_length y e)

module _ (x : code.Statement) (y : Statement) (f : statement_of x y.voted ≡ y) (e : y.is_new_view ≡ false) where
  pub is_propose : x.is_new_view ≡ false
  unfolding statement_of
  is_propose = ap (λ (z : Statement). z.is_new_view) f ∙ e

  pub said_length : length (write (message (statement_of x none))) ≡ 97
  said_length = ap (λ m. length (write m)) (said_is x y f) ∙ propose_length y e

  pub entry_says : {o o₁ o₂ : List ℕ} {at r : ℕ} → o₁ ≡ put o at 3 (head 0x41 97) → Says o₁ (at + 3) (write (message (statement_of x none))) o₂ r → Says o at (entry_bytes y) o₂ r
  unfolding entry_bytes
  entry_says {o} {o₁} {o₂} {at} {r} p q =
      let l = propose_length y e in
      field_says o at 0x41 (write (message y)) (lit< tt) (omega arith) (p ∙ ap (λ (n : ℕ). put o at 3 (head 0x41 n)) (sym l))
      (subst (λ m. Says o₁ (at + 3) (write m) o₂ r) (said_is x y f) q)

-- ---- the chain

module _ (b : List ℕ) where
  abbrev entries : ℕ → List ℕ
  entries h = entries_bytes (log_chain (statements b) (names b) h)

  -- what is written so far, and that what is left makes it whole
  pub record SoFar (height : ℕ) (o : List ℕ) (at left : ℕ) (o₁ : List ℕ) (next : ℕ) : Type 0 where
    pub done : List ℕ
    pub says : Says o at done o₁ next
    pub rest : done ++ entries left ≡ entries height

  pub far_none : (height : ℕ) (o : List ℕ) (at : ℕ) → SoFar height o at height o at
  far_none height o at = record { done = []; says = says_none o at; rest = refl }

  pub far_all : {height : ℕ} {o : List ℕ} {at left : ℕ} {o₁ : List ℕ} {next : ℕ} → SoFar height o at left o₁ next → left ≤ 0 → Says o at (entries height) o₁ next
  unfolding log_chain entries_bytes
  far_all {height} {o} {at} {left} {o₁} {next} g z =
      let e : left ≡ 0 = omega arith in
      let q : entries left ≡ [] = ap entries e in
      subst (λ (bs : List ℕ). Says o at bs o₁ next) (sym (append-nil g.done) ∙ ap (g.done ++◌) (sym q) ∙ g.rest) g.says

  -- a propose that is looked up at a height
  module _ (left : ℕ) (p : 0 < left) {n m : ℕ} (u : n ≡ logged_at (names b) left) (v : m ≡ logged_at (names b) (left - 1)) {r : Maybe ℕ} (e : r ≡ first_from (is_link left n m) 0 (statements b)) where
    abbrev asked : Statement → Bool
    asked = is_link left n m

    found_is : {o : Option Statement} → first asked (statements b) ≡ o
        → entries left ≡ elim o [ none ↦ [] | some x ↦ entry_bytes x ++ entries (left - 1) ]
    unfolding log_chain entries_bytes
    found_is {o} q =
        let s : left ≡ suc (left - 1) = omega arith in
        let k : first (is_link (suc (left - 1)) (logged_at (names b) (suc (left - 1))) (logged_at (names b) (left - 1))) (statements b) ≡ o =
        ap₂ (λ (i j : ℕ). first (is_link i j (logged_at (names b) (left - 1))) (statements b)) (sym s) (ap (logged_at (names b)) (sym s) ∙ sym u)
        ∙ ap (λ (i : ℕ). first (is_link left n i) (statements b)) (sym v) ∙ q in
        ap entries s ∙ go o k
      where
        go : (o : Option Statement) → first (is_link (suc (left - 1)) (logged_at (names b) (suc (left - 1))) (logged_at (names b) (left - 1))) (statements b) ≡ o
            → entries (suc (left - 1)) ≡ elim o [ none ↦ [] | some x ↦ entry_bytes x ++ entries (left - 1) ]
        go none k = rw (k, log_chain)
        go (some x) k = rw (k, log_chain)

    pub far_missing : {height : ℕ} {o : List ℕ} {at : ℕ} {o₁ : List ℕ} {next : ℕ} → SoFar height o at left o₁ next → r ≡ None → Says o at (entries height) o₁ next
    unfolding statements
    far_missing {height} {o} {at} {o₁} {next} g q =
        let k = found_is (missing_first asked (statement_at b) (count_of statement_table b) r e q) in
        subst (λ (bs : List ℕ). Says o at bs o₁ next) (sym (append-nil g.done) ∙ ap (g.done ++◌) (sym k) ∙ g.rest) g.says

    module _ {i : ℕ} (q : r ≡ Some i) where
      pub link_within : i < count_of statement_table b
      unfolding statements
      link_within = found_within asked (statement_at b) (count_of statement_table b) r e i q

      pub link_propose : (statement_at b i).is_new_view ≡ false
      unfolding statements is_link is_block
      link_propose = by_bool (statement_at b i).is_new_view (λ t. no_bool (sym (rw t at (found_matches asked (statement_at b) (count_of statement_table b) r e i q)))) (λ t. t)

      pub link_length : length (entry_bytes (statement_at b i)) ≡ 100
      link_length = length_entry (statement_at b i) link_propose

      pub far_more : {height : ℕ} {o : List ℕ} {at : ℕ} {o₁ : List ℕ} {next : ℕ} {o₂ : List ℕ} {end : ℕ} → SoFar height o at left o₁ next → Says o₁ next (entry_bytes (statement_at b i)) o₂ end
          → SoFar height o at (left - 1) o₂ end
      unfolding statements
      far_more {height} {o} {at} {o₁} {next} {o₂} {end} g t =
          let k = found_is (found_first asked (statement_at b) (count_of statement_table b) r e i q) in
          let x = entry_bytes (statement_at b i) in
          record {
            done = g.done ++ x;
            says = says_both o at g.done x o₁ o₂ next end g.says t;
            rest = append_assoc g.done x (entries (left - 1)) ∙ ap (g.done ++◌) (sym k) ∙ g.rest;
          }

-- ---- the slip

-- what is looked up is a propose
pub looked_up : (h n m : ℕ) (xs : List Statement) (x : Statement) → first (is_link h n m) xs ≡ some x → (x.is_new_view ≡ false) × (h ≡ x.height) × (n ≡ x.name) × (m ≡ x.link)
unfolding is_link is_block
looked_up h n m xs x e =
    let t = (first_any (is_link h n m) xs x e).1 in
    let u = and_left (is_block h n x) (eqb m x.link) t in
    let v = and_left (not x.is_new_view && eqb h x.height) (eqb n x.name) u in (
      not-true x.is_new_view (and_left (not x.is_new_view) (eqb h x.height) v),
      eqb-true h x.height (and_right (not x.is_new_view) (eqb h x.height) v),
      eqb-true n x.name (and_right (not x.is_new_view && eqb h x.height) (eqb n x.name) u),
      eqb-true m x.link (and_right (is_block h n x) (eqb m x.link) t),
    )

chain_most : (xs : List Statement) (l : List ℕ) (h : ℕ) → length (entries_bytes (log_chain xs l h)) ≤ 100 * h
unfolding log_chain entries_bytes
chain_most xs l zero = omega arith
chain_most xs l (suc h) =
    by_option (first (is_link (suc h) (logged_at l (suc h)) (logged_at l h)) xs) (λ q. rw (q, log_chain) (omega arith)) λ x q.
    let k = length_entry x (looked_up (suc h) (logged_at l (suc h)) (logged_at l h) xs x q).0 in
    rw (q, log_chain) (omega (arith, length-append (entry_bytes x) (entries_bytes (log_chain xs l h)), k, chain_most xs l h))

pub slip_most : (n : ℕ) (xs : List Statement) (l : List ℕ) (h : ℕ) → length (slip_bytes n (log_chain xs l h)) ≤ 35 + 100 * h
unfolding slip_bytes
slip_most n xs l h =
    omega (arith, length-append (field 0x40 (unbe 32 n)) (entries_bytes (log_chain xs l h)), length_field 0x40 (unbe 32 n), length_unbe 32 n, chain_most xs l h)

-- the out buffer has room for the slip of a log that is full
pub slip_fits : (z : Size) → 35 + 100 * most_statements z ≤ least_out z
unfolding most_statements least_out
slip_fits small = lit≤ tt
slip_fits large = lit≤ tt

pub slip_says : {s₁ s₂ left : List ℕ} {end : ℕ} (s : List ℕ) (n : ℕ) (xs : List Statement) → n < 256 ^ 32 → s₁ ≡ put s 0 3 (head 0x40 32) → s₂ ≡ put s₁ 3 32 n
    → Says s₂ 35 (entries_bytes xs) left end → Says s 0 (slip_bytes n xs) left end
unfolding slip_bytes
slip_says {s₁} {s₂} {left} {end} s n xs h p q t =
    let l = length_unbe 32 n in
    let f : Says s 0 (field 0x40 (unbe 32 n)) s₂ 35 = field_says s 0 0x40 (unbe 32 n) (lit< tt) (omega arith) (p ∙ ap (λ (k : ℕ). put s 0 3 (head 0x40 k)) (sym l)) (put_says s₁ 3 32 n h q (omega arith)) in
    says_both s 0 (field 0x40 (unbe 32 n)) (entries_bytes xs) s₂ left 35 end f t
