-- A logged name's propose as the code tests it, and the log entry by entry. Assumes nothing.
use Prim.Native.Nat.{ℕ, suc, ◌+◌, ◌-◌, ◌<◌, ◌≤◌}
use mathlib.Core.Path.{◌≡◌, ap, ◌∙◌}
use mathlib.Core.Bool.{Bool, true, false, not, ◌&&◌, and-true, and-false}
use mathlib.Core.List.{List}
use native.Mathlib.Omega.{arith}
use native.Mathlib.Numerals.{add-one}
use lib.Dec.{eqb}
use borrow.Author.Tests.{ne_eqb, eq-eqb}
use Rattle.rules.specs.Limits.{small}
use Rattle.rules.specs.Lists.{any}
use Rattle.rules.specs.Words as words
use Rattle.rules.specs.Inputs.{is_block}
use Rattle.rules.specs.WellFormed.{linked}
use Rattle.laws.proofs.Truths.{eqb_sym}
use Rattle.fields.specs.Names.{name_of}
use Rattle.fields.specs.Places.{number}
use Rattle.wire.specs.Meaning.{statement_of}
use Rattle.wire.specs.declared.Statement.{Statement}
use Rattle.store.specs.Layout.{size_in, statement_table, log_table, count_of, place_of}
use Rattle.store.specs.Decode.{rows, statement_at, kind_at, name_at, name_for, statements, names}
use Rattle.store.proofs.Rows.{rows_from, rows_end}
use Rattle.form.proofs.Walks.{rows_whole}
use Rattle.linked.specs.Told.{name_below}
use Rattle.linked.specs.Links.{is_link, sought_at}

-- ---- the log

module _ (b : List ℕ) (i h name parent : ℕ) where
  pub link_differs : (h ≡ (statement_at b i).height → ⊥) → false ≡ is_link h name parent (statement_at b i)
  unfolding is_link is_block
  link_differs d = rw (ne_eqb _ _ d, and-false)

  pub link_agrees : h ≡ (statement_at b i).height → (z : Statement) → statement_of z (statement_at b i).voted ≡ statement_at b i
      → (n p : Bool) → n ≡ eqb name (name_of z.name) → p ≡ eqb parent (name_of z.link) → (not z.is_new_view && n && p) ≡ is_link h name parent (statement_at b i)
  unfolding is_link is_block statement_of
  link_agrees e z q n p en ep =
      rw (en, ep, ap (λ (x : words.Statement). x.is_new_view) q, ap (λ (x : words.Statement). x.name) q, ap (λ (x : words.Statement). x.link) q, eq-eqb _ _ e, and-true)

-- the same of a propose with any parent, whose name lies at a place
pub block_agrees : (b : List ℕ) (i h at kind height : ℕ) (same : Bool) → kind ≡ kind_at b i → height ≡ (statement_at b i).height → same ≡ eqb (number b at 32) (number b (place_of statement_table small i + 8) 32)
    → (not (eqb kind 1) && eqb h height && same) ≡ is_block h (number b at 32) (statement_at b i)
unfolding is_block statement_at kind_at
block_agrees b i h at kind height same p q r = rw (p, q, r)

-- the same of what is sought for the name logged at place k
module _ (b : List ℕ) (k j at : ℕ) (q : at ≡ place_of log_table (size_in b) k) {r : Bool} (is : r ≡ is_block (k + 1) (number b at 32) (statement_at b j)) where
  pub sought_any : r ≡ sought_at b k true j
  unfolding name_for
  sought_any = rw (← q) is

  pub sought_above : {s : Bool} → s ≡ eqb (statement_at b j).link (name_below b k) → (s && r) ≡ sought_at b k false j
  sought_above h = rw (h, sought_any)

-- the name below
module _ (b : List ℕ) (k : ℕ) where
  below_genesis : k ≡ 0 → name_below b k ≡ 0
  below_genesis e = rw e

  below_name : (k ≡ 0 → ⊥) → name_below b k ≡ name_at b (k - 1)
  below_name d = let e : k ≡ suc (k - 1) = omega arith in ap (name_below b) e

  -- as a statement's parent is compared with it
  module _ (i : ℕ) {r : Bool} where
    pub above_genesis : k ≡ 0 → r ≡ eqb (number b (place_of statement_table small i + 44) 32) 0 → r ≡ eqb (statement_at b i).link (name_below b k)
    unfolding statement_at
    above_genesis e q = rw (below_genesis e) q

    pub above_name : (k ≡ 0 → ⊥) → (at : ℕ) → at ≡ place_of log_table (size_in b) (k - 1) → r ≡ eqb (number b at 32) (number b (place_of statement_table small i + 44) 32)
        → r ≡ eqb (statement_at b i).link (name_below b k)
    unfolding statement_at name_for
    above_name d at p q =
        let parent = number b (place_of statement_table small i + 44) 32 in
        rw (below_name d, ← p) (q ∙ eqb_sym (number b at 32) parent)

-- whether a propose of the name logged at place i is stored, with the name below as its parent
abbrev pub has_link : List ℕ → ℕ → Bool
has_link b i = any (is_link (i + 1) (name_at b i) (name_below b i)) (statements b)

-- the log from place i on
abbrev pub linked_from : List ℕ → ℕ → ℕ → Bool
linked_from b n i = linked (statements b) i (name_below b i) (rows (name_at b) i (n - i))

module _ (b : List ℕ) (n : ℕ) where
  pub linked_start : n ≡ count_of log_table b → linked (statements b) 0 0 (names b) ≡ linked_from b n 0
  unfolding names
  linked_start e = ap (linked (statements b) 0 0) (rows_whole (name_at b) n (count_of log_table b) e)

  module _ (i : ℕ) where
    pub linked_end : n ≤ i → linked_from b n i ≡ true
    unfolding linked
    linked_end h = ap (linked (statements b) i (name_below b i)) (rows_end (name_at b) n i h)

    module _ (h : i < n) where
      pub linked_here : has_link b i ≡ false → linked_from b n i ≡ false
      unfolding linked is_link
      linked_here t = ap (linked (statements b) i (name_below b i)) (rows_from (name_at b) i n h) ∙ rw (← add-one i, t)

      pub linked_next : has_link b i ≡ true → linked_from b n i ≡ linked_from b n (i + 1)
      unfolding linked is_link
      linked_next t = ap (linked (statements b) i (name_below b i)) (rows_from (name_at b) i n h) ∙ rw (← add-one i, t, ap (name_below b) (add-one i))
