-- The place of the first record that matches: the search row by row, and what a find or a miss tells. Assumes nothing.
use Prim.Native.Nat.{ℕ, zero, suc, ◌+◌, ◌-◌, ◌*◌, ◌^◌, ◌<◌, ◌≤◌}
use mathlib.Core.Path.{◌≡◌, refl, sym, ap, ◌∙◌, subst}
use mathlib.Core.Bool.{Bool, true, false, not, ◌&&◌}
use mathlib.Core.List.{List}
use mathlib.Core.Option.{none, some}
use native.Mathlib.Omega.{arith}
use native.Mathlib.Numerals.{add-one}
use native.Mathlib.Nat.{add-zero}
use lib.Dec.{eqb}
use borrow.Author.Tests.{ne_eqb, not-true, not-false}
use Rattle.rules.specs.Lists.{iff, first, any}
use Rattle.rules.specs.Words.{Statement, same_statement, Certificate, same_block, of_block}
use Rattle.fields.specs.Places.{number, Bytes}
use Rattle.fields.proofs.Laws.{number_lt, number_split}
use Rattle.lookup.proofs.Pairs.{same_pair}
use Rattle.lookup.specs.Search.{seek, pick as lookup-pick, has_block}
use Rattle.rules.specs.Limits.{small}
use Rattle.store.specs.Layout.{tally_size, tally_table, statement_table, size_in, place_of}
use Rattle.store.specs.Decode.{rows, tally_at, tally_for, statement_at}
use Rattle.store.specs.Searches.{pick, first_from}
use Rattle.std.specs.Prelude.{Option, Some, None}
use Rattle.store.proofs.Rows.{rows_from}

-- ---- row by row

module _ {A : Type 0} (f : ℕ → A) (p : A → Bool) (n : ℕ) where
  pub find_none : (i : ℕ) → n ≤ i → first_from p i (rows f i (n - i)) ≡ None
  unfolding rows first_from
  find_none i h = let e : n - i ≡ 0 = omega arith in rw e

  pub find_here : (i : ℕ) → i < n → p (f i) ≡ true → first_from p i (rows f i (n - i)) ≡ Some i
  unfolding first_from
  find_here i h t = rw (rows_from f i n h, t)

  pub find_next : (i : ℕ) → i < n → p (f i) ≡ false → first_from p i (rows f i (n - i)) ≡ first_from p (i + 1) (rows f (i + 1) (n - (i + 1)))
  unfolding first_from
  find_next i h t = rw (rows_from f i n h, t, add-one i)

-- ---- by the place that `lookup` answers

module _ {A : Type 0} (f : ℕ → A) (p : A → Bool) (q : ℕ → Bool) (e : (i : ℕ) → q i ≡ p (f i)) where
  abbrev Placed : ℕ → ℕ → ℕ → Type 0
  Placed i n j = (j < i + n → first_from p i (rows f i n) ≡ Some j) × (i + n ≤ j → first_from p i (rows f i n) ≡ None) × (i ≤ j)

  placed : (i n : ℕ) → Placed i n (seek q i n)
  unfolding seek first_from rows
  placed i zero = ((λ h. absurd (omega arith)), (λ h. refl), omega arith)
  placed i (suc n) = go (q i) refl (placed (suc i) n)
    where
      go : (b : Bool) → q i ≡ b → Placed (suc i) n (seek q (suc i) n) → Placed i (suc n) (lookup-pick b i (seek q (suc i) n))
      go true d h = ((λ l. rw (sym (e i) ∙ d)), (λ l. absurd (omega arith)), omega arith)
      go false d h = ((λ l. rw (sym (e i) ∙ d) (h.0 (omega arith))), (λ l. rw (sym (e i) ∙ d) (h.1 (omega arith))), omega (arith, h.2))

  module _ (i end j : ℕ) (d : j ≡ seek q i (end - i)) where
    pub placed_nowhere : end ≤ j → None ≡ first_from p i (rows f i (end - i))
    placed_nowhere l = let h = placed i (end - i) in sym (h.1 (rw (← d) (omega (arith, h.2, d))))

    pub placed_here : j < end → Some j ≡ first_from p i (rows f i (end - i))
    placed_here l = let h = placed i (end - i) in sym (h.0 (rw (← d) (omega arith)) ∙ ap Some (sym d))

-- ---- what a find tells

module _ {A : Type 0} (p : A → Bool) where
  -- of a search from place i on: what stands at its place, or that nothing matches
  abbrev pub Tells : (ℕ → A) → ℕ → ℕ → Option ℕ → Type 0
  Tells f i n None = (any p (rows f i n) ≡ false) × (first p (rows f i n) ≡ none)
  Tells f i n (Some j) = (i ≤ j) × (j < i + n) × (p (f j) ≡ true) × (any p (rows f i n) ≡ true) × (first p (rows f i n) ≡ some (f j))

  pub tells : (f : ℕ → A) (i n : ℕ) → Tells f i n (first_from p i (rows f i n))
  unfolding first_from rows any first
  tells f i zero = (refl, refl)
  tells f i (suc n) = go (p (f i)) (first_from p (suc i) (rows f (suc i) n)) refl (tells f (suc i) n)
    where
      go : (b : Bool) (r : Option ℕ) → p (f i) ≡ b → Tells f (suc i) n r → Tells f i (suc n) (pick b (Some i) r)
      go true r e h = (omega arith, omega arith, e, rw (e, any), rw (e, first))
      go false None e h = (rw (e, any) h.0, rw (e, first) h.1)
      go false (Some j) e h = (omega (arith, h.0), omega (arith, h.1), h.2, rw (e, any) h.3, rw (e, first) h.4)

  module _ (f : ℕ → A) (n : ℕ) (r : Option ℕ) (e : r ≡ first_from p 0 (rows f 0 n)) where
    told : Tells f 0 n r
    told = subst (Tells f 0 n) (sym e) (tells f 0 n)

    pub found_within : (j : ℕ) → r ≡ Some j → j < n
    found_within j q = omega (arith, (subst (Tells f 0 n) q told).1)

    pub found_matches : (j : ℕ) → r ≡ Some j → p (f j) ≡ true
    found_matches j q = (subst (Tells f 0 n) q told).2

    pub found_any : (j : ℕ) → r ≡ Some j → any p (rows f 0 n) ≡ true
    found_any j q = (subst (Tells f 0 n) q told).3

    pub found_first : (j : ℕ) → r ≡ Some j → first p (rows f 0 n) ≡ some (f j)
    found_first j q = (subst (Tells f 0 n) q told).4

    pub missing_any : r ≡ None → any p (rows f 0 n) ≡ false
    missing_any q = (subst (Tells f 0 n) q told).0

    pub missing_first : r ≡ None → first p (rows f 0 n) ≡ none
    missing_first q = (subst (Tells f 0 n) q told).1

-- ---- view and height as one number

key_splits : (b : List ℕ) → Bytes b → (at v h : ℕ) → h < 256 ^ 4 → eqb (v * 256 ^ 4 + h) (number b at 8) ≡ (eqb v (number b (at + 0) 4) && eqb h (number b (at + 4) 4))
key_splits b k at v h l =
    ap (eqb (v * 256 ^ 4 + h)) (number_split b at 4 4) ∙ same_pair (256 ^ 4) v h (number b at 4) (number b (at + 4) 4) l (number_lt b k (at + 4) 4)
    ∙ ap (λ (n : ℕ). eqb v (number b n 4) && eqb h (number b (at + 4) 4)) (sym (add-zero at))

-- a tally is of the same block where key and name agree
pub block_tally : (b : List ℕ) → Bytes b → (t : Certificate) (i : ℕ) → t.height < 256 ^ 4
    → (eqb (t.view * 256 ^ 4 + t.height) (number b (place_of tally_table (size_in b) i) 8) && eqb t.name (number b (place_of tally_table (size_in b) i + 8) 32)) ≡ of_block t (tally_at b i)
unfolding same_block tally_for
block_tally b k t i l = ap (λ (e : Bool). e && eqb t.name (number b (place_of tally_table (size_in b) i + 8) 32)) (key_splits b k (place_of tally_table (size_in b) i) t.view t.height l)

-- the same in the words of `lookup`, by the key and the base that the code has
pub block_found : (b : List ℕ) → Bytes b → (t : Certificate) → t.height < 256 ^ 4 → (key base : ℕ) → key ≡ t.view * 256 ^ 4 + t.height → base ≡ tally_table.base (size_in b)
    → (i : ℕ) → has_block b key t.name (base + tally_size * i) ≡ of_block t (tally_at b i)
block_found b k t l key base d e i = rw (d, e) (block_tally b k t i l)

-- ---- the same statement

and_false : (a : Bool) → (a && false) ≡ false
and_false true = refl
and_false false = refl

and_comm : (a b : Bool) → (a && b) ≡ (b && a)
and_comm true true = refl
and_comm true false = refl
and_comm false true = refl
and_comm false false = refl

regroup : (i v h n l a : Bool) → (i && v && h && n && l && a) ≡ (v && h && n && (i && (a && l)))
regroup i false h n l a = rw (and_false i)
regroup i true false n l a = rw (and_false (i && true))
regroup i true true false l a = rw (and_false (i && true && true))
regroup true true true true l a = and_comm l a
regroup false true true true l a = refl

-- tested in the order of the code: the block first, then kind, author and link
pub statement_tests : (b : List ℕ) → Bytes b → (x : Statement) (i : ℕ) → x.height < 256 ^ 4
    → same_statement x (statement_at b i)
    ≡ (eqb (x.view * 256 ^ 4 + x.height) (number b (place_of statement_table small i) 8) && eqb x.name (number b (place_of statement_table small i + 8) 32)
    && (iff x.is_new_view (statement_at b i).is_new_view && (eqb x.author (statement_at b i).author && eqb x.link (statement_at b i).link)))
unfolding same_statement statement_at
statement_tests b k x i l =
    let y = statement_at b i in
    let e = key_splits b k (place_of statement_table small i) x.view x.height l in
    regroup (iff x.is_new_view y.is_new_view) (eqb x.view y.view) (eqb x.height y.height) (eqb x.name y.name) (eqb x.link y.link) (eqb x.author y.author)
    ∙ ap (λ (e : Bool). e && eqb x.name y.name && (iff x.is_new_view y.is_new_view && (eqb x.author y.author && eqb x.link y.link))) (sym e)

-- where view and height differ, the rest isn't looked at
pub other_key : (b : List ℕ) → Bytes b → (x : Statement) (i : ℕ) → x.height < 256 ^ 4 → (key read : ℕ) → key ≡ x.view * 256 ^ 4 + x.height → read ≡ number b (place_of statement_table small i) 8 → (read ≡ key → ⊥)
    → same_statement x (statement_at b i) ≡ false
other_key b k x i l key read e q d = statement_tests b k x i l ∙ rw (← e, ← q, ne_eqb key read (λ s. d (sym s)))

-- x held against statement i by the answer r of the block's test
module _ (b : List ℕ) (k : Bytes b) (x : Statement) (i key : ℕ) (l : x.height < 256 ^ 4) (e : key ≡ x.view * 256 ^ 4 + x.height) (r : Bool)
    (q : r ≡ (eqb key (number b (place_of statement_table small i) 8) && eqb x.name (number b (place_of statement_table small i + 8) 32))) where
  tests : same_statement x (statement_at b i)
      ≡ (r && (iff x.is_new_view (statement_at b i).is_new_view && (eqb x.author (statement_at b i).author && eqb x.link (statement_at b i).link)))
  tests = statement_tests b k x i l ∙ rw (q, e)

  pub other_block : not r ≡ true → false ≡ same_statement x (statement_at b i)
  other_block n = sym (tests ∙ rw (not-true r n))

  pub same_block_lem : not r ≡ false → (y : Statement) → y ≡ statement_at b i
      → (iff x.is_new_view y.is_new_view && (eqb x.author y.author && eqb x.link y.link)) ≡ same_statement x (statement_at b i)
  same_block_lem n y d = rw d (sym (tests ∙ rw (not-false r n)))
