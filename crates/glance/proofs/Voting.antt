-- The number of a vote: when a propose of the view was voted for, and when it is due. Assumes nothing.
use Prim.Native.Nat.{ℕ, ◌+◌, ◌-◌, ◌<◌, ◌≤◌}
use mathlib.Core.Path.{◌≡◌, refl, sym, ap, ◌∙◌}
use mathlib.Core.Bool.{Bool, true, false, not, ◌&&◌, and-false}
use mathlib.Core.List.{List, [], ◌∷◌}
use mathlib.Core.Option.{Option, none, some}
use native.Mathlib.Omega.{arith}
use lib.Dec.{leb, ltb, eqb}
use lib.ListN.{length}
use borrow.Author.Tests.{eq-eqb, ne_eqb, leb-true, le-leb, lt-leb, ltb-true, ltb-false}
use Rattle.rules.specs.Lists.{keep}
use Rattle.rules.specs.Words as words
use Rattle.rules.specs.Inputs.{votes}
use Rattle.laws.proofs.Tests.{by_bool, no_bool}
use Rattle.std.specs.Prelude.{Option as Told, Some, None}
use native.Mathlib.Numerals.{add-one}
use Rattle.tallies.specs.Values.{told, vote_number}
use Rattle.store.specs.Decode.{rows, statement_at, kind_at, vote_at, statements, state_from, state_of}
use Rattle.tallies.proofs.Values.{vote_number_lem}
use Rattle.store.proofs.Values.{voted_is}
use Rattle.store.proofs.Rows.{rows_from}
use Rattle.glance.specs.Votes.{vote_if, vote_in, is_voted, is_ripe}

vote_read : (b : List ℕ) (i : ℕ) → vote_at b i ≡ vote_number (statement_at b i).voted
vote_read b i = sym (ap vote_number (voted_is b i) ∙ vote_number_lem (vote_at b i))

-- the vote's number, from what is read
module _ (b : List ℕ) (i view : ℕ) where
  pub vote_other : ((statement_at b i).view ≡ view → ⊥) → 0 ≡ vote_in view (statement_at b i)
  unfolding vote_in
  vote_other d = rw (ne_eqb _ _ d, and-false)

  pub vote_new_view : kind_at b i ≡ 1 → 0 ≡ vote_in view (statement_at b i)
  unfolding vote_in statement_at kind_at
  vote_new_view e = rw (eq-eqb _ _ e)

  own_vote : (statement_at b i).view ≡ view → (kind_at b i ≡ 1 → ⊥) → vote_number (statement_at b i).voted ≡ vote_in view (statement_at b i)
  unfolding vote_in statement_at kind_at
  own_vote e d = rw (ne_eqb _ _ d, eq-eqb _ _ e)

  pub vote_own : (statement_at b i).view ≡ view → (kind_at b i ≡ 1 → ⊥) → vote_at b i ≡ vote_in view (statement_at b i)
  vote_own e d = vote_read b i ∙ own_vote e d

  pub vote_propose : (statement_at b i).view ≡ view → (statement_at b i).is_new_view ≡ false → vote_at b i ≡ vote_in view (statement_at b i)
  unfolding vote_in
  vote_propose e q = vote_read b i ∙ rw (q, eq-eqb _ _ e)

-- the vote's number, from what the code tells of it
module _ (view : ℕ) (x : words.Statement) (r : Told ℕ) (e : vote_number (told r) ≡ vote_in view x) where
  pub vote_missing : r ≡ None → vote_in view x ≡ 0
  vote_missing s = sym e ∙ ap (λ (q : Told ℕ). vote_number (told q)) s

  pub vote_given : (c : ℕ) → r ≡ Some c → c + 1 ≡ vote_in view x
  vote_given c s = add-one c ∙ sym (ap (λ (q : Told ℕ). vote_number (told q)) s) ∙ e

-- ---- what the number says

module _ (view : ℕ) (x : words.Statement) where
  pub voted_not : vote_in view x ≡ 0 → is_voted view x ≡ false
  unfolding vote_in is_voted
  voted_not = go (not x.is_new_view && eqb x.view view) x.voted
    where
      go : (q : Bool) (o : Option ℕ) → vote_if q o ≡ 0 → (q && elim o [ none ↦ false | some c ↦ true ]) ≡ false
      go false o e = refl
      go true none e = refl
      go true (some c) e = absurd (omega arith)

  pub voted_so : (vote_in view x ≡ 0 → ⊥) → is_voted view x ≡ true
  unfolding vote_in is_voted
  voted_so = go (not x.is_new_view && eqb x.view view) x.voted
    where
      go : (q : Bool) (o : Option ℕ) → (vote_if q o ≡ 0 → ⊥) → (q && elim o [ none ↦ false | some c ↦ true ]) ≡ true
      go false o d = absurd (d refl)
      go true none d = absurd (d refl)
      go true (some c) d = refl

  module _ (wait now : ℕ) where
    pub ripe_not : vote_in view x ≡ 0 → false ≡ is_ripe view wait now x
    unfolding vote_in is_ripe
    ripe_not = go (not x.is_new_view && eqb x.view view) x.voted
      where
        go : (q : Bool) (o : Option ℕ) → vote_if q o ≡ 0 → false ≡ (q && elim o [ none ↦ false | some c ↦ leb (wait + 1) (now - c) ])
        go false o e = refl
        go true none e = refl
        go true (some c) e = absurd (omega arith)

    -- at least `wait` + 1 ticks ago: the number, one more than the vote's clock, is `wait` or more below the clock
    pub ripe_by : (k : ℕ) → k ≡ vote_in view x → (k ≡ 0 → ⊥) → leb (k + wait) now ≡ is_ripe view wait now x
    unfolding vote_in is_ripe
    ripe_by = go (not x.is_new_view && eqb x.view view) x.voted
      where
        same : (a b c d : ℕ) → (a ≤ b → c ≤ d) → (c ≤ d → a ≤ b) → leb a b ≡ leb c d
        same a b c d to from =
            by_bool (leb a b) (λ e. e ∙ sym (le-leb c d (to (leb-true a b e))))
            (λ e. by_bool (leb c d) (λ f. no_bool (sym (le-leb a b (from (leb-true c d f))) ∙ e)) (λ f. e ∙ sym f))

        go : (q : Bool) (o : Option ℕ) (k : ℕ) → k ≡ vote_if q o → (k ≡ 0 → ⊥)
            → leb (k + wait) now ≡ (q && elim o [ none ↦ false | some c ↦ leb (wait + 1) (now - c) ])
        go false o k e d = absurd (d e)
        go true none k e d = absurd (d e)
        go true (some c) k e d = same (k + wait) now (wait + 1) (now - c) (λ l. omega arith) (λ l. omega arith)

    -- from the clock itself
    pub ripe_told : (r : Told ℕ) → vote_number (told r) ≡ vote_in view x → (c : ℕ) → r ≡ Some c → ltb (c + wait) now ≡ is_ripe view wait now x
    ripe_told r e c s =
        let k : c + 1 ≡ vote_in view x = vote_given view x r e c s in
        same (c + wait) now ∙ ap (λ (n : ℕ). leb n now) (omega arith) ∙ ripe_by (c + 1) k (λ z. absurd (omega arith))
      where
        same : (a b : ℕ) → ltb a b ≡ leb (a + 1) b
        same a b = by_bool (ltb a b) (λ q. q ∙ sym (le-leb (a + 1) b (omega (arith, ltb-true a b q)))) (λ q. q ∙ sym (lt-leb (a + 1) b (omega (arith, ltb-false a b q))))

-- ---- a loop downward over the records that pass

module _ {A : Type 0} (p : A → Bool) (f : ℕ → A) (n i : ℕ) (pos : 0 < i) (l : i ≤ n) where
  rows_down : rows f (i - 1) (n - (i - 1)) ≡ f (i - 1) ∷ rows f i (n - i)
  rows_down = let e : i - 1 + 1 ≡ i = omega arith in rows_from f (i - 1) n (omega arith) ∙ ap (λ (k : ℕ). f (i - 1) ∷ rows f k (n - k)) e

  pub keep_not : p (f (i - 1)) ≡ false → keep p (rows f (i - 1) (n - (i - 1))) ≡ keep p (rows f i (n - i))
  unfolding keep
  keep_not e = ap (keep p) rows_down ∙ rw (e, keep)

  pub keep_so : p (f (i - 1)) ≡ true → keep p (rows f (i - 1) (n - (i - 1))) ≡ f (i - 1) ∷ keep p (rows f i (n - i))
  unfolding keep
  keep_so e = ap (keep p) rows_down ∙ rw (e, keep)

pub keep_end : {A : Type 0} (p : A → Bool) (f : ℕ → A) (n : ℕ) → keep p (rows f n (n - n)) ≡ []
unfolding keep rows
keep_end p f n = let e : n - n ≡ 0 = omega arith in rw e

-- those that pass, all of them, are rules' votes
pub votes_are : (b : List ℕ) (view : ℕ) → view ≡ (state_of b).view → length (keep (is_voted view) (statements b)) ≡ votes (state_of b)
unfolding votes is_voted state_of state_from
votes_are b view e = ap (λ (v : ℕ). length (keep (is_voted v) (statements b))) e
