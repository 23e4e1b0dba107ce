-- What a station finds in a view that it enters: the set, the pair, or statements to vote on. Assumes nothing.
use Prim.Native.Nat.{ℕ, ◌+◌, ◌<◌, ◌≤◌}
use mathlib.Core.Path.{◌≡◌, sym, ap, ap₂, ◌∙◌, subst}
use mathlib.Core.Bool.{Bool, true, false}
use mathlib.Core.List.{List, [], ◌∷◌}
use mathlib.Core.Option.{none, some}
use native.Mathlib.Omega.{arith}
use lib.Dec.{eqb}
use lib.ListN.{length}
use Rattle.rules.specs.Limits.{most_statements}
use Rattle.rules.specs.Messages.{Message, to_all, blame_set}
use Rattle.rules.specs.Words.{Statement, message, State}
use Rattle.rules.specs.Inputs.{saying, ◌▸◌, quit, blames_of, blame_full, enters_now, next_lock, entering, entered, current, pair, in_order, voting_all, arrive, enter}
use Rattle.laws.proofs.Kept.{enters_at}
use Rattle.wire.specs.Meaning.{statement_of, Linked}
use Rattle.wire.specs.declared.Statement as code
use Rattle.store.specs.Layout.{statement_table, size_in, count_of}
use Rattle.store.specs.Decode.{rows, statement_at, statements, state_from, state_of}
use Rattle.store.specs.Meaning.{Loads}
use Rattle.store.specs.declared.Station.{Station}
use Rattle.store.proofs.Loaded.{loaded_view}
use Rattle.store.proofs.Rows.{rows_length}
use Rattle.search.specs.Finds.{pair_in, InsideBoth, FindsBoth}
use Rattle.search.specs.Lookups.{of_view}
use Rattle.orders.specs.Orders.{turn, standing, InOrder}
use Rattle.std.specs.Prelude.{Option as Maybe, Some, None}
use Rattle.search.proofs.Statements.{current_is}
use Rattle.kept.proofs.Lists.{keep_length, sorted_length}
use Rattle.kept.proofs.Phases.{entering_formed}
use Rattle.kept.proofs.Tallies.{highest_good}
use Rattle.acts.specs.Answers.{Stands}
use Rattle.acts.specs.Works.{Formed, Works}
use Rattle.acts.proofs.Places.{place_sendable, place_message, sendable_linked}
use Rattle.acts.proofs.Works.{formed_parts, left_formed, works_is}
use Rattle.moments.proofs.Sizes.{left_size}

-- ---- by the rules' names

module _ (s : State) where
  arrive_full : blame_full s.view s ≡ true → quit (to_all (blame_set s.view (blames_of s.view s)) ∷ []) s ≡ arrive s
  unfolding arrive
  arrive_full q = rw (q, arrive)

  module _ (q : blame_full s.view s ≡ false) where
    arrive_pair : (x y : Statement) → pair (current s) ≡ some (x, y) → quit (to_all (message x) ∷ to_all (message y) ∷ []) s ≡ arrive s
    unfolding arrive
    arrive_pair x y o = rw (q, o, arrive)

    arrive_votes : pair (current s) ≡ none → voting_all (in_order (current s)) s ≡ arrive s
    unfolding arrive
    arrive_votes o = rw (q, o, arrive)

  pub enter_not : enters_now s ≡ false → saying s [] ≡ enter s
  unfolding enter
  enter_not q = rw (q, enter)

  pub enter_goes : enters_now s ≡ true → entered s ▸ arrive ≡ enter s
  unfolding enter
  enter_goes q = rw (q, enter)

order_length : (v : ℕ) (xs : List Statement) → length (in_order (of_view v xs)) ≤ length xs
unfolding in_order of_view
order_length v xs = let k = keep_length (λ x. eqb x.view v) xs in omega (arith, sorted_length turn (of_view v xs))

-- ---- a stored statement is sent as it was read

module _ {b : List ℕ} (k : Formed b) (i : ℕ) (x : code.Statement) (l : i < count_of statement_table b) (e : statement_of x (statement_at b i).voted ≡ statement_at b i) where
  stands : Stands b i x
  stands = record { within = l; is = e }

  pub read_linked : Linked x
  read_linked = sendable_linked (state_of b).settings x (place_sendable k stands)

  read_message : message (statement_of x none) ≡ message (statement_at b i)
  read_message = place_message k stands

-- ---- by the loaded numbers

module _ {b : List ℕ} (k : Formed b) (s : Station) (e : Loads s b) where
  abbrev S : State
  S = state_of b

  abbrev n : ℕ
  n = count_of statement_table b

  view_is : s.view ≡ S.view
  view_is = loaded_view s b e

  module _ (full : Bool) (is : full ≡ blame_full s.view S) where
    full_is : full ≡ blame_full S.view S
    full_is = is ∙ ap (λ (v : ℕ). blame_full v S) view_is

    pub arrives_full : {b' o o' : List ℕ} {at r : ℕ} → full ≡ true → Works (quit (to_all (blame_set s.view (blames_of s.view S)) ∷ []) S) o at b' o' r
        → Works (arrive S) o at b' o' r
    arrives_full q w = works_is (ap (λ (v : ℕ). quit (to_all (blame_set v (blames_of v S)) ∷ []) S) view_is ∙ arrive_full S (sym full_is ∙ q)) w

    module _ (not_full : full ≡ false) (p : Maybe (ℕ × ℕ)) (f : FindsBoth (statement_at b) n (pair (of_view s.view (statements b))) p) where
      pair_is : pair_in (statement_at b) p ≡ pair (current S)
      unfolding state_of state_from
      pair_is = f.is ∙ ap (λ (v : ℕ). pair (of_view v (statements b))) view_is ∙ ap pair (sym (current_is S))

      pub pair_inside : (i j : ℕ) → p ≡ Some (i, j) → (i < n) × (j < n)
      pair_inside i j q = subst (InsideBoth n) q f.inside

      pub arrives_pair : {b' o o' : List ℕ} {at r : ℕ} (i j : ℕ) → p ≡ Some (i, j) → (x y : code.Statement) → statement_of x (statement_at b i).voted ≡ statement_at b i
          → statement_of y (statement_at b j).voted ≡ statement_at b j
          → Works (quit (to_all (message (statement_of x none)) ∷ to_all (message (statement_of y none)) ∷ []) S) o at b' o' r → Works (arrive S) o at b' o' r
      arrives_pair i j q x y ex ey w =
          let d = pair_inside i j q in
          let o : pair (current S) ≡ some (statement_at b i, statement_at b j) = sym pair_is ∙ ap (pair_in (statement_at b)) q in
          works_is
          (ap₂ (λ (m m' : Message). quit (to_all m ∷ to_all m' ∷ []) S) (read_message k i x d.0 ex) (read_message k j y d.1 ey)
          ∙ arrive_pair S (sym full_is ∙ not_full) (statement_at b i) (statement_at b j) o) w

      pub arrives_votes : {b' o o' : List ℕ} {at r : ℕ} (order : List ℕ) (m : ℕ) → p ≡ None → InOrder b s.view order m
          → Works (voting_all (rows (standing b order) 0 m) S) o at b' o' r → Works (arrive S) o at b' o' r
      unfolding state_of state_from
      arrives_votes order m q i w =
          works_is
          (ap (λ (xs : List Statement). voting_all xs S)
          (i.is ∙ ap (λ (v : ℕ). in_order (of_view v (statements b))) view_is ∙ ap in_order (sym (current_is S)))
          ∙ arrive_votes S (sym full_is ∙ not_full) (sym pair_is ∙ ap (pair_in (statement_at b)) q)) w

  pub order_few : (order : List ℕ) (m : ℕ) → InOrder b s.view order m → m ≤ most_statements (size_in b)
  unfolding state_of state_from
  order_few order m i =
      omega (arith, rows_length (standing b order) 0 m, ap length i.is, order_length s.view (statements b), (formed_parts k).few_statements)

-- ---- then the view is entered

pub entered_size : (b : List ℕ) {b' o o' : List ℕ} {at r : ℕ} → Works (entered (state_of b)) o at b' o' r → size_in b' ≡ size_in b
unfolding entered saying entering state_of state_from
entered_size b w = left_size w.left

module _ {b : List ℕ} (k : Formed b) (q : enters_now (state_of b) ≡ true) where
  pub entered_formed : {b' o o' : List ℕ} {at r : ℕ} → Works (entered (state_of b)) o at b' o' r → Formed b'
  unfolding entered saying next_lock
  entered_formed w =
      let s = state_of b in
      let f = (formed_parts k).formed in
      let l = (enters_at s q).2 in
      left_formed w.left
      (entering_formed f (s.view + 1) (next_lock s) (omega arith) (omega arith) (highest_good s.settings s.clock (s.view + 1) s.tallies (omega arith) f.tables.tallies))
