-- When the parts of a tick are due, by the numbers of a loaded station. Assumes nothing.
use Prim.Native.Nat.{ℕ, ◌+◌, ◌-◌, ◌*◌, ◌^◌, ◌≤◌, ◌<◌}
use mathlib.Core.Path.{◌≡◌, refl, sym, ap, ◌∙◌}
use mathlib.Core.Bool.{Bool, true, false, not, ◌&&◌, and-true, and-false}
use mathlib.Core.List.{List}
use mathlib.Core.Option.{none, some}
use native.Mathlib.Omega.{arith}
use native.Mathlib.Nat.{mul-le-mul_left}
use lib.Dec.{leb, ltb, eqb}
use lib.ListN.{length}
use borrow.Author.Tests.{lt-leb, le-leb}
use Rattle.rules.specs.Limits.{last_view, most_delay, last_view_large, most_statements_large}
use Rattle.rules.specs.Sizes as sizes
use Rattle.rules.specs.Sizes.{leader, holds}
use Rattle.rules.specs.Messages.{view_allowed}
use Rattle.rules.specs.Words as words
use Rattle.rules.specs.Words.{State, in_view, waiting, stopped}
use Rattle.rules.specs.Inputs.{with_clock, is_in, leads, blames_of, votes, overdue, leads_now, enters_now}
use Rattle.laws.proofs.Bounds.{statements_most}
use Rattle.settings.specs.Made.{settings_of}
use Rattle.store.specs.Layout.{size_in}
use Rattle.store.specs.Decode.{blame_at, state_from, state_of}
use Rattle.store.specs.Meaning.{course_of, Loads}
use Rattle.store.specs.declared.Station.{Station}
use Rattle.store.specs.declared.Phase.{Phase}
use Rattle.store.specs.declared.Phase.TheVariants.{InView, Waiting, Stopped}
use Rattle.store.proofs.Loaded.{loaded_settings, loaded_phase, loaded_view, loaded_entry, loaded_clock}
use Rattle.kept.proofs.Lists.{keep_length}
use Rattle.kept.proofs.Facts.{sizes_of, clocks_of}
use Rattle.acts.specs.Works.{Formed}
use Rattle.acts.proofs.Works.{formed_parts}
use Rattle.acts.proofs.Stores.{view_in, blame_place}

-- ---- by the rules' names

module _ (s : State) where
  pub calm_outside : is_in s.view s ≡ false → false ≡ overdue s
  unfolding overdue
  calm_outside q = rw q

  pub calm_early : leb ((2 * votes s + 6) * s.settings.D + 2) (s.clock - s.entry) ≡ false → false ≡ overdue s
  unfolding overdue
  calm_early q = rw (q, and-false)

  pub overdue_by : is_in s.view s ≡ true → leb ((2 * votes s + 6) * s.settings.D + 2) (s.clock - s.entry) ≡ true
      → not (holds (blames_of s.view s) s.settings.own) ≡ overdue s
  unfolding overdue
  overdue_by p q = rw (p, q, and-true)

  pub leads_outside : is_in s.view s ≡ false → false ≡ leads s
  unfolding leads
  leads_outside q = rw q

  pub leads_by : is_in s.view s ≡ true → eqb (leader s.settings s.view) s.settings.own ≡ leads s
  unfolding leads
  leads_by q = rw q

  -- of the leader's moment, at any clock
  module _ (c : ℕ) where
    pub clock_leads : leads (with_clock c s) ≡ leads s
    unfolding with_clock leads is_in
    clock_leads = refl

    pub leads_never : eqb c (s.entry + 2 * s.settings.D + 1) ≡ false → false ≡ leads_now (with_clock c s)
    unfolding leads_now with_clock
    leads_never q = rw (q, and-false)

    pub leads_then : eqb c (s.entry + 2 * s.settings.D + 1) ≡ true → leads s ≡ leads_now (with_clock c s)
    unfolding leads_now with_clock
    leads_then q = rw (q, and-true) (sym clock_leads)

    -- what a clock doesn't change
    pub clock_in : (v : ℕ) → is_in v (with_clock c s) ≡ is_in v s
    unfolding with_clock is_in
    clock_in v = refl

    pub clock_votes : votes (with_clock c s) ≡ votes s
    unfolding with_clock votes
    clock_votes = refl

    pub clock_blames : (v : ℕ) → blames_of v (with_clock c s) ≡ blames_of v s
    unfolding with_clock blames_of
    clock_blames v = refl

  unfoldable enters_if : words.Phase → Bool
  enters_if p = elim p [ in_view ↦ false | waiting q ↦ ltb s.view (last_view s.settings.size) && eqb s.clock (q + s.settings.D + 1) | stopped c ↦ false ]

  by_phase : enters_if s.phase ≡ enters_now s
  unfolding enters_if enters_now
  by_phase = refl

-- "m being proposes voted for" are not more than are stored
pub votes_few : (s : State) → votes s ≤ length s.statements
unfolding votes
votes_few s =
    keep_length (λ x. not x.is_new_view && eqb x.view s.view && elim x.voted [ none ↦ false | some c ↦ true ]) s.statements

-- so the wait is a small number
pub short_wait : (m d : ℕ) → m ≤ most_statements_large → d ≤ most_delay → (2 * m + 6) * d + 2 ≤ 2 ^ 32
short_wait m d f l = let h : (2 * m + 6) * d ≤ (2 * m + 6) * most_delay = mul-le-mul_left (2 * m + 6) l in omega arith

-- ---- by the loaded numbers

module _ {b : List ℕ} (k : Formed b) (s : Station) (e : Loads s b) where
  abbrev S : State
  S = state_of b

  part : (f : sizes.Settings → ℕ) → f (settings_of s.settings) ≡ f S.settings
  part f = ap f (loaded_settings s b e)

  pub view_of_loaded : view_allowed S.settings s.view ≡ true
  view_of_loaded = ap (view_allowed S.settings) (loaded_view s b e) ∙ (formed_parts k).formed.view

  pub view_limits : (1 ≤ s.view) × (s.view ≤ last_view (size_in b)) × (s.view ≤ last_view_large)
  view_limits = view_in b s.view view_of_loaded

  pub short_delay : s.settings.delay ≤ most_delay
  short_delay = let z = sizes_of (formed_parts k).formed in omega (arith, part (λ g. g.D))

  pub some_stations : 0 < s.settings.n
  some_stations = let z = sizes_of (formed_parts k).formed in omega (arith, part (λ g. g.n))

  pub few_votes : (m : ℕ) → m ≡ votes S → m ≤ most_statements_large
  few_votes m q = omega (arith, votes_few S, (formed_parts k).few_statements, statements_most S.settings.size)

  pub entered_before : s.entry ≤ s.clock
  entered_before = let c = clocks_of (formed_parts k).formed in omega (arith, loaded_entry s b e, loaded_clock s b e)

  in_own : (q : Bool) → q ≡ is_in s.view S → q ≡ is_in S.view S
  in_own q r = r ∙ ap (λ (v : ℕ). is_in v S) (loaded_view s b e)

  own_held : (m : ℕ) → m ≡ blame_at b (s.view - 1) → holds m s.settings.own ≡ holds (blames_of S.view S) S.settings.own
  own_held m q =
      let w : m ≡ blames_of S.view S = q ∙ blame_place b s.view view_of_loaded ∙ ap (λ (v : ℕ). blames_of v S) (loaded_view s b e) in
      λ i. holds (w i) (part (λ g. g.own) i)

  -- of the blame, at any clock
  module _ (c : ℕ) where
    pub loaded_calm : (q : Bool) → q ≡ is_in s.view S → q ≡ false → false ≡ overdue (with_clock c S)
    unfolding with_clock
    loaded_calm q r f = calm_outside (with_clock c S) (clock_in S c S.view ∙ sym (in_own q r) ∙ f)

    waited : (n : ℕ) → n ≡ votes S
        → leb ((2 * n + 6) * s.settings.delay + 2) (c - s.entry) ≡ leb ((2 * votes (with_clock c S) + 6) * S.settings.D + 2) (c - S.entry)
    waited n v =
        let w : n ≡ votes (with_clock c S) = v ∙ sym (clock_votes S c) in
        λ i. leb ((2 * w i + 6) * part (λ g. g.D) i + 2) (c - loaded_entry s b e i)

    pub loaded_early : (n : ℕ) → n ≡ votes S → c - s.entry < (2 * n + 6) * s.settings.delay + 2 → false ≡ overdue (with_clock c S)
    unfolding with_clock
    loaded_early n v l = calm_early (with_clock c S) (sym (waited n v) ∙ lt-leb _ _ l)

    pub loaded_overdue : (q : Bool) (m n : ℕ) → q ≡ is_in s.view S → q ≡ true → m ≡ blame_at b (s.view - 1) → n ≡ votes S → (2 * n + 6) * s.settings.delay + 2 ≤ c - s.entry
        → not (holds m s.settings.own) ≡ overdue (with_clock c S)
    unfolding with_clock
    loaded_overdue q m n r t w v l =
        ap not (own_held m w) ∙ ap (λ (x : ℕ). not (holds x S.settings.own)) (sym (clock_blames S c S.view))
        ∙ overdue_by (with_clock c S) (clock_in S c S.view ∙ sym (in_own q r) ∙ t) (sym (waited n v) ∙ le-leb _ _ l)

  pub overdue_now : overdue (with_clock s.clock S) ≡ overdue S
  unfolding with_clock
  overdue_now = ap (λ (c : ℕ). overdue (with_clock c S)) (loaded_clock s b e)

  pub loaded_outside : (q : Bool) → q ≡ is_in s.view S → q ≡ false → false ≡ leads S
  loaded_outside q r f = leads_outside S (sym (in_own q r) ∙ f)

  pub loaded_leads : (q : Bool) (l : ℕ) → q ≡ is_in s.view S → q ≡ true → l ≡ leader (settings_of s.settings) s.view → eqb l s.settings.own ≡ leads S
  loaded_leads q l r t w =
      (λ i. eqb ((w ∙ (λ j. leader (loaded_settings s b e j) (loaded_view s b e j))) i) (part (λ g. g.own) i)) ∙ leads_by S (sym (in_own q r) ∙ t)

  past : (c : ℕ) → eqb c (s.entry + 2 * s.settings.delay + 1) ≡ eqb c (S.entry + 2 * S.settings.D + 1)
  past c = λ i. eqb c (loaded_entry s b e i + 2 * part (λ g. g.D) i + 1)

  pub loaded_never : (c : ℕ) → eqb c (s.entry + 2 * s.settings.delay + 1) ≡ false → false ≡ leads_now (with_clock c S)
  loaded_never c h = leads_never S c (sym (past c) ∙ h)

  pub loaded_then : (c : ℕ) → eqb c (s.entry + 2 * s.settings.delay + 1) ≡ true → leads S ≡ leads_now (with_clock c S)
  loaded_then c h = leads_then S c (sym (past c) ∙ h)

  pub loaded_now : leads_now (with_clock s.clock S) ≡ leads_now S
  unfolding with_clock
  loaded_now = ap (λ (c : ℕ). leads_now (with_clock c S)) (loaded_clock s b e)

  module _ (c : ℕ) where
    loaded_enters : enters_if (with_clock c S) (course_of s.phase) ≡ enters_now (with_clock c S)
    unfolding with_clock
    loaded_enters = ap (enters_if (with_clock c S)) (loaded_phase s b e) ∙ by_phase (with_clock c S)

    pub enters_then : (q : ℕ) → s.phase ≡ Waiting q → (ltb s.view (last_view (size_in b)) && eqb c (q + s.settings.delay + 1)) ≡ enters_now (with_clock c S)
    unfolding enters_if with_clock state_of state_from
    enters_then q p =
        (λ i. ltb (loaded_view s b e i) (last_view (size_in b)) && eqb c (q + part (λ g. g.D) i + 1))
        ∙ sym (ap (λ (r : Phase). enters_if (with_clock c S) (course_of r)) p) ∙ loaded_enters

    pub enters_never : ((q : ℕ) → s.phase ≡ Waiting q → ⊥) → false ≡ enters_now (with_clock c S)
    unfolding enters_if
    enters_never n = go s.phase refl
      where
        go : (p : Phase) → s.phase ≡ p → false ≡ enters_now (with_clock c S)
        go InView q = sym (ap (λ (r : Phase). enters_if (with_clock c S) (course_of r)) q) ∙ loaded_enters
        go (Waiting w) q = absurd (n w q)
        go (Stopped w) q = sym (ap (λ (r : Phase). enters_if (with_clock c S) (course_of r)) q) ∙ loaded_enters

  pub enters_now_lem : enters_now (with_clock s.clock S) ≡ enters_now S
  unfolding with_clock
  enters_now_lem = ap (λ (c : ℕ). enters_now (with_clock c S)) (loaded_clock s b e)
