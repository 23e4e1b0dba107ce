-- What a store's bytes say of the state that it holds: phase, blame masks, counts. Assumes nothing.
use Prim.Native.Nat.{ℕ, suc, ◌-◌, ◌^◌, ◌≤◌, ◌<◌}
use mathlib.Core.Path.{◌≡◌, refl, sym, ap, ◌∙◌}
use mathlib.Core.Bool.{Bool, true, false}
use mathlib.Core.List.{List, []}
use native.Mathlib.Omega.{arith}
use native.Mathlib.Nat.{zero-add}
use lib.Dec.{eqb}
use lib.ListN.{get_or}
use Rattle.rules.specs.Limits.{first_view, last_view, last_view_large}
use Rattle.rules.specs.Messages.{view_allowed}
use Rattle.rules.specs.Sizes.{Settings, quorum}
use Rattle.rules.specs.Words as words
use Rattle.rules.specs.Words.{State, in_view, waiting, stopped}
use Rattle.rules.specs.Inputs.{saying, with_phase, with_blames, is_in, quit, blames_of, blamed, blame_full}
use Rattle.laws.proofs.Allowed.{view_within}
use Rattle.settings.specs.Made.{settings_of}
use Rattle.store.specs.Layout.{size_in}
use Rattle.store.specs.Decode.{phase_number, rows, blame_at, blames_for, blames, state_from, state_of, Left}
use Rattle.store.specs.Meaning.{course_of, Loads}
use Rattle.store.specs.declared.Station.{Station}
use Rattle.store.specs.declared.Phase.{Phase}
use Rattle.store.specs.declared.Phase.TheVariants.{InView, Waiting, Stopped}
use Rattle.store.proofs.Loaded.{loaded_settings, loaded_phase, loaded_view, loaded_clock}
use Rattle.store.proofs.Rows.{rows_at}
use Rattle.kept.proofs.Facts.{clocks_of}
use Rattle.acts.specs.Works.{Formed}
use Rattle.acts.proofs.Works.{formed_parts}

-- ---- the phase

module _ (v : ℕ) (s : State) where
  unfoldable is_in_if : words.Phase → Bool
  is_in_if p = elim p [ in_view ↦ eqb v s.view | waiting q ↦ false | stopped c ↦ false ]

  by_phase : is_in v s ≡ is_in_if s.phase
  unfolding is_in is_in_if
  by_phase = refl

module _ (s : Station) (b : List ℕ) (e : Loads s b) (v : ℕ) where
  loaded_in : is_in v (state_of b) ≡ is_in_if v (state_of b) (course_of s.phase)
  loaded_in = by_phase v (state_of b) ∙ ap (is_in_if v (state_of b)) (sym (loaded_phase s b e))

  pub in_view_lem : s.phase ≡ InView → eqb v s.view ≡ is_in v (state_of b)
  unfolding is_in_if
  in_view_lem p = ap (eqb v) (loaded_view s b e) ∙ sym (loaded_in ∙ ap (λ (q : Phase). is_in_if v (state_of b) (course_of q)) p)

  pub not_in_view : (s.phase ≡ InView → ⊥) → false ≡ is_in v (state_of b)
  unfolding is_in_if
  not_in_view n = go s.phase refl
    where
      go : (p : Phase) → s.phase ≡ p → false ≡ is_in v (state_of b)
      go InView q = absurd (n q)
      go (Waiting c) q = sym (loaded_in ∙ ap (λ (r : Phase). is_in_if v (state_of b) (course_of r)) q)
      go (Stopped c) q = sym (loaded_in ∙ ap (λ (r : Phase). is_in_if v (state_of b) (course_of r)) q)

-- ---- the blame masks

-- an allowed view is one of the store's limits
pub view_in : (b : List ℕ) (v : ℕ) → view_allowed (state_of b).settings v ≡ true → (first_view ≤ v) × (v ≤ last_view (size_in b)) × (v ≤ last_view_large)
unfolding state_of state_from
view_in b v a = view_within (state_of b).settings v a

-- and stays one when a mask is joined
pub view_blamed : (b : List ℕ) {b' : List ℕ} (v m : ℕ) → Left b' (blamed v m (state_of b)) → view_allowed (state_of b).settings v ≡ true
    → view_allowed (state_of b').settings v ≡ true
unfolding blamed with_blames
view_blamed b {b'} v m l a = ap (λ (s : State). view_allowed s.settings v) l.is ∙ a

pub blame_place : (b : List ℕ) (v : ℕ) → view_allowed (state_of b).settings v ≡ true → blame_at b (v - 1) ≡ blames_of v (state_of b)
unfolding blames_of state_of state_from blames_for
blame_place b v a =
    let w = view_in b v a in
    let e : suc (v - 1) ≡ v = omega arith in
    let r : get_or (rows (blame_at b) 0 (last_view (size_in b))) (v - 1) 0 ≡ blame_at b (v - 1) = rows_at (blame_at b) 0 0 (last_view (size_in b)) (v - 1) (omega arith) ∙ ap (blame_at b) (zero-add (v - 1)) in
    sym (ap (λ (i : ℕ). get_or (blames b) i 0) (sym e) ∙ r)

pub blame_quorum : (s : Station) (b : List ℕ) → Loads s b → (v : ℕ) → view_allowed (state_of b).settings v ≡ true
    → quorum (settings_of s.settings) (blame_at b (v - 1)) ≡ blame_full v (state_of b)
unfolding blame_full
blame_quorum s b e v a = ap (λ (g : Settings). quorum g (blame_at b (v - 1))) (loaded_settings s b e) ∙ ap (quorum (state_of b).settings) (blame_place b v a)

-- ---- quitting

module _ {b : List ℕ} (k : Formed b) (s : Station) (e : Loads s b) where
  pub quit_fits : phase_number (waiting s.clock) < 256 ^ 4
  quit_fits = omega (arith, loaded_clock s b e, (clocks_of (formed_parts k).formed).last)

  pub quit_left : {b' : List ℕ} → Left b' (with_phase (waiting s.clock) (state_of b)) → Left b' (quit [] (state_of b)).now
  unfolding quit saying
  quit_left l = record { form = l.form; is = l.is ∙ ap (λ (q : ℕ). with_phase (waiting q) (state_of b)) (loaded_clock s b e) }
