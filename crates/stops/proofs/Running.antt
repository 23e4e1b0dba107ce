-- Whether a station runs, by the phase of its header. Assumes nothing.
use Prim.Native.Nat.{ℕ}
use mathlib.Core.Path.{◌≡◌, refl, sym, ap, ◌∙◌}
use mathlib.Core.Bool.{Bool, true, false}
use mathlib.Core.List.{List}
use Rattle.rules.specs.Words as words
use Rattle.rules.specs.Refusals.{running}
use Rattle.store.specs.Decode.{state_of}
use Rattle.store.specs.Meaning.{course_of, Loads}
use Rattle.store.specs.declared.Station.{Station}
use Rattle.store.specs.declared.Phase.{Phase}
use Rattle.store.specs.declared.Phase.TheVariants.{InView, Waiting, Stopped}
use Rattle.store.proofs.Loaded.{loaded_phase}

unfoldable runs : words.Phase → Bool
runs p = elim p [ words.in_view ↦ true | words.waiting q ↦ true | words.stopped c ↦ false ]

module _ (s : Station) (b : List ℕ) (e : Loads s b) where
  loaded_runs : running (state_of b) ≡ runs (course_of s.phase)
  unfolding running runs
  loaded_runs = ap runs (sym (loaded_phase s b e))

  pub not_running : (c : _) → s.phase ≡ Stopped c → false ≡ running (state_of b)
  unfolding runs
  not_running c p = sym (loaded_runs ∙ ap (λ (q : Phase). runs (course_of q)) p)

  pub is_running : ((c : _) → s.phase ≡ Stopped c → ⊥) → true ≡ running (state_of b)
  unfolding runs
  is_running n = go s.phase refl
    where
      go : (p : Phase) → s.phase ≡ p → true ≡ running (state_of b)
      go InView q = sym (loaded_runs ∙ ap (λ (r : Phase). runs (course_of r)) q)
      go (Waiting c) q = sym (loaded_runs ∙ ap (λ (r : Phase). runs (course_of r)) q)
      go (Stopped c) q = absurd (n c q)
