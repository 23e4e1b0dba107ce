-- Whether nothing but the log is due at the next clock, by the loaded numbers. Assumes nothing.
use Prim.Native.Nat.{ℕ, ◌+◌}
use mathlib.Core.Path.{◌≡◌, sym, ap, ◌∙◌}
use mathlib.Core.Bool.{Bool, true, false, not, ◌&&◌}
use mathlib.Core.List.{List}
use Rattle.rules.specs.Words.{State}
use Rattle.rules.specs.Inputs.{with_clock, overdue, leads_now, enters_now}
use Rattle.store.specs.Decode.{state_of}
use Rattle.store.specs.Meaning.{Loads}
use Rattle.store.specs.declared.Station.{Station}
use Rattle.store.proofs.Loaded.{loaded_clock}
use Rattle.acts.specs.Works.{Formed}
use Rattle.moves.specs.Turns.{later, Calmly}

module _ {b : List ℕ} (k : Formed b) (s : Station) (e : Loads s b) where
  abbrev S : State
  S = state_of b

  pub next_state : with_clock (s.clock + 1) S ≡ later S
  unfolding later
  next_state = ap (λ (c : ℕ). with_clock (c + 1) S) (loaded_clock s b e)

  pub calm_by : (o l n : Bool) → o ≡ overdue (with_clock (s.clock + 1) S) → o ≡ false → l ≡ leads_now (with_clock (s.clock + 1) S) → n ≡ enters_now (with_clock (s.clock + 1) S)
      → Calmly b (not l && not n)
  calm_by o true n p f q r = tt
  calm_by o false true p f q r = tt
  calm_by o false false p f q r = record {
    blameless = ap overdue (sym next_state) ∙ sym p ∙ f;
    led = ap leads_now (sym next_state) ∙ sym q;
    stays = ap enters_now (sym next_state) ∙ sym r;
  }
