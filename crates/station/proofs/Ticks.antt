-- The call with a tick: refused by the check, or the rules answer. Assumes nothing.
use Prim.Native.Nat.{ℕ, ◌-◌, ◌*◌, ◌^◌, ◌≤◌}
use mathlib.Core.Path.{◌≡◌, sym, ap, ◌∙◌}
use mathlib.Core.List.{List}
use lib.ListN.{length}
use Rattle.rules.specs.Limits.{least_out}
use Rattle.rules.specs.Refusals.{tick}
use Rattle.fields.specs.Places.{Bytes}
use Rattle.store.specs.Layout.{size_in}
use Rattle.store.specs.Decode.{state_of}
use Rattle.kept.proofs.Outs as outs
use Rattle.calls.specs.Calls.{tick_called, Gives}
use Rattle.acts.specs.Works.{Formed}
use Rattle.stops.specs.Answers.{Answers}
use Rattle.refusals.specs.Barred.{unformed}
use Rattle.refusals.proofs.Opening.{Lent, lent, lent_formed, lent_gives, unformed_gives}

module _ (b o : List ℕ) {n : ℕ} (e : n ≡ unformed b o) where
  pub unformed_tick : {r : ℕ} → (n ≡ 0 → ⊥) → r ≡ n * 2 ^ 32 → Gives (tick_called b o) r b o
  unfolding tick_called
  unformed_tick d q = unformed_gives b o tick (q ∙ ap (◌* 2 ^ 32) e) (λ z. d (e ∙ z))

  module _ (h : Bytes b) (z : n ≡ 0) where
    checked : Lent b o
    checked = lent b o (sym e ∙ z)

    pub tick_may : Formed b × (least_out (size_in b) ≤ length o)
    tick_may = (lent_formed b o checked h, checked.room)

    pub tick_gives : {b' o' : List ℕ} {r : ℕ} → Answers (tick (state_of b)) o b' o' r → Gives (tick_called b o) r b' o'
    unfolding tick_called
    tick_gives a = lent_gives b o checked tick (outs.tick_room (state_of b) tick_may.0.good) a
