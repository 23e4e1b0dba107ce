-- What a call leaves of a well-formed store is well formed, and holds what the rules leave of its state. Assumes nothing.
use Prim.Native.Nat.{ℕ, ◌≤◌, ◌<◌, ◌^◌}
use mathlib.Core.Path.{◌≡◌, ap, sym, ◌∙◌}
use mathlib.Core.Bool.{true}
use mathlib.Core.List.{List}
use mathlib.Core.Option.{some}
use lib.ListN.{length}
use Rattle.rules.specs.Limits.{least_out}
use Rattle.rules.specs.Words.{State}
use Rattle.rules.specs.Refusals.{Outcome, step, tick, offer}
use Rattle.rules.specs.WellFormed.{well_formed}
use Rattle.laws.proofs.Bytes.{Bytes}
use Rattle.fields.specs.Places as places
use Rattle.kept.proofs.Calls.{step_whole, offer_whole, tick_whole}
use Rattle.store.specs.Decode.{decode}
use Rattle.oneform.proofs.Held.{decoded_bytes}
use Rattle.oneform.proofs.OneForm.{encoded}
use Rattle.calls.specs.Calls.{called, step_called, tick_called}
use Rattle.promises.proofs.Carried.{called_encoded, answered_store}

-- one law for the three calls: f keeps what is well formed
left_formed : (f : State → Outcome) (b o : List ℕ) (s : State) → ((t : State) → well_formed t ≡ true → well_formed (f t).next ≡ true)
    → places.Bytes b → least_out s.settings.size ≤ length o → decode b ≡ some s → decode (called f b o).store ≡ some (f s).next
left_formed f b o s keeps hb l e =
    let p = decoded_bytes b s hb e in
    let w = keeps s p.1 in
    ap (λ (x : List ℕ). decode (called f x o).store) (sym p.0)
    ∙ ap (λ c. decode c.store) (called_encoded f s o p.1 l)
    ∙ ap decode (answered_store (f s) o) ∙ (encoded (f s).next w).1

pub step_formed : (bs b o : List ℕ) (s : State) → Bytes bs → places.Bytes b → least_out s.settings.size ≤ length o → decode b ≡ some s → decode (step_called bs b o).store ≡ some (step bs s).next
unfolding step_called
step_formed bs b o s h hb l e = left_formed (step bs) b o s (λ t w. step_whole bs t h w) hb l e

pub tick_formed : (b o : List ℕ) (s : State) → places.Bytes b → least_out s.settings.size ≤ length o → decode b ≡ some s → decode (tick_called b o).store ≡ some (tick s).next
unfolding tick_called
tick_formed b o s hb l e = left_formed tick b o s tick_whole hb l e

pub offer_formed : (x : ℕ) (b o : List ℕ) (s : State) → x < 256 ^ 32 → places.Bytes b → least_out s.settings.size ≤ length o → decode b ≡ some s
    → decode (called (offer x) b o).store ≡ some (offer x s).next
offer_formed x b o s h hb l e = left_formed (offer x) b o s (λ t w. offer_whole x t h w) hb l e
