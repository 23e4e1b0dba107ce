-- An offer is possible exactly when one of a fresh name would be taken; and a host that offers at once is prompt: no tick begins while an
-- offer is possible. Assumes nothing.
use mathlib.Core.Path.{◌≡◌, subst, refl, sym, ap, ◌∙◌}
use Prim.Native.Nat.{ℕ, ◌<◌}
use native.Mathlib.Omega.{arith}
use mathlib.Core.Bool.{true, false, not, ◌&&◌}
use mathlib.Core.Option.{some}
use lib.Dec.{eqb}
use Rattle.rules.specs.Messages.{Message}
use Rattle.rules.specs.Words.{State}
use Rattle.rules.specs.Inputs.{leads, is_opened, is_used, top, extendable, above, offered}
use Rattle.laws.proofs.Tests.{by_bool, by_option, no_bool}
use Rattle.laws.proofs.Truths.{and_2, both}
use Rattle.laws.proofs.Offers.{offer_made}
use Rattle.agreement.specs.Schedule.{common_tick, offered_to, ticks, Run}
use Rattle.progress.specs.Progress.{possible, Concerns, chief, AtOnce}

pub fresh_taken : (b : ℕ) (s : State) → possible s ≡ true → eqb b 0 ≡ false → is_used b s ≡ false → (m : Message) × (offered b s ≡ some m)
unfolding possible offered
fresh_taken b s p z u =
    let (lo, x) = and_2 (leads s && is_opened s) _ p in
    let c : (leads s && is_opened s && not (eqb b 0) && not (is_used b s)) ≡ true = both (both lo (ap not z)) (ap not u) in
    by_option (top s.view s.statements) (λ t. no_bool (sym (rw t at x)))
    (λ y t. let k : extendable y s ≡ true = rw t at x in (above y b s, rw (c, t, k, offered) refl))

pub taken_possible : (b : ℕ) (s : State) (m : Message) → offered b s ≡ some m → possible s ≡ true
unfolding possible
taken_possible b s m e = let (x, t, l, o, _, k, _) = offer_made b s m e in rw (l, o, t, k) refl

no_offer : (i b : ℕ) → common_tick ≡ offered_to i b → ⊥
unfolding ticks
no_offer i b e = let z : ◌≡◌ {A = ℕ} 1 0 = ap (ticks 0) e in omega arith

pub at_once_prompt : (R : Run) (v faulty K : ℕ) → AtOnce R v faulty K
    → (k : ℕ) → k < K → R.event k ≡ common_tick → (R.state (chief R v) k).view ≡ v → possible (R.state (chief R v) k) ≡ false
at_once_prompt R v faulty K h k l e w =
    by_bool (possible (R.state (chief R v) k))
    (λ q. let (b, f, _, _) = h k l w q (subst (Concerns (chief R v)) (sym e) tt) in absurd (no_offer (chief R v) b (sym e ∙ f)))
    (λ q. q)
