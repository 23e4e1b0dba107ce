-- Two numbers as one, in any base: they are the same where both parts are. Assumes nothing.
use Prim.Native.Nat.{ℕ, ◌+◌, ◌*◌, ◌<◌}
use mathlib.Core.Path.{◌≡◌, refl}
use mathlib.Core.Bool.{◌&&◌}
use lib.Dec.{eqb}
use borrow.Author.Tests.{eqb-true, eqb-false, eq-eqb, ne_eqb}
use Rattle.laws.proofs.Tests.{by_bool}
use Rattle.fields.proofs.Differ.{digit_high, digit_low}

pub same_pair : (d v h v' h' : ℕ) → h < d → h' < d → eqb (v * d + h) (v' * d + h') ≡ (eqb v v' && eqb h h')
same_pair d v h v' h' l l' =
    by_bool (eqb v v')
    (λ e. by_bool (eqb h h') (λ k. rw (eqb-true v v' e, eqb-true h h' k, eq-eqb (v' * d + h') _ refl, eq-eqb v' v' refl, eq-eqb h' h' refl))
    (λ k. rw (e, k) (ne_eqb _ _ (λ z. eqb-false h h' k (digit_low d v v' h h' l l' z)))))
    (λ e. rw e (ne_eqb _ _ (λ z. eqb-false v v' e (digit_high d v v' h h' l l' z))))
