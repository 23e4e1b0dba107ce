-- The parts of a tick by their cases, and one act after another. Assumes nothing.
use Prim.Native.Nat.{ℕ}
use mathlib.Core.Path.{◌≡◌, refl, ap, ◌∙◌, subst}
use mathlib.Core.Bool.{true, false}
use mathlib.Core.List.{List, [], ◌∷◌}
use lib.ListN.{length}
use Rattle.rules.specs.Sizes.{only}
use Rattle.rules.specs.Messages.{Effect, to_all, blame, effect, size}
use Rattle.rules.specs.Words.{State}
use Rattle.rules.specs.Inputs.{Work, saying, ◌▸◌, blaming, overdue, complain}
use Rattle.outgoing.proofs.Writing.{says_outgoing, says_one}
use Rattle.outgoing.specs.Wrote.{Says}
use Rattle.store.specs.Decode.{state_of, Form, Left}
use Rattle.laws.proofs.Lengths.{weight, length_effect}
use Rattle.acts.specs.Works.{Works}
use Rattle.acts.proofs.Works.{works_is, works_none, works_saying}

-- ---- one act, then another

pub works_then : {o o₁ o₂ b₁ b₂ : List ℕ} {at r₁ r₂ : ℕ} {w : Work} (f : State → Work) → Works w o at b₁ o₁ r₁ → Works (f (state_of b₁)) o₁ r₁ b₂ o₂ r₂
    → Works (w ▸ f) o at b₂ o₂ r₂
unfolding ◌▸◌
works_then {o} {o₁} {o₂} {b₁} {b₂} {at} {r₁} {r₂} {w} f p q =
    let k : Works (f w.now) o₁ r₁ b₂ o₂ r₂ = subst (λ (s : State). Works (f s) o₁ r₁ b₂ o₂ r₂) p.left.is q in
    record { left = k.left; says = says_outgoing o at w.out (f w.now).out o₁ o₂ r₁ r₂ p.says k.says }

-- a store that is as it was
pub left_same : {b : List ℕ} → Form b → Left b (state_of b)
left_same f = record { form = f; is = refl }

pub works_still : {b : List ℕ} {w : Work} (o : List ℕ) (at : ℕ) → Form b → saying (state_of b) [] ≡ w → Works w o at b o at
works_still o at f e = works_is e (works_none o at (left_same f))

-- ---- blame

module _ (s : State) where
  pub complain_calm : overdue s ≡ false → saying s [] ≡ complain s
  unfolding complain
  complain_calm q = rw (q, complain)

  abbrev own_blame : Effect
  own_blame = to_all (blame s.view s.settings.own)

  pub complain_now : overdue s ≡ true → saying s (own_blame ∷ []) ▸ blaming s.view (only s.settings.own) ≡ complain s
  unfolding complain
  complain_now q = rw (q, complain)

pub blame_bytes : (v a : ℕ) → length (effect (to_all (blame v a))) ≡ 18
unfolding weight size
blame_bytes v a = length_effect (to_all (blame v a))

pub complained : {b b' o o₁ o₂ : List ℕ} {at r₁ r₂ : ℕ} (v a m : ℕ) → Form b → overdue (state_of b) ≡ true → v ≡ (state_of b).view → a ≡ (state_of b).settings.own → m ≡ only a
    → Says o at (effect (to_all (blame v a))) o₁ r₁ → Works (blaming v m (state_of b)) o₁ r₁ b' o₂ r₂ → Works (complain (state_of b)) o at b' o₂ r₂
complained {b} {b'} {o} {o₁} {o₂} {at} {r₁} {r₂} v a m f q ev ea em p k =
    let s = state_of b in
    let e = own_blame s in
    let d : to_all (blame v a) ≡ e = λ i. to_all (blame (ev i) (ea i)) in
    let first : Works (saying s (e ∷ [])) o at b o₁ r₁ = works_saying (e ∷ []) (left_same f) (says_one o at e o₁ r₁ (subst (λ (x : Effect). Says o at (effect x) o₁ r₁) d p)) in
    let next : Works (blaming s.view (only s.settings.own) s) o₁ r₁ b' o₂ r₂ = works_is (λ i. blaming (ev i) ((em ∙ ap only ea) i) s) k in
    works_is (complain_now s q) (works_then (blaming s.view (only s.settings.own)) first next)
