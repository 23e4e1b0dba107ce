-- A blame mask that grew: the station goes on, or sends the set and quits. Assumes nothing.
use Prim.Native.Nat.{ℕ}
use mathlib.Core.Path.{◌≡◌, refl, ap, ◌∙◌}
use mathlib.Core.Bool.{true, false, ◌&&◌, and-false}
use mathlib.Core.List.{List, [], ◌∷◌}
use Rattle.rules.specs.Messages.{to_all, blame_set}
use Rattle.rules.specs.Words.{State}
use Rattle.rules.specs.Inputs.{Work, saying, quit, is_in, blames_of, blamed, blame_full, blaming}
use Rattle.store.specs.Decode.{state_of, Left}
use Rattle.acts.specs.Works.{Works}
use Rattle.acts.proofs.Works.{works_is, works_none}

-- rules' `blaming`, from the moment on that the mask is joined
unfoldable settled : ℕ → State → Work
unfolding is_in blame_full quit blames_of saying
settled v s = elim (is_in v s && blame_full v s) [ true ↦ quit (to_all (blame_set v (blames_of v s)) ∷ []) s | false ↦ saying s [] ]

module _ {b' : List ℕ} (s : State) (v m : ℕ) (l : Left b' (blamed v m s)) where
  blaming_settled : settled v (state_of b') ≡ blaming v m s
  unfolding settled blaming
  blaming_settled = ap (settled v) l.is

  still : (o : List ℕ) (at : ℕ) → (is_in v (state_of b') && blame_full v (state_of b')) ≡ false → Works (blaming v m s) o at b' o at
  unfolding settled
  still o at q = works_is blaming_settled (rw (q, settled) (works_none o at (record { form = l.form; is = refl })))

  pub goes_on_outside : (o : List ℕ) (at : ℕ) → is_in v (state_of b') ≡ false → Works (blaming v m s) o at b' o at
  goes_on_outside o at q = still o at (rw q)

  pub goes_on_with_few : (o : List ℕ) (at : ℕ) → blame_full v (state_of b') ≡ false → Works (blaming v m s) o at b' o at
  goes_on_with_few o at q = still o at (ap (is_in v (state_of b') &&◌) q ∙ and-false (is_in v (state_of b')))

  pub quits_with_set : {b'' o o' : List ℕ} {at r : ℕ} → is_in v (state_of b') ≡ true → blame_full v (state_of b') ≡ true
      → Works (quit (to_all (blame_set v (blames_of v (state_of b'))) ∷ []) (state_of b')) o at b'' o' r → Works (blaming v m s) o at b'' o' r
  unfolding settled
  quits_with_set i f k = works_is blaming_settled (rw (i, f, settled) k)
