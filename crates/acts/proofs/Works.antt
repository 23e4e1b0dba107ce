-- Acts put together: what is left and what is said, one after another, by the rules' names. Assumes nothing.
use Prim.Native.Nat.{ℕ, ◌+◌, ◌≤◌}
use mathlib.Core.Path.{◌≡◌, refl, sym, ap, ◌∙◌, subst}
use mathlib.Core.List.{List, [], ◌∷◌}
use native.Mathlib.Omega.{arith}
use lib.ListN.{length}
use Rattle.rules.specs.Limits.{most_statements, most_tallies}
use Rattle.rules.specs.Messages.{Effect, to_all, blame_set, vote, effect, outgoing, size}
use Rattle.rules.specs.Words.{Statement, message, State}
use Rattle.rules.specs.Inputs.{Work, saying, ◌▸◌, quit}
use Rattle.outgoing.specs.Wrote.{Says}
use Rattle.outgoing.proofs.Writing.{says_none, says_both, says_one, says_length, says_outgoing}
use Rattle.store.specs.Layout.{size_in}
use Rattle.store.specs.Decode.{state_from, state_of, Left}
use Rattle.store.proofs.Forms.{form_statements, form_tallies}
use Rattle.kept.specs.Parts as kept
use Rattle.kept.proofs.WellFormed.{parts, whole}
use Rattle.kept.proofs.Keeps.{Keeps}
use Rattle.laws.proofs.Lengths.{weight, bytes, bytes_cons, bytes_none, length_effect, size_most}
use Rattle.storing.proofs.Records.{count_statements, count_tallies}
use Rattle.acts.specs.Works.{Formed, Works}

-- ---- stores

-- a store's limits are its state's
pub state_size : (b : List ℕ) → (state_of b).settings.size ≡ size_in b
unfolding state_of state_from
state_size b = refl

pub formed_parts : {b : List ℕ} → Formed b → kept.WellFormed (state_of b)
formed_parts {b} k = parts (state_of b) k.good

-- what was left has its counts in range, so a formed state makes it formed
pub left_formed : {b : List ℕ} {s : State} → Left b s → kept.Formed s → Formed b
left_formed {b} l f =
    record {
      form = l.form;
      good =
          whole
          (record {
            formed = subst kept.Formed (sym l.is) f;
            few_statements = omega (arith, count_statements b, form_statements b l.form, ap most_statements (state_size b));
            few_tallies = omega (arith, count_tallies b, form_tallies b l.form, ap most_tallies (state_size b));
          });
    }

-- one change, then another
pub left_then : {b b' : List ℕ} {s t : State} (f : State → State) → Left b s → Left b' (f (state_of b)) → f s ≡ t → Left b' t
left_then f l m e = record { form = m.form; is = m.is ∙ ap f l.is ∙ e }

-- ---- words

pub two_bytes : (d e : Effect) → bytes (d ∷ e ∷ []) ≡ weight d + weight e
two_bytes d e = omega (arith, bytes_cons d (e ∷ []), bytes_cons e [], bytes_none)

pub says_two : {o o₁ o₂ : List ℕ} {at r₁ r₂ : ℕ} (d e : Effect) → Says o at (effect d) o₁ r₁ → Says o₁ r₁ (effect e) o₂ r₂ → Says o at (outgoing (d ∷ e ∷ [])) o₂ r₂
unfolding outgoing
says_two {o} {o₁} {o₂} {at} {r₁} {r₂} d e p q = says_both o at (effect d) (outgoing (e ∷ [])) o₁ o₂ r₁ r₂ p (says_one o₁ r₁ e o₂ r₂ q)

pub two_lengths : (d e : Effect) → length (effect d) + length (effect e) ≡ bytes (d ∷ e ∷ [])
two_lengths d e = omega (arith, two_bytes d e, length_effect d, length_effect e)

-- "a statement and a vote", "the pair"
pub ballot_bytes : (x : Statement) (v h b a : ℕ) → bytes (to_all (message x) ∷ to_all (vote v h b a) ∷ []) ≤ 160
unfolding weight size
ballot_bytes x v h b a = omega (arith, two_bytes (to_all (message x)) (to_all (vote v h b a)), size_most (message x))

pub pair_bytes : (x y : Statement) → bytes (to_all (message x) ∷ to_all (message y) ∷ []) ≤ 200
unfolding weight
pair_bytes x y = omega (arith, two_bytes (to_all (message x)) (to_all (message y)), size_most (message x), size_most (message y))

pub set_bytes : (v m : ℕ) → length (effect (to_all (blame_set v m))) ≤ 19
unfolding weight size
set_bytes v m = omega (arith, length_effect (to_all (blame_set v m)))

-- ---- work

module _ {b' o o' : List ℕ} {at r : ℕ} where
  pub works_is : {v w : Work} → v ≡ w → Works v o at b' o' r → Works w o at b' o' r
  works_is e k = subst (λ (w : Work). Works w o at b' o' r) e k

  pub works_quit : (s : State) (es : List Effect) → Left b' (quit [] s).now → Says o at (outgoing es) o' r → Works (quit es s) o at b' o' r
  unfolding quit saying
  works_quit s es l p = record { left = l; says = p }

  pub works_saying : {s : State} (es : List Effect) → Left b' s → Says o at (outgoing es) o' r → Works (saying s es) o at b' o' r
  unfolding saying
  works_saying es l p = record { left = l; says = p }

pub works_none : {b' : List ℕ} {s : State} (o : List ℕ) (at : ℕ) → Left b' s → Works (saying s []) o at b' o at
unfolding outgoing
works_none o at l = works_saying [] l (says_none o at)

-- what a work says ends within its bytes, and the buffer stays as long as it was
module _ {w : Work} {b' o o' : List ℕ} {at r : ℕ} (k : Works w o at b' o' r) where
  pub works_end : (n : ℕ) → bytes w.out ≤ n → r ≤ at + n
  works_end n h = omega (arith, k.says.ends)

  pub works_length : length o' ≡ length o
  works_length = says_length k.says

  -- a work that keeps a formed state leaves a formed store
  pub works_formed : {s : State} → Keeps s w → Formed b'
  works_formed h = left_formed k.left h.formed

  -- one rule, then another
  pub works_then : {b'' o'' : List ℕ} {end : ℕ} (f : State → Work) → Works (f (state_of b')) o' r b'' o'' end → Works (w ▸ f) o at b'' o'' end
  unfolding ◌▸◌
  works_then {b''} {o''} {end} f h =
      let q : Works (f w.now) o' r b'' o'' end = works_is (ap f k.left.is) h in
      record { left = q.left; says = says_outgoing o at w.out (f w.now).out o' o'' r end k.says q.says }
