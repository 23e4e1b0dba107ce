-- The four calls, whole: what each answers, leaves in the store and leaves in the out buffer, for all bytes of all lengths.
-- The contracts of the exported functions say no more than that they give this. Assumes nothing.
use Rattle.std.specs.Prelude.{ℕ, ◌*◌, ◌^◌, ◌≡◌, true, false, ◌&&◌, List, ◌++◌, length, drop, leb, eqb}
use Rattle.std.proofs.Math.Option.{none, some}
use Rattle.rules.specs.Limits.{least_out, last_view, most_statements, most_tallies}
use Rattle.rules.specs.Lists.{be}
use Rattle.rules.specs.Messages.{outgoing}
use Rattle.rules.specs.Words.{State}
use Rattle.rules.specs.Refusals.{Outcome, step, tick, offer, result}
use Rattle.store.specs.Layout.{store_length, size_in}
use Rattle.store.specs.Decode.{decode, encode}

pub record Called : Type 0 where
  pub result : ℕ
  pub store : List ℕ
  pub out : List ℕ

-- "a refusal's count is 0", and "nothing" changes
unfoldable pub refusal : ℕ → List ℕ → List ℕ → Called
refusal k b o = record { result = k * 2 ^ 32; store = b; out = o }

-- the next store is the bytes of the next state; "on 0 only that prefix changes"
unfoldable pub answered : Outcome → List ℕ → Called
unfolding result encode outgoing
answered x o =
    let said = outgoing x.out in
    record { result = result x; store = encode x.next; out = said ++ drop (length said) o }

-- "order: 1, 2", then what the rules say of the state that the store holds
unfoldable pub called : (State → Outcome) → List ℕ → List ℕ → Called
unfolding refusal answered decode size_in least_out last_view most_statements most_tallies
called f b o =
    elim (eqb (length b) (store_length (size_in b)) && leb (least_out (size_in b)) (length o))
    [ false ↦ refusal 1 b o | true ↦ elim (decode b) [ none ↦ refusal 2 b o | some s ↦ answered (f s) o ] ]

unfoldable pub step_called : List ℕ → List ℕ → List ℕ → Called
unfolding called step
step_called message = called (step message)

unfoldable pub tick_called : List ℕ → List ℕ → Called
unfolding called tick
tick_called = called tick

-- "offered name not 32 bytes": 1
unfoldable pub offer_called : List ℕ → List ℕ → List ℕ → Called
unfolding called offer be refusal
offer_called name b o = elim (eqb (length name) 32) [ false ↦ refusal 1 b o | true ↦ called (offer (be name)) b o ]

-- a call gives this
pub record Gives (c : Called) (r : ℕ) (b o : List ℕ) : Type 0 where
  pub result : r ≡ c.result
  pub store : b ≡ c.store
  pub out : o ≡ c.out
