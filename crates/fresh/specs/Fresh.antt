-- What a call for a fresh store answers, and what it leaves of the store, for all inputs. Assumes nothing.
use Rattle.std.specs.Prelude.{ℕ, ◌*◌, ◌^◌, true, false, List, length, eqb}
use Rattle.rules.specs.Sizes.{good_settings}
use Rattle.rules.specs.Words.{fresh}
use Rattle.store.specs.Layout.{store_length, size_in}
use Rattle.store.specs.Decode.{encode}

-- the result that a host gets, and the bytes left in the store
pub record Answer : Type 0 where
  pub result : ℕ
  pub store : List ℕ

unfoldable pub answer : ℕ → List ℕ → Answer
answer r b = record { result = r; store = b }

-- "a fresh store: 1, then 10"; a refusal changes nothing, and on 0 the store is the bytes of the fresh state
unfoldable pub freshly : List ℕ → ℕ → ℕ → ℕ → Answer
unfolding answer good_settings encode fresh size_in
freshly b n d own =
    elim (eqb (length b) (store_length (size_in b))) [
      | false ↦ answer (1 * 2 ^ 32) b
      | true ↦
          elim (good_settings (record { n = n; D = d; own = own; size = size_in b }))
          [ false ↦ answer (10 * 2 ^ 32) b | true ↦ answer 0 (encode (fresh (record { n = n; D = d; own = own; size = size_in b }))) ]
    ]
