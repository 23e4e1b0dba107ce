-- 02, request 13: one sequence of inputs, handed to the plain engine with its list and to the working station with its store, by the
-- calls as their contracts have them. Assumes nothing.
use Rattle.std.specs.Prelude.{ℕ, zero, suc, ◌*◌, ◌^◌, ◌<◌, ◌≡◌, List}
use Rattle.fresh.specs.Fresh.{freshly}
use Rattle.calls.specs.Calls.{Called, step_called, tick_called, offer_called}
use Rattle.lent_list.specs.Lists.{Input, tick, offer, message}
use Rattle.lent_list.specs.Plain.{Answer, plain_step, plain_tick, plain_offer, plain_fresh}

-- the call that hands an input over, to the plain engine and to the station
unfoldable pub plain_call : Input → List ℕ → List ℕ → Answer
plain_call tick l o = plain_tick l o
plain_call (offer name) l o = plain_offer name l o
plain_call (message bs) l o = plain_step bs l o

unfoldable pub station_call : Input → List ℕ → List ℕ → Called
station_call tick b o = tick_called b o
station_call (offer name) b o = offer_called name b o
station_call (message bs) b o = step_called bs b o

-- "the same answers, output": to the byte
pub record Same (p : Answer) (c : Called) : Type 0 where
  pub result : p.result ≡ c.result
  pub out : p.out ≡ c.out

-- a list and a store of any bytes are lent, and an out buffer of any bytes for each call
module _ (n D own : ℕ) (input : ℕ → Input) (list store : List ℕ) (lent : ℕ → List ℕ) where
  -- the list and the store at moment k: fresh, then as each call leaves it
  unfoldable pub list_at : ℕ → List ℕ
  list_at zero = (plain_fresh list n D own).bytes
  list_at (suc k) = (plain_call (input k) (list_at k) (lent k)).list

  unfoldable pub store_at : ℕ → List ℕ
  store_at zero = (freshly store n D own).store
  store_at (suc k) = (station_call (input k) (store_at k) (lent k)).store

  -- call k
  abbrev pub plain_at : ℕ → Answer
  plain_at k = plain_call (input k) (list_at k) (lent k)

  abbrev pub station_at : ℕ → Called
  station_at k = station_call (input k) (store_at k) (lent k)

  -- "every sequence that its lent list can hold": before moment k no input found the list without a slot
  abbrev pub Holds : ℕ → Type 0
  Holds k = (j : ℕ) → j < k → (plain_at j).result ≡ 13 * 2 ^ 32 → ⊥
