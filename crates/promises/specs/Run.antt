-- A schedule as hosts live it: stores, out buffers and the bytes in them, by the calls as their contracts have them. Assumes nothing.
use Prim.Native.Nat.{ℕ, zero, suc, ◌%◌, ◌≤◌, ◌^◌}
use Rattle.std.specs.Prelude.{◌≡◌, true, false, length, take, eqb}
use mathlib.Core.List.{List, [], ◌++◌}
use Rattle.rules.specs.Limits.{Size, least_out}
use Rattle.rules.specs.Lists.{unbe}
use Rattle.agreement.specs.Schedule.{Event, idle, common_tick, tick_of, given, offered_to, Run, Sound}
use Rattle.store.specs.Layout.{store_length}
use Rattle.store.specs.Decode.{state_of}
use Rattle.fresh.specs.Fresh.{freshly}
use Rattle.calls.specs.Calls.{Called, step_called, tick_called, offer_called}
use Rattle.promises.specs.Heard.{heard}

-- no call is made
unfoldable pub untouched : List ℕ → List ℕ → Called
untouched b o = record { result = 0; store = b; out = o }

-- the call that an event makes of station i, on its store and the out buffer that its host lends
unfoldable pub calls : ℕ → Event → List ℕ → List ℕ → Called
unfolding untouched tick_called step_called offer_called unbe
calls i idle b o = untouched b o
calls i common_tick b o = tick_called b o
calls i (tick_of j) b o = elim (eqb i j) [ true ↦ tick_called b o | false ↦ untouched b o ]
calls i (given j bs) b o = elim (eqb i j) [ true ↦ step_called bs b o | false ↦ untouched b o ]
calls i (offered_to j name) b o = elim (eqb i j) [ true ↦ offer_called (unbe 32 name) b o | false ↦ untouched b o ]

-- what a call wrote: as many bytes as its result says
unfoldable pub written : Called → List ℕ
written c = take (c.result % 2 ^ 32) c.out

-- the bytes that a store is made of, and the out buffer lent to station i for event k
module _ (size : Size) (n D : ℕ) (event : ℕ → Event) (room : ℕ → List ℕ) (lent : ℕ → ℕ → List ℕ) where
  -- station i's store at moment k: fresh, then as each call leaves it
  unfoldable pub store_at : ℕ → ℕ → List ℕ
  unfolding freshly calls
  store_at i zero = (freshly (room i) n D i).store
  store_at i (suc k) = (calls i (event k) (store_at i k) (lent i k)).store

  -- the bytes that the call of event k writes
  unfoldable pub said_at : ℕ → ℕ → List ℕ
  unfolding written calls store_at
  said_at i k = written (calls i (event k) (store_at i k) (lent i k))

  -- all bytes that the calls before moment k wrote, one after another
  unfoldable pub wrote_by : ℕ → ℕ → List ℕ
  unfolding said_at
  wrote_by i zero = []
  wrote_by i (suc k) = wrote_by i k ++ said_at i k

  -- the run of the calls: a station holds what its store holds, and says what the bytes that its calls wrote say
  abbrev pub calls_run : Run
  calls_run =
      record { size = size; n = n; D = D; event = event; state = λ i k. state_of (store_at i k); said = λ i k. heard (said_at i k) }

  -- "hosts lend proper buffers": sound stations' hosts
  pub record Lends (faulty : ℕ) : Type 0 where
    pub store : (i : ℕ) → Sound calls_run faulty i → length (room i) ≡ store_length size
    pub out : (i : ℕ) → Sound calls_run faulty i → (k : ℕ) → least_out size ≤ length (lent i k)
