-- 01, 'The schedule of demand 3', by moments: event k takes moment k to moment k + 1. "A schedule is any sequence of common ticks,
-- deliveries and offers from fresh stores"; each premise is a definition of its own. Assumes nothing.
use Prim.Native.Nat.{ℕ, zero, suc, ◌+◌, ◌-◌, ◌≤◌, ◌<◌, ◌^◌}
use Rattle.std.specs.Prelude.{◌≡◌, true, false, ◌⊎◌, ltb, eqb}
use mathlib.Core.List.{List, [], ◌∷◌, ◌++◌, IsPrefix, Memᴰ}
use Rattle.std.proofs.Math.Option.{some}
use Rattle.rules.specs.Limits.{Size}
use Rattle.rules.specs.Sizes.{Settings, good_settings, faults, bit, count}
use Rattle.rules.specs.Messages.{Message, new_view, propose, vote, blame, blame_set, status, read, write, allowed, Effect, to_all, to_one, committed}
use Rattle.rules.specs.Words.{full, clock as late, stopped, State, fresh}
use Rattle.rules.specs.Inputs.{saying, offered}
use Rattle.rules.specs.Refusals.{Outcome, done, running, step, offer, tick}
use Rattle.laws.proofs.Bytes.{Bytes}

-- a schedule that ends goes on idle; a tick of one station alone is there to be shut out (CommonTicks)
pub data Event : Type 0 where
  idle : Event
  common_tick : Event
  tick_of : (station : ℕ) → Event
  given : (station : ℕ) → List ℕ → Event
  offered_to : (station name : ℕ) → Event

-- what an event does to station i: "a common tick is one event", a delivery and an offer are to one station
unfoldable pub happens : ℕ → Event → State → Outcome
unfolding done saying tick step offer
happens i idle s = done (saying s [])
happens i common_tick s = tick s
happens i (tick_of j) s = elim (eqb i j) [ true ↦ tick s | false ↦ done (saying s []) ]
happens i (given j bs) s = elim (eqb i j) [ true ↦ step bs s | false ↦ done (saying s []) ]
happens i (offered_to j b) s = elim (eqb i j) [ true ↦ offer b s | false ↦ done (saying s []) ]

-- how often it ticks station i
unfoldable pub ticks : ℕ → Event → ℕ
ticks i idle = 0
ticks i common_tick = 1
ticks i (tick_of j) = elim (eqb i j) [ true ↦ 1 | false ↦ 0 ]
ticks i (given j bs) = 0
ticks i (offered_to j b) = 0

-- no tick of one station alone
abbrev pub IsCommon : Event → Type 0
IsCommon idle = Unit {0}
IsCommon common_tick = Unit {0}
IsCommon (tick_of j) = ⊥
IsCommon (given j bs) = Unit {0}
IsCommon (offered_to j b) = Unit {0}

-- a schedule up to moment K: what would come later doesn't happen
unfoldable pub until : ℕ → (ℕ → Event) → ℕ → Event
until K event k = elim (ltb k K) [ true ↦ event k | false ↦ idle ]

-- "alike in every setting but the own number, limits included, station i numbered i"
abbrev pub settings_of : Size → ℕ → ℕ → ℕ → Settings
settings_of size n D i = record { n = n; D = D; own = i; size = size }

-- the reports of commits among what is said
unfoldable pub reports_in : List Effect → List Effect
reports_in [] = []
reports_in (to_all m ∷ es) = reports_in es
reports_in (to_one i m ∷ es) = reports_in es
reports_in (committed h b ∷ es) = committed h b ∷ reports_in es

-- "hosts lend proper buffers": a message is bytes, an offered name is 32 of them
abbrev pub IsLent : Event → Type 0
IsLent idle = Unit {0}
IsLent common_tick = Unit {0}
IsLent (tick_of j) = Unit {0}
IsLent (given j bs) = Bytes bs
IsLent (offered_to j b) = b < 256 ^ 32

-- "one name has one height and parent": what a message says of its block. A new-view that a sound leader makes is of a block that
-- was certified, so nothing is asked of it.
module _ (height_of parent_of : ℕ → ℕ) where
  abbrev pub OneBlock : Message → Type 0
  OneBlock (new_view v h b c m a) = height_of b ≡ h
  OneBlock (propose v h b p m a) = (height_of b ≡ h) × (parent_of b ≡ p)
  OneBlock (vote v h b a) = Unit {0}
  OneBlock (blame v a) = Unit {0}
  OneBlock (blame_set v m) = Unit {0}
  OneBlock (status h b c m) = Unit {0}

-- the ticks of station i before moment k
unfoldable pub clock : (ℕ → Event) → ℕ → ℕ → ℕ
unfolding ticks
clock event i zero = 0
clock event i (suc k) = clock event i k + ticks i (event k)

-- not stopped for want of records, nor at the last clock
abbrev pub HasRoom : State → Type 0
HasRoom s = ¬ (s.phase ≡ stopped full) × ¬ (s.phase ≡ stopped late)

-- a run, as far as the premises look at it: what station i holds at moment k, and what event k makes it say
pub record Run : Type 0 where
  pub size : Size
  pub n : ℕ
  pub D : ℕ
  pub event : ℕ → Event
  pub state : ℕ → ℕ → State
  pub said : ℕ → ℕ → List Effect

-- the run of the rules
module _ (size : Size) (n D : ℕ) (event : ℕ → Event) where
  -- station i at moment k: "from fresh stores"
  unfoldable pub at : ℕ → ℕ → State
  unfolding fresh happens
  at i zero = fresh (settings_of size n D i)
  at i (suc k) = (happens i (event k) (at i k)).next

  -- what event k makes station i say
  unfoldable pub out : ℕ → ℕ → List Effect
  unfolding at happens
  out i k = (happens i (event k) (at i k)).out

  abbrev pub run : Run
  run = record { size = size; n = n; D = D; event = event; state = at; said = out }

module _ (R : Run) where
  open R use {size, n, D, event, state, said}

  -- station i says e at event k
  abbrev pub IsSaid : ℕ → ℕ → Effect → Type 0
  IsSaid i k e = Memᴰ e (said i k)

  -- i sends m to j: to all others, or to one
  abbrev pub Sends : (i j k : ℕ) → Message → Type 0
  Sends i j k m = (IsSaid i k (to_all m) × ¬ (i ≡ j)) ⊎ IsSaid i k (to_one j m)

  -- m is a message of i: said to all, or to whomever
  abbrev pub Speaks : (i k : ℕ) → Message → Type 0
  Speaks i k m = IsSaid i k (to_all m) ⊎ ((j : ℕ) × IsSaid i k (to_one j m))

  -- ---- what station i said before event k

  abbrev pub HasVoted : (i k view height name : ℕ) → Type 0
  HasVoted i k v h b = (l : ℕ) × (l < k) × IsSaid i l (to_all (vote v h b i))

  abbrev pub HasBlamed : (i k view : ℕ) → Type 0
  HasBlamed i k v = (l : ℕ) × (l < k) × IsSaid i l (to_all (blame v i))

  -- a statement, with whatever mask
  abbrev pub HasMade : (i k : ℕ) → (ℕ → Message) → Type 0
  HasMade i k m = (l : ℕ) × (l < k) × ((mask : ℕ) × IsSaid i l (to_all (m mask)))

  -- ---- the premises

  -- "every setting .. limits included"
  abbrev pub GoodSettings : Type 0
  GoodSettings = good_settings (settings_of size n D 0) ≡ true

  -- "a common tick is one event: every station is ticked before the next delivery"
  abbrev pub CommonTicks : Type 0
  CommonTicks = (k : ℕ) → IsCommon (event k)

  abbrev pub ProperBuffers : Type 0
  ProperBuffers = (k : ℕ) → IsLent (event k)

  module _ (faulty : ℕ) where
    -- a mask of faulty stations; the others are sound
    abbrev pub Sound : ℕ → Type 0
    Sound i = (i < n) × (bit faulty i ≡ 0)

    abbrev pub AtMostF : Type 0
    AtMostF = count faulty ≤ faults (settings_of size n D 0)

    -- "stopped stations count among the f": a sound station is never stopped for want of records or at the last clock. That a due
    -- commit never stops one needs no premise (SoundRun, Theorem C).
    abbrev pub NeverFull : Type 0
    NeverFull = (i : ℕ) → Sound i → (k : ℕ) → HasRoom (state i k)

    abbrev pub SoundRun : Type 0
    SoundRun = (i : ℕ) → Sound i → (k : ℕ) → running (state i k) ≡ true

    -- both up to moment K: a station that stops later is sound until then
    abbrev pub RoomTo : ℕ → Type 0
    RoomTo K = (i : ℕ) → Sound i → (k : ℕ) → k ≤ K → HasRoom (state i k)

    abbrev pub RunsTo : ℕ → Type 0
    RunsTo K = (i : ℕ) → Sound i → (k : ℕ) → k ≤ K → running (state i k) ≡ true

    -- "a message sent at clock s is delivered before the tick to s+D+1"
    abbrev pub InTime : Type 0
    InTime =
        (i j : ℕ) → Sound i → Sound j → (k : ℕ) (m : Message) → Sends i j k m → (l : ℕ) → ticks i (event l) ≡ 1 → clock event i l ≡ clock event i (suc k) + D
        → (h : ℕ) × (k < h) × (h < l) × (event h ≡ given j (write m))

    -- "a mask or author names a sound station only after it sent that vote or blame, or is the leader that made that statement"
    abbrev pub VotersVoted : (k mask view height name : ℕ) → Type 0
    VotersVoted k m v h b = (i : ℕ) → Sound i → bit m i ≡ 1 → HasVoted i k v h b

    abbrev pub Genuine : ℕ → Message → Type 0
    Genuine k (new_view v h b c m a) = VotersVoted k m c h b × (Sound a → HasMade a k (λ x. new_view v h b c x a))
    Genuine k (propose v h b p m a) = VotersVoted k m v (h - 1) p × (Sound a → HasMade a k (λ x. propose v h b p x a))
    Genuine k (vote v h b a) = Sound a → HasVoted a k v h b
    Genuine k (blame v a) = Sound a → HasBlamed a k v
    Genuine k (blame_set v m) = (i : ℕ) → Sound i → bit m i ≡ 1 → HasBlamed i k v
    Genuine k (status h b c m) = VotersVoted k m c h b

    -- event k hands m over to the sound station j, which can read it and allows it
    abbrev pub Hands : (k j : ℕ) → Message → Type 0
    Hands k j m = Sound j × ((bs : List ℕ) × (event k ≡ given j bs) × (read bs ≡ some m)) × (allowed (settings_of size n D j) m ≡ true)

    abbrev pub NoForgery : Type 0
    NoForgery = (k j : ℕ) (m : Message) → Hands k j m → Genuine k m

    -- event k offers a name to the sound station j, which takes it and makes m
    abbrev pub Offers : (k j : ℕ) → Message → Type 0
    Offers k j m = Sound j × ((b : ℕ) × (event k ≡ offered_to j b) × (offered b (state j k) ≡ some m))

    -- 02: "a station that answers 12 to a sound station's vote counts among the f"
    abbrev pub NeverUsedUp : Type 0
    NeverUsedUp =
        (i j : ℕ) → Sound i → Sound j → (l k v h b a : ℕ) → Speaks i l (vote v h b a) → l < k → event k ≡ given j (write (vote v h b a))
        → ¬ ((step (write (vote v h b a)) (state j k)).number ≡ 12)

    -- "in all statements and offers, sound leaders' too, one name has one height and parent"
    module _ (height_of parent_of : ℕ → ℕ) where
      abbrev pub OneName : Type 0
      OneName = (k j : ℕ) (m : Message) → Hands k j m ⊎ Offers k j m → OneBlock height_of parent_of m

      -- ---- the schedule of demand 3

      pub record Premises : Type 0 where
        pub settings : GoodSettings
        pub few : AtMostF
        pub common : CommonTicks
        pub lent : ProperBuffers
        pub in_time : InTime
        pub no_forgery : NoForgery
        pub one_name : OneName
        pub heard : NeverUsedUp

      pub record Schedule : Type 0 where
        pub premises : Premises
        pub room : NeverFull

  -- the reports of station i before moment k
  unfoldable pub reported : ℕ → ℕ → List Effect
  unfolding reports_in
  reported i zero = []
  reported i (suc k) = reported i k ++ reports_in (said i k)

module _ (parent_of : ℕ → ℕ) where
  -- each name's parent is the one before it, the first one's parent is p
  abbrev pub Linked : ℕ → List ℕ → Type 0
  Linked p [] = Unit {0}
  Linked p (b ∷ l) = (parent_of b ≡ p) × Linked b l

  -- the block b of height h with all its ancestors, from height 1 up
  unfoldable pub lineage : ℕ → ℕ → List ℕ
  lineage zero b = []
  lineage (suc h) b = lineage h (parent_of b) ++ b ∷ []

-- of two logs one begins the other
abbrev pub OneBegins : List ℕ → List ℕ → Type 0
OneBegins a b = IsPrefix a b ⊎ IsPrefix b a
