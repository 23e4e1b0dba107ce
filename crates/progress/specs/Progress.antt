-- 02, request 12, 'Will it ever get on with it?': a view whose leader is sound and is offered a name as soon as one is wanted, and what
-- is claimed of it. All of it looks at a run, of the rules or of the calls. Assumes nothing.
use Rattle.std.specs.Prelude.{ℕ, suc, ◌+◌, ◌*◌, ◌≤◌, ◌<◌, ◌≡◌, Bool, true, false, not, ◌&&◌, eqb, length}
use mathlib.Core.List.{IsPrefix}
use Rattle.std.proofs.Math.Option.{none, some}
use Rattle.rules.specs.Limits.{first_view, last_view}
use Rattle.rules.specs.Lists.{keep}
use Rattle.rules.specs.Sizes.{leader}
use Rattle.rules.specs.Messages.{propose, vote, blame, to_all}
use Rattle.rules.specs.Words.{Statement, in_view, State}
use Rattle.rules.specs.Inputs.{leads, is_opened, is_used, top, extendable}
use Rattle.agreement.specs.Schedule.{Event, idle, common_tick, tick_of, given, offered_to, settings_of, clock, Run, IsSaid, Sound, lineage}

-- an offer of a name that nobody has used would be taken
unfoldable pub possible : State → Bool
unfolding leads is_opened top extendable
possible s = leads s && is_opened s && elim (top s.view s.statements) [ none ↦ false | some x ↦ extendable x s ]

-- a propose of view v with a noted vote
unfoldable pub is_voted : ℕ → Statement → Bool
is_voted v x = not x.is_new_view && eqb x.view v && elim x.voted [ none ↦ false | some c ↦ true ]

-- how many proposes of view v were voted for
unfoldable pub voted_in : ℕ → State → ℕ
unfolding keep is_voted
voted_in v s = length (keep (is_voted v) s.statements)

-- an event of station i: a tick, a message handed over to it, an offer to it
abbrev pub Concerns : ℕ → Event → Type 0
Concerns i idle = ⊥
Concerns i common_tick = Unit {0}
Concerns i (tick_of j) = i ≡ j
Concerns i (given j bs) = i ≡ j
Concerns i (offered_to j b) = i ≡ j

module _ (R : Run) (v : ℕ) where
  open R use {size, n, D, event, state}

  -- the leader of view v
  abbrev pub chief : ℕ
  chief = leader (settings_of size n D 0) v

  -- "a fresh name at the very clock at which each becomes possible": no tick begins while the leader, in v, could take one
  abbrev pub Prompt : Type 0
  Prompt = (k : ℕ) → event k ≡ common_tick → (state chief k).view ≡ v → possible (state chief k) ≡ false

  -- j said a propose of block b of height h in v and its vote, at one event and by clock c
  abbrev pub VotedBy : (j h b c : ℕ) → Type 0
  VotedBy j h b c =
      (l : ℕ) × (clock event 0 (suc l) ≤ c) × ((p m a : ℕ) × IsSaid R j l (to_all (propose v h b p m a)) × IsSaid R j l (to_all (vote v h b j)))

  -- "while records last": all that follows is asked and claimed up to a moment K, and the theorem is for each K up to which no sound
  -- station is full or at the last clock
  module _ (faulty K : ℕ) where
    -- i entered v at clock e
    abbrev pub Entered : (i e : ℕ) → Type 0
    Entered i e = (k : ℕ) × (k ≤ K) × ((state i k).view ≡ v) × ((state i k).entry ≡ e)

    -- what is asked of view v beyond the schedule of demand 3
    pub record Led : Type 0 where
      pub inside : (first_view ≤ v) × (v ≤ last_view size)
      pub sound : Sound R faulty chief
      pub prompt : (k : ℕ) → k < K → event k ≡ common_tick → (state chief k).view ≡ v → possible (state chief k) ≡ false

    -- a host that offers at once: whenever an offer would be taken, the leader's next event is an offer of a name that it has not seen
    -- used. Its leader is prompt (proofs/Offers.antt).
    abbrev pub AtOnce : Type 0
    AtOnce =
        (k : ℕ) → k < K → (state chief k).view ≡ v → possible (state chief k) ≡ true → Concerns chief (event k)
        → (b : ℕ) × (event k ≡ offered_to chief b) × (eqb b 0 ≡ false) × (is_used b (state chief k) ≡ false)

    -- ---- what is claimed

    -- "no sound station blames in that view"
    abbrev pub NoBlame : Type 0
    NoBlame = (i : ℕ) → Sound R faulty i → (k a : ℕ) → k < K → ¬ (IsSaid R i k (to_all (blame v a)))

    -- "none quits it": who has entered it is in it
    abbrev pub NoQuit : Type 0
    NoQuit = (i : ℕ) → Sound R faulty i → (k : ℕ) → k ≤ K → v ≤ (state i k).view → ((state i k).view ≡ v) × ((state i k).phase ≡ in_view)

    -- "each has voted for its p-th proposal within (2p+4)D+1 ticks after the first sound station entered": from whichever sound
    -- station's entry at clock e, as the tick to e+(2p+4)D+2 begins or later. The q-th proposal is the block b of height h+q, the same
    -- for all.
    abbrev pub InTurn : Type 0
    InTurn =
        (i e : ℕ) → Sound R faulty i → Entered i e → (p k : ℕ) → k < K → e + (2 * p + 4) * D + 2 ≤ clock event 0 (suc k)
        → (h : ℕ) × ((j : ℕ) → Sound R faulty j → p ≤ voted_in v (state j k))
        × ((q : ℕ) → 1 ≤ q → q ≤ p → (b : ℕ) × ((j : ℕ) → Sound R faulty j → VotedBy j (h + q) b (e + (2 * q + 4) * D + 1)))

    -- with B: what a sound station voted for in v is in its log after the tick 2D+1 later, with all its ancestors
    abbrev pub Commits : (ℕ → ℕ) → Type 0
    Commits parent_of =
        (j : ℕ) → Sound R faulty j → (l h b p m a : ℕ) → IsSaid R j l (to_all (propose v h b p m a)) → IsSaid R j l (to_all (vote v h b j))
        → (k : ℕ) → k < K → event k ≡ common_tick → clock event 0 k ≡ clock event 0 (suc l) + 2 * D → IsPrefix (lineage parent_of h b) (state j (suc k)).log

    -- so from the tick to e+(2p+6)D+2 on the first p proposals are in every sound log, each with all its ancestors
    abbrev pub InLogs : (ℕ → ℕ) → Type 0
    InLogs parent_of =
        (i e : ℕ) → Sound R faulty i → Entered i e → (p k : ℕ) → k ≤ K → e + (2 * p + 6) * D + 2 ≤ clock event 0 k
        → (h : ℕ) × ((q : ℕ) → 1 ≤ q → q ≤ p → (b : ℕ) × ((j : ℕ) → Sound R faulty j → IsPrefix (lineage parent_of (h + q) b) (state j k).log))

    pub record GetsOn (parent_of : ℕ → ℕ) : Type 0 where
      pub no_blame : NoBlame
      pub no_quit : NoQuit
      pub in_turn : InTurn
      pub commits : Commits parent_of
      pub in_logs : InLogs parent_of
