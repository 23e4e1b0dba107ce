-- 02, request 11: "the clock at which it first reached a quorum in this store, or none", along a run. Assumes nothing.
use Prim.Native.Nat.{ℕ, zero, suc, ◌≤◌, ◌<◌}
use Rattle.std.specs.Prelude.{◌≡◌, Bool, true, false}
use Rattle.std.proofs.Math.Option.{Option, none, some}
use Rattle.rules.specs.Sizes.{quorum}
use Rattle.rules.specs.Words.{Certificate, voters, reached_of, State}
use Rattle.rules.specs.Refusals.{Outcome}
use Rattle.rules.specs.Script.{Input, answer}

-- a station is handed inputs one after another: what it is after the first k, and what the next one is answered
module _ (start : State) (input : ℕ → Input) where
  unfoldable pub after : ℕ → State
  unfolding answer
  after zero = start
  after (suc k) = (answer (after k) (input k)).next

  unfoldable pub answered : ℕ → Outcome
  unfolding after answer
  answered k = answer (after k) (input k)

-- a clock is kept
unfoldable pub is_there : Option ℕ → Bool
is_there none = false
is_there (some c) = true

-- of what a store holds after the first k inputs, for each k, and a block
module _ (state : ℕ → State) (q : Certificate) where
  -- the clock that its tally keeps then
  abbrev pub kept_at : ℕ → Option ℕ
  kept_at k = reached_of q (state k).tallies

  -- its tally has a quorum then
  unfoldable pub has_quorum : ℕ → Bool
  unfolding quorum voters
  has_quorum k = quorum (state k).settings (voters q (state k).tallies)

  -- within the first k inputs its tally first had a quorum at clock c: after some of them it had one, after none fewer, and c was the
  -- clock
  pub record First (k c : ℕ) : Type 0 where
    pub inputs : ℕ
    pub within : inputs ≤ k
    pub there : has_quorum inputs ≡ true
    pub not_before : (j : ℕ) → j < inputs → has_quorum j ≡ false
    pub clock : (state inputs).clock ≡ c

  -- a clock is kept exactly when there is a quorum, it is the first one's, and the first one's is kept
  pub record KeepsFirst : Type 0 where
    pub exactly : (k : ℕ) → is_there (kept_at k) ≡ has_quorum k
    pub is_first : (k c : ℕ) → kept_at k ≡ some c → First k c
    pub first_is : (k c : ℕ) → First k c → kept_at k ≡ some c
