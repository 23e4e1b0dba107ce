-- Chains as places of statements in local tables. Assumes nothing.
use Rattle.std.specs.Prelude.{ℕ, zero, suc, ◌+◌, ◌-◌, ◌<◌, ◌≤◌, ◌≡◌, Bool, true, false, List, get_or}
use Rattle.std.proofs.Math.Option.{Option, none, some}
use Rattle.rules.specs.Inputs.{chain}
use Rattle.store.specs.Decode.{rows, statement_at, name_at, statements}
use Rattle.glance.specs.Tables.{statement_in, name_in, Stored, Known}
use Rattle.walks.specs.declared.Reached.{Reached}
use Rattle.walks.specs.declared.Reached.TheVariants.{Whole, Lacking}

-- a chain that lacks so many of its lowest names: whole where it lacks none
abbrev pub lacking : ℕ → List ℕ → Option (List ℕ)
lacking zero c = some c
lacking (suc k) c = none

-- a chain of a height was walked down as far as stored statements go: each block in the table has the chain below it
pub record Walked (b t : List ℕ) (height left : ℕ) : Type 0 where
  pub stored : Stored b t left height
  pub chains : (k : ℕ) → left ≤ k → k < height → chain (statements b) (statement_in b t k) ≡ lacking left (rows (name_in b t) 0 (k + 1))

-- the walk from statement i
pub record WalkedFrom (b t : List ℕ) (i left : ℕ) : Type 0 where
  pub walked : Walked b t (statement_at b i).height left
  pub below : left < (statement_at b i).height
  pub top : get_or t ((statement_at b i).height - 1) 0 ≡ i

-- the walk from statement i, and how many of its lowest names are the log's
pub record WalkedDown (b t : List ℕ) (i left known : ℕ) : Type 0 where
  pub from : WalkedFrom b t i left
  pub lowest : Known b t known

-- what the walk answers: all are stored, and so many of the lowest names are the log's, or so many of the lowest are not stored
abbrev pub Answered : List ℕ → List ℕ → ℕ → Reached → Type 0
Answered b t i (Whole known) = WalkedDown b t i 0 known
Answered b t i (Lacking left) = (0 < left) × WalkedDown b t i left 0

-- the check told of the log's lowest k names, and a name is the highest of them
abbrev pub Meets : List ℕ → List ℕ → ℕ → ℕ → Bool → Type 0
Meets b t k link true = (0 < get_or t (k - 1) 0) × (link ≡ name_at b (k - 1))
Meets b t k link false = Unit {0}

-- the places up to one are each one less than those of another table
pub record Lowered (from to left : List ℕ) (end : ℕ) : Type 0 where
  pub within : (k : ℕ) → k < end → get_or left k 0 ≡ get_or from k 0 - 1
  pub above : (k : ℕ) → end ≤ k → get_or left k 0 ≡ get_or to k 0
