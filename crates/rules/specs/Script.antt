-- A script for one station: inputs with what must come of each, so that examples can be evaluated. Assumes nothing.
use Rattle.std.specs.Prelude.{ℕ, zero, suc, Bool, true, false, ◌&&◌, List, [], ◌∷◌, length, eqb}
use Rattle.rules.specs.Limits.{small}
use Rattle.rules.specs.Sizes.{Settings}
use Rattle.rules.specs.Messages.{Message, propose, write, Effect, outgoing}
use Rattle.rules.specs.Words.{State, fresh}
use Rattle.rules.specs.Refusals.{fresh_number, Outcome, step, offer, tick}

pub data Input : Type 0 where
  ticks : Input
  hears : Message → Input
  hears_bytes : List ℕ → Input
  is_offered : (name : ℕ) → Input

-- done, with so many bytes, with these bytes, or with this said; or refused
pub data Expected : Type 0 where
  bytes : (count : ℕ) → Expected
  exactly : List ℕ → Expected
  says : List Effect → Expected
  refuses : (number : ℕ) → Expected

pub data Line : Type 0 where
  ◌⇒◌ : Input → Expected → Line
  -- so many ticks, of which each writes nothing
  idle : ℕ → Line
  -- how things then stand
  holds : (State → Bool) → Line

infixl 70 ◌⇒◌
unfoldable pub same_list : List ℕ → List ℕ → Bool
same_list [] [] = true
same_list [] (y ∷ ys) = false
same_list (x ∷ xs) [] = false
same_list (x ∷ xs) (y ∷ ys) = eqb x y && same_list xs ys

unfoldable pub answer : State → Input → Outcome
unfolding tick step write offer
answer s ticks = tick s
answer s (hears m) = step (write m) s
answer s (hears_bytes bs) = step bs s
answer s (is_offered b) = offer b s

unfoldable pub meets : Outcome → Expected → Bool
unfolding outgoing same_list
meets o (bytes n) = eqb o.number 0 && eqb (length (outgoing o.out)) n
meets o (exactly bs) = eqb o.number 0 && same_list (outgoing o.out) bs
meets o (says es) = eqb o.number 0 && same_list (outgoing o.out) (outgoing es)
meets o (refuses k) = eqb o.number k && eqb (length o.out) 0

unfoldable pub goes : State → List Line → Bool
unfolding answer meets
goes s [] = true
goes s (i ⇒ e ∷ ls) = let o = answer s i in elim (meets o e) [ true ↦ goes o.next ls | false ↦ false ]
goes s (idle zero ∷ ls) = goes s ls
goes s (idle (suc k) ∷ ls) = let o = answer s ticks in elim (meets o (bytes 0)) [ true ↦ goes o.next (idle k ∷ ls) | false ↦ false ]
goes s (holds p ∷ ls) = p s && goes s ls

-- ---- what the examples share: a group of three with D = 2, two blocks of height 1 and the first one's child

unfoldable pub made : ℕ → ℕ → ℕ → ℕ
unfolding fresh_number
made n D i = fresh_number (record { n = n; D = D; own = i; size = small })

unfoldable pub group : ℕ → Settings
group i = record { n = 3; D = 2; own = i; size = small }

unfoldable pub station : ℕ → List Line → Bool
unfolding goes fresh group
station i ls = goes (fresh (group i)) ls

unfoldable pub block : Message
block = propose 1 1 77 0 3 1

unfoldable pub other : Message
other = propose 1 1 78 0 3 1

unfoldable pub child : Message
child = propose 1 2 79 77 6 1

-- the places, counted from 1, of the examples that fail
unfoldable pub failing : ℕ → List Bool → List ℕ
failing k [] = []
failing k (b ∷ bs) = elim b [ true ↦ failing (suc k) bs | false ↦ k ∷ failing (suc k) bs ]
