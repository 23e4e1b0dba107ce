-- 02, request 3, 'A number for the wall display': which proposes are shown, in which order, and the ticks left of each. Assumes nothing.
use Rattle.std.specs.Prelude.{ℕ, suc, ◌+◌, ◌-◌, ◌*◌, ◌^◌, Bool, true, false, not, ◌&&◌, List, [], ◌∷◌, ◌++◌, length, get_or, ltb, eqb, ℤ, pos, negsuc}
use Rattle.std.proofs.Math.Option.{none, some}
use Rattle.std.proofs.Math.IntN.{sub_ℕ}
use Rattle.rules.specs.Lists.{unbe, within}
use Rattle.rules.specs.Messages.{field}
use Rattle.rules.specs.Words.{Statement, State}
use Rattle.rules.specs.Inputs.{is_in}

-- a propose on the display: "a number below zero means overdue, and by how many ticks; zero means due on the tick just given"
pub record Shown : Type 0 where
  pub height : ℕ
  pub name : ℕ
  pub ticks_left : ℤ

-- in the log: it has this name at this height
unfoldable pub is_logged : List ℕ → ℕ → ℕ → Bool
unfolding within
is_logged l h b = within 1 (length l) h && eqb b (get_or l (h - 1) 0)

-- a propose "in the view now held and not yet in the log"; of a waiting or stopped station there is none
unfoldable pub is_shown : State → Statement → Bool
unfolding is_in is_logged
is_shown s x = not x.is_new_view && is_in x.view s && not (is_logged s.log x.height x.name)

-- the clock at which the commit of what was voted for at clock c is due: "at least 2D+1 ticks ago"
unfoldable pub due_clock : State → ℕ → ℕ
due_clock s c = c + 2 * s.settings.D + 1

-- "the ticks left until its commit is due, as due clock minus present clock"
unfoldable pub shown : State → Statement → ℕ → Shown
unfolding due_clock
shown s x c = record { height = x.height; name = x.name; ticks_left = sub_ℕ (due_clock s c) s.clock }

-- one statement of the store: shown if it was "voted for"
unfoldable pub showing : State → Statement → List Shown
unfolding is_shown shown
showing s x = elim x.voted [ none ↦ [] | some c ↦ elim (is_shown s x) [ true ↦ shown s x c ∷ [] | false ↦ [] ] ]

-- "the list goes by place in the store"
unfoldable pub showing_all : State → List Statement → List Shown
unfolding showing
showing_all s [] = []
showing_all s (x ∷ xs) = showing s x ++ showing_all s xs

unfoldable pub display : State → List Shown
unfolding showing_all
display s = showing_all s s.statements

-- ---- written

-- an integer as a number of eight bytes, in two's complement, and the integer of such a number
unfoldable pub twos : ℤ → ℕ
twos (pos n) = n
twos (negsuc n) = 2 ^ 64 - suc n

unfoldable pub signed : ℕ → ℤ
signed v = elim (ltb v (2 ^ 63)) [ true ↦ pos v | false ↦ negsuc (2 ^ 64 - suc v) ]

-- a field of tag 13: height (4), name (32), ticks left (8)
unfoldable pub entry : Shown → List ℕ
unfolding field unbe twos
entry x = field 0x13 (unbe 4 x.height ++ unbe 32 x.name ++ unbe 8 (twos x.ticks_left))

unfoldable pub entries : List Shown → List ℕ
unfolding entry
entries [] = []
entries (x ∷ xs) = entry x ++ entries xs
