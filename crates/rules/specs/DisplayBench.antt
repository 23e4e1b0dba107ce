-- Examples of the wall display: the values at -1, 0 and 1 and at both clock ends, who is shown and who isn't, the order, the bytes. proofs/DisplayBench.antt evaluates them. Assumes nothing.
use Rattle.std.specs.Prelude.{ℕ, ◌-◌, ◌^◌, Bool, true, false, ◌&&◌, List, [], ◌∷◌, eqb, ℤ, pos, negsuc, neg_ℤ}
use Rattle.std.proofs.Math.Option.{Option, none, some}
use Rattle.rules.specs.Limits.{last_clock}
use Rattle.rules.specs.Lists.{unbe}
use Rattle.rules.specs.Messages.{new_view, propose, blame_set, committed}
use Rattle.rules.specs.Words.{Statement, waiting, stopped, full, State, fresh}
use Rattle.rules.specs.Inputs.{with_phase, with_clock, with_tables, with_log}
use Rattle.rules.specs.Script.{Line, ◌⇒◌, idle, holds, ticks, hears, bytes, says, same_list, group, station, block, child}
use Rattle.rules.specs.Display.{Shown, display, twos, signed, entries}

same_integer : ℤ → ℤ → Bool
same_integer (pos a) (pos b) = eqb a b
same_integer (pos a) (negsuc b) = false
same_integer (negsuc a) (pos b) = false
same_integer (negsuc a) (negsuc b) = eqb a b

left : ℕ → ℕ → ℤ → Shown
left h b t = record { height = h; name = b; ticks_left = t }

-- so many ticks overdue
by : ℕ → ℤ
by n = neg_ℤ (pos n)

same : List Shown → List Shown → Bool
unfolding same_integer
same [] [] = true
same [] (y ∷ ys) = false
same (x ∷ xs) [] = false
same (x ∷ xs) (y ∷ ys) = eqb x.height y.height && eqb x.name y.name && same_integer x.ticks_left y.ticks_left && same xs ys

-- what the display then shows
shows : List Shown → Line
unfolding same display
shows xs = holds (λ s. same (display s) xs)

-- a statement of station 1's views, voted for or not; station 2 in view 1 with such statements and a log, at a clock
said : Bool → ℕ → ℕ → ℕ → ℕ → Option ℕ → Statement
said k v h b l c = record { is_new_view = k; view = v; height = h; name = b; link = l; mask = 3; author = 1; voted = c }

held : ℕ → List Statement → List ℕ → State
unfolding fresh group with_clock with_tables with_log
held c xs l = with_log l (with_tables xs [] (with_clock c (fresh (group 2))))

wall : State → List Shown → Bool
unfolding same display
wall s xs = same (display s) xs

-- along the ticks: D = 2, so that what is voted for at clock c is due at c + 5
unfoldable pub along : List Bool
unfolding station shows left by block child
along =
    -- a fresh station shows none; 5 ticks left at the vote, 1 before the commit, and none once it is logged
    station 2 (shows [] ∷ hears block ⇒ bytes 160 ∷ shows (left 1 77 (pos 5) ∷ []) ∷ idle 1 ∷ shows (left 1 77 (pos 4) ∷ []) ∷ idle 3 ∷ shows (left 1 77 (pos 1) ∷ [])
    ∷ ticks ⇒ says (committed 1 77 ∷ []) ∷ shows [] ∷ [])
    -- the parent is not stored: 1, then due on the tick just given, then overdue by 1 and by 2
    ∷ station 2 (hears child ⇒ bytes 160 ∷ idle 4 ∷ shows (left 2 79 (pos 1) ∷ []) ∷ idle 1 ∷ shows (left 2 79 (pos 0) ∷ []) ∷ idle 1 ∷ shows (left 2 79 (by 1) ∷ []) ∷ idle 1
    ∷ shows (left 2 79 (by 2) ∷ [])
    -- it comes: the child is overdue until the next tick commits both
    ∷ hears block ⇒ bytes 160 ∷ shows (left 2 79 (by 2) ∷ left 1 77 (pos 5) ∷ []) ∷ ticks ⇒ says (committed 1 77 ∷ committed 2 79 ∷ []) ∷ shows [] ∷ [])
    -- by place, not by height
    ∷ station 2 (hears child ⇒ bytes 160 ∷ idle 1 ∷ hears block ⇒ bytes 160 ∷ shows (left 2 79 (pos 4) ∷ left 1 77 (pos 5) ∷ []) ∷ [])
    -- a new-view is voted for and not shown; waiting shows none; what was kept for the next view is shown from its entry on
    ∷ station 2 (hears (new_view 1 0 0 0 0 1) ⇒ bytes 132 ∷ shows [] ∷ hears block ⇒ bytes 160 ∷ hears (propose 2 1 80 0 3 2) ⇒ bytes 0 ∷ shows (left 1 77 (pos 5) ∷ [])
    ∷ hears (blame_set 1 3) ⇒ bytes 19 ∷ shows [] ∷ idle 2 ∷ shows [] ∷ ticks ⇒ bytes 160 ∷ shows (left 1 80 (pos 5) ∷ []) ∷ [])
    ∷ []

-- state by state
unfoldable pub apart : List Bool
unfolding wall held left by said with_phase
apart =
    -- both clock ends: voted for at 0 and seen at 0; voted for at the end and due behind it; voted for at 0 and seen at the end
    wall (held 0 (one 0 ∷ []) []) (left 1 77 (pos 5) ∷ []) ∷ wall (held last_clock (one last_clock ∷ []) []) (left 1 77 (pos 5) ∷ [])
    ∷ wall (held last_clock (one 0 ∷ []) []) (left 1 77 (by 3_999_999_995) ∷ [])
    -- -1, 0 and 1 at the end of the clock
    ∷ wall (held last_clock (one (last_clock - 6) ∷ []) []) (left 1 77 (by 1) ∷ []) ∷ wall (held last_clock (one (last_clock - 5) ∷ []) []) (left 1 77 (pos 0) ∷ [])
    ∷ wall (held last_clock (one (last_clock - 4) ∷ []) []) (left 1 77 (pos 1) ∷ [])
    -- waiting and stopped
    ∷ wall (with_phase (waiting 9) (held 9 (one 7 ∷ []) [])) [] ∷ wall (with_phase (stopped full) (held 9 (one 7 ∷ []) [])) []
    -- in the log; the log has another name there; it has this name at another height
    ∷ wall (held 9 (one 7 ∷ []) (77 ∷ [])) [] ∷ wall (held 9 (one 7 ∷ []) (78 ∷ [])) (left 1 77 (pos 3) ∷ [])
    ∷ wall (held 9 (one 7 ∷ []) (78 ∷ 77 ∷ [])) (left 1 77 (pos 3) ∷ []) ∷ wall (held 9 (said false 1 2 77 78 (some 7) ∷ []) (78 ∷ 77 ∷ [])) []
    -- of another view, not voted for, a new-view
    ∷ wall (held 9 (said false 2 1 77 0 (some 7) ∷ []) []) [] ∷ wall (held 9 (said false 1 1 77 0 none ∷ []) []) [] ∷ wall (held 9 (said true 1 1 77 0 (some 7) ∷ []) []) []
    -- by place
    ∷ wall (held 9 (said false 1 3 79 78 (some 6) ∷ one 8 ∷ said false 1 2 78 77 (some 7) ∷ []) []) (left 3 79 (pos 2) ∷ left 1 77 (pos 4) ∷ left 2 78 (pos 3) ∷ [])
    ∷ []
  where
    one : ℕ → Statement
    one c = said false 1 1 77 0 (some c)

-- to the byte
unfoldable pub written : List Bool
unfolding same_list same_integer entries left by twos signed unbe
written =
    same_list (entries []) [] ∷ same_list (entries (left 3 0xABCD (pos 258) ∷ left 1 77 (by 2) ∷ []))
    (unbe 94 0x13002C00000003000000000000000000000000000000000000000000000000000000000000ABCD000000000000010213002C00000001000000000000000000000000000000000000000000000000000000000000004DFFFFFFFFFFFFFFFE)
    ∷ eqb (twos (by 1)) (2 ^ 64 - 1) ∷ eqb (twos (pos 0)) 0 ∷ eqb (twos (pos 1)) 1
    ∷ same_integer (signed (2 ^ 64 - 1)) (by 1) ∷ same_integer (signed 0) (pos 0) ∷ same_integer (signed 1) (pos 1)
    ∷ same_integer (signed (2 ^ 63)) (by (2 ^ 63)) ∷ same_integer (signed (2 ^ 63 - 1)) (pos (2 ^ 63 - 1))
    ∷ []
