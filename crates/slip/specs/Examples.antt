-- Slips, damaged ones, and what a slip does not show, which proofs/Examples.antt evaluates together, under a single claim. Assumes nothing.
use Rattle.std.specs.Prelude.{ℕ, suc, ◌+◌, ◌*◌, ◌%◌, ◌^◌, Bool, true, false, ◌&&◌, not, List, [], ◌∷◌, ◌++◌, take, length, eqb}
use Rattle.std.proofs.Math.Option.{none}
use Rattle.rules.specs.Limits.{last_view_small}
use Rattle.rules.specs.Messages.{new_view, propose, vote, write, committed}
use Rattle.rules.specs.Words.{Statement}
use Rattle.rules.specs.Script.{Line, same_list, group, station, ◌⇒◌, idle, holds, ticks, hears, is_offered, bytes, says}
use Rattle.slip_entries.specs.Entries.{entry_bytes}
use Rattle.slip.specs.Slips.{is_slip, slip_bytes, checked}

-- an entry of view v: its height, its name, its parent, voted for by stations 0 and 1
of : ℕ → ℕ → ℕ → ℕ → Statement
of v h b p = record { is_new_view = false; view = v; height = h; name = b; link = p; mask = 3; author = elim (eqb v 2) [ true ↦ 2 | false ↦ 1 ]; voted = none }

-- one of the view after the last with the small limits, by its leader
late : Statement
late =
    record { is_new_view = false; view = suc last_view_small; height = 1; name = 71; link = 0; mask = 3; author = suc last_view_small % 3; voted = none }

mask : ℕ → Statement → Statement
mask m x = record { is_new_view = false; view = x.view; height = x.height; name = x.name; link = x.link; mask = m; author = x.author; voted = none }

one : Statement
one = of 1 1 71 0

two : Statement
two = of 1 2 72 71

three : Statement
three = of 2 3 73 72

good : List Statement
good = three ∷ two ∷ one ∷ []

-- what three stations with the small limits are told
told : List ℕ → ℕ
unfolding checked
told = checked 0 3

-- refused at a place
bad : ℕ → List ℕ → Bool
unfolding told
bad k s = eqb (told s) (15 * 2 ^ 32 + k)

-- the same of a list of proposes, which is then no slip either
wrong : ℕ → ℕ → List Statement → Bool
unfolding bad slip_bytes is_slip group
wrong k b xs = bad k (slip_bytes b xs) && not (is_slip (group 0) b xs)

right : ℕ → List Statement → Bool
unfolding told slip_bytes is_slip group
right b xs = eqb (told (slip_bytes b xs)) (length xs) && is_slip (group 0) b xs

unfoldable pub examples : List Bool
unfolding told bad wrong right good one two three of late mask slip_bytes entry_bytes write checked
examples =
    -- "such a slip always passes", at each height, across views, and certified by all
    right 71 (one ∷ []) ∷ right 72 (two ∷ one ∷ []) ∷ right 73 good ∷ right 73 (mask 7 three ∷ mask 5 two ∷ mask 6 one ∷ [])
    -- "a bad name counts there": another name, genesis, another tag, another length, a name cut short, nothing
    ∷ wrong 0 72 good ∷ wrong 0 0 good ∷ wrong 0 0 [] ∷ wrong 0 73 [] ∷ bad 0 (0x42 ∷ []) ∷ bad 0 (take 34 (slip_bytes 73 good)) ∷ bad 0 []
    -- "a missing .. entry at its own place": cut short by a byte, or by one entry and another
    ∷ bad 2 (take 334 (slip_bytes 73 good)) ∷ wrong 2 73 (three ∷ two ∷ []) ∷ wrong 1 73 (three ∷ []) ∷ bad 0 (take 134 (slip_bytes 73 good))
    -- an "extra" one, be it a byte, the same again, or a block below genesis
    ∷ bad 3 (slip_bytes 73 good ++ 0 ∷ []) ∷ wrong 3 73 (three ∷ two ∷ one ∷ one ∷ []) ∷ bad 1 (slip_bytes 71 (one ∷ []) ++ 0x41 ∷ 0x00 ∷ 0x61 ∷ [])
    -- an "unreadable" one: another tag, and another kind in an entry's room
    ∷ bad 1 (slip_bytes 73 (three ∷ []) ++ 0x42 ∷ 0x00 ∷ 0x61 ∷ write (propose 1 2 72 71 3 1) ++ entry_bytes one)
    ∷ bad 1 (slip_bytes 73 (three ∷ []) ++ 0x41 ∷ 0x00 ∷ 0x61 ∷ write (new_view 2 2 72 1 3 2) ++ take 28 (entry_bytes one) ++ entry_bytes one)
    -- "each parent is the next name, heights fall by one": the lower one is the bad place
    ∷ wrong 1 73 (three ∷ of 1 2 99 71 ∷ one ∷ []) ∷ wrong 2 73 (three ∷ two ∷ of 1 1 99 0 ∷ []) ∷ wrong 1 73 (of 2 4 73 72 ∷ two ∷ one ∷ []) ∷ wrong 1 73 (three ∷ one ∷ []) ∷ wrong 1 71 (one ∷ two ∷ [])
    -- "each propose is allowed": a mask of f, a bit at n, another author, a view past the last, a height of 0
    ∷ wrong 0 73 (mask 1 three ∷ two ∷ one ∷ []) ∷ wrong 1 73 (three ∷ mask 2 two ∷ one ∷ []) ∷ wrong 2 73 (three ∷ two ∷ mask 4 one ∷ []) ∷ wrong 0 73 (mask 11 three ∷ two ∷ one ∷ [])
    ∷ wrong 1 73 (three ∷ of 3 2 72 71 ∷ one ∷ []) ∷ wrong 1 73 (three ∷ of (suc last_view_small) 2 72 71 ∷ one ∷ []) ∷ wrong 0 73 (of 2 0 73 0 ∷ [])
    -- the first of two bad places
    ∷ wrong 1 73 (three ∷ mask 1 two ∷ mask 1 one ∷ []) ∷ wrong 0 99 (three ∷ mask 1 two ∷ one ∷ [])
    -- a kind or an n that isn't good; the large limits go on to later views
    ∷ eqb (checked 1 3 (slip_bytes 73 good)) (10 * 2 ^ 32) ∷ eqb (checked 0 4 (slip_bytes 73 good)) (10 * 2 ^ 32) ∷ eqb (checked 0 17 []) (10 * 2 ^ 32) ∷ eqb (checked 4 3 (slip_bytes 73 good)) 3
    ∷ eqb (checked 4 3 (slip_bytes 71 (late ∷ []))) 1 ∷ bad 0 (slip_bytes 71 (late ∷ []))
    ∷ []

-- "A slip shows a chain, it doesn't show a commit". Station 1 is faulty and proposes 77 and 78 in its view, so stations 0 and 2
-- quit; in view 2 both log 79 at that height, where neither of the others can be logged any more. The slip of 77 is accepted.
unfoldable pub not_a_commit : List Bool
unfolding told slip_bytes of station
not_a_commit =
    eqb (told (slip_bytes 77 (of 1 1 77 0 ∷ []))) 1
    ∷ station 0 (hears (propose 1 1 77 0 3 1) ⇒ bytes 160 ∷ hears (propose 1 1 78 0 3 1) ⇒ bytes 200 ∷ idle 2 ∷ ticks ⇒ bytes 62 ∷ idle 5
    ∷ hears (new_view 2 0 0 1 3 2) ⇒ bytes 132 ∷ hears (propose 2 1 79 0 5 2) ⇒ bytes 160 ∷ idle 4 ∷ ticks ⇒ says (committed 1 79 ∷ []) ∷ logged ∷ [])
    ∷ station 2 (hears (propose 1 1 77 0 3 1) ⇒ bytes 160 ∷ hears (propose 1 1 78 0 3 1) ⇒ bytes 200 ∷ idle 7 ∷ ticks ⇒ bytes 132
    ∷ hears (vote 2 0 0 0) ⇒ bytes 0 ∷ is_offered 79 ⇒ bytes 160 ∷ idle 4 ∷ ticks ⇒ says (committed 1 79 ∷ []) ∷ logged ∷ [])
    ∷ []
  where
    logged : Line
    logged = holds (λ s. same_list s.log (79 ∷ []))
