-- An example, or more, for each clause of the rules that 01's own examples pass by. Bench.antt evaluates them. Assumes nothing.
use Rattle.std.specs.Prelude.{ℕ, zero, suc, ◌+◌, ◌-◌, ◌*◌, ◌^◌, ◌%◌, Bool, true, false, not, ◌&&◌, List, [], ◌∷◌, ◌++◌, length, get_or, replicate, eqb}
use Rattle.std.proofs.Math.Option.{Option, none, some}
use Rattle.rules.specs.Limits.{last_clock, small, large, most_statements, most_tallies, most_opened, last_view_small, last_view_large, most_statements_small}
use Rattle.rules.specs.Lists.{unbe, all}
use Rattle.rules.specs.Sizes.{Settings}
use Rattle.rules.specs.Messages.{Message, new_view, propose, vote, blame, blame_set, status, write, allowed, to_all, to_one, committed, effect}
use Rattle.rules.specs.Words.{Statement, conflict, Tally, opened_by, certificate_of, reached_at, opened, genesis, voters, reached_of, Phase, in_view, waiting, stopped, full, State, fresh}
use Rattle.rules.specs.Inputs.{with_phase, with_clock, with_tables, entering}
use Rattle.rules.specs.Refusals.{step, tick, result}
use Rattle.rules.specs.WellFormed.{well_formed}
use Rattle.rules.specs.Script.{Line, Expected, ◌⇒◌, idle, holds, ticks, hears, hears_bytes, is_offered, bytes, says, refuses, same_list, goes, made, group, station, block, other, child}

-- ---- sizes of a group

sizes : List Bool
unfolding made goes fresh entering
sizes =
    eqb (made 3 1 2) 0 ∷ eqb (made 3 1 3) 10 ∷ eqb (made 1 1 0) 10 ∷ eqb (made 17 1 0) 10 ∷ eqb (made 5 10000 0) 0
    -- with five stations three voters make a quorum, and view 7 is station 2's
    ∷ five (hears (blame_set 1 3) ⇒ refuses 5 ∷ hears (blame_set 7 21) ⇒ bytes 0 ∷ hears (new_view 7 0 0 0 0 2) ⇒ bytes 0 ∷ hears (new_view 7 0 0 0 0 1) ⇒ refuses 5 ∷ [])
    ∷ []
  where
    five : List Line → Bool
    five ls = goes (entering 6 genesis (fresh (record { n = 5; D = 1; own = 0; size = small }))) ls

-- ---- messages on the wire

a_name : ℕ
a_name = 0x00112233445566778899AABBCCDDEEFF0123456789ABCDEF0F1E2D3C4B5A6978

a_parent : ℕ
a_parent = 0xA1A2A3A4A5A6A7A8B1B2B3B4B5B6B7B8C1C2C3C4C5C6C7C8D1D2D3D4D5D6D7D8

-- each kind and each outgoing field, to the byte
wire : List Bool
unfolding write effect same_list unbe a_name a_parent
wire =
    same_list (write (new_view 2 3 a_name 1 6 2)) (unbe 69 0x01000101020004000000020300040000000304002000112233445566778899AABBCCDDEEFF0123456789ABCDEF0F1E2D3C4B5A697806000400000001070002000608000102)
    ∷ same_list (write (propose 2 4 a_name a_parent 5 2)) (unbe 97 0x01000102020004000000020300040000000404002000112233445566778899AABBCCDDEEFF0123456789ABCDEF0F1E2D3C4B5A6978050020A1A2A3A4A5A6A7A8B1B2B3B4B5B6B7B8C1C2C3C4C5C6C7C8D1D2D3D4D5D6D7D8070002000508000102)
    ∷ same_list (write (vote 2 3 a_name 1)) (unbe 57 0x01000103020004000000020300040000000304002000112233445566778899AABBCCDDEEFF0123456789ABCDEF0F1E2D3C4B5A697808000101)
    ∷ same_list (write (blame 32 14)) (unbe 15 0x01000104020004000000200800010E)
    ∷ same_list (write (blame_set 2 0x7FFF)) (unbe 16 0x01000105020004000000020700027FFF)
    ∷ same_list (write (status 65535 a_name 1 3)) (unbe 58 0x010001060300040000FFFF04002000112233445566778899AABBCCDDEEFF0123456789ABCDEF0F1E2D3C4B5A6978060004000000010700020003)
    ∷ same_list (effect (to_all (blame 1 2))) (unbe 18 0x10000F010001040200040000000108000102)
    ∷ same_list (effect (to_one 2 (blame_set 1 3))) (unbe 20 0x1100110201000105020004000000010700020003)
    ∷ same_list (effect (committed 258 a_name)) (unbe 39 0x1200240000010200112233445566778899AABBCCDDEEFF0123456789ABCDEF0F1E2D3C4B5A6978)
    ∷ []

-- "anything else is unreadable": nothing, kinds 0 and 7, another tag, another length, fields of another order
unreadable : List Bool
unfolding station unbe
unreadable =
    station 0 (hears_bytes [] ⇒ refuses 4
    ∷ hears_bytes (unbe 15 0x01000100020004000000010800010E) ⇒ refuses 4 ∷ hears_bytes (unbe 15 0x01000107020004000000010800010E) ⇒ refuses 4
    ∷ hears_bytes (unbe 15 0x01000104030004000000010800010E) ⇒ refuses 4 ∷ hears_bytes (unbe 15 0x01000104020005000000010800010E) ⇒ refuses 4
    ∷ hears_bytes (unbe 15 0x01000108000101020004000000010E) ⇒ refuses 4 ∷ hears_bytes (unbe 15 0x010001040200040000000108000100) ⇒ bytes 0 ∷ [])
    ∷ []

-- every clause of 'Allowed', from both sides
right : List Message
right =
    new_view 1 0 0 0 0 1 ∷ new_view 2 0 0 1 3 2 ∷ new_view last_view_small 65535 9 (last_view_small - 1) 7 (last_view_small % 3) ∷ propose 1 1 77 0 3 1 ∷ propose 2 2 78 77 6 2 ∷ propose 3 65535 9 8 5 0
    ∷ vote 1 0 0 0 ∷ vote last_view_small 65535 9 2 ∷ blame 1 0 ∷ blame last_view_small 2 ∷ blame_set 1 3 ∷ blame_set last_view_small 7 ∷ status 0 0 0 0 ∷ status 0 0 5 3 ∷ status 65535 79 last_view_small 5 ∷ []

wrong : List Message
wrong =
    new_view 0 0 0 0 0 0 ∷ new_view (suc last_view_small) 0 0 0 0 0 ∷ new_view 2 65536 9 1 3 2 ∷ new_view 2 1 0 1 3 2 ∷ new_view 2 0 9 1 3 2 ∷ new_view 2 1 9 2 3 2
    ∷ new_view 2 1 9 0 0 2 ∷ new_view 2 0 0 0 3 2 ∷ new_view 2 1 9 1 1 2 ∷ new_view 2 1 9 1 9 2 ∷ new_view 2 1 9 1 3 1
    ∷ propose 0 1 77 0 3 0 ∷ propose (suc last_view_small) 1 77 0 3 0 ∷ propose 1 0 0 0 3 1 ∷ propose 1 1 0 0 3 1 ∷ propose 1 1 77 5 3 1 ∷ propose 1 2 77 0 3 1
    ∷ propose 1 65536 77 5 3 1 ∷ propose 1 1 77 0 2 1 ∷ propose 1 1 77 0 9 1 ∷ propose 1 1 77 0 3 2
    ∷ vote 0 1 77 0 ∷ vote (suc last_view_small) 1 77 0 ∷ vote 1 65536 77 0 ∷ vote 1 0 77 0 ∷ vote 1 1 0 0 ∷ vote 1 1 77 3
    ∷ blame 0 1 ∷ blame (suc last_view_small) 1 ∷ blame 1 3 ∷ blame_set 0 3 ∷ blame_set (suc last_view_small) 3 ∷ blame_set 1 4 ∷ blame_set 1 9
    ∷ status 65536 9 1 3 ∷ status 0 9 1 3 ∷ status 1 0 1 3 ∷ status 1 9 (suc last_view_small) 3 ∷ status 1 9 0 0 ∷ status 0 0 0 3 ∷ status 1 9 1 1 ∷ status 1 9 1 9 ∷ []

judged : List Bool
unfolding all allowed group right wrong
judged = all (allowed (group 0)) right ∷ all (λ m. not (allowed (group 0) m)) wrong ∷ []

-- ---- words used

nv : ℕ → ℕ → ℕ → ℕ → Statement
nv v h b c = record { is_new_view = true; view = v; height = h; name = b; link = c; mask = 3; author = 0; voted = none }

pr : ℕ → ℕ → ℕ → ℕ → Statement
pr v h b p = record { is_new_view = false; view = v; height = h; name = b; link = p; mask = 3; author = 0; voted = none }

both : Bool → Statement → Statement → Bool
unfolding conflict
both true x y = conflict x y && conflict y x
both false x y = not (conflict x y) && not (conflict y x)

conflicts : List Bool
unfolding both nv pr
conflicts =
    both false (nv 2 3 7 1) (nv 2 3 7 1) ∷ both true (nv 2 3 7 1) (nv 2 3 7 0) ∷ both true (nv 2 3 7 1) (nv 2 4 8 1) ∷ both false (nv 2 3 7 1) (nv 3 3 8 1)
    ∷ both true (pr 2 3 7 5) (pr 2 3 8 5) ∷ both false (pr 2 3 7 5) (pr 2 3 7 6) ∷ both false (pr 2 3 7 5) (pr 3 3 8 5)
    ∷ both true (nv 2 3 7 1) (pr 2 3 8 5) ∷ both true (nv 2 3 7 1) (pr 2 2 8 5) ∷ both false (nv 2 3 7 1) (pr 1 3 8 5)
    -- a child with the wrong parent, above a propose and above a new-view; of another view; two heights apart
    ∷ both true (pr 2 3 7 5) (pr 2 4 8 5) ∷ both false (pr 2 3 7 5) (pr 2 4 8 7) ∷ both true (nv 2 3 7 1) (pr 2 4 8 5) ∷ both false (nv 2 3 7 1) (pr 2 4 8 7)
    ∷ both false (pr 2 3 7 5) (pr 3 4 8 5) ∷ both false (nv 2 3 7 1) (pr 3 4 8 5) ∷ both false (pr 2 3 7 5) (pr 2 5 8 5) ∷ both false (nv 2 3 7 1) (pr 2 5 8 5)
    ∷ []

-- ---- statement, vote, status, blame

stated : List Bool
unfolding station block other child voters goes fresh group entering
stated =
    -- a repeat joins its certificate and is not stored again; what is sent has the mask as first received
    station 2 (hears block ⇒ bytes 160 ∷ hears (propose 1 1 77 0 5 1) ⇒ bytes 0
    ∷ holds (λ s. eqb (length s.statements) 1 && eqb (voters (record { view = 1; height = 0; name = 0; mask = 0 }) s.tallies) 7)
    ∷ hears other ⇒ says (to_all block ∷ to_all other ∷ []) ∷ hears child ⇒ bytes 0 ∷ holds (λ s. eqb (length s.statements) 3) ∷ [])
    -- tallies exist for the certified block and for the own block, with the own vote
    ∷ station 2 (hears child ⇒ says (to_all child ∷ to_all (vote 1 2 79 2) ∷ [])
    ∷ holds (λ s. eqb (length s.tallies) 2 && eqb (voters (record { view = 1; height = 1; name = 77; mask = 0 }) s.tallies) 6
    && eqb (voters (record { view = 1; height = 2; name = 79; mask = 0 }) s.tallies) 4) ∷ [])
    -- one height and name, another parent: no conflict, both are voted for
    ∷ station 2 (hears child ⇒ bytes 160 ∷ hears (propose 1 2 79 70 3 1) ⇒ bytes 160 ∷ [])
    -- a child with the wrong parent quits above a propose and above a new-view, whichever comes first; two heights apart it is voted for
    ∷ station 2 (hears block ⇒ bytes 160 ∷ hears orphan ⇒ says (to_all block ∷ to_all orphan ∷ []) ∷ idle 5 ∷ [])
    ∷ station 2 (hears orphan ⇒ bytes 160 ∷ hears block ⇒ says (to_all orphan ∷ to_all block ∷ []) ∷ idle 5 ∷ [])
    ∷ second (hears (new_view 2 1 77 1 3 2) ⇒ bytes 132 ∷ hears (propose 2 2 79 70 3 2) ⇒ says (to_all (new_view 2 1 77 1 3 2) ∷ to_all (propose 2 2 79 70 3 2) ∷ []) ∷ [])
    ∷ second (hears (propose 2 2 79 70 3 2) ⇒ bytes 160 ∷ hears (new_view 2 1 77 1 3 2) ⇒ says (to_all (propose 2 2 79 70 3 2) ∷ to_all (new_view 2 1 77 1 3 2) ∷ []) ∷ [])
    ∷ second (hears (new_view 2 1 77 1 3 2) ⇒ bytes 132 ∷ hears (propose 2 3 79 70 3 2) ⇒ bytes 160 ∷ hears (propose 2 5 80 71 3 2) ⇒ bytes 160 ∷ [])
    -- the earliest stored conflicting one is sent; after the quit statements are only kept
    ∷ station 0 (hears (blame_set 1 3) ⇒ bytes 19 ∷ idle 2 ∷ ticks ⇒ bytes 62 ∷ hears (new_view 2 0 0 0 0 2) ⇒ says (to_all (new_view 2 0 0 0 0 2) ∷ to_all (vote 2 0 0 0) ∷ [])
    ∷ hears (propose 2 1 77 0 3 2) ⇒ bytes 160 ∷ hears (new_view 2 1 77 1 3 2) ⇒ says (to_all (new_view 2 0 0 0 0 2) ∷ to_all (new_view 2 1 77 1 3 2) ∷ [])
    ∷ hears (propose 2 2 78 77 3 2) ⇒ bytes 0 ∷ holds (λ s. eqb (length s.statements) 4) ∷ [])
    -- the lock's own rank is voted for, whatever the name
    ∷ station 0 (hears (status 3 79 1 3) ⇒ bytes 0 ∷ hears (blame_set 1 3) ⇒ bytes 19 ∷ idle 2 ∷ ticks ⇒ bytes 62 ∷ hears (new_view 2 3 90 1 3 2) ⇒ bytes 132 ∷ [])
    -- a status for genesis in view 0 changes nothing; a vote and a status open a tally, once
    ∷ station 0 (hears (status 0 0 0 0) ⇒ bytes 0 ∷ holds (λ s. eqb (length s.tallies) 0) ∷ hears (vote 2 5 99 1) ⇒ bytes 0 ∷ hears (status 5 99 2 5) ⇒ bytes 0
    ∷ holds (λ s. eqb (length s.tallies) 1 && eqb (voters (record { view = 2; height = 5; name = 99; mask = 0 }) s.tallies) 7) ∷ [])
    -- blames join; the set has the mask now held
    ∷ station 2 (hears (blame 1 0) ⇒ bytes 0 ∷ hears (blame 1 0) ⇒ bytes 0 ∷ hears (blame 2 1) ⇒ bytes 0 ∷ hears (blame 1 1) ⇒ says (to_all (blame_set 1 3) ∷ []) ∷ hears (blame 1 2) ⇒ bytes 0 ∷ [])
    ∷ []
  where
    -- a child of another block than 77
    orphan : Message
    orphan = propose 1 2 79 70 6 1

    -- station 0 in view 2
    second : List Line → Bool
    second ls = goes (entering 2 genesis (fresh (group 0))) ls

-- ---- offer of a name

offers : List Bool
unfolding station
offers =
    -- no new-view stored; not certified; zero; taken; used as a name, as a parent; the name of a tally alone may be offered
    station 1 (is_offered 77 ⇒ refuses 9 ∷ idle 4 ∷ ticks ⇒ says (to_all (new_view 1 0 0 0 0 1) ∷ to_all (vote 1 0 0 1) ∷ []) ∷ is_offered 77 ⇒ refuses 9 ∷ hears (vote 1 0 0 0) ⇒ bytes 0
    ∷ is_offered 0 ⇒ refuses 9 ∷ is_offered 77 ⇒ says (to_all (propose 1 1 77 0 3 1) ∷ to_all (vote 1 1 77 1) ∷ []) ∷ is_offered 78 ⇒ refuses 9
    ∷ hears (propose 2 2 90 85 3 2) ⇒ bytes 0 ∷ hears (vote 2 5 99 0) ⇒ bytes 0 ∷ hears (vote 1 1 77 2) ⇒ bytes 0
    ∷ is_offered 77 ⇒ refuses 9 ∷ is_offered 90 ⇒ refuses 9 ∷ is_offered 85 ⇒ refuses 9
    ∷ is_offered 99 ⇒ says (to_all (propose 1 2 99 77 6 1) ∷ to_all (vote 1 2 99 1) ∷ []) ∷ [])
    -- not the leader; not in a view
    ∷ station 0 (hears (new_view 1 0 0 0 0 1) ⇒ bytes 132 ∷ hears (vote 1 0 0 1) ⇒ bytes 0 ∷ is_offered 77 ⇒ refuses 9 ∷ [])
    ∷ station 1 (hears (new_view 1 0 0 0 0 1) ⇒ bytes 132 ∷ hears (vote 1 0 0 0) ⇒ bytes 0 ∷ hears (blame_set 1 3) ⇒ bytes 19 ∷ is_offered 77 ⇒ refuses 9 ∷ [])
    -- a propose alone opens no view; a new-view of another view does not either
    ∷ station 1 (hears (propose 1 1 77 0 3 1) ⇒ bytes 160 ∷ hears (vote 1 1 77 0) ⇒ bytes 0 ∷ is_offered 78 ⇒ refuses 9
    ∷ hears (new_view 2 0 0 0 0 2) ⇒ bytes 0 ∷ is_offered 78 ⇒ refuses 9 ∷ [])
    -- height 65,534 can be built upon, 65,535 not
    ∷ station 1 (hears (new_view 1 0 0 0 0 1) ⇒ bytes 132 ∷ hears (propose 1 65534 77 76 3 1) ⇒ bytes 160 ∷ hears (vote 1 65534 77 0) ⇒ bytes 0 ∷ is_offered 78 ⇒ bytes 160
    ∷ hears (vote 1 65535 78 0) ⇒ bytes 0 ∷ is_offered 79 ⇒ refuses 9 ∷ [])
    ∷ []

-- ---- tick

commits : List Bool
unfolding station block child same_list
commits =
    -- passed over while an ancestor is not stored; then ancestors first, each reported once; then the blame, with two votes
    station 2 (hears child ⇒ bytes 160 ∷ idle 6 ∷ hears block ⇒ bytes 160 ∷ ticks ⇒ says (committed 1 77 ∷ committed 2 79 ∷ []) ∷ idle 14
    ∷ ticks ⇒ says (to_all (blame 1 2) ∷ []) ∷ holds (λ s. same_list s.log (77 ∷ 79 ∷ [])) ∷ [])
    -- an ancestor of any view serves
    ∷ station 2 (hears (propose 2 1 77 0 3 2) ⇒ bytes 0 ∷ hears child ⇒ bytes 160 ∷ idle 4 ∷ ticks ⇒ says (committed 1 77 ∷ committed 2 79 ∷ []) ∷ [])
    -- the voted propose counts with its own parent; of an ancestor the first stored one, here with a parent that is not stored
    ∷ station 2 (hears (propose 2 2 79 70 3 2) ⇒ bytes 0 ∷ hears block ⇒ bytes 160 ∷ hears child ⇒ bytes 160 ∷ hears (propose 1 3 80 79 3 1) ⇒ bytes 160 ∷ idle 4
    ∷ ticks ⇒ says (committed 1 77 ∷ committed 2 79 ∷ []) ∷ idle 3 ∷ [])
    -- quitting ends the commit timers
    ∷ station 2 (hears block ⇒ bytes 160 ∷ hears (blame_set 1 3) ⇒ bytes 19 ∷ idle 7 ∷ holds (λ s. eqb (length s.log) 0) ∷ [])
    -- refusal 7 keeps the clock and the log
    ∷ station 0 (hears block ⇒ bytes 160 ∷ idle 4 ∷ ticks ⇒ bytes 39 ∷ hears (blame_set 1 3) ⇒ bytes 19 ∷ idle 2 ∷ ticks ⇒ bytes 62 ∷ hears (propose 2 1 78 0 3 2) ⇒ bytes 160 ∷ idle 4
    ∷ ticks ⇒ refuses 7 ∷ holds (λ s. eqb s.clock 12 && same_list s.log (77 ∷ [])) ∷ ticks ⇒ refuses 3 ∷ hears_bytes [] ⇒ refuses 3 ∷ is_offered 5 ⇒ refuses 3 ∷ [])
    ∷ []

leading : List Bool
unfolding station
leading =
    -- the own bit is set: no blame. Another's blame is there: the own one fills the set
    station 2 (hears (blame 1 2) ⇒ bytes 0 ∷ idle 20 ∷ [])
    ∷ station 2 (hears (blame 1 0) ⇒ bytes 0 ∷ idle 13 ∷ ticks ⇒ says (to_all (blame 1 2) ∷ to_all (blame_set 1 5) ∷ []) ∷ idle 2 ∷ holds (λ s. eqb s.view 1) ∷ idle 1 ∷ holds (λ s. eqb s.view 2 && eqb s.entry 17) ∷ [])
    -- the own new-view is stored already: nothing. Another one of the view is: that pair, and quit
    ∷ station 1 (hears (new_view 1 0 0 0 0 1) ⇒ bytes 132 ∷ idle 5 ∷ [])
    ∷ station 2 (hears (blame_set 1 3) ⇒ bytes 19 ∷ idle 3 ∷ hears (new_view 2 0 0 0 0 2) ⇒ bytes 132 ∷ hears (status 3 79 1 3) ⇒ bytes 0 ∷ idle 4
    ∷ ticks ⇒ says (to_all (new_view 2 0 0 0 0 2) ∷ to_all (new_view 2 3 79 1 3 2) ∷ []) ∷ [])
    -- so it is where an offer was taken above that one: its own new-view conflicts with its own propose
    ∷ station 2 (hears (blame_set 1 3) ⇒ bytes 19 ∷ idle 3 ∷ hears (new_view 2 0 0 0 0 2) ⇒ bytes 132 ∷ hears (vote 2 0 0 0) ⇒ bytes 0 ∷ hears (status 3 79 1 3) ⇒ bytes 0 ∷ idle 2
    ∷ is_offered 77 ⇒ bytes 160 ∷ idle 2 ∷ ticks ⇒ says (to_all (new_view 2 0 0 0 0 2) ∷ to_all (new_view 2 3 79 1 3 2) ∷ []) ∷ [])
    -- the highest certificate: of an earlier view, a quorum, of two alike the smaller name
    ∷ station 2 (hears (status 3 79 1 3) ⇒ bytes 0 ∷ hears (status 3 50 1 5) ⇒ bytes 0 ∷ hears (status 3 60 1 6) ⇒ bytes 0 ∷ hears (status 9 99 2 3) ⇒ bytes 0 ∷ hears (vote 1 8 88 0) ⇒ bytes 0
    ∷ hears (blame_set 1 3) ⇒ bytes 19 ∷ idle 7 ∷ ticks ⇒ says (to_all (new_view 2 3 50 1 5 2) ∷ to_all (vote 2 3 50 2) ∷ []) ∷ [])
    ∷ []

entries : List Bool
unfolding station group goes fresh entering
entries =
    -- the pair of least places; the station waits again
    station 0 (hears (propose 2 3 80 77 3 2) ⇒ bytes 0 ∷ hears (propose 2 1 77 0 3 2) ⇒ bytes 0 ∷ hears (propose 2 1 78 0 3 2) ⇒ bytes 0 ∷ hears (propose 2 1 79 0 3 2) ⇒ bytes 0
    ∷ hears (blame_set 1 3) ⇒ bytes 19 ∷ idle 2
    ∷ ticks ⇒ says (to_one 2 (status 0 0 0 0) ∷ to_all (propose 2 1 77 0 3 2) ∷ to_all (propose 2 1 78 0 3 2) ∷ [])
    ∷ idle 2 ∷ holds (λ s. eqb s.view 2) ∷ idle 1 ∷ holds (λ s. eqb s.view 3) ∷ [])
    -- a child with the wrong parent is found at entry, above a propose and above a new-view
    ∷ station 0 (hears (propose 2 2 80 77 3 2) ⇒ bytes 0 ∷ hears (propose 2 1 77 0 3 2) ⇒ bytes 0 ∷ hears (propose 2 1 78 0 3 2) ⇒ bytes 0 ∷ hears (blame_set 1 3) ⇒ bytes 19 ∷ idle 2
    ∷ ticks ⇒ says (to_one 2 (status 0 0 0 0) ∷ to_all (propose 2 2 80 77 3 2) ∷ to_all (propose 2 1 78 0 3 2) ∷ []) ∷ [])
    ∷ station 0 (hears (new_view 2 1 78 1 3 2) ⇒ bytes 0 ∷ hears (propose 2 2 80 77 3 2) ⇒ bytes 0 ∷ hears (blame_set 1 3) ⇒ bytes 19 ∷ idle 2
    ∷ ticks ⇒ says (to_one 2 (status 1 78 1 3) ∷ to_all (new_view 2 1 78 1 3 2) ∷ to_all (propose 2 2 80 77 3 2) ∷ []) ∷ [])
    -- a full blame mask; with a pair besides, the set only; the leader of view 3 reports to nobody
    ∷ station 0 (hears (propose 2 1 77 0 3 2) ⇒ bytes 0 ∷ hears (propose 2 1 78 0 3 2) ⇒ bytes 0 ∷ hears (blame_set 2 6) ⇒ bytes 0 ∷ hears (blame_set 1 3) ⇒ bytes 19 ∷ idle 2
    ∷ ticks ⇒ says (to_one 2 (status 0 0 0 0) ∷ to_all (blame_set 2 6) ∷ []) ∷ idle 3 ∷ holds (λ s. eqb s.view 3) ∷ [])
    -- votes: the new-view first, then by height; a new-view below the lock is passed by
    ∷ station 0 (hears (propose 2 2 78 77 3 2) ⇒ bytes 0 ∷ hears (propose 2 1 77 0 3 2) ⇒ bytes 0 ∷ hears (new_view 2 0 0 0 0 2) ⇒ bytes 0 ∷ hears (blame_set 1 3) ⇒ bytes 19 ∷ idle 2
    ∷ ticks ⇒ says (to_one 2 (status 0 0 0 0) ∷ to_all (new_view 2 0 0 0 0 2) ∷ to_all (vote 2 0 0 0) ∷ to_all (propose 2 1 77 0 3 2) ∷ to_all (vote 2 1 77 0)
    ∷ to_all (propose 2 2 78 77 3 2) ∷ to_all (vote 2 2 78 0) ∷ []) ∷ [])
    ∷ station 0 (hears (propose 2 3 78 77 3 2) ⇒ bytes 0 ∷ hears (new_view 2 0 0 0 0 2) ⇒ bytes 0 ∷ hears (status 3 79 1 3) ⇒ bytes 0 ∷ hears (blame_set 1 3) ⇒ bytes 19 ∷ idle 2
    ∷ ticks ⇒ says (to_one 2 (status 3 79 1 3) ∷ to_all (propose 2 3 78 77 3 2) ∷ to_all (vote 2 3 78 0) ∷ []) ∷ [])
    -- the last view, and a station that leads neither it nor the one before
    ∷ goes (entering (last_view_small - 1) genesis (fresh (group ((last_view_small + 1) % 3)))) (hears (blame_set (last_view_small - 1) 3) ⇒ bytes 19 ∷ idle 2 ∷ ticks ⇒ says (to_one (last_view_small % 3) (status 0 0 0 0) ∷ []) ∷ hears (blame_set last_view_small 3) ⇒ bytes 19 ∷ idle 20
    ∷ holds (λ s. eqb s.view last_view_small) ∷ [])
    ∷ []

-- ---- refusals

-- tallies of k names; a chain of k blocks of view 2, the highest first, for a station in view 1
tallied : ℕ → List Tally
tallied zero = []
tallied (suc k) = record { view = 1; height = 1; name = suc k; mask = 1; opener = none; reached = none } ∷ tallied k

many : ℕ → List Line
many zero = []
many (suc k) = hears (propose 2 (suc k) (suc k) k 3 2) ⇒ bytes 0 ∷ many k

refusals : List Bool
unfolding goes fresh group entering with_clock with_tables with_phase tallied many result step tick write block
refusals =
    -- "the 129th new statement: 6. A repeat of the first at 128: 0"
    goes (fresh (group 0)) (many most_statements_small ++ hears (propose 2 most_statements_small most_statements_small (most_statements_small - 1) 3 2) ⇒ bytes 0
    ∷ holds (λ s. eqb (length s.statements) most_statements_small && eqb (length s.tallies) (suc most_statements_small))
    ∷ hears (propose 2 (suc most_statements_small) (suc most_statements_small) most_statements_small 3 2) ⇒ refuses 6 ∷ hears (propose 2 (suc most_statements_small) (suc most_statements_small) most_statements_small 3 2) ⇒ refuses 3 ∷ [])
    -- with the large limits: the last view and one more
    ∷ goes (entering (last_view_large - 1) genesis (fresh (record { n = 3; D = 2; own = 0; size = large }))) (hears (vote (suc last_view_large) 1 77 0) ⇒ refuses 5 ∷ hears (vote last_view_large 1 77 0) ⇒ bytes 0 ∷ [])
    -- the last free tally, and none
    ∷ goes (with_tables [] (tallied (most_tallies small - 1)) (fresh (group 0))) (hears (vote 1 2 9 0) ⇒ bytes 0 ∷ hears (vote 1 2 9 1) ⇒ bytes 0 ∷ hears (vote 1 3 8 0) ⇒ refuses 6 ∷ ticks ⇒ refuses 3 ∷ [])
    -- a statement that would make the station quit needs its records all the same
    ∷ goes (with_tables [] (tallied (most_tallies small - 2)) (fresh (group 2))) (hears (new_view 1 0 0 0 0 1) ⇒ bytes 132 ∷ hears (propose 1 1 777 0 3 1) ⇒ bytes 160 ∷ hears (propose 1 1 778 0 3 1) ⇒ refuses 6 ∷ [])
    -- the clock's end
    ∷ goes (with_clock (last_clock - 1) (fresh (group 2))) (ticks ⇒ bytes 18 ∷ ticks ⇒ refuses 8 ∷ holds (λ s. eqb s.clock last_clock) ∷ ticks ⇒ refuses 3 ∷ [])
    -- the host's number
    ∷ eqb (result (step [] (fresh (group 0)))) (4 * 4294967296) ∷ eqb (result (step (write block) (fresh (group 0)))) 160
    ∷ []

-- ---- too far ahead

-- one of each kind that has a field 02, of a view that station 0 leads
bearing : ℕ → List Message
bearing v = new_view v 0 0 0 0 0 ∷ propose v 1 77 0 3 0 ∷ vote v 1 77 1 ∷ blame v 1 ∷ blame_set v 3 ∷ []

-- each is answered so, one after the other
each : List Message → Expected → List Line
each [] e = []
each (m ∷ ms) e = hears m ⇒ e ∷ each ms e

untouched : State → Bool
untouched s = eqb (length s.statements) 0 && eqb (length s.tallies) 0 && eqb (get_or s.blames 3 0) 0

early : List Bool
unfolding goes fresh group entering station with_tables with_phase tallied bearing each untouched
early =
    -- two views ahead: every kind that has a view, and nothing changes; three ahead; the last view
    goes (fresh (group 0)) (each (bearing 3) (refuses 11) ++ holds (λ s. untouched s && eqb s.view 1) ∷ hears (blame 4 1) ⇒ refuses 11 ∷ hears (blame last_view_small 1) ⇒ refuses 11 ∷ [])
    -- one view ahead: every kind is taken
    ∷ goes (entering 2 genesis (fresh (group 0))) (each (bearing 3) (bytes 0) ++ holds (λ s. eqb (length s.statements) 2 && eqb (get_or s.blames 3 0) 3) ∷ [])
    -- a status has no view, whatever that of its certificate
    ∷ station 0 (hears (status 5 99 last_view_small 3) ⇒ bytes 0 ∷ holds (λ s. eqb (length s.tallies) 1) ∷ [])
    -- while it waits, the view last quit counts, until the next one is entered
    ∷ station 0 (hears (blame_set 1 3) ⇒ bytes 19 ∷ hears (blame 3 1) ⇒ refuses 11 ∷ hears (blame 2 1) ⇒ bytes 0 ∷ idle 2 ∷ hears (blame 3 1) ⇒ refuses 11
    ∷ ticks ⇒ bytes 62 ∷ hears (blame 3 1) ⇒ bytes 0 ∷ hears (blame 4 1) ⇒ refuses 11 ∷ [])
    -- after 3, 4 and 5
    ∷ goes (with_phase (stopped full) (fresh (group 0))) (hears (blame 3 1) ⇒ refuses 3 ∷ [])
    ∷ station 0 (hears_bytes (unbe 15 0x01000107020004000000030800010E) ⇒ refuses 4 ∷ hears (blame 3 3) ⇒ refuses 5 ∷ hears (blame (suc last_view_small) 1) ⇒ refuses 5 ∷ hears (propose 3 1 77 0 1 0) ⇒ refuses 5 ∷ [])
    -- and before 6: the station goes on
    ∷ goes (with_tables [] (tallied (most_tallies small)) (fresh (group 0))) (hears (vote 3 2 9 0) ⇒ refuses 11 ∷ hears (vote 2 2 9 0) ⇒ refuses 6 ∷ [])
    ∷ []

-- ---- one rude neighbour

-- votes of an author in view 1 for k names, from the last one down
rude : ℕ → ℕ → List Line
rude a zero = []
rude a (suc k) = hears (vote 1 1 (suc k) a) ⇒ bytes 0 ∷ rude a k

-- the author a opened k tallies
has : ℕ → ℕ → Line
has a k = holds (λ s. eqb (opened_by a s.tallies) k)

authors : List Bool
unfolding goes fresh group station with_tables tallied rude has opened_by
authors =
    -- the sixteenth is taken, the seventeenth is not, and nothing changes; others and tallies that are there are open to its author
    station 0 (rude 1 most_opened ++ has 1 most_opened ∷ hears (vote 1 1 99 1) ⇒ refuses 12 ∷ hears (vote 2 1 99 1) ⇒ refuses 12 ∷ has 1 most_opened
    ∷ holds (λ s. eqb (length s.tallies) most_opened) ∷ hears (vote 1 1 1 1) ⇒ bytes 0 ∷ hears (vote 1 1 99 2) ⇒ bytes 0 ∷ hears (vote 1 1 99 1) ⇒ bytes 0 ∷ has 1 most_opened ∷ has 2 1 ∷ [])
    -- who joins a tally doesn't open it, and a statement and a status open for nobody; the own number counts like any other
    ∷ station 0 (hears (status 5 99 1 2) ⇒ refuses 5 ∷ hears (status 5 99 1 6) ⇒ bytes 0 ∷ hears (vote 1 5 99 1) ⇒ bytes 0 ∷ has 1 0 ∷ has 2 0 ∷ hears (propose 2 1 77 0 3 2) ⇒ bytes 0
    ∷ has 0 0 ∷ has 2 0 ∷ hears (vote 2 1 77 1) ⇒ bytes 0 ∷ has 1 0 ∷ hears (vote 1 3 98 0) ⇒ bytes 0 ∷ has 0 1 ∷ [])
    -- after 5 and 11
    ∷ station 0 (rude 1 most_opened ++ hears (vote 1 0 99 1) ⇒ refuses 5 ∷ hears (vote 3 1 99 1) ⇒ refuses 11 ∷ hears (vote 2 1 99 1) ⇒ refuses 12 ∷ [])
    -- and before 6: the station goes on
    ∷ goes (with_tables [] (tallied (most_tallies small - most_opened)) (fresh (group 0))) (rudely most_opened ++ hears (vote 1 3 99 1) ⇒ refuses 12 ∷ hears (vote 1 3 99 2) ⇒ refuses 6 ∷ [])
    ∷ []
  where
    -- votes of author 1 for k names at height 2
    rudely : ℕ → List Line
    rudely zero = []
    rudely (suc k) = hears (vote 1 2 (suc k) 1) ⇒ bytes 0 ∷ rudely k

-- ---- when was it certified?

-- a tally's clock, as a host is told: 0, or one more than it
told : Option ℕ → ℕ
told none = 0
told (some c) = suc c

kept : ℕ → ℕ → ℕ → ℕ → Line
unfolding reached_of told
kept v h b k = holds (λ s. eqb (told (reached_of (record { view = v; height = h; name = b; mask = 0 }) s.tallies)) k)

reached : List Bool
unfolding station block child kept
reached =
    -- at the second voter, and not before; a later vote, statement or status doesn't move it
    station 0 (hears (vote 1 1 77 1) ⇒ bytes 0 ∷ idle 1 ∷ hears (vote 1 1 77 1) ⇒ bytes 0 ∷ kept 1 1 77 0 ∷ idle 2 ∷ hears (vote 1 1 77 2) ⇒ bytes 0 ∷ kept 1 1 77 4
    ∷ idle 1 ∷ hears (vote 1 1 77 0) ⇒ bytes 0 ∷ kept 1 1 77 4 ∷ hears child ⇒ bytes 160 ∷ kept 1 1 77 4 ∷ hears (status 1 77 1 7) ⇒ bytes 0 ∷ kept 1 1 77 4 ∷ [])
    -- a tally opened with a quorum, by a statement's certificate or by a status, has it at once; its own block's has none yet
    ∷ station 2 (idle 3 ∷ hears child ⇒ bytes 160 ∷ kept 1 1 77 4 ∷ kept 1 2 79 0 ∷ idle 1 ∷ hears (vote 1 2 79 0) ⇒ bytes 0 ∷ kept 1 2 79 5 ∷ [])
    ∷ station 0 (hears (status 5 99 1 6) ⇒ bytes 0 ∷ kept 1 5 99 1 ∷ kept 1 4 99 0 ∷ kept 2 5 99 0 ∷ kept 1 5 98 0 ∷ [])
    -- a statement that comes again joins its certificate
    ∷ station 0 (hears (new_view 2 1 77 1 3 2) ⇒ bytes 0 ∷ kept 1 1 77 1 ∷ kept 2 1 77 0 ∷ idle 2 ∷ hears (new_view 2 1 77 1 6 2) ⇒ bytes 0 ∷ kept 1 1 77 1 ∷ [])
    -- the own vote counts, and genesis in view 0 has no tally
    ∷ station 2 (hears (vote 1 1 77 0) ⇒ bytes 0 ∷ idle 1 ∷ hears block ⇒ bytes 160 ∷ kept 1 1 77 2 ∷ hears (status 0 0 0 0) ⇒ bytes 0 ∷ kept 0 0 0 0 ∷ [])
    -- what a tick joins has the new clock: the own vote at the entry of view 2, at clock 3
    ∷ station 0 (hears (propose 2 1 77 0 3 2) ⇒ bytes 0 ∷ hears (vote 2 1 77 1) ⇒ bytes 0 ∷ hears (blame_set 1 3) ⇒ bytes 19 ∷ idle 2 ∷ kept 2 1 77 0 ∷ ticks ⇒ bytes 222 ∷ kept 2 1 77 4 ∷ [])
    -- and the own new-view of a leader, at clock 5
    ∷ station 1 (hears (vote 1 0 0 0) ⇒ bytes 0 ∷ idle 4 ∷ kept 1 0 0 0 ∷ ticks ⇒ bytes 132 ∷ kept 1 0 0 6 ∷ [])
    ∷ []

-- ---- well formed

-- a state of station 2 in view 2: a logged block of view 1, and a new-view above it
said : Bool → ℕ → ℕ → ℕ → ℕ → ℕ → Option ℕ → Statement
said k v h b l a c = record { is_new_view = k; view = v; height = h; name = b; link = l; mask = 3; author = a; voted = c }

-- a tally that somebody opened at clock 4 with this mask
since : Option ℕ → ℕ → ℕ → ℕ → ℕ → Tally
unfolding group reached_at
since k v h b m = opened (record { settings = group 2; clock = 4; opener = k }) (record { view = v; height = h; name = b; mask = m })

tally : ℕ → ℕ → ℕ → ℕ → Tally
unfolding since
tally v h b m = since none v h b m

lower : Statement
lower = said false 1 1 77 0 1 (some 4)

upper : Statement
upper = said true 2 1 77 1 2 none

counted : List Tally
unfolding tally
counted = tally 1 0 0 3 ∷ tally 1 1 77 3 ∷ tally 2 1 77 0 ∷ []

held : Settings → Phase → ℕ → Tally → List Statement → List Tally → List ℕ → List ℕ → State
held g p v t xs ts ms l =
    record { settings = g; phase = p; view = v; entry = 3; clock = 9; lock = certificate_of t; statements = xs; tallies = ts; blames = ms; log = l }

tables : List Statement → List Tally → List ℕ → Bool
unfolding well_formed held group tally
tables xs ts l = well_formed (held (group 2) in_view 2 (tally 1 1 77 3) xs ts (replicate (suc last_view_small) 0) l)

-- a chain of k blocks of view 1, the highest first, and the tallies of k blocks and genesis
chained : ℕ → List Statement
unfolding said
chained zero = []
chained (suc k) = said false 1 (suc k) (suc k) k 1 none ∷ chained k

chain_tallies : ℕ → List Tally
unfolding tally
chain_tallies zero = tally 1 0 0 3 ∷ []
chain_tallies (suc k) = tally 1 (suc k) (suc k) 1 ∷ chain_tallies k

formed : List Bool
unfolding well_formed held group since tally said lower upper counted tables with_clock tallied chained chain_tallies
formed =
    well_formed (fresh (group 0)) ∷ tables (lower ∷ upper ∷ []) counted (77 ∷ [])
    -- (1), (2), (3)
    ∷ not (well_formed (held (record { n = 4; D = 2; own = 2; size = small }) in_view 2 (tally 1 1 77 3) [] [] (replicate (suc last_view_small) 0) []))
    ∷ header in_view last_view_small ∷ not (header in_view (suc last_view_small)) ∷ not (header in_view 0)
    ∷ header (waiting 3) 2 ∷ header (waiting 9) 2 ∷ not (header (waiting 2) 2) ∷ not (header (waiting 10) 2) ∷ header (stopped full) 2
    ∷ well_formed (with_clock last_clock rich) ∷ not (well_formed (with_clock (last_clock + 1) rich)) ∷ not (well_formed (with_clock 2 rich))
    -- (4)
    ∷ locked (tally 0 0 0 0) ∷ locked (tally 1 0 0 3) ∷ not (locked (tally 2 1 77 3)) ∷ not (locked (tally 1 1 77 1)) ∷ not (locked (tally 1 1 0 3)) ∷ not (locked (tally 0 1 77 0))
    ∷ not (locked (tally 1 1 (2 ^ 256) 3))
    -- (5)
    ∷ tables [] (tallied (most_tallies small)) [] ∷ not (tables [] (tallied (suc (most_tallies small))) [])
    ∷ tables (chained (most_statements small)) (chain_tallies (most_statements small)) [] ∷ not (tables (chained (suc (most_statements small))) (chain_tallies (suc (most_statements small))) [])
    -- (6), (7)
    ∷ not (tables (said false 1 1 77 0 2 none ∷ []) counted []) ∷ tables (said false 1 1 77 0 1 (some 9) ∷ []) counted [] ∷ not (tables (said false 1 1 77 0 1 (some 10) ∷ []) counted [])
    ∷ not (tables (said false 1 1 (2 ^ 256) 0 1 none ∷ []) (tally 1 1 (2 ^ 256) 0 ∷ counted) []) ∷ not (tables (lower ∷ lower ∷ []) counted [])
    ∷ not (tables (said false 1 2 79 (2 ^ 256) 1 none ∷ []) (tally 1 2 79 0 ∷ tally 1 1 (2 ^ 256) 0 ∷ []) [])
    -- (8)
    ∷ not (tables [] (tally 0 1 77 3 ∷ []) []) ∷ not (tables [] (tally (suc last_view_small) 1 77 3 ∷ []) []) ∷ not (tables [] (tally 1 0 77 3 ∷ []) []) ∷ not (tables [] (tally 1 1 77 8 ∷ []) [])
    ∷ not (tables [] (tally 1 1 (2 ^ 256) 3 ∷ []) []) ∷ not (tables [] (tally 1 1 77 3 ∷ tally 1 1 77 0 ∷ []) [])
    ∷ tables [] (by 1 77 2 ∷ []) [] ∷ not (tables [] (by 1 77 1 ∷ []) []) ∷ not (tables [] (by 3 77 7 ∷ []) [])
    ∷ tables [] (clocked 3 (some 9) ∷ []) [] ∷ not (tables [] (clocked 3 (some 10) ∷ []) []) ∷ not (tables [] (clocked 3 none ∷ []) []) ∷ not (tables [] (clocked 1 (some 4) ∷ []) [])
    -- (9)
    ∷ not (tables (upper ∷ []) (tally 1 1 77 3 ∷ []) []) ∷ not (tables (upper ∷ []) (tally 2 1 77 3 ∷ []) []) ∷ tables (record { is_new_view = true; view = 2; height = 0; name = 0; link = 0; mask = 0; author = 2; voted = none } ∷ []) (tally 2 0 0 0 ∷ []) []
    -- (10)
    ∷ blamed (0 ∷ 7 ∷ replicate (last_view_small - 1) 0) ∷ not (blamed (0 ∷ 8 ∷ replicate (last_view_small - 1) 0)) ∷ not (blamed (1 ∷ replicate last_view_small 0)) ∷ not (blamed (replicate last_view_small 0)) ∷ not (blamed (replicate (last_view_small + 2) 0)) ∷ not (blamed [])
    -- (11)
    ∷ not (tables (lower ∷ []) counted (78 ∷ [])) ∷ not (tables (lower ∷ []) counted (77 ∷ 77 ∷ [])) ∷ not (tables (upper ∷ []) counted (77 ∷ []))
    ∷ above 77 ∷ not (above 70)
    -- (12)
    ∷ tables [] (opening most_opened) [] ∷ not (tables [] (opening (suc most_opened)) [])
    ∷ []
  where
    rich : State
    rich = held (group 2) in_view 2 (tally 1 1 77 3) [] [] (replicate (suc last_view_small) 0) []

    header : Phase → ℕ → Bool
    header p v = well_formed (held (group 2) p v (tally 0 0 0 0) [] [] (replicate (suc last_view_small) 0) [])

    locked : Tally → Bool
    locked t = well_formed (held (group 2) in_view 2 t [] [] (replicate (suc last_view_small) 0) [])

    blamed : List ℕ → Bool
    blamed ms = well_formed (held (group 2) in_view 2 (tally 1 1 77 3) [] [] ms [])

    -- a tally of view 1 and height 1 that an author opened, and k of them by station 1
    by : ℕ → ℕ → ℕ → Tally
    by a b m = since (some a) 1 1 b m

    -- one with this mask and this clock
    clocked : ℕ → Option ℕ → Tally
    clocked m c = record { view = 1; height = 1; name = 77; mask = m; opener = none; reached = c }

    opening : ℕ → List Tally
    opening zero = []
    opening (suc k) = by 1 (suc k) 2 ∷ opening k

    -- a second block logged above the first, with this parent
    above : ℕ → Bool
    above p = tables (lower ∷ said false 1 2 79 p 1 none ∷ []) (tally 1 2 79 0 ∷ tally 1 1 70 0 ∷ counted) (77 ∷ 79 ∷ [])

unfoldable pub corners : List Bool
unfolding sizes wire unreadable judged conflicts stated offers commits leading entries refusals early authors reached formed
corners = sizes ++ wire ++ unreadable ++ judged ++ conflicts ++ stated ++ offers ++ commits ++ leading ++ entries ++ refusals ++ early ++ authors ++ reached ++ formed
