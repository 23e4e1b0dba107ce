-- Whether a rule leaves room: a repeat, a vote and a blame add no record. Assumes nothing.
use Prim.Native.Nat.{ℕ, suc, ◌≤◌}
use mathlib.Core.Path.{◌≡◌, refl, sym, ap, ◌∙◌}
use mathlib.Core.Bool.{Bool, true, ◌&&◌}
use mathlib.Core.List.{List, [], ◌∷◌}
use mathlib.Core.Option.{none}
use native.Mathlib.Omega.{arith}
use lib.ListN.{length}
use borrow.Author.Tests.{le-leb}
use Rattle.rules.specs.Limits.{most_statements, most_tallies}
use Rattle.rules.specs.Lists.{any, alter}
use Rattle.rules.specs.Sizes.{only}
use Rattle.rules.specs.Words.{Statement, same_statement, own_block, of_block, State, moment}
use Rattle.rules.specs.Inputs.{saying, with_phase, with_tables, with_blames, is_in, quit, below_lock, noted, voted_for, voting, certificate_joined, statement, blamed, blame_full, blaming}
use Rattle.rules.specs.Refusals.{has_room}
use Rattle.laws.proofs.Tests.{by_bool}
use Rattle.kept.specs.Parts.{WellFormed}
use Rattle.storing.proofs.Rooms.{there_length, own_any, repeat_length}

pub room_made : (s : State) → length s.statements ≤ most_statements s.settings.size → length s.tallies ≤ most_tallies s.settings.size → has_room s ≡ true
unfolding has_room
room_made s a b = rw (le-leb _ _ a, le-leb _ _ b)

-- room goes by the tables' lengths alone
room_same : (s t : State) → s.settings ≡ t.settings → length s.statements ≡ length t.statements → length s.tallies ≡ length t.tallies → has_room s ≡ has_room t
unfolding has_room
room_same s t g p q = rw (g, p, q)

pub repeat_room : {s : State} → WellFormed s → (x : Statement) → any (same_statement x) s.statements ≡ true → true ≡ has_room (statement x s).now
unfolding statement saying certificate_joined with_tables
repeat_room {s} w x e =
    let k = repeat_length w.formed x e in
    rw (e, statement)
    (sym (room_made (certificate_joined x s) w.few_statements (omega (arith, w.few_tallies))))

alter_length : {A : Type 0} (p : A → Bool) (f : A → A) (xs : List A) → length (alter p f xs) ≡ length xs
unfolding alter
alter_length p f [] = refl
alter_length p f (x ∷ xs) = by_bool (p x) (λ q. rw (q, alter)) (λ q. rw (q, alter) (ap suc (alter_length p f xs)))

-- a vote joins a tally that is there
pub voting_room : (x : Statement) (s : State) → any (of_block (own_block x 0)) s.tallies ≡ true → has_room (voting x s).now ≡ has_room s
unfolding voting saying voted_for with_tables
voting_room x s h =
    let m = only s.settings.own in
    by_bool (below_lock x s) (λ q. rw (q, voting))
    (λ q.
    rw (q, voting)
    (room_same (voted_for x s) s refl (alter_length (same_statement x) (noted s.clock) s.statements) (there_length (moment none s) (own_block x m) s.tallies (own_any x m s.tallies ∙ h))))

-- a blame mask is always there
pub blaming_room : (v m : ℕ) (s : State) → has_room (blaming v m s).now ≡ has_room s
unfolding blaming blamed with_blames quit saying with_phase has_room
blaming_room v m s = by_bool (is_in v (blamed v m s) && blame_full v (blamed v m s)) (λ q. rw (q, blaming)) (λ q. rw (q, blaming))
