-- Forget the clocks, and every call answers and says the same, and leaves the same but for them; so along any run, and the logs are the
-- same. Assumes nothing.
use mathlib.Core.Path.{◌≡◌, refl, sym, ap, ◌∙◌}
use Prim.Native.Nat.{ℕ, zero, suc}
use mathlib.Core.List.{List, [], ◌∷◌}
use lib.Dec.{eqb}
use lib.ListN.{length-map}
use Rattle.rules.specs.Limits.{last_clock}
use Rattle.rules.specs.Messages.{Message, new_view, propose, vote, blame, blame_set, status, read, write, allowed, Effect}
use Rattle.rules.specs.Words.{Statement, Cause, full, split, clock, stopped, State}
use Rattle.rules.specs.Inputs.{Work, is_in, with_phase, with_tables, handled, offered, ticked}
use Rattle.rules.specs.Refusals.{done, refused, stopping, has_room, if_room, running, ahead, used_up, heard, step, offer, tick}
use Rattle.rules.specs.Display.{is_shown, due_clock, shown, showing, showing_all, display}
use Rattle.rules.specs.Script.{Input, ticks, hears, hears_bytes, is_offered, answer}
use Rattle.laws.proofs.Tests.{by_bool, by_option}
use Rattle.clocks.specs.Forget.{clockless, forget, forgotten, Alike}
use Rattle.clocks.specs.Runs.{after, answered}
use Rattle.clocks.proofs.Tables.{any_forgets, opened_forgets}
use Rattle.clocks.proofs.Blind.{forget_twice, Likewise, handled_blind}
use Rattle.clocks.proofs.Ticks.{offered_forgets, ticked_none_forgets, ticked_forgets}

same_outcome : (n : ℕ) (s t : State) (o p : List Effect) → Alike s t → o ≡ p
    → forgotten (record { number = n; next = s; out = o }) ≡ forgotten (record { number = n; next = t; out = p })
unfolding forgotten
same_outcome n s t o p e f = rw (e, f)

refused_forgets : (k : ℕ) (s : State) → forgotten (refused k (forget s)) ≡ forgotten (refused k s)
unfolding refused
refused_forgets k s = same_outcome k (forget s) s [] [] (forget_twice s) refl

stopping_forgets : (k : ℕ) (c : Cause) (s : State) → forgotten (stopping k c (forget s)) ≡ forgotten (stopping k c s)
unfolding stopping refused with_phase forget with_tables
stopping_forgets k c s = same_outcome k (with_phase (stopped c) (forget s)) (with_phase (stopped c) s) [] [] (ap (with_phase (stopped c)) (forget_twice s)) refl

-- the tables are as long
room_forgets : (s : State) → has_room (forget s) ≡ has_room s
unfolding has_room forget with_tables
room_forgets s = rw (length-map s.tallies clockless)

if_room_forgets : (s : State) (v w : Work) → Likewise v w → forgotten (if_room (forget s) v) ≡ forgotten (if_room s w)
unfolding if_room done
if_room_forgets s v w (a, o) =
    let e : has_room v.now ≡ has_room w.now = sym (room_forgets v.now) ∙ ap has_room a ∙ room_forgets w.now in
    by_bool (has_room w.now) (λ q. rw (if_room, e, q) (same_outcome 0 v.now w.now v.out w.out a o))
    (λ q. rw (if_room, e, q) (stopping_forgets 6 full s))

used_forgets : (m : Message) (s : State) → used_up m (forget s) ≡ used_up m s
unfolding used_up forget with_tables
used_forgets (new_view v h b c m a) s = refl
used_forgets (propose v h b p m a) s = refl
used_forgets (vote v h b a) s = rw (any_forgets (record { view = v; height = h; name = b; mask = 0 }) s.tallies, opened_forgets a s.tallies)
used_forgets (blame v a) s = refl
used_forgets (blame_set v m) s = refl
used_forgets (status h b c m) s = refl

handled_forgets : (m : Message) (s : State) → forgotten (if_room (forget s) (handled m (forget s))) ≡ forgotten (if_room s (handled m s))
handled_forgets m s = if_room_forgets s (handled m (forget s)) (handled m s) (handled_blind m s)

heard_forgets : (m : Message) (s : State) → forgotten (heard m (forget s)) ≡ forgotten (heard m s)
unfolding heard
heard_forgets m s =
    by_bool (used_up m s) (λ u. rw (heard, used_forgets m s, u) (refused_forgets 12 s)) (λ u. rw (heard, used_forgets m s, u) (handled_forgets m s))

-- ---- the calls

pub step_forgets : (bs : List ℕ) (s : State) → forgotten (step bs (forget s)) ≡ forgotten (step bs s)
unfolding step running ahead forget with_tables
step_forgets bs s =
    by_bool (running s)
    (λ r.
    by_option (read bs) (λ q. rw (r, q, step) (refused_forgets 4 s)) λ m q.
    by_bool (allowed s.settings m)
    (λ a. by_bool (ahead m s) (λ w. rw (r, q, a, w, step) (refused_forgets 11 s)) (λ w. rw (r, q, a, w, step) (heard_forgets m s)))
    (λ a. rw (r, q, a, step) (refused_forgets 5 s)))
    (λ r. rw (r, step) (refused_forgets 3 s))

pub offer_forgets : (b : ℕ) (s : State) → forgotten (offer b (forget s)) ≡ forgotten (offer b s)
unfolding offer running forget with_tables
offer_forgets b s =
    by_bool (running s)
    (λ r.
    by_option (offered b s) (λ q. rw (r, offer, offered_forgets b s, q) (refused_forgets 9 s))
    (λ m q. rw (r, offer, offered_forgets b s, q) (handled_forgets m s)))
    (λ r. rw (r, offer) (refused_forgets 3 s))

pub tick_forgets : (s : State) → forgotten (tick (forget s)) ≡ forgotten (tick s)
unfolding tick running forget with_tables
tick_forgets s =
    by_bool (running s)
    (λ r.
    by_bool (eqb s.clock last_clock) (λ c. rw (r, c, tick) (stopping_forgets 8 clock s)) λ c.
    by_option (ticked s) (λ q. rw (r, c, tick, ticked_none_forgets s q, q) (stopping_forgets 7 split s))
    (λ w q. let (v, e, l) = ticked_forgets s w q in rw (r, c, tick, e, q) (if_room_forgets s v w l)))
    (λ r. rw (r, tick) (refused_forgets 3 s))

-- forgetting first or last, an input is answered the same
pub answer_forgets : (i : Input) (s : State) → forgotten (answer (forget s) i) ≡ forgotten (answer s i)
unfolding answer
answer_forgets ticks s = tick_forgets s
answer_forgets (hears m) s = step_forgets (write m) s
answer_forgets (hears_bytes bs) s = step_forgets bs s
answer_forgets (is_offered b) s = offer_forgets b s

pub answer_alike : (i : Input) (s t : State) → Alike s t → forgotten (answer s i) ≡ forgotten (answer t i)
answer_alike i s t e = sym (answer_forgets i s) ∙ ap (λ u. forgotten (answer u i)) e ∙ answer_forgets i t

-- ---- the wall display

showing_forgets : (s : State) (x : Statement) → showing (forget s) x ≡ showing s x
unfolding showing is_shown shown due_clock is_in forget with_tables
showing_forgets s x =
    by_option x.voted (λ q. rw (q, showing)) (λ c q. by_bool (is_shown s x) (λ i. rw (q, showing, i)) (λ i. rw (q, showing, i)))

all_forgets : (s : State) (xs : List Statement) → showing_all (forget s) xs ≡ showing_all s xs
unfolding showing_all
all_forgets s [] = refl
all_forgets s (x ∷ xs) = rw (showing_forgets s x, all_forgets s xs)

pub display_forgets : (s : State) → display (forget s) ≡ display s
unfolding display forget with_tables
display_forgets s = all_forgets s s.statements

-- ---- a run of inputs, from two stations that differ in the clocks alone

module _ (s t : State) (input : ℕ → Input) (e : Alike s t) where
  pub run_alike : (k : ℕ) → Alike (after s input k) (after t input k)
  unfolding after forgotten
  run_alike zero = e
  run_alike (suc k) = ap (λ o. o.next) (answer_alike (input k) (after s input k) (after t input k) (run_alike k))

  pub run_answers : (k : ℕ) → forgotten (answered s input k) ≡ forgotten (answered t input k)
  unfolding answered
  run_answers k = answer_alike (input k) (after s input k) (after t input k) (run_alike k)

  -- the number, what is said, and the log
  pub run_numbers : (k : ℕ) → (answered s input k).number ≡ (answered t input k).number
  unfolding forgotten
  run_numbers k = ap (λ o. o.number) (run_answers k)

  pub run_says : (k : ℕ) → (answered s input k).out ≡ (answered t input k).out
  unfolding forgotten
  run_says k = ap (λ o. o.out) (run_answers k)

  pub run_logs : (k : ℕ) → (after s input k).log ≡ (after t input k).log
  unfolding forget with_tables
  run_logs k = ap (λ u. u.log) (run_alike k)
