-- A tick and an offer look at no kept clock. Assumes nothing.
use mathlib.Core.Path.{◌≡◌, subst, refl, sym, ap, ◌∙◌}
use Prim.Native.Nat.{ℕ, ◌+◌}
use mathlib.Core.Bool.{not, ◌&&◌}
use mathlib.Core.List.{List, [], ◌∷◌}
use mathlib.Core.Option.{none, some, some-injective}
use lib.Dec.{eqb}
use Rattle.rules.specs.Sizes.{leader, only}
use Rattle.rules.specs.Messages.{Message, blame, blame_set, Effect, to_all}
use Rattle.rules.specs.Words.{Statement, message, own_block, State}
use Rattle.rules.specs.Inputs.{Work, saying, ◌▸◌, with_clock, with_tables, with_log, entering, is_in, voting, blames_of, blame_full, blaming, handled, leads, is_opened, is_used, top, extendable, above, offered, is_due}
use Rattle.rules.specs.Inputs.{due, commits, logging, votes, overdue, complain, leads_now, own_new_view, lead, enters_now, next_lock, report, entered, current, pair, in_order, voting_all, arrive, enter, ticked}
use Rattle.laws.proofs.Tests.{by_bool, by_option, no_some}
use Rattle.laws.proofs.Moves.{arrive_full, arrive_pair, arrive_clean}
use Rattle.clocks.specs.Forget.{forget, Alike}
use Rattle.clocks.proofs.Tables.{voters_forgets, highest_forgets}
use Rattle.clocks.proofs.Blind.{forget_twice, Likewise, Blind, blind_alike, then_blind, voting_blind, quit_blind, blaming_blind, handled_blind}

-- ---- offer

extendable_forgets : (x : Statement) (s : State) → extendable x (forget s) ≡ extendable x s
unfolding extendable forget with_tables
extendable_forgets x s = rw (voters_forgets (own_block x 0) s.tallies)

above_forgets : (x : Statement) (b : ℕ) (s : State) → above x b (forget s) ≡ above x b s
unfolding above forget with_tables
above_forgets x b s = rw (voters_forgets (own_block x 0) s.tallies)

pub offered_forgets : (b : ℕ) (s : State) → offered b (forget s) ≡ offered b s
unfolding offered forget with_tables leads is_opened is_used is_in
offered_forgets b s =
    by_bool (leads s && is_opened s && not (eqb b 0) && not (is_used b s))
    (λ q.
    by_option (top s.view s.statements) (λ t. rw (q, offered, t)) λ x t.
    by_bool (extendable x s) (λ e. rw (q, offered, t, extendable_forgets x s, e, above_forgets x b s)) (λ e. rw (q, offered, t, extendable_forgets x s, e)))
    (λ q. rw (q, offered))

-- ---- tick

saying_blind : (o : List Effect) → Blind (λ s. saying s o)
unfolding saying
saying_blind o s = (forget_twice s, refl)

complain_blind : Blind complain
unfolding complain overdue is_in blames_of votes forget with_tables
complain_blind s =
    by_bool (overdue s)
    (λ q.
    rw (q, complain)
    (then_blind (saying (forget s) (to_all (blame s.view s.settings.own) ∷ [])) (saying s (to_all (blame s.view s.settings.own) ∷ []))
    (blaming s.view (only s.settings.own))
    (saying_blind (to_all (blame s.view s.settings.own) ∷ []) s) (blaming_blind s.view (only s.settings.own))))
    (λ q. rw (q, complain) (saying_blind [] s))

view_forgets : (s : State) → own_new_view (forget s) ≡ own_new_view s
unfolding own_new_view forget with_tables
view_forgets s = rw (highest_forgets s.settings s.view s.tallies)

lead_blind : Blind lead
unfolding lead leads_now leads is_in forget with_tables
lead_blind s =
    let m = own_new_view s in
    by_bool (leads_now s)
    (λ q. rw (q, lead) (subst (λ (x : Message). Likewise (handled x (forget s)) (handled m s)) (sym (view_forgets s)) (handled_blind m s)))
    (λ q. rw (q, lead) (saying_blind [] s))

lock_forgets : (s : State) → next_lock (forget s) ≡ next_lock s
unfolding next_lock forget with_tables
lock_forgets s = highest_forgets s.settings (s.view + 1) s.tallies

report_forgets : (s : State) → report (forget s) ≡ report s
unfolding report forget with_tables
report_forgets s =
    by_bool (eqb (leader s.settings (s.view + 1)) s.settings.own) (λ q. rw (q, report)) (λ q. rw (q, report, lock_forgets s))

entered_blind : Blind entered
unfolding entered entering saying forget with_tables
entered_blind s =
    (ap (λ t. entering (s.view + 1) t (forget (forget s))) (lock_forgets s) ∙ ap (entering (s.view + 1) (next_lock s)) (forget_twice s), report_forgets s)

voting_all_blind : (xs : List Statement) → Blind (voting_all xs)
unfolding voting_all
voting_all_blind [] s = saying_blind [] s
voting_all_blind (x ∷ xs) s = then_blind (voting x (forget s)) (voting x s) (voting_all xs) (voting_blind x s) (voting_all_blind xs)

arrive_blind : Blind arrive
unfolding forget with_tables blame_full blames_of current
arrive_blind s =
    by_bool (blame_full s.view s)
    (λ c. rw (arrive_full s c, arrive_full (forget s) c) (quit_blind (to_all (blame_set s.view (blames_of s.view s)) ∷ []) s)) λ c.
    by_option (pair (current s)) (λ p. rw (arrive_clean s c p, arrive_clean (forget s) c p) (voting_all_blind (in_order (current s)) s))
    (λ a p. rw (arrive_pair s a c p, arrive_pair (forget s) a c p) (quit_blind (to_all (message a.0) ∷ to_all (message a.1) ∷ []) s))

enter_blind : Blind enter
unfolding enter enters_now forget with_tables
enter_blind s =
    by_bool (enters_now s) (λ q. rw (q, enter) (then_blind (entered (forget s)) (entered s) arrive (entered_blind s) arrive_blind))
    (λ q. rw (q, enter) (saying_blind [] s))

logging_blind : (l : List ℕ) → Blind (logging l)
unfolding logging saying with_log forget with_tables
logging_blind l s = (ap (with_log l) (forget_twice s), refl)

rest_blind : (l : List ℕ) → Blind (λ s. logging l s ▸ complain ▸ lead ▸ enter)
rest_blind l s =
    let u = forget s in
    then_blind (logging l u ▸ complain ▸ lead) (logging l s ▸ complain ▸ lead) enter
    (then_blind (logging l u ▸ complain) (logging l s ▸ complain) lead
    (then_blind (logging l u) (logging l s) complain (logging_blind l s) complain_blind) lead_blind)
    enter_blind

clock_alike : (c : ℕ) (s : State) → Alike (with_clock c (forget s)) (with_clock c s)
unfolding with_clock forget with_tables
clock_alike c s = ap (with_clock c) (forget_twice s)

-- the commits of a tick are none without the clocks exactly when they are with them
pub ticked_none_forgets : (s : State) → ticked s ≡ none → ticked (forget s) ≡ none
unfolding ticked due is_due is_in with_clock forget with_tables
ticked_none_forgets s =
    let now = with_clock (s.clock + 1) s in
    by_option (commits now.statements (due now) now.log) (λ q. rw (ticked, q) (λ _. refl)) (λ l q. rw (ticked, q) (λ e. no_some (sym e)))

pub ticked_forgets : (s : State) (w : Work) → ticked s ≡ some w → (v : Work) × (ticked (forget s) ≡ some v) × Likewise v w
unfolding ticked due is_due is_in with_clock forget with_tables
ticked_forgets s w =
    let now = with_clock (s.clock + 1) s in
    by_option (commits now.statements (due now) now.log) (λ q. rw (ticked, q) (λ e. no_some e))
    (λ l q.
    rw (ticked, q)
    (λ e.
    let all : State → Work = λ t. logging l t ▸ complain ▸ lead ▸ enter in
    let v = all (with_clock (s.clock + 1) (forget s)) in
    let a = blind_alike all (rest_blind l) (with_clock (s.clock + 1) (forget s)) now (clock_alike (s.clock + 1) s) in
    (v, refl, subst (λ (u : Work). Likewise v u) (some-injective (all now) w e) a)))
