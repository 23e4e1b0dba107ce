-- A tick by its rules, one after another: what each leaves of the tables, the view and the entry. Assumes nothing.
use mathlib.Core.Path.{◌≡◌, subst, refl, sym, ◌∙◌}
use Prim.Native.Nat.{ℕ, ◌+◌}
use mathlib.Core.Bool.{Bool, true, false}
use mathlib.Core.List.{List, [], ◌∷◌, ◌++◌}
use mathlib.Core.Logic.{◌⊎◌, inl, inr}
use mathlib.Core.Option.{none, some-injective}
use Rattle.rules.specs.Lists.{first, any}
use Rattle.rules.specs.Sizes.{only}
use Rattle.rules.specs.Messages.{Message, new_view, propose, vote, blame, blame_set, status}
use Rattle.rules.specs.Words.{Statement, message, same_statement, conflict, State}
use Rattle.rules.specs.Inputs.{saying, ◌▸◌, with_phase, with_clock, with_tables, with_blames, entering, is_in, quit, below_lock, voted_for, voting, certificate_joined, stored, statement, tallied, blamed, blame_full, blaming, handled, logging, overdue, complain, leads_now, own_new_view, lead, enters_now, entered, current, pair, voting_all, enter}
use Rattle.rules.specs.Refusals.{done, running, tick}
use Rattle.laws.proofs.Tests.{by_bool, by_option}
use Rattle.laws.proofs.Statements.{In, in_append, in_noted}
use Rattle.laws.proofs.Moves.{Outside, arrived, fills_now, counted, log_after, news, voting_low, voting_high, arrive_full, arrive_pair, arrive_clean, message_new_view_lem, message_propose, ticked_some, tick_done, enter_moves, tick_moves}
use Rattle.laws.proofs.Kept.{moves_kept}
use Rattle.laws.proofs.Held.{statement_held}
use Rattle.laws.proofs.Leads.{new_view_of, own_message}
use Rattle.agreement.specs.Schedule.{common_tick}
use Rattle.agreement.proofs.Events.{begun}

nothing : Outside
nothing = record { given = λ m. ⊥; offers = λ b m. ⊥ }

-- a tick that leaves the station running: it counts and commits, then blames, leads and enters
pub tick_whole : (s : State) → running (tick s).next ≡ true → let u = begun common_tick s in let c = complain u in let l = lead c.now in let e = enter l.now in
    ((tick s).next ≡ e.now) × ((tick s).out ≡ news s ++ c.out ++ l.out ++ e.out)
unfolding nothing
tick_whole s r =
    let (w, e, d) = tick_done s r in
    let (q, _) = tick_moves nothing s r in
    let k : w ≡ (logging (log_after s) (counted s) ▸ complain ▸ lead ▸ enter) = some-injective _ _ (sym e ∙ ticked_some s (log_after s) q) in
    rw (d, k) (unfold done logging saying ◌▸◌ news counted with_clock begun in (refl, refl))

-- ---- what a rule leaves as it was

-- all but phase, blames and log
pub record Same (s t : State) : Type 0 where
  pub settings : t.settings ≡ s.settings
  pub view : t.view ≡ s.view
  pub entry : t.entry ≡ s.entry
  pub clock : t.clock ≡ s.clock
  pub lock : t.lock ≡ s.lock
  pub statements : t.statements ≡ s.statements
  pub tallies : t.tallies ≡ s.tallies

same_refl : (s : State) → Same s s
same_refl s = record { settings = refl; view = refl; entry = refl; clock = refl; lock = refl; statements = refl; tallies = refl }

blaming_same : (v m : ℕ) (s : State) → Same s (blaming v m s).now
unfolding blaming quit saying with_phase blamed with_blames
blaming_same v m s =
    by_bool (fills_now v m s)
    (λ q. rw (q, blaming) (record { settings = refl; view = refl; entry = refl; clock = refl; lock = refl; statements = refl; tallies = refl }))
    (λ q. rw (q, blaming) (record { settings = refl; view = refl; entry = refl; clock = refl; lock = refl; statements = refl; tallies = refl }))

pub complain_same : (s : State) → Same s (complain s).now
unfolding complain saying ◌▸◌
complain_same s =
    by_bool (overdue s) (λ q. rw (q, complain) (blaming_same s.view (only s.settings.own) s)) (λ q. rw (q, complain) (same_refl s))

-- ---- what a rule adds to the statements

-- a statement as it is read
abbrev pub stated : Bool → (v h b l m a : ℕ) → Statement
stated k v h b l m a = record { is_new_view = k; view = v; height = h; name = b; link = l; mask = m; author = a; voted = none }

-- nothing beyond those of xs
abbrev pub NoMore : List Statement → List Statement → Type 0
NoMore xs ys = (x : Statement) → In ys x → In xs x

-- nothing, or the statement of a message
abbrev pub Adds : Message → List Statement → List Statement → Type 0
Adds m xs ys = NoMore xs ys ⊎ ((w : Statement) × (message w ≡ m) × NoMore (xs ++ w ∷ []) ys)

statement_adds : (x : Statement) (s : State) → NoMore (s.statements ++ x ∷ []) (statement x s).now.statements
unfolding statement voting saying quit with_phase stored with_tables certificate_joined voted_for
statement_adds x s y =
    by_bool (any (same_statement x) s.statements) (λ q. rw (q, statement) (λ h. in_append s.statements x y h)) λ q.
    by_bool (is_in x.view s)
    (λ i.
    by_option (first (conflict x) s.statements)
    (λ o.
    by_bool (below_lock x (stored x s)) (λ l. rw (q, i, o, statement, voting_low x (stored x s) l) (λ h. h))
    (λ l. rw (q, i, o, statement, voting_high x (stored x s) l, in_noted) (λ h. h)))
    (λ z o. rw (q, i, o, statement) (λ h. h)))
    (λ i. rw (q, i, statement) (λ h. h))

blaming_adds : (v m : ℕ) (s : State) → NoMore s.statements (blaming v m s).now.statements
blaming_adds v m s x h = subst (λ (xs : List Statement). In xs x) (blaming_same v m s).statements h

pub handled_adds : (m : Message) (s : State) → Adds m s.statements (handled m s).now.statements
unfolding handled tallied saying with_tables
handled_adds (new_view v h b c m a) s = inr (stated true v h b c m a, message_new_view_lem v h b c m a, statement_adds (stated true v h b c m a) s)
handled_adds (propose v h b p m a) s = inr (stated false v h b p m a, message_propose v h b p m a, statement_adds (stated false v h b p m a) s)
handled_adds (vote v h b a) s = inl (λ x q. q)
handled_adds (blame v a) s = inl (blaming_adds v (only a) s)
handled_adds (blame_set v m) s = inl (blaming_adds v m s)
handled_adds (status h b c m) s = inl (λ x q. q)

-- who leads adds its new-view
pub lead_adds : (s : State) → NoMore s.statements (lead s).now.statements
    ⊎ ((leads_now s ≡ true) × ((w : Statement) × (message w ≡ own_new_view s) × NoMore (s.statements ++ w ∷ []) (lead s).now.statements))
unfolding lead saying
lead_adds s =
    by_bool (leads_now s) (λ q. rw (q, lead) (go q (handled_adds (own_new_view s) s))) (λ q. rw (q, lead) (inl (λ x h. h)))
  where
    go : leads_now s ≡ true → Adds (own_new_view s) s.statements (handled (own_new_view s) s).now.statements
        → NoMore s.statements (handled (own_new_view s) s).now.statements
        ⊎ ((true ≡ true) × ((w : Statement) × (message w ≡ own_new_view s) × NoMore (s.statements ++ w ∷ []) (handled (own_new_view s) s).now.statements))
    go q (inl n) = inl n
    go q (inr r) = inr (refl, r)

-- it is stored then
pub lead_has : (s : State) → leads_now s ≡ true → In (lead s).now.statements (new_view_of s.settings s.view s.tallies)
unfolding lead handled message
lead_has s q =
    let x = new_view_of s.settings s.view s.tallies in
    rw (q, lead) (subst (λ (m : Message). In (handled m s).now.statements x) (own_message s) (statement_held x s))

-- who is not overdue doesn't blame
pub complain_quiet : (s : State) → overdue s ≡ false → (complain s).now ≡ s
unfolding complain saying
complain_quiet s q = rw (q, complain) refl

pub enter_keeps : (s : State) (x : Statement) → In s.statements x → In (enter s).now.statements x
enter_keeps s x = (moves_kept (enter_moves nothing s)).has x

-- voting marks, and adds nothing
voting_all_has : (ys : List Statement) (s : State) (x : Statement) → any (same_statement x) (voting_all ys s).now.statements ≡ any (same_statement x) s.statements
unfolding voting_all saying voted_for with_tables ◌▸◌
voting_all_has [] s x = refl
voting_all_has (y ∷ ys) s x =
    by_bool (below_lock y s) (λ l. rw (voting_low y s l) (voting_all_has ys s x))
    (λ l. rw (voting_high y s l) (voting_all_has ys (voted_for y s) x ∙ in_noted x y s.clock s.statements))

pub enter_adds : (s : State) → NoMore s.statements (enter s).now.statements
unfolding enter quit entered saying ◌▸◌ entering blame_full with_phase
enter_adds s x =
    let e = arrived s in
    by_bool (enters_now s)
    (λ q.
    by_bool (blame_full (s.view + 1) s) (λ c. rw (q, enter, arrive_full e c) (λ h. h)) λ c.
    by_option (pair (current e)) (λ p. rw (q, enter, arrive_clean e c p, voting_all_has) (λ h. h)) (λ a p. rw (q, enter, arrive_pair e a c p) (λ h. h)))
    (λ q. rw (q, enter) (λ h. h))
