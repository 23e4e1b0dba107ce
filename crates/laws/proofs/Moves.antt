-- Every call that leaves a running station is a chain of moves, each with what it says. A move is one leaf of a rule, with the
-- tests of its branch, so that what is true of a station holds after each. The clock and the commits of a tick are no move: a tick
-- is a chain from the state with both done. Stopping is none either. Assumes nothing.
use mathlib.Core.Path.{◌≡◌, subst, refl, sym, ap, ◌∙◌}
use Prim.Native.Nat.{ℕ, suc, ◌+◌, ◌-◌}
use mathlib.Core.Bool.{Bool, true, false, ◌&&◌}
use mathlib.Core.List.{List, [], ◌∷◌, ◌++◌, append_assoc, append-nil}
use mathlib.Core.Option.{Option, none, some, some-injective}
use lib.ListN.{length, drop}
use lib.Dec.{eqb}
use Rattle.rules.specs.Limits.{last_clock}
use Rattle.rules.specs.Lists.{first, any}
use Rattle.rules.specs.Sizes.{only}
use Rattle.rules.specs.Messages.{Message, new_view, propose, vote, blame, blame_set, status, read, allowed, Effect, to_all}
use Rattle.rules.specs.Words.{Statement, message, same_statement, conflict, Certificate, Opener, certificate, join_certificate, waiting, State, moment}
use Rattle.rules.specs.Inputs.{Work, saying, ◌▸◌, with_phase, with_clock, with_tables, with_log, entering, is_in, quit, below_lock, voted_for, ballot, voting, certificate_joined, stored, statement, tallied, blames_of, blamed, blame_full, blaming}
use Rattle.rules.specs.Inputs.{handled, offered, due, commits, reports, logging, overdue, complain, leads_now, own_new_view, lead, enters_now, next_lock, report, entered, current, pair, in_order, voting_all, arrive, enter, ticked}
use Rattle.rules.specs.Refusals.{Outcome, done, refused, has_room, if_room, running, step, offer, tick}
use Rattle.laws.proofs.Tests.{by_bool, by_option, no_some, no_bool}
use Rattle.laws.proofs.Answers.{by_step, by_offer}

-- what is known of what comes from outside: of a message handed over, of a name offered and the message it makes
pub record Outside : Type 1 where
  pub given : Message → Type 0
  pub offers : ℕ → Message → Type 0

-- where a message that a station handles comes from: it is handed over and allowed, it is the leader's own new-view, or an offer
-- makes it
pub data Origin (R : Outside) (s : State) : Message → Type 0 where
  handed : {m : Message} → R.given m → allowed s.settings m ≡ true → Origin R s m
  led : leads_now s ≡ true → Origin R s (own_new_view s)
  made : {m : Message} (b : ℕ) → R.offers b m → offered b s ≡ some m → Origin R s m

-- the certificate of a statement or a status, or the vote, as a tally
unfoldable pub carried : Message → Option Certificate
unfolding only
carried (new_view v h b c m a) = some (record { view = c; height = h; name = b; mask = m })
carried (propose v h b p m a) = some (record { view = v; height = h - 1; name = p; mask = m })
carried (vote v h b a) = some (record { view = v; height = h; name = b; mask = only a })
carried (blame v a) = none
carried (blame_set v m) = none
carried (status h b c m) = some (record { view = c; height = h; name = b; mask = m })

-- whose blame of view v is joined: of a blame, of a set, or the own
pub data Accused (R : Outside) (s : State) : ℕ → ℕ → Type 0 where
  named : (v a : ℕ) → Origin R s (blame v a) → Accused R s v (only a)
  listed : (v m : ℕ) → Origin R s (blame_set v m) → Accused R s v m
  own : overdue s ≡ true → Accused R s s.view (only s.settings.own)

-- x is handled, and is new
abbrev pub New : Outside → State → Statement → Type 0
New R s x = Origin R s (message x) × (x.voted ≡ none) × (any (same_statement x) s.statements ≡ false)

abbrev pub fills_now : ℕ → ℕ → State → Bool
fills_now v m s = is_in v (blamed v m s) && blame_full v (blamed v m s)

-- the station in the next view, before it looks at what it holds of it
abbrev pub arrived : State → State
arrived s = entering (s.view + 1) (next_lock s) s

pub data Move (R : Outside) (s : State) : State → List Effect → Type 0 where
  joins : (k : Opener) (m : Message) (t : Certificate) → Origin R s m → carried m ≡ some t
      → Move R s (with_tables s.statements (join_certificate (moment k s) t s.tallies) s) []
  stores : (x : Statement) → New R s x → is_in x.view s ≡ false → Move R s (stored x s) []
  passes : (x : Statement) → New R s x → is_in x.view s ≡ true → first (conflict x) s.statements ≡ none → below_lock x s ≡ true
      → Move R s (stored x s) []
  casts : (x : Statement) → New R s x → is_in x.view s ≡ true → first (conflict x) s.statements ≡ none → below_lock x s ≡ false
      → Move R s (voted_for x (stored x s)) (ballot x s)
  clashes : (x y : Statement) → New R s x → is_in x.view s ≡ true → first (conflict x) s.statements ≡ some y
      → Move R s (with_phase (waiting s.clock) (stored x s)) (to_all (message y) ∷ to_all (message x) ∷ [])
  accuses : (v m : ℕ) → Accused R s v m → fills_now v m s ≡ false → Move R s (blamed v m s) []
  fills : (v m : ℕ) → Accused R s v m → fills_now v m s ≡ true
      → Move R s (with_phase (waiting s.clock) (blamed v m s)) (to_all (blame_set v (blames_of v (blamed v m s))) ∷ [])
  complains : overdue s ≡ true → Move R s s (to_all (blame s.view s.settings.own) ∷ [])
  enters_full : enters_now s ≡ true → blame_full (s.view + 1) s ≡ true
      → Move R s (with_phase (waiting s.clock) (arrived s)) (report s ++ to_all (blame_set (s.view + 1) (blames_of (s.view + 1) s)) ∷ [])
  enters_pair : (p : Statement × Statement) → enters_now s ≡ true → blame_full (s.view + 1) s ≡ false → pair (current (arrived s)) ≡ some p
      → Move R s (with_phase (waiting s.clock) (arrived s)) (report s ++ to_all (message p.0) ∷ to_all (message p.1) ∷ [])
  enters : enters_now s ≡ true → blame_full (s.view + 1) s ≡ false → pair (current (arrived s)) ≡ none
      → Move R s (voting_all (in_order (current (arrived s))) (arrived s)).now (report s ++ (voting_all (in_order (current (arrived s))) (arrived s)).out)

pub data Moves (R : Outside) (s : State) : State → List Effect → Type 0 where
  here : Moves R s s []
  more : {t u : State} {o p : List Effect} → Moves R s t o → Move R t u p → Moves R s u (o ++ p)

module _ {R : Outside} where
  one : {s t : State} {o : List Effect} → Move R s t o → Moves R s t o
  one c = more here c

  moves_trans : {s t u : State} {o p : List Effect} → Moves R s t o → Moves R t u p → Moves R s u (o ++ p)
  moves_trans {s} {o = o} a here = rw append-nil a
  moves_trans {o = o} a (more {o = p} {p = q} b c) = rw (← append_assoc o p q) (more (moves_trans a b) c)

-- a tick counts, and its log after the commits, with what it says of them
unfoldable pub counted : State → State
unfolding with_clock
counted s = with_clock (s.clock + 1) s

unfoldable pub log_after : State → List ℕ
log_after s = elim (commits (counted s).statements (due (counted s)) (counted s).log) [ none ↦ s.log | some l ↦ l ]

unfoldable pub news : State → List Effect
news s = reports (suc (length s.log)) (drop (length s.log) (log_after s))

-- ---- the rules, branch by branch

pub voting_low : (x : Statement) (s : State) → below_lock x s ≡ true → voting x s ≡ saying s []
unfolding voting
voting_low x s l = rw (l, voting)

pub voting_high : (x : Statement) (s : State) → below_lock x s ≡ false → voting x s ≡ saying (voted_for x s) (ballot x s)
unfolding voting
voting_high x s l = rw (l, voting)

pub arrive_full : (s : State) → blame_full s.view s ≡ true → arrive s ≡ quit (to_all (blame_set s.view (blames_of s.view s)) ∷ []) s
unfolding arrive
arrive_full s c = rw (c, arrive)

pub arrive_pair : (s : State) (p : Statement × Statement) → blame_full s.view s ≡ false → pair (current s) ≡ some p
    → arrive s ≡ quit (to_all (message p.0) ∷ to_all (message p.1) ∷ []) s
unfolding arrive
arrive_pair s p c q = rw (c, q, arrive)

pub arrive_clean : (s : State) → blame_full s.view s ≡ false → pair (current s) ≡ none → arrive s ≡ voting_all (in_order (current s)) s
unfolding arrive
arrive_clean s c q = rw (c, q, arrive)

-- a message with the statement that it states
pub message_new_view_lem : (v h b c m a : ℕ) → message (record { is_new_view = true; view = v; height = h; name = b; link = c; mask = m; author = a; voted = none }) ≡ new_view v h b c m a
unfolding message
message_new_view_lem v h b c m a = refl

pub message_propose : (v h b p m a : ℕ) → message (record { is_new_view = false; view = v; height = h; name = b; link = p; mask = m; author = a; voted = none }) ≡ propose v h b p m a
unfolding message
message_propose v h b p m a = refl

pub carried_certificate : (x : Statement) → carried (message x) ≡ some (certificate x)
unfolding carried message certificate
carried_certificate x = by_bool x.is_new_view (λ e. rw e refl) (λ e. rw e refl)

-- ---- a tick, step by step

pub ticked_none : (s : State) → commits (counted s).statements (due (counted s)) (counted s).log ≡ none → ticked s ≡ none
unfolding ticked counted
ticked_none s q = rw (ticked, q)

pub ticked_some : (s : State) (l : List ℕ) → commits (counted s).statements (due (counted s)) (counted s).log ≡ some l
    → ticked s ≡ some (logging l (counted s) ▸ complain ▸ lead ▸ enter)
unfolding ticked counted
ticked_some s l q = rw (ticked, q)

log_after_some : (s : State) (l : List ℕ) → commits (counted s).statements (due (counted s)) (counted s).log ≡ some l → log_after s ≡ l
unfolding log_after
log_after_some s l q = rw (q, log_after)

room_done : (s : State) (w : Work) → running (if_room s w).next ≡ true → if_room s w ≡ done w
unfolding if_room running
room_done s w = by_bool (has_room w.now) (λ q. rw (q, if_room) (λ _. refl)) (λ q. rw (q, if_room) (λ e. no_bool (sym e)))

pub tick_done : (s : State) → running (tick s).next ≡ true → (w : Work) × (ticked s ≡ some w) × (tick s ≡ done w)
unfolding tick running
tick_done s =
    by_bool (running s)
    (λ r.
    by_bool (eqb s.clock last_clock) (λ k. rw (r, k, tick) (λ e. no_bool (sym e))) λ k.
    by_option (ticked s) (λ q. rw (r, k, tick, q) (λ e. no_bool (sym e))) (λ w q. rw (r, k, tick, q) (λ e. (w, refl, room_done s w e))))
    (λ r. rw (r, tick) (λ e. no_bool (sym e ∙ r)))

tick_out : (s : State) (l : List ℕ) → log_after s ≡ l
    → (done (logging l (counted s) ▸ complain ▸ lead ▸ enter)).out ≡ news s ++ (complain (with_log l (counted s)) ▸ lead ▸ enter).out
unfolding done logging saying ◌▸◌ news counted with_clock
tick_out s l a = rw (a, append_assoc, append_assoc, append_assoc)

module _ (R : Outside) where
  -- a rule, as a chain of moves
  abbrev pub Does : State → Work → Type 0
  Does s w = Moves R s w.now w.out

  statement_moves : (x : Statement) (s : State) → Origin R s (message x) → x.voted ≡ none → Does s (statement x s)
  unfolding statement stored with_tables certificate_joined saying quit below_lock ballot
  statement_moves x s g n =
      by_bool (any (same_statement x) s.statements) (λ q. rw (q, statement) (one (joins none (message x) (certificate x) g (carried_certificate x)))) λ q.
      by_bool (is_in x.view s)
      (λ i.
      by_option (first (conflict x) s.statements)
      (λ o.
      by_bool (below_lock x s) (λ l. rw (q, i, o, statement, voting_low x (stored x s) l) (one (passes x (g, n, q) i o l)))
      (λ l. rw (q, i, o, statement, voting_high x (stored x s) l) (one (casts x (g, n, q) i o l))))
      (λ y o. rw (q, i, o, statement) (one (clashes x y (g, n, q) i o))))
      (λ i. rw (q, i, statement) (one (stores x (g, n, q) i)))

  blaming_moves : (v m : ℕ) (s : State) → Accused R s v m → Does s (blaming v m s)
  unfolding blaming quit saying blamed
  blaming_moves v m s a =
      by_bool (fills_now v m s) (λ q. rw (q, blaming) (one (fills v m a q))) (λ q. rw (q, blaming) (one (accuses v m a q)))

  tallied_moves : (k : Opener) (m : Message) (t : Certificate) (s : State) → Origin R s m → carried m ≡ some t → Does s (tallied k t s)
  unfolding tallied saying
  tallied_moves k m t s g c = one (joins k m t g c)

  pub handled_moves : (m : Message) (s : State) → Origin R s m → Does s (handled m s)
  unfolding handled carried
  handled_moves (new_view v h b c m a) s g =
      let x : Statement = record { is_new_view = true; view = v; height = h; name = b; link = c; mask = m; author = a; voted = none } in
      statement_moves x s (subst (Origin R s) (sym (message_new_view_lem v h b c m a)) g) refl
  handled_moves (propose v h b p m a) s g =
      let x : Statement = record { is_new_view = false; view = v; height = h; name = b; link = p; mask = m; author = a; voted = none } in
      statement_moves x s (subst (Origin R s) (sym (message_propose v h b p m a)) g) refl
  handled_moves (vote v h b a) s g = tallied_moves (some a) (vote v h b a) (record { view = v; height = h; name = b; mask = only a }) s g refl
  handled_moves (blame v a) s g = blaming_moves v (only a) s (named v a g)
  handled_moves (blame_set v m) s g = blaming_moves v m s (listed v m g)
  handled_moves (status h b c m) s g = tallied_moves none (status h b c m) (record { view = c; height = h; name = b; mask = m }) s g refl

  pub then_moves : {s : State} (w : Work) (f : State → Work) → Does s w → ((t : State) → Does t (f t)) → Does s (w ▸ f)
  unfolding ◌▸◌
  then_moves w f p h = moves_trans p (h w.now)

  pub complain_moves : (s : State) → Does s (complain s)
  unfolding complain saying ◌▸◌
  complain_moves s =
      by_bool (overdue s)
      (λ q. rw (q, complain) (moves_trans (one (complains q)) (blaming_moves s.view (only s.settings.own) s (own q))))
      (λ q. rw (q, complain) here)

  pub lead_moves : (s : State) → Does s (lead s)
  unfolding lead saying
  lead_moves s = by_bool (leads_now s) (λ q. rw (q, lead) (handled_moves (own_new_view s) s (led q))) (λ q. rw (q, lead) here)

  pub enter_moves : (s : State) → Does s (enter s)
  unfolding enter quit entered saying ◌▸◌ entering blame_full blames_of
  enter_moves s =
      let e = arrived s in
      by_bool (enters_now s)
      (λ q.
      by_bool (blame_full (s.view + 1) s) (λ c. rw (q, enter, arrive_full e c) (one (enters_full q c))) λ c.
      by_option (pair (current e)) (λ p. rw (q, enter, arrive_clean e c p) (one (enters q c p)))
      (λ a p. rw (q, enter, arrive_pair e a c p) (one (enters_pair a q c p))))
      (λ q. rw (q, enter) here)

  -- ---- the calls

  -- an answer that leaves the station running
  abbrev pub Ran : State → Outcome → Type 0
  Ran s o = running o.next ≡ true → Moves R s o.next o.out

  room_moves : (s t : State) (w : Work) → Does t w → Ran t (if_room s w)
  unfolding if_room running
  room_moves s t w p = by_bool (has_room w.now) (λ q. rw (q, if_room) (λ _. p)) (λ q. rw (q, if_room) (λ e. no_bool (sym e)))

  refused_moves : (s : State) (k : ℕ) → Ran s (refused k s)
  unfolding refused
  refused_moves s k _ = here

  pub step_moves : (bs : List ℕ) (s : State) → ((m : Message) → read bs ≡ some m → R.given m) → Ran s (step bs s)
  step_moves bs s f = by_step (Ran s) s (refused_moves s) bs (λ m q a _. room_moves s s (handled m s) (handled_moves m s (handed (f m q) a)))

  pub offer_moves : (b : ℕ) (s : State) → ((m : Message) → offered b s ≡ some m → R.offers b m) → Ran s (offer b s)
  offer_moves b s f = by_offer (Ran s) s (refused_moves s) b (λ m q. room_moves s s (handled m s) (handled_moves m s (made b (f m q) q)))

  -- a tick first counts and commits, and says what it committed
  pub tick_moves : (s : State) → running (tick s).next ≡ true
      → (commits (counted s).statements (due (counted s)) (counted s).log ≡ some (log_after s))
      × ((o : List Effect) × ((tick s).out ≡ news s ++ o) × Moves R (with_log (log_after s) (counted s)) (tick s).next o)
  tick_moves s run =
      let t = counted s in
      let (w, e, d) = tick_done s run in
      by_option (commits t.statements (due t) t.log) (λ q. no_some (sym (ticked_none s q) ∙ e)) λ l q.
      let a = log_after_some s l q in
      let u = with_log l t in
      let rest = complain u ▸ lead ▸ enter in
      let k : w ≡ (logging l t ▸ complain ▸ lead ▸ enter) = some-injective _ _ (sym e ∙ ticked_some s l q) in
      let m : Does u rest = then_moves (complain u ▸ lead) enter (then_moves (complain u) lead (complain_moves u) lead_moves) enter_moves in
      rw (d, k) (q ∙ ap some (sym a), (rest.out, tick_out s l a, subst (λ (x : List ℕ). Moves R (with_log x t) (done (logging l t ▸ complain ▸ lead ▸ enter)).next rest.out) (sym a) (unfold done logging saying ◌▸◌ in m)))
