-- Between two ticks: what is shown below 1 still lacks an ancestor among the statements of the last tick. So it holds of every state that
-- calls from a fresh store leave. Assumes nothing.
use mathlib.Core.Path.{◌≡◌, refl, sym, ap, subst, ◌∙◌}
use Prim.Native.Nat.{ℕ, ◌+◌, ◌*◌}
use native.Mathlib.Omega.{arith}
use mathlib.Core.Bool.{Bool, true, false, ◌&&◌}
use mathlib.Core.List.Memᴰ
use mathlib.Core.List.{List, [], ◌∷◌, Memᴰ as Mem}
use mathlib.Core.Logic.{◌⊎◌, inl, inr}
use mathlib.Core.Option.{none, some, some-injective}
use lib.IntN.{pos}
use lib.Signed.{le_z}
use Rattle.rules.specs.Lists.{first, any, alter}
use Rattle.rules.specs.Sizes.{Settings, only}
use Rattle.rules.specs.Messages.{Message, new_view, propose, vote, blame, blame_set, status, Effect}
use Rattle.rules.specs.Words.{Statement, same_statement, conflict, Certificate, Opener, Cause, full, State, fresh}
use Rattle.rules.specs.Inputs.{Work, saying, with_phase, with_tables, is_in, quit, below_lock, noted, voted_for, voting, certificate_joined, stored, statement, tallied, blamed, blame_full, blaming, handled, offered}
use Rattle.rules.specs.Refusals.{done, refused, stopping, has_room, if_room, running, step, offer, tick}
use Rattle.rules.specs.WellFormed.{well_formed}
use Rattle.rules.specs.Display.{Shown, is_shown, due_clock, shown, showing_all, display}
use Rattle.laws.proofs.Answers.{by_step}
use Rattle.laws.proofs.Tests.{by_bool, by_option, no_bool}
use Rattle.laws.proofs.Searches.{by_mem}
use Rattle.laws.proofs.Moves.{voting_low, voting_high}
use Rattle.display.proofs.Shown.{Shows, shows, shown_mem, waiting_shows_none, stopped_shows_none}
use Rattle.display.proofs.Numbers.{not_come}
use Rattle.display.proofs.Still.{stored_shown, blamed_shown, joined_shown}
use Rattle.display.proofs.Ticks.{Lacks, below_one_lacks}

-- "both happen only where an ancestor was not stored at the last tick": xs are the statements stored then
abbrev pub Behind : List Statement → State → Type 0
Behind xs t = (z : Shown) → Mem z (display t) → le_z z.ticks_left (pos 0) ≡ true → Lacks xs z

pub tick_behind : (s : State) → well_formed s ≡ true → Behind s.statements (tick s).next
tick_behind s w = below_one_lacks s w

module _ (xs : List Statement) where
  none_behind : (t : State) → display t ≡ [] → Behind xs t
  none_behind t e z m b = absurd (Memᴰ.not-nil (rw e at m))

  same_behind : (s t : State) → display t ≡ display s → Behind xs s → Behind xs t
  same_behind s t e k z m b = k z (rw e at m) b

  pub fresh_behind : (g : Settings) → Behind xs (fresh g)
  unfolding fresh display showing_all
  fresh_behind g = none_behind (fresh g) refl

  quit_behind : (o : List Effect) (s : State) → Behind xs (quit o s).now
  unfolding quit saying with_phase
  quit_behind o s = none_behind (quit o s).now (waiting_shows_none (quit o s).now s.clock refl)

  stopping_behind : (k : ℕ) (c : Cause) (s : State) → Behind xs (stopping k c s).next
  unfolding stopping refused with_phase
  stopping_behind k c s = none_behind (stopping k c s).next (stopped_shows_none (stopping k c s).next c refl)

  -- ---- a vote

  noted_mem : (p : Statement → Bool) (c : ℕ) (y : Statement) (ys : List Statement) → Mem y (alter p (noted c) ys) → (y.voted ≡ some c) ⊎ Mem y ys
  unfolding alter noted
  noted_mem p c y [] m = inr m
  noted_mem p c y (z ∷ ys) m =
      by_bool (p z) (λ q. by_mem (rw (q, alter) at m) (λ e. inl (ap (λ (w : Statement). w.voted) e)) (λ t. inr (Mem.tail t)))
      (λ q. by_mem (rw (q, alter) at m) (λ e. inr (Mem.head e)) (λ t. later (noted_mem p c y ys t)))
    where
      later : (y.voted ≡ some c) ⊎ Mem y ys → (y.voted ≡ some c) ⊎ Mem y (z ∷ ys)
      later (inl e) = inl e
      later (inr t) = inr (Mem.tail t)

  -- what is voted for now has its ticks left; the rest is shown as it was
  voted_for_behind : (x : Statement) (s : State) → Behind xs s → Behind xs (voted_for x s)
  unfolding display voted_for with_tables shown due_clock is_shown is_in
  voted_for_behind x s k z m b =
      let t = voted_for x s in
      let h = shows t t.statements z m in
      go h (noted_mem (same_statement x) s.clock h.what s.statements h.stored)
    where
      go : (h : Shows (voted_for x s) (voted_for x s).statements z) → (h.what.voted ≡ some s.clock) ⊎ Mem h.what s.statements → Lacks xs z
      go h (inl v) =
          let c : h.vote ≡ s.clock = some-injective h.vote s.clock (sym h.voted ∙ v) in
          no_bool (sym b ∙ ap (λ (y : Shown). le_z y.ticks_left (pos 0)) h.is ∙ not_come (h.vote + 2 * s.settings.D + 1) s.clock (omega arith))
      go h (inr n) = k z (subst (λ (y : Shown). Mem y (display s)) (sym h.is) (shown_mem s s.statements h.what h.vote n h.voted h.may)) b

  voting_behind : (x : Statement) (s : State) → Behind xs s → Behind xs (voting x s).now
  unfolding saying
  voting_behind x s k = by_bool (below_lock x s) (λ l. rw (voting_low x s l) k) (λ l. rw (voting_high x s l) (voted_for_behind x s k))

  -- ---- a message

  statement_behind : (x : Statement) (s : State) → x.voted ≡ none → Behind xs s → Behind xs (statement x s).now
  unfolding statement saying quit certificate_joined
  statement_behind x s n k =
      by_bool (any (same_statement x) s.statements) (λ q. rw (q, statement) (same_behind s (certificate_joined x s) (joined_shown s _) k)) λ q.
      by_bool (is_in x.view s)
      (λ i.
      by_option (first (conflict x) s.statements) (λ o. rw (q, i, o, statement) (voting_behind x (stored x s) (same_behind s (stored x s) (stored_shown s x n) k)))
      (λ y o. rw (q, i, o, statement) (quit_behind [] (stored x s))))
      (λ i. rw (q, i, statement) (same_behind s (stored x s) (stored_shown s x n) k))

  blaming_behind : (v m : ℕ) (s : State) → Behind xs s → Behind xs (blaming v m s).now
  unfolding blaming saying quit
  blaming_behind v m s k =
      by_bool (is_in v (blamed v m s) && blame_full v (blamed v m s)) (λ q. rw (q, blaming) (quit_behind [] (blamed v m s)))
      (λ q. rw (q, blaming) (same_behind s (blamed v m s) (blamed_shown s v m) k))

  tallied_behind : (j : Opener) (c : Certificate) (s : State) → Behind xs s → Behind xs (tallied j c s).now
  unfolding tallied saying
  tallied_behind j c s k = same_behind s (tallied j c s).now (joined_shown s _) k

  handled_behind : (m : Message) (s : State) → Behind xs s → Behind xs (handled m s).now
  unfolding handled
  handled_behind (new_view v h b c m a) s k = statement_behind (record { is_new_view = true; view = v; height = h; name = b; link = c; mask = m; author = a; voted = none }) s refl k
  handled_behind (propose v h b p m a) s k = statement_behind (record { is_new_view = false; view = v; height = h; name = b; link = p; mask = m; author = a; voted = none }) s refl k
  handled_behind (vote v h b a) s k = tallied_behind (some a) (record { view = v; height = h; name = b; mask = only a }) s k
  handled_behind (blame v a) s k = blaming_behind v (only a) s k
  handled_behind (blame_set v m) s k = blaming_behind v m s k
  handled_behind (status h b c m) s k = tallied_behind none (record { view = c; height = h; name = b; mask = m }) s k

  -- ---- the calls

  if_room_behind : (s : State) (w : Work) → Behind xs w.now → Behind xs (if_room s w).next
  unfolding if_room done
  if_room_behind s w k = by_bool (has_room w.now) (λ q. rw (q, if_room) k) (λ q. rw (q, if_room) (stopping_behind 6 full s))

  pub step_behind : (bs : List ℕ) (s : State) → Behind xs s → Behind xs (step bs s).next
  unfolding refused
  step_behind bs s k = by_step (λ o. Behind xs o.next) s (λ n. k) bs (λ m q a u. if_room_behind s (handled m s) (handled_behind m s k))

  pub offer_behind : (b : ℕ) (s : State) → Behind xs s → Behind xs (offer b s).next
  unfolding offer refused
  offer_behind b s k =
      by_bool (running s)
      (λ r. by_option (offered b s) (λ q. rw (r, q, offer) k) (λ m q. rw (r, q, offer) (if_room_behind s (handled m s) (handled_behind m s k))))
      (λ r. rw (r, offer) k)
