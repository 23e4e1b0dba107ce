-- What a call does to the clock of a block: it is as it was, or there was none and it is the clock that the call leaves; and it is there
-- exactly when the block's voters are a quorum. Assumes nothing.
use mathlib.Core.Path.{◌≡◌, subst, refl, sym, ◌∙◌}
use Prim.Native.Nat.{ℕ}
use mathlib.Core.List.{List, [], ◌∷◌}
use mathlib.Core.Option.{none, some, some-injective}
use Rattle.rules.specs.Sizes.{Settings, only}
use Rattle.rules.specs.Messages.{write, Effect}
use Rattle.rules.specs.Words.{Statement, Certificate, Tally, own_block, certificate, join, join_certificate, Cause, full, split, clock, State, moment}
use Rattle.rules.specs.Inputs.{Work, saying, ◌▸◌, with_phase, with_clock, with_tables, with_blames, with_log, entering, below_lock, voted_for, stored, blamed, handled, due, commits, logging, complain, lead, enter, current, in_order, voting_all, ticked}
use Rattle.rules.specs.Refusals.{done, refused, stopping, has_room, if_room, step, offer, tick}
use Rattle.rules.specs.Script.{Input, ticks, hears, hears_bytes, is_offered, answer}
use Rattle.laws.proofs.Tests.{by_bool, by_option, no_some}
use Rattle.laws.proofs.Answers.{by_step, by_offer, by_tick}
use Rattle.laws.proofs.Moves.{Outside, arrived, Move, joins, stores, passes, casts, clashes, accuses, fills, complains, enters_full, enters_pair, enters, Moves, here, more, handed, made, voting_low, voting_high, handled_moves, then_moves, complain_moves, lead_moves, enter_moves, counted, ticked_none, ticked_some}
use Rattle.laws.proofs.Kept.{moves_fixed}
use Rattle.clocks.proofs.Joins.{Law, law_refl, law_trans, join_law, certificate_law}

-- ---- the moves

-- of every block, at the clock and under the settings of the first state
abbrev Keeps : State → State → Type 0
Keeps s t = (q : Certificate) → Law s.settings s.clock q s.tallies t.tallies

stored_law : (x : Statement) (s : State) → Keeps s (stored x s)
unfolding stored with_tables
stored_law x s q =
    let k = moment none s in
    let us = join_certificate k (certificate x) s.tallies in
    law_trans s.settings s.clock q s.tallies us (join k (own_block x 0) us)
    (certificate_law k (certificate x) q s.tallies) (join_law k (own_block x 0) q us)

voted_law : (x : Statement) (s : State) → Keeps s (voted_for x s)
unfolding voted_for with_tables
voted_law x s q = join_law (moment none s) (own_block x (only s.settings.own)) q s.tallies

voting_all_law : (ys : List Statement) (s : State) → Keeps s (voting_all ys s).now
unfolding voting_all saying voted_for with_tables ◌▸◌
voting_all_law [] s q = law_refl s.settings s.clock q s.tallies
voting_all_law (y ∷ ys) s q =
    by_bool (below_lock y s) (λ l. rw (voting_low y s l) (voting_all_law ys s q))
    (λ l.
    rw (voting_high y s l)
    (law_trans s.settings s.clock q s.tallies (voted_for y s).tallies (voting_all ys (voted_for y s)).now.tallies
    (voted_law y s q) (voting_all_law ys (voted_for y s) q)))

module _ {R : Outside} where
  move_law : (s t : State) (o : List Effect) → Move R s t o → Keeps s t
  unfolding with_tables with_phase with_blames entering stored voted_for blamed
  move_law s t o (joins j m u g c) q = certificate_law (moment j s) u q s.tallies
  move_law s t o (stores x g f) q = stored_law x s q
  move_law s t o (passes x g f c l) q = stored_law x s q
  move_law s t o (casts x g f c l) q =
      law_trans s.settings s.clock q s.tallies (stored x s).tallies (voted_for x (stored x s)).tallies (stored_law x s q) (voted_law x (stored x s) q)
  move_law s t o (clashes x y g f c) q = stored_law x s q
  move_law s t o (accuses v m a f) q = law_refl s.settings s.clock q s.tallies
  move_law s t o (fills v m a f) q = law_refl s.settings s.clock q s.tallies
  move_law s t o (complains f) q = law_refl s.settings s.clock q s.tallies
  move_law s t o (enters_full e c) q = law_refl s.settings s.clock q s.tallies
  move_law s t o (enters_pair p e c f) q = law_refl s.settings s.clock q s.tallies
  move_law s t o (enters e c f) q = voting_all_law (in_order (current (arrived s))) (arrived s) q

  moves_law : (s t : State) (o : List Effect) → Moves R s t o → Keeps s t
  moves_law s t o here q = law_refl s.settings s.clock q s.tallies
  moves_law s t o (more {t = u} {o = a} {p = b} m l) q =
      let (g, c, _) = moves_fixed m in
      let n = move_law u t b l q in
      law_trans s.settings s.clock q s.tallies u.tallies t.tallies (moves_law s u a m q)
      (subst (λ (d : ℕ). Law s.settings d q u.tallies t.tallies) c (subst (λ (h : Settings). Law h u.clock q u.tallies t.tallies) g n))

-- ---- the calls

-- the settings stay, and every block's clock goes as it should, by the clock that is left
pub record Clocked (s t : State) : Type 0 where
  pub settings : t.settings ≡ s.settings
  pub block : (q : Certificate) → Law s.settings t.clock q s.tallies t.tallies

-- all that comes from outside will do
abbrev anything : Outside
anything = record { given = λ m. Unit {0}; offers = λ b m. Unit {0} }

moved : (s t u : State) (o : List Effect) → t.settings ≡ s.settings → t.tallies ≡ s.tallies → Moves anything t u o → Clocked s u
moved s t u o g e m =
    let (h, c, _) = moves_fixed m in
    record {
      settings = h ∙ g;
      block = λ q.
          subst (λ (us : List Tally). Law s.settings u.clock q us u.tallies) e
          (subst (λ (x : Settings). Law x u.clock q t.tallies u.tallies) g
          (subst (λ (d : ℕ). Law t.settings d q t.tallies u.tallies) (sym c) (moves_law t u o m q)));
    }

pub stays : (s : State) → Clocked s s
stays s = record { settings = refl; block = λ q. law_refl s.settings s.clock q s.tallies }

module _ (s : State) where
  refused_clocked : (k : ℕ) → Clocked s (refused k s).next
  unfolding refused
  refused_clocked k = stays s

  stopping_clocked : (k : ℕ) (c : Cause) → Clocked s (stopping k c s).next
  unfolding stopping refused with_phase
  stopping_clocked k c = record { settings = refl; block = λ q. law_refl s.settings s.clock q s.tallies }

  room_clocked : (w : Work) → Clocked s w.now → Clocked s (if_room s w).next
  unfolding if_room done
  room_clocked w c = by_bool (has_room w.now) (λ q. rw (q, if_room) c) (λ q. rw (q, if_room) (stopping_clocked 6 full))

  ticked_clocked : (w : Work) → ticked s ≡ some w → Clocked s w.now
  unfolding counted with_clock with_log logging saying ◌▸◌
  ticked_clocked w e =
      let t = counted s in
      by_option (commits t.statements (due t) t.log) (λ n. no_some (sym (ticked_none s n) ∙ e)) λ l n.
      let u = with_log l t in
      let c = then_moves anything (complain u) lead (complain_moves anything u) (lead_moves anything) in
      let m = then_moves anything (complain u ▸ lead) enter c (enter_moves anything) in
      subst (λ (v : Work). Clocked s v.now) (some-injective _ _ (sym (ticked_some s l n) ∙ e)) (moved s u _ _ refl refl m)

pub step_clocked : (bs : List ℕ) (s : State) → Clocked s (step bs s).next
step_clocked bs s =
    by_step (λ o. Clocked s o.next) s (refused_clocked s) bs
    (λ m _ a _. room_clocked s (handled m s) (moved s s _ _ refl refl (handled_moves anything m s (handed tt a))))

pub offer_clocked : (b : ℕ) (s : State) → Clocked s (offer b s).next
offer_clocked b s =
    by_offer (λ o. Clocked s o.next) s (refused_clocked s) b
    (λ m e. room_clocked s (handled m s) (moved s s _ _ refl refl (handled_moves anything m s (made b tt e))))

pub tick_clocked : (s : State) → Clocked s (tick s).next
tick_clocked s =
    by_tick (λ o. Clocked s o.next) s (refused_clocked s) (stopping_clocked s 8 clock) (stopping_clocked s 7 split)
    (λ w _ _ e. room_clocked s w (ticked_clocked s w e))

pub answer_clocked : (i : Input) (s : State) → Clocked s (answer s i).next
unfolding answer
answer_clocked ticks s = tick_clocked s
answer_clocked (hears m) s = step_clocked (write m) s
answer_clocked (hears_bytes bs) s = step_clocked bs s
answer_clocked (is_offered b) s = offer_clocked b s
