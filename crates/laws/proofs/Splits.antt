-- A station stops with cause split only at a tick whose due commits differ: moves never stop it. Assumes nothing.
use mathlib.Core.Path.{◌≡◌, refl, sym}
use Prim.Native.Nat.{ℕ}
use native.Mathlib.Omega.{arith}
use mathlib.Core.Bool.{true}
use mathlib.Core.List.{List}
use mathlib.Core.Option.{Option, none}
use lib.Dec.{eqb}
use Rattle.rules.specs.Limits.{last_clock}
use Rattle.rules.specs.Messages.{Effect}
use Rattle.rules.specs.Words.{full, split, clock, stopped, State}
use Rattle.rules.specs.Inputs.{Work, saying, ◌▸◌, with_phase, with_clock, with_tables, with_blames, with_log, entering, voted_for, stored, blamed, handled, due, commits, logging, complain, lead, enter, current, in_order}
use Rattle.rules.specs.Refusals.{done, refused, has_room, if_room, running, step, offer, tick}
use Rattle.laws.proofs.Tests.{by_bool, by_option, no_bool}
use Rattle.laws.proofs.Answers.{by_step, by_offer}
use Rattle.laws.proofs.Moves.{Outside, handed, made, arrived, counted, Move, joins, stores, passes, casts, clashes, accuses, fills, complains, enters_full, enters_pair, enters, Moves, here, more, ticked_some, handled_moves, then_moves, complain_moves, lead_moves, enter_moves}
use Rattle.laws.proofs.Kept.{voting_all_fixed}

abbrev pub Split : State → Type 0
Split s = s.phase ≡ stopped split

running_split {ℓ} : {P : Type ℓ} (s : State) → running s ≡ true → Split s → P
unfolding running
running_split s r e = no_bool (sym (rw (e, running) at r))

full_split {ℓ} : {P : Type ℓ} → stopped full ≡ stopped split → P
full_split e = let z : ◌≡◌ {A = ℕ} 0 1 = cc in absurd (omega arith)

clock_split {ℓ} : {P : Type ℓ} → stopped clock ≡ stopped split → P
clock_split e = let z : ◌≡◌ {A = ℕ} 0 1 = cc in absurd (omega arith)

module _ {R : Outside} where
  move_running : (s t : State) (o : List Effect) → Move R s t o → running s ≡ true → running t ≡ true
  unfolding with_tables with_phase with_blames with_log entering stored voted_for blamed running
  move_running s t o (joins j m u g c) r = r
  move_running s t o (stores x g f) r = r
  move_running s t o (passes x g f c l) r = r
  move_running s t o (casts x g f c l) r = r
  move_running s t o (clashes x y g f c) r = refl
  move_running s t o (accuses v m a f) r = r
  move_running s t o (fills v m a f) r = refl
  move_running s t o (complains f) r = r
  move_running s t o (enters_full e c) r = refl
  move_running s t o (enters_pair p e c f) r = refl
  move_running s t o (enters e c f) r = rw ((voting_all_fixed (in_order (current (arrived s))) (arrived s)).1, running)

  pub moves_running : (s t : State) (o : List Effect) → Moves R s t o → running s ≡ true → running t ≡ true
  moves_running s t o here r = r
  moves_running s t o (more {t = u} {o = p} {p = q} a b) r = move_running u t q b (moves_running s u p a r)

anything : Outside
anything = record { given = λ m. Unit {0}; offers = λ b m. Unit {0} }

room_split : (s : State) (w : Work) → running w.now ≡ true → Split (if_room s w).next → ⊥
unfolding if_room
room_split s w r =
    by_bool (has_room w.now) (λ q. rw (q, if_room) (λ e. unfold done in (running_split w.now r e)))
    (λ q. rw (q, if_room) (λ e. full_split e))

refused_split : (s : State) → running s ≡ true → (k : ℕ) → Split (refused k s).next → ⊥
unfolding refused
refused_split s r k e = running_split s r e

pub step_split : (bs : List ℕ) (s : State) → running s ≡ true → Split (step bs s).next → ⊥
unfolding anything
step_split bs s r =
    by_step (λ o. Split o.next → ⊥) s (refused_split s r) bs
    (λ m q a _. room_split s (handled m s) (moves_running s (handled m s).now (handled m s).out (handled_moves anything m s (handed tt a)) r))

pub offer_split : (b : ℕ) (s : State) → running s ≡ true → Split (offer b s).next → ⊥
unfolding anything
offer_split b s r =
    by_offer (λ o. Split o.next → ⊥) s (refused_split s r) b
    (λ m q. room_split s (handled m s) (moves_running s (handled m s).now (handled m s).out (handled_moves anything m s (made b tt q)) r))

-- the commits that a tick is to make
abbrev pub due_commits : State → Option (List ℕ)
due_commits s = commits (counted s).statements (due (counted s)) (counted s).log

ticked_running : (s : State) (l : List ℕ) → running s ≡ true → running (logging l (counted s) ▸ complain ▸ lead ▸ enter).now ≡ true
unfolding ◌▸◌ logging saying
ticked_running s l r =
    let u = with_log l (counted s) in
    let rest = complain u ▸ lead ▸ enter in
    let m = then_moves anything (complain u ▸ lead) enter (then_moves anything (complain u) lead (complain_moves anything u) (lead_moves anything)) (enter_moves anything) in
    moves_running u rest.now rest.out m (unfold running counted with_clock with_log in r)

pub tick_split : (s : State) → running s ≡ true → Split (tick s).next → due_commits s ≡ none
unfolding tick
tick_split s r =
    by_option (due_commits s) (λ q e. q) λ l q.
    by_bool (eqb s.clock last_clock) (λ k. rw (r, k, tick) (λ e. clock_split e)) λ k.
    rw (r, k, tick, ticked_some s l q) (λ e. absurd (room_split s (logging l (counted s) ▸ complain ▸ lead ▸ enter) (ticked_running s l r) e))
