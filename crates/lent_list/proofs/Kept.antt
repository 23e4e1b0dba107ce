-- An input that the rules answer with 0, 6, 7 or 8 is one that a record can hold. Assumes nothing.
use Prim.Native.Nat.{ℕ, ◌≤◌}
use mathlib.Core.Path.{◌≡◌, refl, sym, ◌∙◌}
use mathlib.Core.Bool.{true}
use mathlib.Core.List.{List, []}
use native.Mathlib.Omega.{arith}
use lib.ListN.{length}
use lib.Dec.{eqb}
use borrow.Author.Tests.{eq-eqb}
use Rattle.rules.specs.Limits.{last_clock}
use Rattle.rules.specs.Lists.{be}
use Rattle.rules.specs.Messages.{read, allowed}
use Rattle.rules.specs.Words.{State}
use Rattle.rules.specs.Refusals as rules
use Rattle.rules.specs.Inputs.{Work, handled, offered, ticked}
use Rattle.rules.specs.Refusals.{done, refused, stopping, has_room, if_room, running, ahead, used_up, heard}
use Rattle.laws.proofs.Bytes.{Bytes}
use Rattle.laws.proofs.Tests.{by_bool, by_option, no_bool}
use Rattle.slots.specs.Slots.{most_input, is_readable, is_input, is_kept}
use Rattle.slots.proofs.Inputs.{readable_fits, tick_input, offer_input, message_input}
use Rattle.lent_list.specs.Lists.{Input, tick, offer, message, kind_of, bytes_of}
use Rattle.lent_list.specs.Plain.{answer_to}

-- a message that is kept can be read
read_kept : (s : State) (bs : List ℕ) → is_kept (rules.step bs s).number ≡ true → is_readable bs ≡ true
unfolding rules.step refused is_kept is_readable
read_kept s bs =
    by_option (read bs)
    (λ q. by_bool (running s) (λ r. rw (r, q, rules.step) (λ e. no_bool (sym e))) (λ r. rw (r, rules.step) (λ e. no_bool (sym e))))
    (λ m q e. rw (q, is_readable))

-- the rules' numbers
module _ (s : State) where
  room_number : (w : Work) → (if_room s w).number ≤ 12
  unfolding if_room done stopping refused
  room_number w = by_bool (has_room w.now) (λ q. rw (q, if_room) (omega arith)) (λ q. rw (q, if_room) (omega arith))

  pub most_number : (x : Input) → (answer_to x s).number ≤ 12
  unfolding answer_to rules.tick rules.offer rules.step heard refused stopping
  most_number tick =
      by_bool (running s)
      (λ r.
      by_bool (eqb s.clock last_clock) (λ c. rw (r, c, rules.tick) (omega arith))
      (λ c. by_option (ticked s) (λ q. rw (r, c, q, rules.tick) (omega arith)) (λ w q. rw (r, c, q, rules.tick) (room_number w))))
      (λ r. rw (r, rules.tick) (omega arith))
  most_number (offer name) =
      by_bool (running s)
      (λ r. by_option (offered (be name) s) (λ q. rw (r, q, rules.offer) (omega arith)) (λ m q. rw (r, q, rules.offer) (room_number (handled m s))))
      (λ r. rw (r, rules.offer) (omega arith))
  most_number (message bs) =
      by_bool (running s)
      (λ r.
      by_option (read bs) (λ q. rw (r, q, rules.step) (omega arith)) λ m q.
      by_bool (allowed s.settings m)
      (λ a.
      by_bool (ahead m s) (λ w. rw (r, q, a, w, rules.step) (omega arith)) λ w.
      by_bool (used_up m s) (λ u. rw (r, q, a, w, rules.step, u, heard) (omega arith)) (λ u. rw (r, q, a, w, rules.step, u, heard) (room_number (handled m s))))
      (λ a. rw (r, q, a, rules.step) (omega arith)))
      (λ r. rw (r, rules.step) (omega arith))

-- what a host hands over is bytes, and an offered name that is looked at is one
abbrev pub Handed : Input → Type 0
Handed tick = Unit {0}
Handed (offer name) = length name ≡ 32
Handed (message bs) = Unit {0}

readable_most : (bs : List ℕ) → Bytes bs → is_readable bs ≡ true → length bs ≤ most_input
unfolding is_readable
readable_most bs b = by_option (read bs) (λ q. rw (q, is_readable) (λ e. no_bool (sym e))) (λ m q e. readable_fits bs m b q)

pub kept_input : (s : State) (x : Input) → Bytes (bytes_of x) → Handed x → is_kept (answer_to x s).number ≡ true → is_input (kind_of x) (bytes_of x) ≡ true
unfolding answer_to kind_of bytes_of
kept_input s tick b h e = sym (tick_input 1 [] (omega arith) refl)
kept_input s (offer name) b h e = sym (offer_input 2 name (omega arith) refl) ∙ eq-eqb (length name) 32 h
kept_input s (message bs) b h e = let r = read_kept s bs e in sym (message_input 3 bs (readable_most bs b r) refl (sym r))
