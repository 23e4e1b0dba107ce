-- Every call leaves a well-formed state well formed, its settings as they were, and says only what may be said. Assumes nothing.
use mathlib.Core.Path.{◌≡◌, refl}
use Prim.Native.Nat.{ℕ, ◌^◌, ◌≤◌, ◌<◌}
use native.Mathlib.Omega.{arith}
use mathlib.Core.Bool.{true}
use mathlib.Core.List.{List, Memᴰ as Mem}
use mathlib.Core.Option.{some}
use lib.Dec.{leb}
use lib.ListN.{length}
use borrow.Author.Tests.{eqb-false, leb-true}
use Rattle.rules.specs.Limits.{most_statements, most_tallies, last_clock, last_height}
use Rattle.rules.specs.Sizes.{Settings}
use Rattle.rules.specs.Messages.{Message, read, write, to_all, to_one, committed}
use Rattle.rules.specs.Words.{Cause, full, split, clock, State}
use Rattle.rules.specs.Inputs.{Work, with_phase, handled}
use Rattle.rules.specs.Refusals.{Outcome, done, refused, stopping, has_room, if_room, step, offer, tick}
use Rattle.rules.specs.WellFormed.{well_formed}
use Rattle.laws.proofs.Tests.{by_bool}
use Rattle.laws.proofs.Answers.{by_step, by_offer, by_tick}
use Rattle.laws.proofs.Bytes.{Bytes}
use Rattle.laws.proofs.Written.{read_write}
use Rattle.laws.proofs.Truths.{and_2}
use Rattle.kept.specs.Parts.{WellFormed}
use Rattle.kept.specs.Said.{Each, Sendable, Sayable}
use Rattle.kept.proofs.Lists.{each_mem}
use Rattle.kept.proofs.WellFormed.{parts, whole}
use Rattle.kept.proofs.Sendable.{read_sendable}
use Rattle.kept.proofs.Phases.{clocks_parts, stopped_formed}
use Rattle.kept.proofs.Keeps.{Keeps, handled_keeps}
use Rattle.kept.proofs.Ticks.{ticked_keeps}
use Rattle.kept.proofs.Offers.{offered_sendable, offered_free}

-- what a call keeps
pub record Kept (s : State) (o : Outcome) : Type 0 where
  pub settings : o.next.settings ≡ s.settings
  pub formed : WellFormed o.next
  pub said : Each (Sayable s.settings) o.out

module _ {s : State} (w : WellFormed s) where
  refused_kept : (k : ℕ) → Kept s (refused k s)
  unfolding refused
  refused_kept k = record { settings = refl; formed = w; said = tt }

  stopping_kept : (k : ℕ) (c : Cause) → Kept s (stopping k c s)
  unfolding stopping refused with_phase
  stopping_kept k c =
      record {
        settings = refl;
        formed = record { formed = stopped_formed w.formed c; few_statements = w.few_statements; few_tallies = w.few_tallies };
        said = tt;
      }

  if_room_kept : (r : Work) → Keeps s r → Kept s (if_room s r)
  unfolding if_room has_room done
  if_room_kept r k =
      by_bool (has_room r.now)
      (λ q.
      let t = and_2 (leb (length r.now.statements) (most_statements r.now.settings.size)) (leb (length r.now.tallies) (most_tallies r.now.settings.size)) q in
      rw (q, if_room)
      (record {
        settings = k.settings;
        formed = record { formed = k.formed; few_statements = leb-true _ (most_statements r.now.settings.size) t.0; few_tallies = leb-true _ (most_tallies r.now.settings.size) t.1 };
        said = k.said;
      }))
      (λ q. rw (q, if_room) (stopping_kept 6 full))

  pub step_kept : (bs : List ℕ) → Bytes bs → Kept s (step bs s)
  step_kept bs h = by_step (Kept s) s refused_kept bs (λ m q a u. if_room_kept (handled m s) (handled_keeps w.formed m (read_sendable s.settings bs m h q a) u))

  pub offer_kept : (b : ℕ) → b < 256 ^ 32 → Kept s (offer b s)
  offer_kept b h = by_offer (Kept s) s refused_kept b (λ m q. if_room_kept (handled m s) (handled_keeps w.formed m (offered_sendable w.formed b m h q) (offered_free b s m q)))

  pub tick_kept : Kept s (tick s)
  tick_kept =
      by_tick (Kept s) s refused_kept (stopping_kept 8 clock) (stopping_kept 7 split)
      (λ u r c q.
      let k = clocks_parts s w.formed.clocks in
      let n = eqb-false s.clock last_clock c in
      if_room_kept u (ticked_keeps w.formed (omega arith) q))

-- ---- the same by the tests

pub step_whole : (bs : List ℕ) (s : State) → Bytes bs → well_formed s ≡ true → well_formed (step bs s).next ≡ true
step_whole bs s h e = whole (step_kept (parts s e) bs h).formed

pub offer_whole : (b : ℕ) (s : State) → b < 256 ^ 32 → well_formed s ≡ true → well_formed (offer b s).next ≡ true
offer_whole b s h e = whole (offer_kept (parts s e) b h).formed

pub tick_whole : (s : State) → well_formed s ≡ true → well_formed (tick s).next ≡ true
tick_whole s e = whole (tick_kept (parts s e)).formed

-- ---- what is said

module _ {s : State} {o : Outcome} (k : Kept s o) where
  pub sent_all : (m : Message) → Mem (to_all m) o.out → Sendable s.settings m
  sent_all m i = each_mem (Sayable s.settings) k.said i

  pub sent_one : (to : ℕ) (m : Message) → Mem (to_one to m) o.out → (to < s.settings.n) × Sendable s.settings m
  sent_one to m i = each_mem (Sayable s.settings) k.said i

  pub reported : (h b : ℕ) → Mem (committed h b) o.out → (h ≤ last_height) × (b < 256 ^ 32)
  reported h b i = each_mem (Sayable s.settings) k.said i

-- and is read as it was sent
pub sent_read : {g : Settings} {m : Message} → Sendable g m → read (write m) ≡ some m
sent_read {m = m} e = read_write m e.fits
