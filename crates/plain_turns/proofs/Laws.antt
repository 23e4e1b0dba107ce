-- What each refusal, and a rule's work, come to. Assumes nothing.
use Prim.Native.Nat.{ℕ, suc, ◌≤◌}
use mathlib.Core.Path.{◌≡◌, refl, sym, ap, ap₂, subst, ◌∙◌}
use mathlib.Core.Bool.{true, false, ◌&&◌}
use mathlib.Core.List.{List, [], ◌∷◌}
use mathlib.Core.Option.{none, some}
use native.Mathlib.Omega.{arith}
use native.Mathlib.Nat.{zero-add}
use lib.ListN.{length, take, drop}
use lib.Seq.{take-append_seam}
use lib.Dec.{leb}
use Rattle.rules.specs.Limits.{most_statements, most_tallies, most_statements_small, most_tallies_small}
use Rattle.rules.specs.Messages as messages
use Rattle.rules.specs.Messages.{outgoing, read, allowed, view_of}
use Rattle.rules.specs.Words as words
use Rattle.rules.specs.Words.{message}
use Rattle.rules.specs.Inputs as inputs
use Rattle.rules.specs.Refusals as refusals
use Rattle.rules.specs.WellFormed.{well_formed}
use Rattle.laws.proofs.Bytes as bytes
use Rattle.laws.proofs.Tests.{by_bool}
use Rattle.fields.specs.Places.{Bytes}
use Rattle.wire.specs.Meaning.{statement_of, message_of}
use Rattle.wire.specs.declared.Statement as wire
use Rattle.wire.specs.declared.Message.{Message}
use Rattle.wire.specs.declared.Message.TheVariants.{Stated, Vote, Blame, BlameSet, Status}
use Rattle.fields.specs.declared.Name.{Name}
use Rattle.outgoing.specs.Wrote.{Says}
use Rattle.outgoing.proofs.Writing.{wrote_prefix}
use Rattle.kept.proofs.Room.{handled_bytes}
use Rattle.kept.proofs.Calls.{step_whole}
use Rattle.plain_words.proofs.Tables.{counted}
use Rattle.plain_statements.specs.Meaning as statement_room
use Rattle.plain_statements.specs.Meaning.{held_of, blank, statements}
use Rattle.plain_tallies.proofs.Laws.{tally_count}
use Rattle.plain_tables.specs.declared.Cause.{Cause}
use Rattle.plain_tables.specs.declared.Cause.TheVariants.{Full}
use Rattle.plain_tables.specs.declared.Phase.{Phase}
use Rattle.plain_tables.specs.declared.Phase.TheVariants.{InView, Waiting, Stopped}
use Rattle.plain_tables.specs.declared.Engine.{Engine}
use Rattle.plain_tables.specs.Meaning.{state, Sized}
use Rattle.plain_tables.proofs.Laws.{gives_phase}
use Rattle.plain_acts.specs.declared.Work.{Work}
use Rattle.plain_acts.specs.Works.{Worked}
use Rattle.plain_messages.specs.Whole.{Whole}
use Rattle.plain_turns.specs.declared.Turn.{Turn}
use Rattle.plain_turns.specs.Turns.{refusing, chosen, Turned, Answered}

-- ---- whether the station runs, and has room

module _ (e : Engine) where
  runs_in : e.phase ≡ InView → true ≡ refusals.running (state e)
  unfolding refusals.running state
  runs_in p = rw (p, refusals.running)

  runs_waiting : (q : ℕ) → e.phase ≡ Waiting q → true ≡ refusals.running (state e)
  unfolding refusals.running state
  runs_waiting q p = rw (p, refusals.running)

  pub runs_not : (c : Cause) → e.phase ≡ Stopped c → false ≡ refusals.running (state e)
  unfolding refusals.running state
  runs_not c p = rw (p, refusals.running)

  pub runs_other : ((c : Cause) → e.phase ≡ Stopped c → ⊥) → true ≡ refusals.running (state e)
  runs_other n = go e.phase refl
    where
      go : (p : Phase) → e.phase ≡ p → true ≡ refusals.running (state e)
      go InView q = runs_in q
      go (Waiting w) q = runs_waiting w q
      go (Stopped c) q = absurd (n c q)

statement_count : (e : Engine) → Sized e → length (statements e.statements) ≡ e.statements.count
unfolding statements
statement_count e k = counted held_of blank statement_room.room e.statements.items e.statements.count k.statements

pub room_is : (e : Engine) → Sized e → (leb e.statements.count most_statements_small && leb e.tallies.count most_tallies_small) ≡ refusals.has_room (state e)
unfolding refusals.has_room state most_statements most_tallies
room_is e k = rw (k.small, statement_count e k, tally_count e.tallies k.tallies)

-- ---- a statement's view, and that it opens no tally by a vote

pub stated_view : (x : wire.Statement) → x.view ≡ view_of (message_of (Stated x))
unfolding message_of message statement_of view_of
stated_view x = by_bool x.is_new_view (λ q. rw q) (λ q. rw q)

stated_free : (x : wire.Statement) (s : words.State) → false ≡ refusals.used_up (message_of (Stated x)) s
unfolding message_of message statement_of refusals.used_up
stated_free x s = by_bool x.is_new_view (λ q. rw q) (λ q. rw q)

-- only a vote uses one up
pub others_free : (m : Message) (s : words.State) → ((v h : ℕ) (n : Name) (a : ℕ) → m ≡ Vote v h n a → ⊥) → false ≡ refusals.used_up (message_of m) s
unfolding message_of refusals.used_up
others_free (Stated x) s n = stated_free x s
others_free (Vote v h b a) s n = absurd (n v h b a refl)
others_free (Blame v a) s n = refl
others_free (BlameSet v m) s n = refl
others_free (Status h b c m) s n = refl

-- ---- outcomes

pub refused_turned : (k : ℕ) (e : Engine) (left : List ℕ) → Sized e → Turned (refusals.refused k (state e)) (refusing k e) left
unfolding refusals.refused outgoing
refused_turned k e left s = record { number = refl; next = record { sized = s; is = refl }; count = refl; out = refl }

-- what was said from the start on stands there
said : (o bs left : List ℕ) (end : ℕ) → length bs ≤ length o → Says o 0 bs left end → (end ≡ length bs) × (take end left ≡ bs)
said o bs left end h s =
    let z : end ≡ length bs = s.ends ∙ zero-add (length bs) in
    (z, ap₂ (λ (n : ℕ) (l : List ℕ). take n l) z (s.out ∙ wrote_prefix o bs h) ∙ take-append_seam bs (drop (length bs) o))

module _ (e : Engine) (k : Sized e) where
  -- of a rule's work that the buffer has room for
  pub work_turned : (u : inputs.Work) (o : List ℕ) → length (outgoing u.out) ≤ length o → (w : Work) (left : List ℕ) → Worked u o 0 w left
      → Turned (refusals.if_room (state e) u) (chosen (refusals.has_room (state w.engine)) e w) left
  unfolding refusals.if_room refusals.done refusals.stopping refusals.refused outgoing
  work_turned u o h w left d =
      by_bool (refusals.has_room (state w.engine))
      (λ q.
      let s = said o (outgoing u.out) left w.at h d.says in
      rw (q, sym (ap refusals.has_room d.now.is) ∙ q, refusals.if_room) (record { number = refl; next = d.now; count = s.0; out = s.1 }))
      (λ q.
      rw (q, sym (ap refusals.has_room d.now.is) ∙ q, refusals.if_room) (record { number = refl; next = gives_phase e k (Stopped Full); count = refl; out = refl }))

  pub room_turned : (m : messages.Message) (o : List ℕ) → 200 ≤ length o → (w : Work) (left : List ℕ) → Worked (inputs.handled m (state e)) o 0 w left
      → Turned (refusals.if_room (state e) (inputs.handled m (state e))) (chosen (refusals.has_room (state w.engine)) e w) left
  room_turned m o h w left d = work_turned (inputs.handled m (state e)) o (omega (arith, handled_bytes m (state e))) w left d

module _ (m : messages.Message) (s : words.State) where
  pub heard_used : refusals.used_up m s ≡ true → refusals.heard m s ≡ refusals.refused 12 s
  unfolding refusals.heard
  heard_used q = rw (q, refusals.heard)

  pub heard_free : refusals.used_up m s ≡ false → refusals.heard m s ≡ refusals.if_room s (inputs.handled m s)
  unfolding refusals.heard
  heard_free q = rw (q, refusals.heard)

module _ (bs : List ℕ) (s : words.State) where
  pub step_stopped : refusals.running s ≡ false → refusals.step bs s ≡ refusals.refused 3 s
  unfolding refusals.step
  step_stopped q = rw (q, refusals.step)

  module _ (r : refusals.running s ≡ true) where
    pub step_unreadable : none ≡ read bs → refusals.step bs s ≡ refusals.refused 4 s
    unfolding refusals.step
    step_unreadable e = rw (r, sym e, refusals.step)

    module _ (m : messages.Message) (e : some m ≡ read bs) where
      pub step_barred : allowed s.settings m ≡ false → refusals.step bs s ≡ refusals.refused 5 s
      unfolding refusals.step
      step_barred a = rw (r, sym e, a, refusals.step)

      module _ (a : allowed s.settings m ≡ true) where
        pub step_ahead : refusals.ahead m s ≡ true → refusals.step bs s ≡ refusals.refused 11 s
        unfolding refusals.step
        step_ahead q = rw (r, sym e, a, q, refusals.step)

        pub step_heard : refusals.ahead m s ≡ false → refusals.step bs s ≡ refusals.heard m s
        unfolding refusals.step
        step_heard q = rw (r, sym e, a, q, refusals.step)

-- a turn of one outcome is one of the same outcome
pub turn_as : {x y : refusals.Outcome} {r : Turn} {left : List ℕ} → x ≡ y → Turned y r left → Turned x r left
turn_as {x} {y} {r} {left} p t = subst (λ (z : refusals.Outcome). Turned z r left) (sym p) t

pub turn_is : {x : refusals.Outcome} {r t : Turn} {left : List ℕ} → r ≡ t → Turned x t left → Turned x r left
turn_is {x} {r} {t} {left} p d = subst (λ (z : Turn). Turned x z left) (sym p) d

bytes_all : (s : List ℕ) → Bytes s → bytes.Bytes s
bytes_all [] h = bytes.none
bytes_all (x ∷ s) h = bytes.one (h 0).fits (bytes_all s (λ i. h (suc i)))

pub step_answered : (bs : List ℕ) (e : Engine) (r : Turn) (left : List ℕ) → Bytes bs → Whole e → Turned (refusals.step bs (state e)) r left → Answered (refusals.step bs (state e)) r left
step_answered bs e r left b k t =
    record { turned = t; whole = record { sized = t.next.sized; formed = ap well_formed t.next.is ∙ step_whole bs (state e) (bytes_all bs b) k.formed } }
