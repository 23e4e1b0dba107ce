-- 01, 'When the desk says no', with the numbers of 02's requests 9 and 5: what a call answers, in its order, and what it leaves. Assumes nothing.
use Rattle.std.specs.Prelude.{ℕ, ◌+◌, ◌*◌, ◌^◌, Bool, true, false, not, ◌&&◌, List, [], length, leb, ltb, eqb}
use Rattle.std.proofs.Math.Option.{none, some}
use Rattle.rules.specs.Limits.{most_statements, most_tallies, most_opened, last_clock}
use Rattle.rules.specs.Lists.{any}
use Rattle.rules.specs.Sizes.{Settings, good_settings}
use Rattle.rules.specs.Messages.{Message, new_view, propose, vote, blame, blame_set, status, view_of, read, allowed, Effect, outgoing}
use Rattle.rules.specs.Words.{of_block, same_block, opened_by, Cause, full, split, clock, in_view, waiting, stopped, State}
use Rattle.rules.specs.Inputs.{Work, with_phase, handled, offered, ticked}

-- a fresh store: 0 for good settings, 10, "bad settings for a fresh store"
unfoldable pub fresh_number : Settings → ℕ
unfolding good_settings
fresh_number g = elim (good_settings g) [ true ↦ 0 | false ↦ 10 ]

-- the number of the answer (0 is done), what is left, and what is said
pub record Outcome : Type 0 where
  pub number : ℕ
  pub next : State
  pub out : List Effect

unfoldable pub done : Work → Outcome
done w = record { number = 0; next = w.now; out = w.out }

-- "nothing" changes
unfoldable pub refused : ℕ → State → Outcome
refused k s = record { number = k; next = s; out = [] }

-- "phase: stopped"
unfoldable pub stopping : ℕ → Cause → State → Outcome
unfolding refused with_phase
stopping k why s = refused k (with_phase (stopped why) s)

-- the tables have room for what was added
unfoldable pub has_room : State → Bool
unfolding most_statements most_tallies
has_room s = leb (length s.statements) (most_statements s.settings.size) && leb (length s.tallies) (most_tallies s.settings.size)

-- 6, "no record free for what this input must add"
unfoldable pub if_room : State → Work → Outcome
unfolding has_room done stopping
if_room s w = elim (has_room w.now) [ true ↦ done w | false ↦ stopping 6 full s ]

-- 3, "already stopped"
unfoldable pub running : State → Bool
running s = elim s.phase [ in_view ↦ true | waiting q ↦ true | stopped c ↦ false ]

-- 11, "more than one view ahead of the view held or last quit"
unfoldable pub ahead : Message → State → Bool
unfolding view_of
ahead m s = ltb (s.view + 1) (view_of m)

-- 12, "the seventeenth": a vote that would open a tally, by an author who opened as many as one may
unfoldable pub used_up : Message → State → Bool
unfolding any same_block opened_by
used_up (new_view v h b c m a) s = false
used_up (propose v h b p m a) s = false
used_up (vote v h b a) s = not (any (of_block (record { view = v; height = h; name = b; mask = 0 })) s.tallies) && leb most_opened (opened_by a s.tallies)
used_up (blame v a) s = false
used_up (blame_set v m) s = false
used_up (status h b c m) s = false

-- what is done with a message that may be heard: 12, "tested after 5 and before 6"
unfoldable pub heard : Message → State → Outcome
unfolding used_up refused if_room handled
heard m s = elim (used_up m s) [ true ↦ refused 12 s | false ↦ if_room s (handled m s) ]

-- a message: 3, then 4, "unreadable message", 5, "message not allowed", "right after 5" 11, then 12 and 6
unfoldable pub step : List ℕ → State → Outcome
unfolding running refused read allowed ahead heard
step bs s =
    elim (running s) [
      | false ↦ refused 3 s
      | true ↦
          elim (read bs) [
            | none ↦ refused 4 s
            | some m ↦
                elim (allowed s.settings m) [
                  | false ↦ refused 5 s
                  | true ↦ elim (ahead m s) [ true ↦ refused 11 s | false ↦ heard m s ]
                ]
          ]
    ]

-- an offer: 3, then 9, "offer not to be taken", and 6
unfoldable pub offer : ℕ → State → Outcome
unfolding running refused offered if_room handled
offer b s = elim (running s) [ false ↦ refused 3 s | true ↦ elim (offered b s) [ none ↦ refused 9 s | some m ↦ if_room s (handled m s) ] ]

-- a tick: 3, then 8, "tick at clock 4,000,000,000", 7, "a due commit differs from the log at a height", and 6
unfoldable pub tick : State → Outcome
unfolding running refused stopping ticked if_room
tick s =
    elim (running s) [
      | false ↦ refused 3 s
      | true ↦
          elim (eqb s.clock last_clock)
          [ true ↦ stopping 8 clock s | false ↦ elim (ticked s) [ none ↦ stopping 7 split s | some w ↦ if_room s w ] ]
    ]

-- what a host is told: the refusal times 2^32, and "the count of bytes written"
unfoldable pub result : Outcome → ℕ
unfolding outgoing
result o = o.number * 2 ^ 32 + length (outgoing o.out)
