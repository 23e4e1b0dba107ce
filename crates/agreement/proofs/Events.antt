-- One event, seen from one station: it counts and commits if it is a tick, and then goes by moves. Assumes nothing.
use mathlib.Core.Path.{◌≡◌, subst, refl, sym}
use Prim.Native.Nat.{ℕ, ◌+◌}
use native.Mathlib.Omega.{arith}
use mathlib.Core.Bool.{true, false}
use mathlib.Core.List.{List, [], ◌∷◌, ◌++◌, Memᴰ}
use mathlib.Core.Logic.{◌⊎◌, inl, inr}
use mathlib.Core.Option.{some}
use lib.Dec.{eqb}
use borrow.Author.Tests.{eqb-true, eq-eqb}
use Rattle.rules.specs.Sizes.{Settings}
use Rattle.rules.specs.Messages.{Message, read, Effect, committed}
use Rattle.rules.specs.Words.{State}
use Rattle.rules.specs.Inputs.{saying, with_clock, with_log, below_lock, blames_of, blame_full, offered, enters_now}
use Rattle.rules.specs.Refusals.{done, running, step, offer}
use Rattle.laws.proofs.Tests.{by_bool}
use Rattle.laws.proofs.Searches.{All}
use Rattle.laws.proofs.Moves.{Outside, counted, log_after, news, Moves, here, step_moves, offer_moves, tick_moves}
use Rattle.laws.proofs.Kept.{Kept, kept_refl, tick_settled}
use Rattle.laws.proofs.Orderly.{Orderly, clock_orderly}
use Rattle.laws.proofs.Held.{reports_all}
use Rattle.laws.proofs.Proper.{Proper, same_proper}
use Rattle.agreement.specs.Schedule.{Event, idle, common_tick, tick_of, given, offered_to, happens, ticks, IsCommon}

-- what an event brings station i from outside
abbrev pub GivenBy : ℕ → Event → Message → Type 0
GivenBy i idle m = ⊥
GivenBy i common_tick m = ⊥
GivenBy i (tick_of j) m = ⊥
GivenBy i (given j bs) m = (i ≡ j) × (read bs ≡ some m)
GivenBy i (offered_to j b) m = ⊥

abbrev pub OfferedBy : ℕ → Event → State → ℕ → Message → Type 0
OfferedBy i idle s b m = ⊥
OfferedBy i common_tick s b m = ⊥
OfferedBy i (tick_of j) s b m = ⊥
OfferedBy i (given j bs) s b m = ⊥
OfferedBy i (offered_to j c) s b m = (i ≡ j) × (b ≡ c) × (offered b s ≡ some m)

abbrev pub Brings : ℕ → Event → State → Outside
Brings i e s = record { given = GivenBy i e; offers = OfferedBy i e s }

-- something happens
abbrev pub Happening : Event → Type 0
Happening idle = ⊥
Happening common_tick = Unit {0}
Happening (tick_of j) = Unit {0}
Happening (given j bs) = Unit {0}
Happening (offered_to j b) = Unit {0}

pub never_idle : (e : Event) → Happening e → idle ≡ e → ⊥
never_idle e h q = subst Happening (sym q) h

-- the state from which the moves go, and what is said before them
unfoldable pub begun : Event → State → State
begun idle s = s
begun common_tick s = with_log (log_after s) (counted s)
begun (tick_of j) s = s
begun (given j bs) s = s
begun (offered_to j b) s = s

unfoldable pub before : Event → State → List Effect
before idle s = []
before common_tick s = news s
before (tick_of j) s = []
before (given j bs) s = []
before (offered_to j b) s = []

pub event_moves : (i : ℕ) (e : Event) (s : State) → IsCommon e → running (happens i e s).next ≡ true
    → (o : List Effect) × ((happens i e s).out ≡ before e s ++ o) × Moves (Brings i e s) (begun e s) (happens i e s).next o
unfolding happens begun before done saying
event_moves i idle s c = λ r. ([], refl, here)
event_moves i common_tick s c = λ r. (tick_moves (Brings i common_tick s) s r).1
event_moves i (tick_of j) s c = absurd c
event_moves i (given j bs) s c =
    by_bool (eqb i j)
    (λ q. rw (q, happens) (λ r. ((step bs s).out, refl, step_moves (Brings i (given j bs) s) bs s (λ m e. (eqb-true i j q, e)) r)))
    (λ q. rw (q, happens) (λ r. ([], refl, here)))
event_moves i (offered_to j b) s c =
    by_bool (eqb i j)
    (λ q. rw (q, happens) (λ r. ((offer b s).out, refl, offer_moves (Brings i (offered_to j b) s) b s (λ m e. (eqb-true i j q, refl, e)) r)))
    (λ q. rw (q, happens) (λ r. ([], refl, here)))

-- ---- the state from which the moves go

pub begun_clock : (e : Event) (s : State) → IsCommon e → (begun e s).clock ≡ s.clock + ticks 0 e
unfolding begun ticks counted with_clock with_log
begun_clock idle s c = omega arith
begun_clock common_tick s c = refl
begun_clock (tick_of j) s c = absurd c
begun_clock (given j bs) s c = omega arith
begun_clock (offered_to j b) s c = omega arith

-- it differs in clock and log alone
pub begun_same : (e : Event) (s : State) → let t = begun e s in
    (t.settings ≡ s.settings) × (t.phase ≡ s.phase) × (t.view ≡ s.view) × (t.statements ≡ s.statements) × (t.tallies ≡ s.tallies)
    × (t.blames ≡ s.blames) × (t.lock ≡ s.lock)
unfolding begun counted with_clock with_log
begun_same idle s = (refl, refl, refl, refl, refl, refl, refl)
begun_same common_tick s = (refl, refl, refl, refl, refl, refl, refl)
begun_same (tick_of j) s = (refl, refl, refl, refl, refl, refl, refl)
begun_same (given j bs) s = (refl, refl, refl, refl, refl, refl, refl)
begun_same (offered_to j b) s = (refl, refl, refl, refl, refl, refl, refl)

pub begun_kept : (e : Event) (s : State) → Kept s (begun e s)
unfolding begun counted with_clock with_log blames_of
begun_kept idle s = kept_refl s
begun_kept common_tick s =
    record { has = λ x h. h; full = λ g v h. h; length = refl; bits = λ q i h. h; view = omega arith; waits = λ q p f. p }
begun_kept (tick_of j) s = kept_refl s
begun_kept (given j bs) s = kept_refl s
begun_kept (offered_to j b) s = kept_refl s

pub begun_orderly : (S : ℕ → Effect → Type 0) (e : Event) (s : State) → Orderly S s → Orderly S (begun e s)
unfolding begun counted with_log blame_full blames_of below_lock
begun_orderly S idle s i = i
begun_orderly S common_tick s i =
    let j = clock_orderly S s i in
    record { clean = j.clean; calm = j.calm; votes = j.votes; quits = j.quits; past = j.past; order = j.order }
begun_orderly S (tick_of j) s i = i
begun_orderly S (given j bs) s i = i
begun_orderly S (offered_to j b) s i = i

pub begun_proper : (P : ℕ → ℕ → ℕ → ℕ → Type 0) (parent_of : ℕ → ℕ) (g : Settings) (e : Event) (s : State) → Proper P parent_of g s → Proper P parent_of g (begun e s)
begun_proper P parent_of g e s i = let (a, p, v, c, b, d, l) = begun_same e s in same_proper P parent_of g (begun e s) a b c i

-- ---- what is said

-- the reports come first, and say nothing else
pub before_all : (P : Effect → Type 0) (e : Event) (s : State) → ((h b : ℕ) → P (committed h b)) → All P (before e s)
unfolding before news
before_all P idle s f = tt
before_all P common_tick s f = reports_all P _ _ f
before_all P (tick_of j) s f = tt
before_all P (given j bs) s f = tt
before_all P (offered_to j b) s f = tt

pub mem_after : (a b : List Effect) (e : Effect) → Memᴰ e b → Memᴰ e (a ++ b)
mem_after [] b e m = m
mem_after (x ∷ a) b e m = Memᴰ.tail (mem_after a b e m)

-- a tick leaves nobody due to enter
pub event_settled : (i : ℕ) (e : Event) (s : State) → IsCommon e → ticks 0 e ≡ 1 → running (happens i e s).next ≡ true → enters_now (happens i e s).next ≡ false
unfolding happens ticks
event_settled i idle s cm c = absurd (omega arith)
event_settled i common_tick s cm c = tick_settled s
event_settled i (tick_of j) s cm c = absurd cm
event_settled i (given j bs) s cm c = absurd (omega arith)
event_settled i (offered_to j b) s cm c = absurd (omega arith)

pub ticks_two : (e : Event) → IsCommon e → (ticks 0 e ≡ 0) ⊎ ((ticks 0 e ≡ 1) × (e ≡ common_tick))
unfolding ticks
ticks_two idle c = inl refl
ticks_two common_tick c = inr (refl, refl)
ticks_two (tick_of j) c = absurd c
ticks_two (given j bs) c = inl refl
ticks_two (offered_to j b) c = inl refl

pub happens_given : (j : ℕ) (bs : List ℕ) (s : State) → happens j (given j bs) s ≡ step bs s
unfolding happens
happens_given j bs s = rw (eq-eqb j j refl, happens)

-- under common ticks every station is ticked alike
pub ticks_alike : (i j : ℕ) (e : Event) → IsCommon e → ticks i e ≡ ticks j e
unfolding ticks
ticks_alike i j idle c = refl
ticks_alike i j common_tick c = refl
ticks_alike i j (tick_of t) c = absurd c
ticks_alike i j (given t bs) c = refl
ticks_alike i j (offered_to t b) c = refl
