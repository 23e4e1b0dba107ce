-- A tick that does no more than move the clock on and commit. Assumes nothing.
use Prim.Native.Nat.{ℕ, suc, ◌+◌, ◌≤◌}
use mathlib.Core.Path.{◌≡◌, refl, sym, ap, ◌∙◌, subst}
use mathlib.Core.Bool.{Bool, true, false}
use mathlib.Core.List.{List, [], ◌++◌, append-nil}
use mathlib.Core.Option.{some, some-injective}
use native.Mathlib.Omega.{arith}
use lib.ListN.{length}
use lib.Seq.{drop-length}
use Rattle.rules.specs.Limits.{last_clock}
use Rattle.rules.specs.Words.{State}
use Rattle.rules.specs.Inputs.{Work, saying, ◌▸◌, with_clock, with_log, is_in, blames_of, reports, logging, votes, overdue, complain, leads, leads_now, lead, enters_now, enter}
use Rattle.rules.specs.Refusals.{has_room, running, tick}
use Rattle.store.specs.Layout.{log_table, count_of}
use Rattle.store.specs.Decode.{names, state_from, state_of, Left}
use Rattle.store.specs.Meaning.{Loads}
use Rattle.store.specs.declared.Station.{Station}
use Rattle.store.proofs.Forms.{form_log}
use Rattle.linked.specs.Told.{Told}
use Rattle.commit.specs.Outcome.{tick_log, Gained}
use Rattle.glance.specs.Looks.{Seen}
use Rattle.glance.specs.declared.Glance.{Glance}
use Rattle.commit.proofs.Ticks.{gained_none, told_log}
use Rattle.acts.specs.Works.{Formed, Works}
use Rattle.acts.proofs.Works.{works_is, works_none}
use Rattle.reports.specs.Gains.{grown_log}
use Rattle.turns.proofs.Parts.{complain_calm}
use Rattle.turns.proofs.Leading.{lead_never}
use Rattle.turns.proofs.Arriving.{enter_not}
use Rattle.stops.specs.Answers.{Answers}
use Rattle.moves.specs.Turns.{later, growing, turning, Calm, Calmly}
use Rattle.moves.proofs.Turns.{never_next}
use Rattle.moves.proofs.Calming.{next_state}
use Rattle.ticks.proofs.Turns.{done_tick}

-- ---- what is left of a tick then

-- a rule that has nothing to do
adds_none : (w : Work) (f : State → Work) → saying w.now [] ≡ f w.now → w ≡ (w ▸ f)
unfolding ◌▸◌ saying
adds_none w f e =
    (λ i. record { now = w.now; out = sym (append-nil w.out) i }) ∙ ap (λ (v : Work). record { now = v.now; out = w.out ++ v.out }) e

no_more : (w : Work) → overdue w.now ≡ false → leads_now w.now ≡ false → enters_now w.now ≡ false → w ≡ (w ▸ complain ▸ lead ▸ enter)
no_more w p q r =
    adds_none w enter (enter_not w.now r) ∙ ap (◌▸ enter) (adds_none w lead (lead_never w.now q))
    ∙ ap (λ (v : Work). v ▸ lead ▸ enter) (adds_none w complain (complain_calm w.now p))

-- a longer log makes nothing due
all_grown : (l : List ℕ) (s : State) → overdue (later s) ≡ false → leads_now (later s) ≡ false → enters_now (later s) ≡ false → growing l s ≡ turning l s
unfolding growing turning logging saying with_log overdue votes is_in blames_of leads_now leads enters_now
all_grown l s p q r = no_more (logging l (later s)) p q r

-- the log as it stands
logging_none : (s : State) → saying s [] ≡ logging s.log s
unfolding logging saying with_log reports
logging_none s = ap (λ (l : List ℕ). saying s (reports (suc (length s.log)) l)) (sym (drop-length s.log))

grows_none : (s : State) → saying (later s) [] ≡ growing s.log s
unfolding growing later with_clock
grows_none s = logging_none (later s)

-- ---- by the loaded numbers

module _ {b : List ℕ} (k : Formed b) (s : Station) (e : Loads s b) where
  abbrev S : State
  S = state_of b

  module _ (y : running S ≡ true) (n : s.clock ≡ last_clock → ⊥) {m : Bool} (calmly : Calmly b m) (is : m ≡ true) where
    calm : Calm b
    calm = subst (Calmly b) is calmly

    pub calm_room : true ≡ has_room (lead (later S)).now
    calm_room = never_next k calm.led

    -- the commits are all
    pub grown_tick : {t : List ℕ} {i : ℕ} → Gained b t i → {o b' o' : List ℕ} {r : ℕ} → Works (growing (grown_log b t i) S) o 0 b' o' r → Answers (tick S) o b' o' r
    grown_tick {t} {i} g w =
        done_tick k y s e n g {f = true} calm_room refl (works_is (all_grown (grown_log b t i) S calm.blameless calm.led calm.stays) w)

    -- there are none
    pub quiet_tick : {told : List ℕ} → Told b told → (g : Glance) → Seen b told s g → s.statements ≤ g.settled → {b' : List ℕ} → Left b' (with_clock (s.clock + 1) S) → (o : List ℕ)
        → Answers (tick S) o b' o 0
    unfolding state_of state_from
    quiet_tick {told} tells glance seen h {b'} l o =
        let log : tick_log b ≡ some (names b) = told_log b told s e tells (λ j u v. seen.below j u (omega arith)) in
        let g = gained_none b [] (count_of log_table b) refl (form_log b k.form).1 log in
        let same : names b ≡ grown_log b [] (count_of log_table b) = some-injective (names b) (grown_log b [] (count_of log_table b)) (sym log ∙ g.is) in
        let now : Left b' (later S) = subst (Left b') (next_state k s e) l in
        grown_tick g (works_is (grows_none S ∙ ap (λ (m : List ℕ). growing m S) same) (works_none o 0 now))
