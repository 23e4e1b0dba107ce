-- The refusals of a tick, and what it comes to otherwise. Assumes nothing.
use Prim.Native.Nat.{ℕ, ◌+◌, ◌<◌, ◌≤◌}
use mathlib.Core.Path.{◌≡◌, refl, sym, ap, subst, ◌∙◌}
use mathlib.Core.Bool.{true, false}
use mathlib.Core.List.{List}
use mathlib.Core.Option.{Option, none, some}
use native.Mathlib.Omega.{arith}
use lib.ListN.{length, length-append}
use borrow.Author.Tests.{eq-eqb, ne_eqb}
use Rattle.rules.specs.Limits.{last_clock, least_out, least_out_small}
use Rattle.rules.specs.Messages.{outgoing}
use Rattle.rules.specs.Words as words
use Rattle.rules.specs.Words.{State}
use Rattle.rules.specs.Inputs as inputs
use Rattle.rules.specs.Refusals as refusals
use Rattle.rules.specs.WellFormed.{well_formed}
use Rattle.laws.proofs.Bounds.{out_enough}
use Rattle.laws.proofs.Commits.{commits_some}
use Rattle.laws.proofs.Moves.{counted, ticked_none, ticked_some}
use Rattle.kept.proofs.WellFormed.{parts, whole}
use Rattle.kept.proofs.Phases.{clocks_parts, clock_formed}
use Rattle.kept.proofs.Logs.{commits_linked}
use Rattle.kept.proofs.Reports.{due_stored}
use Rattle.kept.proofs.Ticking.{ticked_bytes}
use Rattle.kept.proofs.Calls.{tick_whole}
use Rattle.plain_tables.specs.declared.Cause.{Cause}
use Rattle.plain_tables.specs.declared.Phase.TheVariants.{Stopped}
use Rattle.plain_tables.specs.declared.Engine.{Engine}
use Rattle.plain_tables.specs.Meaning.{names, room, cause_of, state, Sized}
use Rattle.plain_tables.proofs.Laws.{gives_phase}
use Rattle.plain_tables.specs.declared.Names.{Names}
use Rattle.plain_words.specs.Places.{Within}
use Rattle.std.specs.Prelude as code
use Rattle.std.specs.Prelude.{Some, None}
use Rattle.plain_chains.specs.Meaning as chains
use Rattle.plain_chains.specs.Meaning.{maybe_of}
use Rattle.plain_acts.specs.declared.Work.{Work}
use Rattle.plain_acts.specs.Works.{Worked}
use Rattle.plain_logs.proofs.Saying as logs
use Rattle.plain_messages.specs.Whole.{Whole}
use Rattle.plain_turns.specs.declared.Turn.{Turn}
use Rattle.plain_turns.specs.Turns.{chosen, Turned, Answered}
use Rattle.plain_turns.proofs.Laws.{work_turned}
use Rattle.plain_ticks.specs.Ticks.{clocked, halting, Keepable, turning, ticking}

pub halted_turned : (n : ℕ) (why : Cause) (e : Engine) (left : List ℕ) → Sized e → Turned (refusals.stopping n (cause_of why) (state e)) (halting n why e) left
unfolding refusals.stopping refusals.refused outgoing
halted_turned n why e left k = record { number = refl; next = gives_phase e k (Stopped why); count = refl; out = refl }

-- ---- the commits of the next clock

module _ (e t : Engine) (p : t ≡ clocked (e.clock + 1) e) where
  later_is : state t ≡ counted (state e)
  unfolding state counted inputs.with_clock
  later_is = ap state p

  pub later_commits : {o : Option (List ℕ)} → inputs.commits (state t).statements (inputs.due (state t)) (state t).log ≡ o
      → inputs.commits (counted (state e)).statements (inputs.due (counted (state e))) (counted (state e)).log ≡ o
  later_commits {o} q = subst (λ (s : State). inputs.commits s.statements (inputs.due s) s.log ≡ o) later_is q

  pub later_worked : (l : List ℕ) {o left : List ℕ} {w : Work} → Worked (turning l (state t)) o 0 w left → Worked (turning l (counted (state e))) o 0 w left
  later_worked l {o} {left} {w} d = subst (λ (s : State). Worked (turning l s) o 0 w left) later_is d

  pub later_whole : Whole e → e.clock < last_clock → Whole t
  unfolding state inputs.with_clock
  later_whole k c =
      let f = parts (state e) k.formed in
      subst Whole (sym p)
      (record {
        sized = record { statements = k.sized.statements; tallies = k.sized.tallies; log = k.sized.log; small = k.sized.small; good = k.sized.good };
        formed = whole (record { formed = clock_formed f.formed c; few_statements = f.few_statements; few_tallies = f.few_tallies });
      })

module _ (e : Engine) (k : Whole e) (m : code.Option Names) (g : chains.Gives m (inputs.commits (state e).statements (inputs.due (state e)) (state e).log)) where
  pub some_log : (t : Names) → m ≡ Some t → inputs.commits (state e).statements (inputs.due (state e)) (state e).log ≡ some (names t)
  some_log t q = sym g.is ∙ ap maybe_of q

  pub no_log : m ≡ None → inputs.commits (state e).statements (inputs.due (state e)) (state e).log ≡ none
  no_log q = sym g.is ∙ ap maybe_of q

  pub some_keepable : (t : Names) → m ≡ Some t → Keepable e t
  unfolding state
  some_keepable t q =
      let f = (parts (state e) k.formed).formed in
      let within : Within room t.items t.count = rw q at g.within in
      let (r, p) = (commits_some (state e).statements (inputs.due (state e)) (state e).log (names t) (some_log t q)).begins in
      record {
        whole = k;
        within = within;
        grown = omega (arith, logs.counted e.log k.sized.log, logs.counted t within, length-append (names e.log) r, ap length p);
        linked = commits_linked f (inputs.due (state e)) (state e).log (names t) (due_stored (state e)) (some_log t q) f.tables.log;
      }

-- ---- a tick

module _ (s : State) where
  pub ticking_split : inputs.commits (counted s).statements (inputs.due (counted s)) (counted s).log ≡ none → ticking s ≡ refusals.stopping 7 words.split s
  unfolding ticking
  ticking_split q = rw (ticked_none s q, ticking)

  ticking_done : (l : List ℕ) → inputs.commits (counted s).statements (inputs.due (counted s)) (counted s).log ≡ some l
      → ticking s ≡ refusals.if_room s (turning l (counted s))
  unfolding ticking turning
  ticking_done l q = rw (ticked_some s l q, ticking)

  pub tick_stopped : refusals.running s ≡ false → refusals.tick s ≡ refusals.refused 3 s
  unfolding refusals.tick
  tick_stopped q = rw (q, refusals.tick)

  module _ (r : refusals.running s ≡ true) where
    pub tick_last : s.clock ≡ last_clock → refusals.tick s ≡ refusals.stopping 8 words.clock s
    unfolding refusals.tick
    tick_last q = rw (r, eq-eqb s.clock last_clock q, refusals.tick)

    pub tick_ticking : (s.clock ≡ last_clock → ⊥) → refusals.tick s ≡ ticking s
    unfolding refusals.tick ticking
    tick_ticking q = rw (r, ne_eqb s.clock last_clock q, refusals.tick)

-- the least out buffer of a small group
small_out : (e : Engine) → Sized e → least_out (state e).settings.size ≡ least_out_small
unfolding state least_out
small_out e k = rw k.small

earlier : (e : Engine) → e.clock < last_clock → (state e).clock < last_clock
unfolding state
earlier e c = c

module _ (e : Engine) (k : Whole e) where
  pub before_last : (e.clock ≡ last_clock → ⊥) → e.clock < last_clock
  unfolding state
  before_last n = let c = (clocks_parts (state e) (parts (state e) k.formed).formed.clocks).last in omega (arith, c, n)

  module _ (r : refusals.running (state e) ≡ true) (c : e.clock < last_clock) (l : List ℕ)
      (q : inputs.commits (counted (state e)).statements (inputs.due (counted (state e))) (counted (state e)).log ≡ some l) where
    turning_short : length (outgoing (turning l (counted (state e))).out) ≤ least_out_small
    unfolding turning
    turning_short =
        let b = ticked_bytes (parts (state e) k.formed) r (earlier e c) (ticked_some (state e) l q) in
        omega (arith, b, out_enough (state e).settings.size, small_out e k.sized)

    pub ticked_turned : (o : List ℕ) → least_out_small ≤ length o → (w : Work) (left : List ℕ) → Worked (turning l (counted (state e))) o 0 w left
        → Turned (ticking (state e)) (chosen (refusals.has_room (state w.engine)) e w) left
    ticked_turned o h w left d =
        subst (λ (x : refusals.Outcome). Turned x (chosen (refusals.has_room (state w.engine)) e w) left) (sym (ticking_done (state e) l q))
        (work_turned e k.sized (turning l (counted (state e))) o (omega (arith, turning_short)) w left d)

  pub tick_answered : (r : Turn) (left : List ℕ) → Turned (refusals.tick (state e)) r left → Answered (refusals.tick (state e)) r left
  tick_answered r left t =
      record { turned = t; whole = record { sized = t.next.sized; formed = ap well_formed t.next.is ∙ tick_whole (state e) k.formed } }
