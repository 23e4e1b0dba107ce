-- Demand 3 of the calls, with every premise and every conclusion about stores and bytes: whatever bytes the stores and out buffers of
-- sound stations hold at first, the logs in the stores agree, the committed fields written are those logs, a vote that lasts is in the
-- log, and no message of a sound station is refused by a sound station. Assumes nothing.
use Prim.Native.Nat.{ℕ, suc, ◌+◌, ◌*◌, ◌<◌, ◌^◌}
use mathlib.Core.Path.{◌≡◌, subst, subst₂, refl, sym, ap, ◌∙◌}
use mathlib.Core.Bool.{true, false}
use mathlib.Core.List.{List, IsPrefix}
use mathlib.Core.Logic.{inl, inr}
use Rattle.rules.specs.Limits.{Size}
use Rattle.rules.specs.Sizes.{good_settings}
use Rattle.rules.specs.Messages.{Message, propose, vote, write, Effect, to_all, to_one}
use Rattle.rules.specs.Words.{State, in_view}
use Rattle.rules.specs.Inputs.{reports}
use Rattle.rules.specs.Refusals.{running, ahead}
use Rattle.agreement.specs.Schedule.{Event, common_tick, given, settings_of, clock, Run, at, out, run, IsSaid, Speaks, Sound, GoodSettings, ProperBuffers, SoundRun, Schedule, Linked, lineage, reports_in, reported, OneBegins}
use Rattle.agreement.proofs.Whole.{settings_alike}
use Rattle.agreement.proofs.Alike.{says_alike, schedule_alike}
use Rattle.agreement.proofs.Theorems.{sound_run, logs_agree, one_clerk, vote_commits, sound_taken, clock_held}
use Rattle.store.specs.Decode.{names, state_from, state_of}
use Rattle.promises.specs.Heard.{heard}
use Rattle.promises.specs.Run.{calls, store_at, said_at, wrote_by, calls_run, Lends}
use Rattle.promises.proofs.Carried.{state_carried, taken_carried, heard_carried, reports_carried}

-- a store's log is that of its state
state_log : (b : List ℕ) → names b ≡ (state_of b).log
unfolding state_of state_from
state_log b = refl

module _ (size : Size) (n D : ℕ) (event : ℕ → Event) (room : ℕ → List ℕ) (lent : ℕ → ℕ → List ℕ) (faulty : ℕ) (L : Lends size n D event room lent faulty) where
  abbrev C : Run
  C = calls_run size n D event room lent

  abbrev R : Run
  R = run size n D event

  -- ---- sound stations hold and say what the rules say

  module _ (settings : GoodSettings C) (proper : ProperBuffers C) where
    good_of : (i : ℕ) → Sound C faulty i → good_settings (settings_of size n D i) ≡ true
    good_of i ok = settings_alike size n D i settings ok.0

    pub same_states : (i : ℕ) → Sound C faulty i → (k : ℕ) → state_of (store_at size n D event room lent i k) ≡ at size n D event i k
    same_states i ok k = state_carried size n D event proper room lent i (good_of i ok) (L.store i ok) (L.out i ok) k

    pub same_words : (i : ℕ) → Sound C faulty i → (k : ℕ) → heard (said_at size n D event room lent i k) ≡ out size n D event i k
    same_words i ok k = heard_carried size n D event proper room lent i (good_of i ok) (L.store i ok) (L.out i ok) k

    pub same_reports : (i : ℕ) → Sound C faulty i → (k : ℕ) → reports_in (heard (wrote_by size n D event room lent i k)) ≡ reported R i k
    same_reports i ok k = reports_carried size n D event proper room lent i (good_of i ok) (L.store i ok) (L.out i ok) k

  module _ (height_of parent_of : ℕ → ℕ) where
    -- a schedule of the calls is one of the rules, and back
    pub to_rules : Schedule C faulty height_of parent_of → Schedule R faulty height_of parent_of
    to_rules X =
        let P = X.premises in
        schedule_alike C (at size n D event) (out size n D event) faulty height_of parent_of (same_states P.settings P.lent) (same_words P.settings P.lent) X

    pub to_calls : Schedule R faulty height_of parent_of → Schedule C faulty height_of parent_of
    to_calls X =
        let P = X.premises in
        schedule_alike R C.state C.said faulty height_of parent_of
        (λ i ok k. sym (same_states P.settings P.lent i ok k)) (λ i ok k. sym (same_words P.settings P.lent i ok k)) X

    module _ (X : Schedule C faulty height_of parent_of) where
      -- the state that a station's store holds, and the log in it
      abbrev holds : ℕ → ℕ → State
      holds i k = state_of (store_at size n D event room lent i k)

      abbrev log : ℕ → ℕ → List ℕ
      log i k = names (store_at size n D event room lent i k)

      states : (i : ℕ) → Sound C faulty i → (k : ℕ) → holds i k ≡ at size n D event i k
      states = same_states X.premises.settings X.premises.lent

      logs : (i : ℕ) → Sound C faulty i → (k : ℕ) → log i k ≡ (at size n D event i k).log
      logs i ok k = state_log (store_at size n D event room lent i k) ∙ ap (λ (s : State). s.log) (states i ok k)

      spoken : (i k : ℕ) (e : Effect) → Sound C faulty i → IsSaid C i k e → IsSaid R i k e
      spoken = says_alike C (at size n D event) (out size n D event) faulty height_of parent_of states (same_words X.premises.settings X.premises.lent)

      clocks : (i : ℕ) → Sound C faulty i → (k : ℕ) → clock event i k ≡ (holds i k).clock
      clocks i ok k = sym (ap (λ (s : State). s.clock) (states i ok k) ∙ clock_held size n D event faulty height_of parent_of (to_rules X) i ok k)

      -- Theorem C of the calls: the store of a sound station never holds one that is stopped
      pub stores_run : SoundRun C faulty
      stores_run i ok k =
          subst (λ (s : State). running s ≡ true) (sym (states i ok k)) (sound_run size n D event faulty height_of parent_of (to_rules X) i ok k)

      -- Theorem A of the calls: of the logs in the stores of two sound stations, at whatever moments, one begins the other
      pub stores_agree : (i j : ℕ) → Sound C faulty i → Sound C faulty j → (k l : ℕ) → OneBegins (log i k) (log j l)
      stores_agree i j hi hj k l =
          subst₂ (λ (a b : List ℕ). OneBegins a b) (sym (logs i hi k)) (sym (logs j hj l))
          (logs_agree size n D event faulty height_of parent_of (to_rules X) i j hi hj k l)

      -- each is linked by parent to genesis
      pub stores_linked : (i : ℕ) → Sound C faulty i → (k : ℕ) → Linked parent_of 0 (log i k)
      stores_linked i ok k = subst (Linked parent_of 0) (sym (logs i ok k)) (one_clerk size n D event faulty height_of parent_of (to_rules X) i ok k).0

      -- "reported once", in order: the committed fields in all bytes that a sound station's calls wrote to the out buffers are the log in
      -- its store, name by name, with heights 1, 2, 3, ..
      pub stores_reported : (i : ℕ) → Sound C faulty i → (k : ℕ) → reports_in (heard (wrote_by size n D event room lent i k)) ≡ reports 1 (log i k)
      stores_reported i ok k =
          same_reports X.premises.settings X.premises.lent i ok k
          ∙ (one_clerk size n D event faulty height_of parent_of (to_rules X) i ok k).1 ∙ ap (reports 1) (sym (logs i ok k))

      -- Theorem B of the calls: a sound station whose call of event j wrote a propose and its vote to all, and whose store at 2D ticks
      -- later is in that view, has that block and all its ancestors in the log of its store after the next tick
      pub store_commits : (r : ℕ) → Sound C faulty r → (j v h b p m a : ℕ) → IsSaid C r j (to_all (propose v h b p m a)) → IsSaid C r j (to_all (vote v h b r))
          → (k : ℕ) → event k ≡ common_tick → (holds r k).clock ≡ (holds r (suc j)).clock + 2 * D → (holds r k).phase ≡ in_view → (holds r k).view ≡ v
          → IsPrefix (lineage parent_of h b) (log r (suc k))
      store_commits r ok j v h b p m a s w k e d ph vw =
          let here = states r ok k in
          subst (λ (l : List ℕ). IsPrefix (lineage parent_of h b) l) (sym (logs r ok (suc k)))
          (vote_commits size n D event faulty height_of parent_of (to_rules X) r ok j v h b p m a (spoken r j _ ok s) (spoken r j _ ok w) k e
          (clocks r ok k ∙ d ∙ ap (◌+ 2 * D) (sym (clocks r ok (suc j)))) (sym (ap (λ (s : State). s.phase) here) ∙ ph) (sym (ap (λ (s : State). s.view) here) ∙ vw))

      -- Theorem D of the calls: a message that a sound station's call of event l wrote, to all or to whomever, is at no later moment too
      -- far ahead of what the store of a sound station j holds; the call to which event k hands it over answers 0 and a count
      pub store_takes : (i j : ℕ) → Sound C faulty i → Sound C faulty j → (l k : ℕ) (m : Message) → Speaks C i l m → l < k
          → (ahead m (holds j k) ≡ false) × (event k ≡ given j (write m) → (calls j (event k) (store_at size n D event room lent j k) (lent j k)).result < 2 ^ 32)
      store_takes i j hi hj l k m s o =
          let P = X.premises in
          let (a, b) = sound_taken size n D event faulty height_of parent_of (to_rules X) i j hi hj l k m (told s) o in (
            subst (λ (x : State). ahead m x ≡ false) (sym (states j hj k)) a,
            λ e. taken_carried size n D event P.lent room lent j (good_of P.settings P.lent j hj) (L.store j hj) (L.out j hj) k (b e),
          )
        where
          told : Speaks C i l m → Speaks R i l m
          told (inl x) = inl (spoken i l (to_all m) hi x)
          told (inr (t, x)) = inr (t, spoken i l (to_one t m) hi x)
