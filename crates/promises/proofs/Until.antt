-- Demand 3 of the calls up to a moment K, for stations that stop later: what is asked is asked of the events before K alone. Assumes nothing.
use Prim.Native.Nat.{ℕ, zero, suc, ◌+◌, ◌*◌, ◌≤◌, ◌<◌, ◌^◌}
use native.Mathlib.Omega.{arith}
use mathlib.Core.Path.{◌≡◌, subst, subst₂, refl, sym, ap, ap₂, ◌∙◌}
use mathlib.Core.Bool.{true, false}
use mathlib.Core.List.{List, IsPrefix, ◌++◌, Memᴰ}
use mathlib.Core.Logic.{inl, inr}
use Rattle.rules.specs.Limits.{Size}
use Rattle.rules.specs.Messages.{Message, propose, vote, write, Effect, to_all, to_one}
use Rattle.rules.specs.Words.{State, in_view}
use Rattle.rules.specs.Inputs.{reports}
use Rattle.rules.specs.Refusals.{running, ahead}
use Rattle.agreement.specs.Schedule.{Event, common_tick, given, until, HasRoom, Run, at, out, IsSaid, Speaks, Sound, RoomTo, RunsTo, Premises, Schedule, Linked, lineage, reports_in, OneBegins}
use Rattle.agreement.proofs.Alike.{premises_alike}
use Rattle.agreement.proofs.Until.{until_before, schedule_until}
use Rattle.store.specs.Decode.{names, state_of}
use Rattle.promises.specs.Heard.{heard}
use Rattle.promises.specs.Run.{calls, written, store_at, said_at, wrote_by, calls_run, Lends}
use Rattle.promises.proofs.Promises.{same_states, same_words, to_calls, stores_run, stores_agree, stores_linked, stores_reported, store_commits, store_takes}

module _ (size : Size) (n D : ℕ) (event : ℕ → Event) (room : ℕ → List ℕ) (lent : ℕ → ℕ → List ℕ) (K : ℕ) where
  abbrev E : ℕ → Event
  E = until K event

  -- ---- up to K stores are the same, and so is what is written

  store_until : (i k : ℕ) → k ≤ K → store_at size n D E room lent i k ≡ store_at size n D event room lent i k
  unfolding store_at
  store_until i zero l = refl
  store_until i (suc k) l =
      ap₂ (λ (e : Event) (b : List ℕ). (calls i e b (lent i k)).store) (until_before K event k l) (store_until i k (omega arith))

  said_until : (i k : ℕ) → k < K → said_at size n D E room lent i k ≡ said_at size n D event room lent i k
  unfolding said_at
  said_until i k l =
      ap₂ (λ (e : Event) (b : List ℕ). written (calls i e b (lent i k))) (until_before K event k l) (store_until i k (omega arith))

  wrote_until : (i k : ℕ) → k ≤ K → wrote_by size n D E room lent i k ≡ wrote_by size n D event room lent i k
  unfolding wrote_by
  wrote_until i zero l = refl
  wrote_until i (suc k) l = ap₂ ◌++◌ (wrote_until i k (omega arith)) (said_until i k l)

  module _ (faulty : ℕ) (L : Lends size n D event room lent faulty) (height_of parent_of : ℕ → ℕ) where
    abbrev C : Run
    C = calls_run size n D event room lent

    lends_until : Lends size n D E room lent faulty
    lends_until = record { store = L.store; out = L.out }

    -- the premises of the whole schedule hold up to each moment; who is full or at the last clock only after K is sound up to K
    pub calls_until : Premises C faulty height_of parent_of → RoomTo C faulty K → Schedule (calls_run size n D E room lent) faulty height_of parent_of
    calls_until P space =
        let states = same_states size n D event room lent faulty L P.settings P.lent in
        let words = same_words size n D event room lent faulty L P.settings P.lent in
        to_calls size n D E room lent faulty lends_until height_of parent_of
        (schedule_until size n D event K faulty height_of parent_of (premises_alike C (at size n D event) (out size n D event) faulty height_of parent_of states words P)
        (λ i ok k l. subst HasRoom (states i ok k) (space i ok k l)))

    -- ---- A, B, C and D up to K

    module _ (X : Schedule (calls_run size n D E room lent) faulty height_of parent_of) where
      abbrev holds : ℕ → ℕ → State
      holds i k = state_of (store_at size n D event room lent i k)

      abbrev log : ℕ → ℕ → List ℕ
      log i k = names (store_at size n D event room lent i k)

      spoken : (i k : ℕ) (e : Effect) → k < K → IsSaid C i k e → IsSaid (calls_run size n D E room lent) i k e
      spoken i k e l = subst (λ (o : List ℕ). Memᴰ e (heard o)) (sym (said_until i k l))

      pub stores_run_until : RunsTo C faulty K
      stores_run_until i ok k l =
          subst (λ (b : List ℕ). running (state_of b) ≡ true) (store_until i k l) (stores_run size n D E room lent faulty lends_until height_of parent_of X i ok k)

      -- of the logs in the stores of two stations that are sound up to K, at whatever moments up to K, one begins the other
      pub stores_agree_until : (i j : ℕ) → Sound C faulty i → Sound C faulty j → (k l : ℕ) → k ≤ K → l ≤ K
          → OneBegins (log i k) (log j l)
      stores_agree_until i j hi hj k l u v =
          subst₂ (λ (a b : List ℕ). OneBegins (names a) (names b)) (store_until i k u) (store_until j l v)
          (stores_agree size n D E room lent faulty lends_until height_of parent_of X i j hi hj k l)

      pub stores_linked_until : (i : ℕ) → Sound C faulty i → (k : ℕ) → k ≤ K → Linked parent_of 0 (log i k)
      stores_linked_until i ok k l =
          subst (λ (b : List ℕ). Linked parent_of 0 (names b)) (store_until i k l)
          (stores_linked size n D E room lent faulty lends_until height_of parent_of X i ok k)

      pub stores_reported_until : (i : ℕ) → Sound C faulty i → (k : ℕ) → k ≤ K → reports_in (heard (wrote_by size n D event room lent i k)) ≡ reports 1 (log i k)
      stores_reported_until i ok k l =
          subst₂ (λ (w b : List ℕ). reports_in (heard w) ≡ reports 1 (names b)) (wrote_until i k l) (store_until i k l)
          (stores_reported size n D E room lent faulty lends_until height_of parent_of X i ok k)

      pub store_commits_until : (r : ℕ) → Sound C faulty r → (j v h b p m a : ℕ) → IsSaid C r j (to_all (propose v h b p m a)) → IsSaid C r j (to_all (vote v h b r))
          → (k : ℕ) → j < k → k < K → event k ≡ common_tick → (holds r k).clock ≡ (holds r (suc j)).clock + 2 * D → (holds r k).phase ≡ in_view → (holds r k).view ≡ v
          → IsPrefix (lineage parent_of h b) (log r (suc k))
      store_commits_until r ok j v h b p m a s w k before l e d ph vw =
          let here = ap state_of (store_until r k (omega arith)) in
          let then = ap state_of (store_until r (suc j) (omega arith)) in
          subst (λ (x : List ℕ). IsPrefix (lineage parent_of h b) (names x)) (store_until r (suc k) l)
          (store_commits size n D E room lent faulty lends_until height_of parent_of X r ok j v h b p m a (spoken r j _ (omega arith) s) (spoken r j _ (omega arith) w) k (until_before K event k l ∙ e)
          (ap (λ (x : State). x.clock) here ∙ d ∙ ap (λ (x : State). x.clock + 2 * D) (sym then)) (ap (λ (x : State). x.phase) here ∙ ph) (ap (λ (x : State). x.view) here ∙ vw))

      pub store_takes_until : (i j : ℕ) → Sound C faulty i → Sound C faulty j → (l k : ℕ) (m : Message) → Speaks C i l m → l < k → k < K
          → (ahead m (holds j k) ≡ false) × (event k ≡ given j (write m) → (calls j (event k) (store_at size n D event room lent j k) (lent j k)).result < 2 ^ 32)
      store_takes_until i j hi hj l k m s o u =
          let here = store_until j k (omega arith) in
          let now = until_before K event k u in
          let (a, b) = store_takes size n D E room lent faulty lends_until height_of parent_of X i j hi hj l k m (told s) o in (
            subst (λ (x : List ℕ). ahead m (state_of x) ≡ false) here a,
            λ e. subst₂ (λ (y : Event) (x : List ℕ). (calls j y x (lent j k)).result < 2 ^ 32) now here (b (now ∙ e)),
          )
        where
          told : Speaks C i l m → Speaks (calls_run size n D E room lent) i l m
          told (inl x) = inl (spoken i l (to_all m) (omega arith) x)
          told (inr (t, x)) = inr (t, spoken i l (to_one t m) (omega arith) x)
