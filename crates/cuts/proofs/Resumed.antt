-- A station that replays and missed nothing holds what it held, so all that is shown of the schedule holds of it. Assumes nothing.
use Prim.Native.Nat.{ℕ, zero, suc, ◌+◌, ◌≤◌, ◌<◌, ◌^◌}
use mathlib.Core.Path.{◌≡◌, refl, sym, ap, ap₂, ◌∙◌, subst}
use mathlib.Core.Bool.{true, false}
use mathlib.Core.List.{List, [], ◌∷◌, ◌++◌, append-nil}
use native.Mathlib.Omega.{arith}
use lib.ListN.{length}
use lib.Dec.{eqb}
use Rattle.rules.specs.Limits.{Size, least_out}
use Rattle.rules.specs.Lists.{unbe}
use Rattle.rules.specs.Sizes.{good_settings}
use Rattle.rules.specs.Words.{fresh}
use Rattle.laws.proofs.Tests.{by_bool}
use Rattle.laws.proofs.Searches.{All}
use Rattle.fields.specs.Places.{Bytes}
use Rattle.agreement.specs.Schedule.{Event, idle, common_tick, tick_of, given, offered_to, settings_of, IsLent, at}
use Rattle.store.specs.Layout.{store_length}
use Rattle.store.specs.Decode.{encode}
use Rattle.calls.specs.Calls.{Called, answered}
use Rattle.promises.specs.Run.{untouched, calls, store_at}
use Rattle.promises.proofs.Carried.{store_carried, bytes_at_lem, call_with, out_kept}
use Rattle.journal.specs.Journal.{slot_count}
use Rattle.keeping.specs.Taken.{is_taken}
use Rattle.slot_replay.specs.Handed.{handed}
use Rattle.replay.specs.Replay.{has_lengths, replaying, reported, replayed}
use Rattle.slot_replay.proofs.Untaken.{hands_tick, hands_offer, hands_step}
use Rattle.cuts.specs.Disk.{Try, Proper, try_all, Zeroed}
use Rattle.cuts.specs.After.{completed, store_after, out_after, AllTaken, replay_of}
use Rattle.cuts.specs.Resumed.{input_of, kept}
use Rattle.cuts.proofs.Cuts.{replay_fresh}

-- ---- one input more

module _ (k : ℕ) (bs : List ℕ) where
  store_more : (xs : List (ℕ × List ℕ)) (b o : List ℕ) → store_after (xs ++ (k, bs) ∷ []) b o ≡ (handed k bs (store_after xs b o) (out_after xs b o)).store
  unfolding store_after out_after
  store_more [] b o = refl
  store_more (x ∷ xs) b o = store_more xs (handed x.0 x.1 b o).store (handed x.0 x.1 b o).out

  out_more : (xs : List (ℕ × List ℕ)) (b o : List ℕ) → out_after (xs ++ (k, bs) ∷ []) b o ≡ (handed k bs (store_after xs b o) (out_after xs b o)).out
  unfolding store_after out_after
  out_more [] b o = refl
  out_more (x ∷ xs) b o = out_more xs (handed x.0 x.1 b o).store (handed x.0 x.1 b o).out

  taken_more : (xs : List (ℕ × List ℕ)) (b o : List ℕ) → AllTaken xs b o → is_taken (handed k bs (store_after xs b o) (out_after xs b o)).result ≡ true → AllTaken (xs ++ (k, bs) ∷ []) b o
  unfolding store_after out_after
  taken_more [] b o w t = (t, tt)
  taken_more (x ∷ xs) b o w t = (w.0, taken_more xs (handed x.0 x.1 b o).store (handed x.0 x.1 b o).out w.1 t)

-- ---- an event as an input

-- an event hands a station nothing, or what its call hands over; what isn't taken leaves the store
data Input (i : ℕ) (e : Event) : Type 0 where
  nothing : input_of i e ≡ [] → ((b o : List ℕ) → calls i e b o ≡ untouched b o) → Input i e
  one : (k : ℕ) (bs : List ℕ) → input_of i e ≡ (k, bs) ∷ [] → ((b o : List ℕ) → handed k bs b o ≡ calls i e b o)
      → ((b o : List ℕ) → Bytes b → is_taken (handed k bs b o).result ≡ false → (handed k bs b o).store ≡ b) → Input i e

input : (i : ℕ) (e : Event) → Input i e
unfolding input_of calls handed
input i idle = nothing refl (λ b o. refl)
input i common_tick = one 1 [] refl (λ b o. refl) (λ b o h. λ t. ((hands_tick 1 [] b o h refl (record { result = refl; store = refl; out = refl })).untaken t).0)
input i (tick_of j) =
    by_bool (eqb i j)
    (λ q. one 1 [] (rw (q, input_of)) (λ b o. rw (q, calls, handed)) (λ b o h. λ t. ((hands_tick 1 [] b o h refl (record { result = refl; store = refl; out = refl })).untaken t).0))
    (λ q. nothing (rw (q, input_of)) (λ b o. rw (q, calls)))
input i (given j bs) =
    by_bool (eqb i j)
    (λ q. one 3 bs (rw (q, input_of)) (λ b o. rw (q, calls, handed)) (λ b o h. λ t. ((hands_step 3 bs b o h (λ e. omega (arith, e)) (λ e. omega (arith, e)) (record { result = refl; store = refl; out = refl })).untaken t).0))
    (λ q. nothing (rw (q, input_of)) (λ b o. rw (q, calls)))
input i (offered_to j name) =
    by_bool (eqb i j)
    (λ q. one 2 (unbe 32 name) (rw (q, input_of)) (λ b o. rw (q, calls, handed)) (λ b o h. λ t. ((hands_offer 2 (unbe 32 name) b o h (λ e. omega (arith, e)) refl (record { result = refl; store = refl; out = refl })).untaken t).0))
    (λ q. nothing (rw (q, input_of)) (λ b o. rw (q, calls)))

-- ---- along a schedule

module _ (size : Size) (n D : ℕ) (event : ℕ → Event) (proper : (k : ℕ) → IsLent (event k)) (room : ℕ → List ℕ) (lent : ℕ → ℕ → List ℕ) (i : ℕ)
    (good : good_settings (settings_of size n D i) ≡ true) (long : length (room i) ≡ store_length size) (wide : (k : ℕ) → least_out size ≤ length (lent i k)) where
  abbrev store : ℕ → List ℕ
  store k = store_at size n D event room lent i k

  abbrev inputs : ℕ → List (ℕ × List ℕ)
  inputs k = kept size n D event room lent i k

  -- handed over again, with any out buffer, the inputs are taken again and leave the store
  record Resumes (k : ℕ) (o : List ℕ) (xs : List (ℕ × List ℕ)) : Type 0 where
    pub held : store_after xs (store 0) o ≡ store k
    pub wide_out : least_out size ≤ length (out_after xs (store 0) o)
    pub taken : AllTaken xs (store 0) o

  none_yet : (o : List ℕ) → least_out size ≤ length o → Resumes 0 o []
  unfolding store_after out_after
  none_yet o l = record { held = refl; wide_out = l; taken = tt }

  -- a call on the store, whatever is lent: the same result and the same next store
  module _ (k : ℕ) (o : List ℕ) (l : least_out size ≤ length o) where
    same_result : (calls i (event k) (store k) o).result ≡ (calls i (event k) (store k) (lent i k)).result
    unfolding answered
    same_result =
        ap (λ (c : Called). c.result) (call_with size n D event proper room lent i good long wide k o l)
        ∙ sym (ap (λ (c : Called). c.result) (call_with size n D event proper room lent i good long wide k (lent i k) (wide k)))

    same_store : (calls i (event k) (store k) o).store ≡ store (suc k)
    unfolding answered store_at
    same_store =
        ap (λ (c : Called). c.store) (call_with size n D event proper room lent i good long wide k o l)
        ∙ sym (ap (λ (c : Called). c.store) (call_with size n D event proper room lent i good long wide k (lent i k) (wide k)))

  -- what the event hands over is taken, and is kept
  module _ (k : ℕ) (o : List ℕ) (xs : List (ℕ × List ℕ)) (r : Resumes k o xs) where
    abbrev o' : List ℕ
    o' = out_after xs (store 0) o

    still : store k ≡ store (suc k) → Resumes (suc k) o xs
    still e = record { held = r.held ∙ e; wide_out = r.wide_out; taken = r.taken }

    goes_on : (c : ℕ) (bs : List ℕ) → ((b o : List ℕ) → handed c bs b o ≡ calls i (event k) b o) → is_taken (calls i (event k) (store k) (lent i k)).result ≡ true
        → Resumes (suc k) o (xs ++ (c, bs) ∷ [])
    goes_on c bs h t =
        let e : handed c bs (store_after xs (store 0) o) o' ≡ calls i (event k) (store k) o' = ap (λ (b : List ℕ). handed c bs b o') r.held ∙ h (store k) o' in
        record {
          held = store_more c bs xs (store 0) o ∙ ap (λ (c : Called). c.store) e ∙ same_store k o' r.wide_out;
          wide_out =
              subst (λ (z : ℕ). least_out size ≤ z)
              (sym (ap length (out_more c bs xs (store 0) o) ∙ ap (λ (c : Called). length c.out) e ∙ out_kept size n D event proper room lent i good long wide k o' r.wide_out))
              r.wide_out;
          taken = taken_more c bs xs (store 0) o r.taken (ap (λ (c : Called). is_taken c.result) e ∙ ap is_taken (same_result k o' r.wide_out) ∙ t);
        }

    untouched_store : ((b o : List ℕ) → calls i (event k) b o ≡ untouched b o) → store k ≡ store (suc k)
    unfolding store_at untouched
    untouched_store u = sym (ap (λ (c : Called). c.store) (u (store k) (lent i k)))

    untaken_store : (c : ℕ) (bs : List ℕ) → ((b o : List ℕ) → handed c bs b o ≡ calls i (event k) b o)
        → ((b o : List ℕ) → Bytes b → is_taken (handed c bs b o).result ≡ false → (handed c bs b o).store ≡ b) → is_taken (calls i (event k) (store k) (lent i k)).result ≡ false
        → store k ≡ store (suc k)
    unfolding store_at
    untaken_store c bs h u t =
        let e = h (store k) (lent i k) in
        sym (sym (ap (λ (c : Called). c.store) e) ∙ u (store k) (lent i k) (bytes_at_lem size n D event proper room lent i good long wide k) (ap (λ (c : Called). is_taken c.result) e ∙ t))

    -- the moment after
    next : Resumes (suc k) o (xs ++ elim (is_taken (calls i (event k) (store k) (lent i k)).result) [ true ↦ input_of i (event k) | false ↦ [] ])
    next =
        by (input i (event k))
      where
        by : Input i (event k) → Resumes (suc k) o (xs ++ elim (is_taken (calls i (event k) (store k) (lent i k)).result) [ true ↦ input_of i (event k) | false ↦ [] ])
        by (nothing e u) =
            by_bool (is_taken (calls i (event k) (store k) (lent i k)).result) (λ t. rw (t, e, append-nil xs) (still (untouched_store u)))
            (λ t. rw (t, append-nil xs) (still (untouched_store u)))
        by (one c bs e h u) =
            by_bool (is_taken (calls i (event k) (store k) (lent i k)).result) (λ t. rw (t, e) (goes_on c bs h t)) (λ t. rw (t, append-nil xs) (still (untaken_store c bs h u t)))

  resumes : (k : ℕ) (o : List ℕ) → least_out size ≤ length o → Resumes k o (inputs k)
  unfolding kept
  resumes zero o l = none_yet o l
  resumes (suc k) o l = next k o (inputs k) (resumes k o l)

  -- the records of a station that missed nothing: whatever cuts there were, its inputs before moment k were completed. A replay from
  -- fresh then leaves the very store that the schedule has at that moment
  module _ (ts : List Try) (w : All Proper ts) (j : List ℕ) (z : Zeroed j) (h : slot_count j < 2 ^ 32) (o t : List ℕ) (k : ℕ)
      (missed-nothing : completed ts (slot_count j) ≡ inputs k) (lengths : has_lengths (try_all ts j) (store 0) o t ≡ true) (l : least_out size ≤ length o) where
    abbrev first : List ℕ
    first = encode (fresh (settings_of size n D i))

    first_is_lem : store 0 ≡ first
    unfolding at
    first_is_lem = store_carried size n D event proper room lent i good long wide 0

    pub replay_resumes : (replaying (try_all ts j) (store 0) o t).store ≡ store k
    unfolding reported replay_of replayed
    replay_resumes =
        let r = resumes k o l in
        let a : AllTaken (completed ts (slot_count j)) first o = subst (λ (b : List ℕ). AllTaken (completed ts (slot_count j)) b o) first_is_lem (subst (λ cs. AllTaken cs (store 0) o) (sym missed-nothing) r.taken) in
        let e : has_lengths (try_all ts j) first o t ≡ true = subst (λ (b : List ℕ). has_lengths (try_all ts j) b o t ≡ true) first_is_lem lengths in
        ap (λ (b : List ℕ). (replaying (try_all ts j) b o t).store) first_is_lem
        ∙ ap (λ v. v.store) (replay_fresh ts w j z h o t (settings_of size n D i) good e a)
        ∙ ap₂ (λ cs b. store_after cs b o) missed-nothing (sym first_is_lem) ∙ r.held
