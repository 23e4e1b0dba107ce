-- Along a schedule a store is the bytes of the rules' state, and what a call writes is what the rules say. Assumes nothing.
use Prim.Native.Nat.{ℕ, zero, suc, ◌+◌, ◌*◌, ◌%◌, ◌≤◌, ◌<◌, ◌^◌}
use native.Mathlib.Omega.{arith}
use mathlib.Core.Path.{◌≡◌, refl, subst, sym, ap, ap₂, ◌∙◌}
use mathlib.Core.Bool.{true, false}
use mathlib.Core.List.{List, [], ◌++◌}
use lib.ListN.{length, drop, length-append, length-drop}
use lib.Seq.{take_at}
use lib.Dec.{eqb, lit≤}
use Rattle.rules.specs.Limits.{Size, small, large, least_out, least_out_large}
use Rattle.rules.specs.Lists.{be, unbe}
use Rattle.rules.specs.Sizes.{Settings, good_settings}
use Rattle.rules.specs.Messages.{Effect, outgoing}
use Rattle.rules.specs.Words.{State, fresh}
use Rattle.rules.specs.Inputs.{saying}
use Rattle.rules.specs.Refusals.{Outcome, done, step, offer, tick, result}
use Rattle.rules.specs.WellFormed.{well_formed}
use Rattle.laws.proofs.Bytes.{length_unbe, be_unbe}
use Rattle.laws.proofs.Tests.{by_bool}
use borrow.Author.Tests.{eq-eqb, le-leb}
use Rattle.kept.proofs.Outs.{step_room, offer_room, tick_room}
use Rattle.kept.specs.Said.{Each, Sayable}
use Rattle.kept.proofs.Lists.{each_append}
use Rattle.kept.proofs.WellFormed.{whole}
use Rattle.fields.specs.Places.{Bytes}
use Rattle.agreement.specs.Schedule.{Event, idle, common_tick, tick_of, given, offered_to, happens, settings_of, at, out, run, IsLent, reports_in, reported}
use Rattle.agreement.proofs.Whole.{formed_at, settings_at, said_at_lem}
use Rattle.agreement.proofs.Logs.{reports_in_append}
use Rattle.store.specs.Layout.{store_length, size_in}
use Rattle.store.specs.Decode.{state_from, state_of, encode}
use Rattle.fresh.specs.Fresh.{freshly, answer}
use Rattle.store.proofs.Forms.{parts as form-parts, sized}
use Rattle.oneform.proofs.OneForm.{encoded_left, encoded}
use Rattle.calls.specs.Calls.{Called, answered, called, step_called, tick_called, offer_called}
use Rattle.promises.specs.Heard.{heard}
use Rattle.promises.specs.Run.{untouched, calls, written, store_at, said_at, wrote_by}
use Rattle.promises.proofs.Heard.{heard_outgoing, outgoing_append}

-- ---- one call

-- a call on the bytes of a well-formed state is answered as the rules answer of that state
encoded_size : (s : State) → well_formed s ≡ true → size_in (encode s) ≡ s.settings.size
unfolding state_of state_from
encoded_size s w = ap (λ (x : State). x.settings.size) (encoded_left s w).is

pub called_encoded : (f : State → Outcome) (s : State) (o : List ℕ) → well_formed s ≡ true → least_out s.settings.size ≤ length o → called f (encode s) o ≡ answered (f s) o
unfolding called
called_encoded f s o w l =
    let e = encoded_left s w in
    let z = size_in (encode s) in
    let r : least_out z ≤ length o = subst (λ (y : Size). least_out y ≤ length o) (sym (encoded_size s w)) l in
    rw (eq-eqb (length (encode s)) (store_length z) (form-parts (encode s) e.form.form).long, le-leb (least_out z) (length o) r, called, (encoded s w).1)

-- a call that is not made answers as the rules do where nothing happens
idle_answered : (s : State) (o : List ℕ) → untouched (encode s) o ≡ answered (done (saying s [])) o
unfolding untouched answered done saying result outgoing
idle_answered s o = refl

-- whether the event is for station i
own_or_not : (i j : ℕ) (f : State → Outcome) (s : State) (o : List ℕ) (c : Called) → c ≡ answered (f s) o
    → elim (eqb i j) [ true ↦ c | false ↦ untouched (encode s) o ] ≡ answered (elim (eqb i j) [ true ↦ f s | false ↦ done (saying s []) ]) o
own_or_not i j f s o c e = by_bool (eqb i j) (λ q. rw q e) (λ q. rw q (idle_answered s o))

-- an offered name is the number of its bytes
offer_named : (name b o : List ℕ) → length name ≡ 32 → offer_called name b o ≡ called (offer (be name)) b o
unfolding offer_called
offer_named name b o e = rw (eq-eqb (length name) 32 e, offer_called)

offer_answered : (b : ℕ) (s : State) (o : List ℕ) → b < 256 ^ 32 → well_formed s ≡ true → least_out s.settings.size ≤ length o → offer_called (unbe 32 b) (encode s) o ≡ answered (offer b s) o
offer_answered b s o h w l =
    offer_named (unbe 32 b) (encode s) o (length_unbe 32 b)
    ∙ ap (λ (x : ℕ). called (offer x) (encode s) o) (be_unbe 32 b h)
    ∙ called_encoded (offer b) s o w l

calls_answered : (i : ℕ) (e : Event) (s : State) (o : List ℕ) → IsLent e → well_formed s ≡ true → least_out s.settings.size ≤ length o
    → calls i e (encode s) o ≡ answered (happens i e s) o
unfolding calls happens tick_called step_called
calls_answered i idle s o h w l = idle_answered s o
calls_answered i common_tick s o h w l = called_encoded tick s o w l
calls_answered i (tick_of j) s o h w l = own_or_not i j tick s o (tick_called (encode s) o) (called_encoded tick s o w l)
calls_answered i (given j bs) s o h w l = own_or_not i j (step bs) s o (step_called bs (encode s) o) (called_encoded (step bs) s o w l)
calls_answered i (offered_to j b) s o h w l =
    own_or_not i j (offer b) s o (offer_called (unbe 32 b) (encode s) o) (offer_answered b s o h w l)

-- ---- what an event writes

-- what is said fits the out buffer
Fits : Size → Outcome → Type 0
Fits z x = length (outgoing x.out) ≤ least_out z

nothing_fits : (z : Size) (s : State) → Fits z (done (saying s []))
unfolding Fits done saying outgoing
nothing_fits z s = omega arith

one_fits : (z : Size) (i j : ℕ) (x : Outcome) (s : State) → Fits z x → Fits z (elim (eqb i j) [ true ↦ x | false ↦ done (saying s []) ])
one_fits z i j x s h = by_bool (eqb i j) (λ q. rw q h) (λ q. rw q (nothing_fits z s))

fits : (i : ℕ) (e : Event) (s : State) → well_formed s ≡ true → Fits s.settings.size (happens i e s)
unfolding happens Fits
fits i idle s w = nothing_fits s.settings.size s
fits i common_tick s w = tick_room s w
fits i (tick_of j) s w = one_fits s.settings.size i j (tick s) s (tick_room s w)
fits i (given j bs) s w = one_fits s.settings.size i j (step bs s) s (step_room s bs)
fits i (offered_to j b) s w = one_fits s.settings.size i j (offer b s) s (offer_room s b)

pub answered_store : (x : Outcome) (o : List ℕ) → (answered x o).store ≡ encode x.next
unfolding answered
answered_store x o = refl

out_most : (z : Size) → least_out z ≤ least_out_large
unfolding least_out
out_most small = lit≤ tt
out_most large = lit≤ tt

-- what was written is what the rules say
written_answered : (z : Size) (x : Outcome) (o : List ℕ) → length (outgoing x.out) ≤ least_out z → written (answered x o) ≡ outgoing x.out
unfolding written answered result
written_answered z x o h =
    let said = outgoing x.out in
    let r : (x.number * 2 ^ 32 + length said) % 2 ^ 32 ≡ length said = omega (arith, out_most z) in
    rw r (take_at said (drop (length said) o) (length said) refl)

-- a call that the rules don't refuse answers a count alone
taken_answered : (z : Size) (x : Outcome) (o : List ℕ) → x.number ≡ 0 → length (outgoing x.out) ≤ least_out z → (answered x o).result < 2 ^ 32
unfolding answered result
taken_answered z x o e h = rw e (omega (arith, out_most z))

-- ---- the schedule

fresh_store : (b : List ℕ) (size : Size) (n D i : ℕ) → length b ≡ store_length size → good_settings (settings_of size n D i) ≡ true → (freshly b n D i).store ≡ encode (fresh (settings_of size n D i))
unfolding freshly answer
fresh_store b size n D i l g = let e = sized size b l in rw (e, eq-eqb (length b) (store_length size) l, freshly, g) (ap (λ (z : Size). encode (fresh (settings_of z n D i))) e)

-- station i, with good settings and proper buffers
module _ (size : Size) (n D : ℕ) (event : ℕ → Event) (proper : (k : ℕ) → IsLent (event k)) (room : ℕ → List ℕ) (lent : ℕ → ℕ → List ℕ) (i : ℕ)
    (good : good_settings (settings_of size n D i) ≡ true) (long : length (room i) ≡ store_length size) (wide : (k : ℕ) → least_out size ≤ length (lent i k)) where
  whole_at : (k : ℕ) → well_formed (at size n D event i k) ≡ true
  whole_at k = whole (formed_at size n D event proper i good k)

  call_on : (k : ℕ) (o : List ℕ) → least_out size ≤ length o → calls i (event k) (encode (at size n D event i k)) o ≡ answered (happens i (event k) (at size n D event i k)) o
  call_on k o l =
      calls_answered i (event k) (at size n D event i k) o (proper k) (whole_at k)
      (subst (λ (y : Settings). least_out y.size ≤ length o) (sym (settings_at size n D event proper i good k)) l)

  call_at : (k : ℕ) → calls i (event k) (encode (at size n D event i k)) (lent i k) ≡ answered (happens i (event k) (at size n D event i k)) (lent i k)
  call_at k = call_on k (lent i k) (wide k)

  -- its store is the bytes of its state
  pub store_carried : (k : ℕ) → store_at size n D event room lent i k ≡ encode (at size n D event i k)
  unfolding store_at at
  store_carried zero = fresh_store (room i) size n D i long good
  store_carried (suc k) =
      ap (λ (b : List ℕ). (calls i (event k) b (lent i k)).store) (store_carried k) ∙ ap (λ (c : Called). c.store) (call_at k)
      ∙ answered_store (happens i (event k) (at size n D event i k)) (lent i k)

  -- its call with another out buffer of its host's: the answer is that of the rules, and the buffer keeps its length
  pub call_with : (k : ℕ) (o : List ℕ) → least_out size ≤ length o
      → calls i (event k) (store_at size n D event room lent i k) o ≡ answered (happens i (event k) (at size n D event i k)) o
  call_with k o l = ap (λ (b : List ℕ). calls i (event k) b o) (store_carried k) ∙ call_on k o l

  pub out_kept : (k : ℕ) (o : List ℕ) → least_out size ≤ length o → length (calls i (event k) (store_at size n D event room lent i k) o).out ≡ length o
  unfolding answered Fits
  out_kept k o l =
      let s = at size n D event i k in
      let said = outgoing (happens i (event k) s).out in
      let f : length said ≤ least_out s.settings.size = fits i (event k) s (whole_at k) in
      ap (λ (c : Called). length c.out) (call_with k o l) ∙ length-append said (drop (length said) o)
      ∙ omega (arith, length-drop (length said) o, f, l, ap (λ (g : Settings). least_out g.size) (settings_at size n D event proper i good k))

  pub bytes_at_lem : (k : ℕ) → Bytes (store_at size n D event room lent i k)
  bytes_at_lem k = subst Bytes (sym (store_carried k)) (encoded (at size n D event i k) (whole_at k)).0

  pub state_carried : (k : ℕ) → state_of (store_at size n D event room lent i k) ≡ at size n D event i k
  state_carried k = ap state_of (store_carried k) ∙ (encoded_left (at size n D event i k) (whole_at k)).is

  -- what its calls write is the bytes of what it says
  pub said_carried : (k : ℕ) → said_at size n D event room lent i k ≡ outgoing (out size n D event i k)
  unfolding said_at out
  said_carried k =
      let s = at size n D event i k in
      ap (λ (b : List ℕ). written (calls i (event k) b (lent i k))) (store_carried k) ∙ ap written (call_at k)
      ∙ (written_answered s.settings.size (happens i (event k) s) (lent i k) (unfold Fits in fits i (event k) s (whole_at k)))

  -- what the rules take its call takes: the result is below 2^32
  pub taken_carried : (k : ℕ) → (happens i (event k) (at size n D event i k)).number ≡ 0
      → (calls i (event k) (store_at size n D event room lent i k) (lent i k)).result < 2 ^ 32
  taken_carried k e =
      let s = at size n D event i k in
      let is : (calls i (event k) (store_at size n D event room lent i k) (lent i k)).result ≡ (answered (happens i (event k) s) (lent i k)).result =
      ap (λ (b : List ℕ). (calls i (event k) b (lent i k)).result) (store_carried k) ∙ ap (λ (c : Called). c.result) (call_at k) in
      rw is (taken_answered s.settings.size (happens i (event k) s) (lent i k) e (unfold Fits in fits i (event k) s (whole_at k)))

  pub heard_carried : (k : ℕ) → heard (said_at size n D event room lent i k) ≡ out size n D event i k
  heard_carried k = ap heard (said_carried k) ∙ heard_outgoing (settings_of size n D i) (out size n D event i k) (said_at_lem size n D event proper i good k)

  -- ---- all that its calls wrote before a moment

  unfoldable spoken : ℕ → List Effect
  spoken zero = []
  spoken (suc k) = spoken k ++ out size n D event i k

  spoken_sayable : (k : ℕ) → Each (Sayable (settings_of size n D i)) (spoken k)
  unfolding spoken
  spoken_sayable zero = tt
  spoken_sayable (suc k) =
      each_append (Sayable (settings_of size n D i)) (spoken k) (out size n D event i k) (spoken_sayable k) (said_at_lem size n D event proper i good k)

  wrote_spoken : (k : ℕ) → wrote_by size n D event room lent i k ≡ outgoing (spoken k)
  unfolding wrote_by spoken
  wrote_spoken zero = unfold outgoing in refl
  wrote_spoken (suc k) = ap₂ ◌++◌ (wrote_spoken k) (said_carried k) ∙ sym (outgoing_append (spoken k) (out size n D event i k))

  spoken_reported : (k : ℕ) → reports_in (spoken k) ≡ reported (run size n D event) i k
  unfolding spoken reported
  spoken_reported zero = unfold reports_in in refl
  spoken_reported (suc k) =
      reports_in_append (spoken k) (out size n D event i k) ∙ ap (◌++ reports_in (out size n D event i k)) (spoken_reported k)

  -- the reports in those bytes are the reports of the rules
  pub reports_carried : (k : ℕ) → reports_in (heard (wrote_by size n D event room lent i k)) ≡ reported (run size n D event) i k
  reports_carried k =
      ap (λ (b : List ℕ). reports_in (heard b)) (wrote_spoken k)
      ∙ ap reports_in (heard_outgoing (settings_of size n D i) (spoken k) (spoken_sayable k)) ∙ spoken_reported k
