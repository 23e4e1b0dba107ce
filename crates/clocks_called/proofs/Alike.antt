-- Two well-formed stores that differ in the kept clocks alone get the same result and the same out bytes from every call, and are
-- left so. Assumes nothing.
use mathlib.Core.Path.{◌≡◌, subst, refl, sym, ap}
use Prim.Native.Nat.{ℕ, ◌≤◌, ◌<◌, ◌^◌}
use mathlib.Core.Bool.{true, false}
use mathlib.Core.List.{List}
use lib.Dec.{eqb, leb}
use lib.ListN.{length}
use borrow.Author.Tests.{eqb-true, eq-eqb, leb-true}
use Rattle.rules.specs.Limits.{Size, least_out}
use Rattle.rules.specs.Lists.{be}
use Rattle.rules.specs.Sizes.{Settings}
use Rattle.rules.specs.Words.{State}
use Rattle.rules.specs.Inputs.{with_tables}
use Rattle.rules.specs.Refusals.{Outcome, step, tick, offer, result}
use Rattle.rules.specs.WellFormed.{well_formed}
use Rattle.rules.specs.Script.{ticks, hears_bytes, is_offered, answer}
use Rattle.laws.proofs.Bytes.{Bytes, be_lt}
use Rattle.laws.proofs.Tests.{by_bool}
use Rattle.kept.proofs.Calls.{step_whole, offer_whole, tick_whole}
use Rattle.store.specs.Layout.{store_length, size_in}
use Rattle.store.specs.Decode.{state_from, state_of, encode}
use Rattle.store.proofs.Forms.{parts as form-parts}
use Rattle.oneform.proofs.OneForm.{encoded_left, encoded, decoded}
use Rattle.calls.specs.Calls.{refusal, answered, called, step_called, tick_called, offer_called}
use Rattle.promises.proofs.Carried.{called_encoded}
use Rattle.clocks.specs.Forget.{forget, forgotten, Alike}
use Rattle.clocks.proofs.Forgets.{answer_alike}
use Rattle.clocks_called.specs.Stores.{StoresAlike, CallsAlike}

-- the bytes of two states
encoded_alike : (s t : State) → well_formed s ≡ true → well_formed t ≡ true → Alike s t → StoresAlike (encode s) (encode t)
encoded_alike s t v w e =
    let a = encoded s v in let b = encoded t w in
    record { bytes = (a.0, b.0); one = s; other = t; holds = (a.1, b.1); alike = e }

-- a call on the bytes of a well-formed state, with an out buffer that is too short
called_short : (f : State → Outcome) (s : State) (o : List ℕ) → well_formed s ≡ true → leb (least_out s.settings.size) (length o) ≡ false
    → called f (encode s) o ≡ refusal 1 (encode s) o
unfolding called state_of state_from
called_short f s o w q =
    let e = encoded_left s w in
    let z = size_in (encode s) in
    let k : z ≡ s.settings.size = ap (λ (x : State). x.settings.size) e.is in
    let r : leb (least_out z) (length o) ≡ false = subst (λ (y : Size). leb (least_out y) (length o) ≡ false) (sym k) q in
    rw (eq-eqb (length (encode s)) (store_length z) (form-parts (encode s) e.form.form).long, r, called)

settings_alike : (s t : State) → Alike s t → s.settings ≡ t.settings
unfolding forget with_tables
settings_alike s t e = ap (λ (u : State). u.settings) e

-- one law for the calls: f keeps what is well formed, and asks for no kept clock
module _ (f : State → Outcome) (keeps : (s : State) → well_formed s ≡ true → well_formed (f s).next ≡ true)
    (blind : (s t : State) → Alike s t → forgotten (f s) ≡ forgotten (f t)) where
  answered_alike : (s t : State) → well_formed s ≡ true → well_formed t ≡ true → Alike s t → (o : List ℕ) → CallsAlike (answered (f s) o) (answered (f t) o)
  unfolding answered result forgotten
  answered_alike s t v w e o =
      let b = blind s t e in
      record {
        result = ap (λ (x : Outcome). result x) b;
        out = ap (λ (x : Outcome). (answered x o).out) b;
        store = encoded_alike (f s).next (f t).next (keeps s v) (keeps t w) (ap (λ (x : Outcome). x.next) b);
      }

  on_encoded : (s t : State) → well_formed s ≡ true → well_formed t ≡ true → Alike s t → (o : List ℕ) → CallsAlike (called f (encode s) o) (called f (encode t) o)
  unfolding refusal
  on_encoded s t v w e o =
      let g = settings_alike s t e in
      by_bool (leb (least_out s.settings.size) (length o))
      (λ q.
      let l = leb-true (least_out s.settings.size) (length o) q in
      let m = subst (λ (h : Settings). least_out h.size ≤ length o) g l in
      rw (called_encoded f s o v l, called_encoded f t o w m) (answered_alike s t v w e o))
      (λ q.
      let r = subst (λ (h : Settings). leb (least_out h.size) (length o) ≡ false) g q in
      rw (called_short f s o v q, called_short f t o w r) (record { result = refl; out = refl; store = encoded_alike s t v w e }))

  called_alike : (b c o : List ℕ) → StoresAlike b c → CallsAlike (called f b o) (called f c o)
  called_alike b c o a =
      let (p, v) = decoded b a.one a.bytes.0 a.holds.0 in
      let (r, w) = decoded c a.other a.bytes.1 a.holds.1 in
      subst (λ (x : List ℕ). CallsAlike (called f x o) (called f c o)) p
      (subst (λ (y : List ℕ). CallsAlike (called f (encode a.one) o) (called f y o)) r (on_encoded a.one a.other v w a.alike o))

module _ (b c o : List ℕ) (a : StoresAlike b c) where
  pub step_alike : (bs : List ℕ) → Bytes bs → CallsAlike (step_called bs b o) (step_called bs c o)
  unfolding step_called answer
  step_alike bs h = called_alike (step bs) (λ s w. step_whole bs s h w) (answer_alike (hears_bytes bs)) b c o a

  pub tick_alike : CallsAlike (tick_called b o) (tick_called c o)
  unfolding tick_called answer
  tick_alike = called_alike tick tick_whole (answer_alike ticks) b c o a

  pub offer_alike : (name : List ℕ) → Bytes name → CallsAlike (offer_called name b o) (offer_called name c o)
  unfolding offer_called refusal answer
  offer_alike name h =
      by_bool (eqb (length name) 32)
      (λ q.
      let n = be name in
      let l : n < 256 ^ 32 = subst (λ (k : ℕ). n < 256 ^ k) (eqb-true (length name) 32 q) (be_lt h) in
      rw (q, offer_called) (called_alike (offer n) (λ s w. offer_whole n s l w) (answer_alike (is_offered n)) b c o a))
      (λ q. rw (q, offer_called) (record { result = refl; out = refl; store = a }))
