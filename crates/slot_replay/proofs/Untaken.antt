-- Which answers a journal's input gets, and that any other leaves the store and the out buffer as they were. Assumes nothing.
use Prim.Native.Nat.{ℕ, ◌+◌, ◌*◌, ◌/◌, ◌^◌, ◌<◌, ◌≤◌}
use mathlib.Core.Path.{◌≡◌, refl, sym, ap, ◌∙◌, subst}
use mathlib.Core.Bool.{true, false, ◌&&◌}
use mathlib.Core.List.{List, [], ◌++◌}
use mathlib.Core.Option.{some}
use native.Mathlib.Omega.{arith}
use native.Mathlib.Nat.{add-zero, zero-add, div-eq_of_lt}
use lib.ListN.{length, drop}
use lib.Dec.{leb, eqb, lit<}
use borrow.Author.Tests.{eq-eqb, ne_eqb}
use Rattle.rules.specs.Limits.{Size, small, large, least_out, last_clock}
use Rattle.rules.specs.Lists.{be}
use Rattle.rules.specs.Messages.{outgoing}
use Rattle.rules.specs.Words.{State, Cause, full, split, clock}
use Rattle.rules.specs.Inputs.{Work, handled, offered, ticked}
use Rattle.rules.specs.Refusals.{Outcome, done, refused, stopping, has_room, if_room, running, step, offer, tick, result}
use Rattle.rules.specs.WellFormed.{well_formed}
use Rattle.laws.proofs.Answers.{by_step}
use Rattle.laws.proofs.Tests.{by_bool, by_option, no_bool}
use Rattle.fields.specs.Places.{Bytes}
use Rattle.kept.proofs.Outs.{step_room, offer_room, tick_room}
use Rattle.store.specs.Layout.{store_length, size_in}
use Rattle.store.specs.Decode.{decode, encode}
use Rattle.oneform.proofs.OneForm.{decoded}
use Rattle.calls.specs.Calls.{Called, refusal, answered, called, step_called, tick_called, offer_called, Gives}
use Rattle.slots.specs.Slots.{is_kept}
use Rattle.keeping.specs.Taken.{is_taken}
use Rattle.slot_replay.specs.Handed.{handed}
use Rattle.slot_replay.specs.Meaning.{Hands}

-- ---- an answer, by its number

taken_zero : (r : ℕ) → r / 2 ^ 32 ≡ 0 → true ≡ is_taken r
unfolding is_taken is_kept
taken_zero r e = sym (ap is_kept e)

stopped_taken : (is_taken (6 * 2 ^ 32) ≡ true) × (is_taken (7 * 2 ^ 32) ≡ true) × (is_taken (8 * 2 ^ 32) ≡ true)
unfolding is_taken is_kept
stopped_taken = (refl, refl, refl)

-- ---- the rules refuse, stop or act

data Settled (s : State) : Outcome → Type 0 where
  refusing : (k : ℕ) → Settled s (refused k s)
  halting : (k : ℕ) (why : Cause) → is_taken (k * 2 ^ 32) ≡ true → Settled s (stopping k why s)
  doing : (w : Work) → Settled s (done w)

room_settled : (s : State) (w : Work) → Settled s (if_room s w)
unfolding if_room
room_settled s w = by_bool (has_room w.now) (λ q. rw (q, if_room) (doing w)) (λ q. rw (q, if_room) (halting 6 full stopped_taken.0))

step_settled : (bs : List ℕ) (s : State) → Settled s (step bs s)
step_settled bs s = by_step (Settled s) s refusing bs (λ m q a u. room_settled s (handled m s))

offer_settled : (b : ℕ) (s : State) → Settled s (offer b s)
unfolding offer
offer_settled b s =
    by_bool (running s) (λ r. by_option (offered b s) (λ q. rw (r, q, offer) (refusing 9)) (λ m q. rw (r, q, offer) (room_settled s (handled m s))))
    (λ r. rw (r, offer) (refusing 3))

tick_settled : (s : State) → Settled s (tick s)
unfolding tick
tick_settled s =
    by_bool (running s)
    (λ r.
    by_bool (eqb s.clock last_clock) (λ c. rw (r, c, tick) (halting 8 clock stopped_taken.2))
    (λ c. by_option (ticked s) (λ q. rw (r, c, q, tick) (halting 7 split stopped_taken.1)) (λ w q. rw (r, c, q, tick) (room_settled s w))))
    (λ r. rw (r, tick) (refusing 3))

-- ---- what isn't taken changes nothing

unchanged : (s : State) (x : Outcome) → Settled s x → length (outgoing x.out) < 2 ^ 32 → is_taken (result x) ≡ false → (x.next ≡ s) × (outgoing x.out ≡ [])
unfolding refused stopping done outgoing result
unchanged s x (refusing k) l h = (refl, refl)
unchanged s x (halting k why t) l h = no_bool (sym t ∙ (rw (add-zero (k * 2 ^ 32)) at h))
unchanged s x (doing w) l h =
    let n = length (outgoing w.out) in
    let e : (0 * 2 ^ 32 + n) / 2 ^ 32 ≡ 0 = ap (◌/ 2 ^ 32) (zero-add n) ∙ div-eq_of_lt l in
    no_bool (taken_zero (0 * 2 ^ 32 + n) e ∙ h)

least_small : (z : Size) → least_out z < 2 ^ 32
unfolding least_out
least_small small = lit< tt
least_small large = lit< tt

-- a call that keeps to the rules
module _ (f : State → Outcome) (settled : (s : State) → Settled s (f s)) (room : (s : State) → well_formed s ≡ true → length (outgoing (f s).out) ≤ least_out s.settings.size)
    (b o : List ℕ) (h : Bytes b) where
  untaken_answered : (s : State) → decode b ≡ some s → is_taken (answered (f s) o).result ≡ false → ((answered (f s) o).store ≡ b) × ((answered (f s) o).out ≡ o)
  unfolding answered
  untaken_answered s d t =
      let w = decoded b s h d in
      let u = unchanged s (f s) (settled s) (omega (arith, room s w.1, least_small s.settings.size)) t in
      (ap encode u.0 ∙ w.0, ap (λ (l : List ℕ). l ++ drop (length l) o) u.1)

  untaken_called : is_taken (called f b o).result ≡ false → ((called f b o).store ≡ b) × ((called f b o).out ≡ o)
  unfolding called refusal
  untaken_called =
      by_bool (eqb (length b) (store_length (size_in b)) && leb (least_out (size_in b)) (length o))
      (λ p. by_option (decode b) (λ d. rw (p, d, called) (λ t. (refl, refl))) (λ s d. rw (p, d, called) (untaken_answered s d)))
      (λ p. rw (p, called) (λ t. (refl, refl)))

untaken_offer : (bs b o : List ℕ) → Bytes b → is_taken (offer_called bs b o).result ≡ false → ((offer_called bs b o).store ≡ b) × ((offer_called bs b o).out ≡ o)
unfolding offer_called refusal
untaken_offer bs b o h =
    by_bool (eqb (length bs) 32) (λ p. rw (p, offer_called) (untaken_called (offer (be bs)) (offer_settled (be bs)) (λ s w. offer_room s (be bs)) b o h))
    (λ p. rw (p, offer_called) (λ t. (refl, refl)))

-- ---- one input handed over

module _ (k : ℕ) (bs b o : List ℕ) {r : ℕ} {b' o' : List ℕ} (h : Bytes b) where
  hands : (c : Called) → handed k bs b o ≡ c → (is_taken c.result ≡ false → (c.store ≡ b) × (c.out ≡ o)) → Gives c r b' o' → Hands k bs b o r b' o'
  hands c e u g =
      record {
        gives = subst (λ (x : Called). Gives x r b' o') (sym e) g;
        untaken = λ t. let v = u (ap is_taken (sym g.result) ∙ t) in (g.store ∙ v.0, g.out ∙ v.1);
      }

  pub hands_tick : k ≡ 1 → Gives (tick_called b o) r b' o' → Hands k bs b o r b' o'
  unfolding handed tick_called
  hands_tick e g = hands (tick_called b o) (rw (eq-eqb k 1 e, handed)) (untaken_called tick tick_settled tick_room b o h) g

  pub hands_offer : (k ≡ 1 → ⊥) → k ≡ 2 → Gives (offer_called bs b o) r b' o' → Hands k bs b o r b' o'
  unfolding handed
  hands_offer d e g = hands (offer_called bs b o) (rw (ne_eqb k 1 d, handed, eq-eqb k 2 e)) (untaken_offer bs b o h) g

  pub hands_step : (k ≡ 1 → ⊥) → (k ≡ 2 → ⊥) → Gives (step_called bs b o) r b' o' → Hands k bs b o r b' o'
  unfolding handed step_called
  hands_step d e g = hands (step_called bs b o) (rw (ne_eqb k 1 d, handed, ne_eqb k 2 e)) (untaken_called (step bs) (step_settled bs) (λ s w. step_room s bs) b o h) g
