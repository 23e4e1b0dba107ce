-- A schedule up to moment K, idle from there on: until then stations are in the same states and say the same, and the premises of
-- the whole schedule hold. Assumes nothing.
use mathlib.Core.Path.{◌≡◌, subst, refl, sym, ap, ◌∙◌}
use Prim.Native.Nat.{ℕ, zero, suc, ◌+◌, ◌≤◌, ◌<◌}
use native.Mathlib.Omega.{arith}
use native.Mathlib.Decide.{dec_lt, dec_le}
use mathlib.Core.Bool.{false}
use mathlib.Core.List.Memᴰ
use mathlib.Core.List.{List, [], ◌++◌, Memᴰ}
use mathlib.Core.Logic.{inl, inr}
use mathlib.Core.Option.{some}
use lib.Dec.{ltb}
use borrow.Author.Tests.{lt-ltb, ltb-true}
use Rattle.rules.specs.Limits.{Size}
use Rattle.rules.specs.Messages.{Message, vote, write, Effect, to_all, to_one}
use Rattle.rules.specs.Words.{State}
use Rattle.rules.specs.Inputs.{saying, offered}
use Rattle.rules.specs.Refusals.{done, step}
use Rattle.laws.proofs.Tests.{by_bool}
use Rattle.agreement.specs.Schedule.{Event, idle, given, offered_to, happens, ticks, IsCommon, until, at, out, clock, IsSaid, CommonTicks, RoomTo, IsLent, ProperBuffers, Sends, Speaks, InTime, NeverUsedUp, Hands, NoForgery, Offers, OneName, Premises, Schedule, reports_in, reported, Run, run}
use Rattle.agreement.proofs.Events.{Happening, never_idle}
use Rattle.agreement.proofs.Alike.{genuine_on}

pub not_lt : (a b : ℕ) → b ≤ a → ltb a b ≡ false
not_lt a b l = by_bool (ltb a b) (λ q. let h = ltb-true a b q in absurd (omega arith)) (λ q. q)

pub until_before : (K : ℕ) (event : ℕ → Event) (k : ℕ) → k < K → until K event k ≡ event k
unfolding until
until_before K event k l = rw (lt-ltb k K l, until)

until_after : (K : ℕ) (event : ℕ → Event) (k : ℕ) → K ≤ k → until K event k ≡ idle
unfolding until
until_after K event k l = rw (not_lt k K l, until)

-- what happens in the schedule up to K happens before K
happened : (K : ℕ) (event : ℕ → Event) (k : ℕ) (e : Event) → Happening e → until K event k ≡ e → (k < K) × (event k ≡ e)
happened K event k e h q =
    elim (dec_lt k K) [
      | yes d ↦ (d, sym (until_before K event k d) ∙ q)
      | no d ↦ absurd (never_idle e h (sym (until_after K event k (omega arith)) ∙ q))
    ]

-- what holds of the event, and of none, holds of the event of the schedule up to K
by_until : (P : Event → Type 0) (K : ℕ) (event : ℕ → Event) (k : ℕ) → P (event k) → P idle → P (until K event k)
by_until P K event k a b =
    elim (dec_lt k K) [
      | yes d ↦ subst P (sym (until_before K event k d)) a
      | no d ↦ subst P (sym (until_after K event k (omega arith))) b
    ]

module _ (size : Size) (n D : ℕ) (event : ℕ → Event) (K : ℕ) where
  abbrev E : ℕ → Event
  E = until K event

  abbrev R : Run
  R = run size n D event

  abbrev Q : Run
  Q = run size n D E

  pub at_until : (i k : ℕ) → k ≤ K → at size n D E i k ≡ at size n D event i k
  unfolding at
  at_until i zero l = refl
  at_until i (suc k) l =
      ap (λ (e : Event). (happens i e (at size n D E i k)).next) (until_before K event k l)
      ∙ ap (λ (s : State). (happens i (event k) s).next) (at_until i k (omega arith))

  pub at_after : (i k : ℕ) → K ≤ k → at size n D E i k ≡ at size n D event i K
  unfolding at
  at_after i zero l = let e : 0 ≡ K = omega arith in ap (at size n D event i) e
  at_after i (suc k) l =
      elim (dec_le K k) [
        | yes d ↦ (
            ap (λ (e : Event). (happens i e (at size n D E i k)).next) (until_after K event k d) ∙ (unfold happens done saying in refl) ∙ at_after i k d)
        | no d ↦ (let e : suc k ≡ K = omega arith in at_until i (suc k) (omega arith) ∙ ap (at size n D event i) e)
      ]

  out_until : (i k : ℕ) → k < K → out size n D E i k ≡ out size n D event i k
  unfolding out
  out_until i k l =
      ap (λ (e : Event). (happens i e (at size n D E i k)).out) (until_before K event k l)
      ∙ ap (λ (s : State). (happens i (event k) s).out) (at_until i k (omega arith))

  out_after_lem : (i k : ℕ) → K ≤ k → out size n D E i k ≡ []
  unfolding out
  out_after_lem i k l = ap (λ (e : Event). (happens i e (at size n D E i k)).out) (until_after K event k l) ∙ (unfold happens done saying in refl)

  pub clock_until : (i k : ℕ) → k ≤ K → clock E i k ≡ clock event i k
  unfolding clock
  clock_until i zero l = refl
  clock_until i (suc k) l = let a = clock_until i k (omega arith) in let b = ap (ticks i) (until_before K event k l) in omega arith

  pub clock_after : (i k : ℕ) → K ≤ k → clock E i k ≡ clock event i K
  unfolding clock
  clock_after i zero l = let e : 0 ≡ K = omega arith in ap (clock event i) e
  clock_after i (suc k) l =
      elim (dec_le K k) [
        | yes d ↦ (
            let a = clock_after i k d in
            let b : ticks i (E k) ≡ 0 = ap (ticks i) (until_after K event k d) ∙ (unfold ticks in refl) in omega arith)
        | no d ↦ (let e : suc k ≡ K = omega arith in clock_until i (suc k) (omega arith) ∙ ap (clock event i) e)
      ]

  pub reported_until : (i k : ℕ) → k ≤ K → reported Q i k ≡ reported R i k
  unfolding reported
  reported_until i zero l = refl
  reported_until i (suc k) l =
      ap (◌++ reports_in (out size n D E i k)) (reported_until i k (omega arith))
      ∙ ap (λ (o : List Effect). reported R i k ++ reports_in o) (out_until i k l)

  -- ---- what is said

  pub says_back : (i l : ℕ) (e : Effect) → IsSaid Q i l e → (l < K) × IsSaid R i l e
  says_back i l e s =
      elim (dec_lt l K) [
        | yes d ↦ (d, subst (Memᴰ e) (out_until i l d) s)
        | no d ↦ absurd (Memᴰ.not-nil (subst (Memᴰ e) (out_after_lem i l (omega arith)) s))
      ]

  pub says_on : (i l : ℕ) (e : Effect) → l < K → IsSaid R i l e → IsSaid Q i l e
  says_on i l e d s = subst (Memᴰ e) (sym (out_until i l d)) s

  module _ (faulty : ℕ) where
    pub sends_back : (i j l : ℕ) (m : Message) → Sends Q i j l m → (l < K) × Sends R i j l m
    sends_back i j l m (inl (s, ne)) = let (u, t) = says_back i l (to_all m) s in (u, inl (t, ne))
    sends_back i j l m (inr s) = let (u, t) = says_back i l (to_one j m) s in (u, inr t)

    spoken_back : (i l : ℕ) (m : Message) → Speaks Q i l m → Speaks R i l m
    spoken_back i l m (inl s) = inl (says_back i l (to_all m) s).1
    spoken_back i l m (inr (j, s)) = inr (j, (says_back i l (to_one j m) s).1)

    -- ---- the premises

    common_until : CommonTicks R → CommonTicks Q
    common_until common k = by_until IsCommon K event k (common k) tt

    lent_until : ProperBuffers R → ProperBuffers Q
    lent_until lent k = by_until IsLent K event k (lent k) tt

    tick_back : (i k : ℕ) → ticks i (E k) ≡ 1 → (k < K) × (ticks i (event k) ≡ 1)
    unfolding ticks
    tick_back i k t =
        elim (dec_lt k K) [
          | yes d ↦ (d, sym (ap (ticks i) (until_before K event k d)) ∙ t)
          | no d ↦ (let z : ticks i (E k) ≡ 0 = ap (ticks i) (until_after K event k (omega arith)) in absurd (omega arith))
        ]

    in_time_until : InTime R faulty → InTime Q faulty
    in_time_until in_time i j hi hj k m s l t now =
        let (u, s') = sends_back i j k m s in
        let (v, t') = tick_back i l t in
        let (h, a, b, e) = in_time i j hi hj k m s' l t' (sym (clock_until i l (omega arith)) ∙ now ∙ ap (◌+ D) (clock_until i (suc k) u)) in
        (h, a, b, until_before K event h (omega arith) ∙ e)

    hands_back : (l j : ℕ) (m : Message) → Hands Q faulty l j m → (l < K) × Hands R faulty l j m
    hands_back l j m (ok, (bs, e, r), a) = let (d, f) = happened K event l (given j bs) tt e in (d, (ok, (bs, f, r), a))

    offers_back : (l j : ℕ) (m : Message) → Offers Q faulty l j m → Offers R faulty l j m
    offers_back l j m (ok, (b, e, r)) =
        let (d, f) = happened K event l (offered_to j b) tt e in
        (ok, (b, f, subst (λ (s : State). offered b s ≡ some m) (at_until j l (omega arith)) r))

    forgery_until : NoForgery R faulty → NoForgery Q faulty
    forgery_until genuine l j m h = let (d, g) = hands_back l j m h in genuine_on R E (at size n D E) (out size n D E) faulty l (λ i p e ok u s. says_on i p e (omega arith) s) m (genuine l j m g)

    heard_until : NeverUsedUp R faulty → NeverUsedUp Q faulty
    heard_until heard i j hi hj l k v h b a s o e r =
        let m = vote v h b a in
        let (d, f) = happened K event k (given j (write m)) tt e in
        heard i j hi hj l k v h b a (spoken_back i l m s) o f (subst (λ (u : State). (step (write m) u).number ≡ 12) (at_until j k (omega arith)) r)

    module _ (height_of parent_of : ℕ → ℕ) where
      names_until : OneName R faulty height_of parent_of → OneName Q faulty height_of parent_of
      names_until one l j m (inl h) = one l j m (inl (hands_back l j m h).1)
      names_until one l j m (inr o) = one l j m (inr (offers_back l j m o))

      -- the premises of the whole schedule hold up to each moment
      pub premises_until : Premises R faulty height_of parent_of → Premises Q faulty height_of parent_of
      premises_until P =
          record {
            settings = P.settings;
            few = P.few;
            common = common_until P.common;
            lent = lent_until P.lent;
            in_time = in_time_until P.in_time;
            no_forgery = forgery_until P.no_forgery;
            one_name = names_until P.one_name;
            heard = heard_until P.heard;
          }

      -- who is full or at the last clock only after K is sound up to K
      pub schedule_until : Premises R faulty height_of parent_of → RoomTo R faulty K → Schedule Q faulty height_of parent_of
      schedule_until P room =
          record {
            premises = premises_until P;
            room = λ i ok k.
                elim (dec_le k K) [ yes d ↦ rw (at_until i k d) (room i ok k d) | no d ↦ rw (at_after i k (omega arith)) (room i ok K (omega arith)) ];
          }
