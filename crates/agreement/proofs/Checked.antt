-- A test of specs/Checks.antt that holds is the premise that it tests. Assumes nothing.
use mathlib.Core.Path.{◌≡◌, subst, refl, sym, ap, ap₂, ◌∙◌}
use Prim.Native.Nat.{ℕ, zero, suc, ◌+◌, ◌-◌, ◌≤◌, ◌<◌, ◌^◌}
use native.Mathlib.Omega.{arith}
use native.Mathlib.Decide.{dec_lt, dec_le}
use mathlib.Core.Bool.{Bool, true, false, not, ◌&&◌}
use mathlib.Core.List.Memᴰ
use mathlib.Core.List.{List, [], ◌∷◌, map, Memᴰ}
use mathlib.Core.Logic.{◌⊎◌, inl, inr}
use mathlib.Core.Option.{Option, none, some}
use lib.Dec.{ltb, eqb}
use lib.ListN.{length, get_or, get_or-eq_default}
use borrow.Author.Tests.{eqb-true, eq-eqb, not-true, leb-true, lt-ltb, ltb-true}
use Rattle.rules.specs.Limits.{Size}
use Rattle.rules.specs.Lists.{first, any, all}
use Rattle.rules.specs.Sizes.{faults, bit, count}
use Rattle.rules.specs.Messages.{Message, new_view, propose, vote, blame, blame_set, status, table, row_of, kind, values, read, write, allowed, Effect, to_all, to_one, committed}
use Rattle.rules.specs.Words.{State}
use Rattle.rules.specs.Inputs.{saying, offered}
use Rattle.rules.specs.Refusals.{done, running, step}
use Rattle.rules.specs.Script.{same_list}
use Rattle.laws.proofs.Tests.{by_bool, by_option, no_bool}
use Rattle.laws.proofs.Bytes.{Bytes, none as no_bytes, one}
use Rattle.laws.proofs.Truths.{and_2, both, or_2}
use Rattle.laws.proofs.Searches.{by_mem, first_mem, first_any, first_none}
use Rattle.agreement.specs.Schedule.{Event, idle, common_tick, tick_of, given, offered_to, happens, ticks, IsCommon, CommonTicks, settings_of, at, out, clock, IsSaid, HasMade, Sound, NeverFull, IsLent, ProperBuffers, Sends, InTime, VotersVoted, Genuine, Hands, NoForgery, Offers, OneBlock, OneName, NeverUsedUp, Run, run, HasRoom, Schedule}
use Rattle.agreement.proofs.Events.{never_idle}
use Rattle.agreement.specs.Checks.{Premise, settings_good, few_faulty, never_full, common_ticks, proper_buffers, in_time, no_forgery, one_name, never_used_up, premises, place, other, Holds, AllBut, test, verdict, implies, every, some?, same_message, mask_in, to_all_that}
use Rattle.agreement.specs.Checks.{brought, if_some, is_common, given_to, offered_as, listed, is_sound, has_said, voters_voted, has_made, is_genuine, taken, none_forged, comes, comes_in_time, said_in_time, all_in_time, all_common, all_run, all_lent, is_one_block, one_named, all_heard}

-- ---- tests

pub implies_true : (a : Bool) {b : Bool} → implies a b ≡ true → a ≡ true → b ≡ true
unfolding implies
implies_true true h e = h
implies_true false h e = no_bool (sym e)

pub every_true : (n : ℕ) (p : ℕ → Bool) → every n p ≡ true → (k : ℕ) → k < n → p k ≡ true
unfolding every
every_true zero p h k l = absurd (omega arith)
every_true (suc n) p h k l =
    let a = and_2 (p n) (every n p) h in
    elim (dec_lt k n) [
      | yes d ↦ every_true n p a.1 k d
      | no d ↦ (let e : n ≡ k = omega arith in subst (λ (x : ℕ). p x ≡ true) e a.0)
    ]

some_true : (n : ℕ) (p : ℕ → Bool) → some? n p ≡ true → (k : ℕ) × (k < n) × (p k ≡ true)
unfolding some?
some_true zero p h = no_bool (sym h)
some_true (suc n) p h = go (or_2 (p n) (some? n p) h) (λ q. some_true n p q)
  where
    go : (p n ≡ true) ⊎ (some? n p ≡ true) → (some? n p ≡ true → (k : ℕ) × (k < n) × (p k ≡ true)) → (k : ℕ) × (k < suc n) × (p k ≡ true)
    go (inl e) f = (n, omega arith, e)
    go (inr e) f = let (k, l, q) = f e in (k, omega arith, q)

module _ {A : Type 0} (p : A → Bool) where
  all_true : (xs : List A) → all p xs ≡ true → (x : A) → Memᴰ x xs → p x ≡ true
  unfolding all
  all_true [] h x m = absurd (Memᴰ.not-nil m)
  all_true (y ∷ ys) h x m =
      let a = and_2 (p y) (all p ys) h in by_mem m (λ e. ap p e ∙ a.0) (λ t. all_true ys a.1 x t)

  any_true : (xs : List A) → any p xs ≡ true → (x : A) × Memᴰ x xs × (p x ≡ true)
  any_true xs h =
      by_option (first p xs) (λ q. no_bool (sym h ∙ first_none p xs q)) (λ x q. (x, first_mem p xs x q, (first_any p xs x q).1))

if_some_true : {A : Type 0} (o : Option A) (p : A → Bool) (a : A) → if_some o p ≡ true → o ≡ some a → p a ≡ true
unfolding if_some
if_some_true o p a h e = rw (e, if_some) at h

same_list_eq : (xs ys : List ℕ) → same_list xs ys ≡ true → xs ≡ ys
unfolding same_list
same_list_eq [] [] h = refl
same_list_eq [] (y ∷ ys) h = no_bool (sym h)
same_list_eq (x ∷ xs) [] h = no_bool (sym h)
same_list_eq (x ∷ xs) (y ∷ ys) h =
    let a = and_2 (eqb x y) (same_list xs ys) h in ap₂ (λ (u : ℕ) (us : List ℕ). u ∷ us) (eqb-true x y a.0) (same_list_eq xs ys a.1)

-- a message is made from its kind and values
made : ℕ → List ℕ → Message
made k vs = elim (row_of k) [ none ↦ blame 0 0 | some r ↦ r.make (λ i. get_or vs i 0) ]

made_law : (m : Message) → made (kind m) (values m) ≡ m
unfolding made row_of table kind values
made_law (new_view v h b c m a) = refl
made_law (propose v h b p m a) = refl
made_law (vote v h b a) = refl
made_law (blame v a) = refl
made_law (blame_set v m) = refl
made_law (status h b c m) = refl

same_message_eq : (m k : Message) → same_message m k ≡ true → m ≡ k
unfolding same_message
same_message_eq m k h =
    let a = and_2 (eqb (kind m) (kind k)) (same_list (values m) (values k)) h in
    sym (made_law m) ∙ ap₂ made (eqb-true (kind m) (kind k) a.0) (same_list_eq (values m) (values k) a.1) ∙ made_law k

to_all_that_true : (p : Message → Bool) (e : Effect) → to_all_that p e ≡ true → (m : Message) × (e ≡ to_all m) × (p m ≡ true)
unfolding to_all_that
to_all_that_true p (to_all m) h = (m, refl, h)
to_all_that_true p (to_one i m) h = no_bool (sym h)
to_all_that_true p (committed a b) h = no_bool (sym h)

module _ (size : Size) (n D : ℕ) (es : List Event) (faulty : ℕ) where
  abbrev E : ℕ → Event
  E = listed es

  abbrev R : Run
  R = run size n D E

  pub listed_idle : (k : ℕ) → length es ≤ k → E k ≡ idle
  unfolding listed
  listed_idle k l = get_or-eq_default es idle l

  sound_test : (i : ℕ) → Sound R faulty i → is_sound size n D es faulty i ≡ true
  unfolding is_sound
  sound_test i ok = both (lt-ltb i n ok.0) (eq-eqb (bit faulty i) 0 ok.1)

  says_here : (i k : ℕ) (e : Effect) → IsSaid R i k e → k < length es
  unfolding out
  says_here i k e s =
      elim (dec_lt k (length es)) [
        | yes d ↦ d
        | no d ↦ absurd (Memᴰ.not-nil (subst (λ (y : Event). Memᴰ e (happens i y (at size n D E i k)).out) (listed_idle k (omega arith)) s))
      ]

  said : (i k : ℕ) (p : Message → Bool) → has_said size n D es faulty i k p ≡ true → (l : ℕ) × (l < k) × ((m : Message) × IsSaid R i l (to_all m) × (p m ≡ true))
  unfolding has_said
  said i k p h =
      let (l, d, q) = some_true k (λ l. any (to_all_that p) (out size n D E i l)) h in
      let (e, m, t) = any_true (to_all_that p) (out size n D E i l) q in
      let (x, f, u) = to_all_that_true p e t in
      (l, d, (x, subst (λ (y : Effect). IsSaid R i l y) f m, u))

  said_message : (i k : ℕ) (m : Message) → has_said size n D es faulty i k (same_message m) ≡ true → (l : ℕ) × (l < k) × IsSaid R i l (to_all m)
  said_message i k m h =
      let (l, d, (x, s, u)) = said i k (same_message m) h in
      (l, d, subst (λ (y : Message). IsSaid R i l (to_all y)) (sym (same_message_eq m x u)) s)

  -- ---- no forgery

  voters_test : (k m v h b : ℕ) → voters_voted size n D es faulty k m v h b ≡ true → VotersVoted R faulty k m v h b
  unfolding voters_voted
  voters_test k m v h b t i ok y =
      said_message i k (vote v h b i)
      (implies_true (is_sound size n D es faulty i && eqb (bit m i) 1) (every_true n _ t i ok.0) (both (sound_test i ok) (eq-eqb (bit m i) 1 y)))

  made_test : (i k : ℕ) (f : ℕ → Message) → has_made size n D es faulty i k f ≡ true → Sound R faulty i → HasMade R i k f
  unfolding has_made
  made_test i k f t ok =
      let (l, d, (x, s, u)) = said i k (λ m. same_message (f (mask_in m)) m) (implies_true (is_sound size n D es faulty i) t (sound_test i ok)) in
      (l, d, (mask_in x, subst (λ (y : Message). IsSaid R i l (to_all y)) (sym (same_message_eq (f (mask_in x)) x u)) s))

  genuine_test : (k : ℕ) (m : Message) → is_genuine size n D es faulty k m ≡ true → Genuine R faulty k m
  unfolding is_genuine
  genuine_test k (new_view v h b c m a) t = let q = and_2 (voters_voted size n D es faulty k m c h b) _ t in (voters_test k m c h b q.0, made_test a k (λ x. new_view v h b c x a) q.1)
  genuine_test k (propose v h b p m a) t = let q = and_2 (voters_voted size n D es faulty k m v (h - 1) p) _ t in (voters_test k m v (h - 1) p q.0, made_test a k (λ x. propose v h b p x a) q.1)
  genuine_test k (vote v h b a) t = λ ok. said_message a k (vote v h b a) (implies_true (is_sound size n D es faulty a) t (sound_test a ok))
  genuine_test k (blame v a) t = λ ok. said_message a k (blame v a) (implies_true (is_sound size n D es faulty a) t (sound_test a ok))
  genuine_test k (blame_set v m) t = λ i ok y.
      said_message i k (blame v i)
      (implies_true (is_sound size n D es faulty i && eqb (bit m i) 1) (every_true n _ t i ok.0) (both (sound_test i ok) (eq-eqb (bit m i) 1 y)))
  genuine_test k (status h b c m) t = voters_test k m c h b t

  -- what is handed over is within the list, and was tested
  hands_test : (k j : ℕ) (m : Message) (p : Message → Bool) → Hands R faulty k j m → (k < length es → taken size n D es faulty k p ≡ true) → p m ≡ true
  unfolding taken given_to
  hands_test k j m p (ok, (bs, e, r), a) t =
      elim (dec_lt k (length es)) [
        | yes d ↦ (
            let h = subst (λ (y : Event). given_to y (λ j bs. implies (is_sound size n D es faulty j) (if_some (read bs) (λ m. implies (allowed (settings_of size n D j) m) (p m)))) true ≡ true) e (t d) in
            implies_true (allowed (settings_of size n D j) m) (if_some_true (read bs) _ m (implies_true (is_sound size n D es faulty j) h (sound_test j ok)) r) a)
        | no d ↦ absurd (never_idle (given j bs) tt (sym (listed_idle k (omega arith)) ∙ e))
      ]

  forgery_checked : none_forged size n D es faulty ≡ true → NoForgery R faulty
  unfolding none_forged
  forgery_checked t k j m h = genuine_test k m (hands_test k j m (is_genuine size n D es faulty k) h (λ d. every_true (length es) _ t k d))

  -- ---- one block per name

  module _ (height_of parent_of : ℕ → ℕ) where
    block_test : (m : Message) → is_one_block size n D es faulty height_of parent_of m ≡ true → OneBlock height_of parent_of m
    unfolding is_one_block
    block_test (new_view v h b c m a) t = eqb-true (height_of b) h t
    block_test (propose v h b p m a) t = let q = and_2 (eqb (height_of b) h) (eqb (parent_of b) p) t in (eqb-true (height_of b) h q.0, eqb-true (parent_of b) p q.1)
    block_test (vote v h b a) t = tt
    block_test (blame v a) t = tt
    block_test (blame_set v m) t = tt
    block_test (status h b c m) t = tt

    abbrev fine : Message → Bool
    fine = is_one_block size n D es faulty height_of parent_of

    offers_test : (k j : ℕ) (m : Message) → Offers R faulty k j m
        → (k < length es → offered_as (E k) (λ j b. implies (is_sound size n D es faulty j) (if_some (offered b (at size n D E j k)) fine)) ≡ true) → fine m ≡ true
    unfolding offered_as
    offers_test k j m (ok, (b, e, r)) t =
        elim (dec_lt k (length es)) [
          | yes d ↦ (
              let h = subst (λ (y : Event). offered_as y (λ j b. implies (is_sound size n D es faulty j) (if_some (offered b (at size n D E j k)) fine)) ≡ true) e (t d) in
              if_some_true (offered b (at size n D E j k)) fine m (implies_true (is_sound size n D es faulty j) h (sound_test j ok)) r)
          | no d ↦ absurd (never_idle (offered_to j b) tt (sym (listed_idle k (omega arith)) ∙ e))
        ]

    names_checked : one_named size n D es faulty height_of parent_of ≡ true → OneName R faulty height_of parent_of
    unfolding one_named
    names_checked t k j m (inl h) = block_test m (hands_test k j m fine h (λ d. (and_2 (taken size n D es faulty k fine) _ (every_true (length es) _ t k d)).0))
    names_checked t k j m (inr o) = block_test m (offers_test k j m o (λ d. (and_2 (taken size n D es faulty k fine) _ (every_true (length es) _ t k d)).1))

  -- ---- nobody used up

  heard_checked : all_heard size n D es faulty ≡ true → NeverUsedUp R faulty
  unfolding all_heard given_to
  heard_checked t i j hi hj l k v h b a s o e r =
      elim (dec_lt k (length es)) [
        | yes d ↦ (
            let u = at size n D E j k in
            let bs = write (vote v h b a) in
            let z = subst (λ (y : Event). given_to y (λ j bs. implies (is_sound size n D es faulty j) (not (eqb (step bs (at size n D E j k)).number 12))) true ≡ true) e (every_true (length es) _ t k d) in
            let w = implies_true (is_sound size n D es faulty j) z (sound_test j hj) in
            no_bool (sym (eq-eqb (step bs u).number 12 r) ∙ not-true (eqb (step bs u).number 12) w))
        | no d ↦ never_idle (given j (write (vote v h b a))) tt (sym (listed_idle k (omega arith)) ∙ e)
      ]

  -- ---- proper buffers

  bytes_test : (bs : List ℕ) → all (λ b. ltb b 256) bs ≡ true → Bytes bs
  unfolding all
  bytes_test [] t = no_bytes
  bytes_test (b ∷ bs) t = let q = and_2 (ltb b 256) (all (λ b. ltb b 256) bs) t in one (ltb-true b 256 q.0) (bytes_test bs q.1)

  lent_test : (e : Event) → given_to e (λ j bs. all (λ b. ltb b 256) bs) true ≡ true → offered_as e (λ j b. ltb b (256 ^ 32)) ≡ true → IsLent e
  unfolding given_to offered_as
  lent_test idle t u = tt
  lent_test common_tick t u = tt
  lent_test (tick_of j) t u = tt
  lent_test (given j bs) t u = bytes_test bs t
  lent_test (offered_to j b) t u = ltb-true b (256 ^ 32) u

  lent_checked : all_lent size n D es faulty ≡ true → ProperBuffers R
  unfolding all_lent
  lent_checked t k =
      elim (dec_lt k (length es)) [
        | yes d ↦ (let q = and_2 _ _ (every_true (length es) _ t k d) in lent_test (E k) q.0 q.1)
        | no d ↦ subst IsLent (sym (listed_idle k (omega arith))) tt
      ]

  -- ---- delivery in time

  given_test : (e : Event) (j : ℕ) (bs : List ℕ) → given_to e (λ t cs. eqb t j && same_list cs bs) false ≡ true → e ≡ given j bs
  unfolding given_to
  given_test idle j bs t = no_bool (sym t)
  given_test common_tick j bs t = no_bool (sym t)
  given_test (tick_of i) j bs t = no_bool (sym t)
  given_test (given i cs) j bs t =
      let q = and_2 (eqb i j) (same_list cs bs) t in ap₂ (λ (x : ℕ) (ys : List ℕ). given x ys) (eqb-true i j q.0) (same_list_eq cs bs q.1)
  given_test (offered_to i b) j bs t = no_bool (sym t)

  sends_brought : (i j k : ℕ) (m : Message) → Sends R i j k m → (e : Effect) × IsSaid R i k e × (brought i j e ≡ some m)
  unfolding brought
  sends_brought i j k m (inl (s, ne)) =
      (to_all m, s, by_bool (eqb i j) (λ q. absurd (ne (eqb-true i j q))) (λ q. rw (q, brought)))
  sends_brought i j k m (inr s) = (to_one j m, s, rw (eq-eqb j j refl, brought))

  message_test : (i j k : ℕ) (m : Message) (l : ℕ) → comes_in_time size n D es faulty i j k m ≡ true → l < length es → ticks i (E l) ≡ 1
      → clock E i l ≡ clock E i (suc k) + D → comes size n D es faulty j k m l ≡ true
  unfolding comes_in_time
  message_test i j k m l t d tick now =
      implies_true (eqb (ticks i (E l)) 1 && eqb (clock E i l) (clock E i (suc k) + D))
      (every_true (length es) (λ l. implies (eqb (ticks i (E l)) 1 && eqb (clock E i l) (clock E i (suc k) + D)) (comes size n D es faulty j k m l)) t l d)
      (both (eq-eqb (ticks i (E l)) 1 tick) (eq-eqb (clock E i l) (clock E i (suc k) + D) now))

  tick_here : (i l : ℕ) → ticks i (E l) ≡ 1 → l < length es
  tick_here i l t =
      elim (dec_lt l (length es)) [
        | yes d ↦ d
        | no d ↦ (let z : ticks i (E l) ≡ 0 = ap (ticks i) (listed_idle l (omega arith)) ∙ (unfold ticks in refl) in absurd (omega arith))
      ]

  time_checked : all_in_time size n D es faulty ≡ true → InTime R faulty
  unfolding all_in_time said_in_time comes
  time_checked t i j hi hj k m s l tick now =
      let (e, q, b) = sends_brought i j k m s in
      let t1 = every_true n _ (every_true n _ t i hi.0) j hj.0 in
      let t2 = implies_true (is_sound size n D es faulty i && is_sound size n D es faulty j) t1 (both (sound_test i hi) (sound_test j hj)) in
      let t3 = all_true (said_in_time size n D es faulty i j k) (out size n D E i k) (every_true (length es) (λ x. all (said_in_time size n D es faulty i j x) (out size n D E i x)) t2 k (says_here i k e q)) e q in
      let t4 = message_test i j k m l (if_some_true (brought i j e) (comes_in_time size n D es faulty i j k) m t3 b) (tick_here i l tick) tick now in
      let (h, hl, g) = some_true l (λ h. ltb k h && given_to (E h) (λ x bs. eqb x j && same_list bs (write m)) false) t4 in
      let g2 = and_2 (ltb k h) (given_to (E h) (λ x bs. eqb x j && same_list bs (write m)) false) g in
      (h, ltb-true k h g2.0, hl, given_test (E h) j (write m) g2.1)

  -- ---- common ticks

  common_test : (e : Event) → is_common e ≡ true → IsCommon e
  unfolding is_common
  common_test idle t = tt
  common_test common_tick t = tt
  common_test (tick_of j) t = no_bool (sym t)
  common_test (given j bs) t = tt
  common_test (offered_to j b) t = tt

  common_checked : all_common size n D es faulty ≡ true → CommonTicks R
  unfolding all_common
  common_checked t k =
      elim (dec_lt k (length es)) [
        | yes d ↦ common_test (E k) (every_true (length es) (λ x. is_common (E x)) t k d)
        | no d ↦ subst IsCommon (sym (listed_idle k (omega arith))) tt
      ]

  -- ---- nobody sound stops

  stays : (i k : ℕ) → length es ≤ k → at size n D E i k ≡ at size n D E i (length es)
  unfolding at
  stays i zero l = let e : 0 ≡ length es = omega arith in ap (at size n D E i) e
  stays i (suc k) l =
      elim (dec_le (length es) k) [
        | yes d ↦ (ap (λ (e : Event). (happens i e (at size n D E i k)).next) (listed_idle k d) ∙ (unfold happens done saying in refl) ∙ stays i k d)
        | no d ↦ (let e : suc k ≡ length es = omega arith in ap (at size n D E i) e)
      ]

  not_stopped : (s : State) → running s ≡ true → HasRoom s
  unfolding running
  not_stopped s r = (λ e. no_bool (sym (rw (e, running) at r)), λ e. no_bool (sym (rw (e, running) at r)))

  run_checked : all_run size n D es faulty ≡ true → NeverFull R faulty
  unfolding all_run
  run_checked t i ok k =
      let r = implies_true (is_sound size n D es faulty i) (every_true n _ t i ok.0) (sound_test i ok) in
      elim (dec_lt k (suc (length es))) [
        | yes d ↦ not_stopped (at size n D E i k) (every_true (suc (length es)) (λ j. running (at size n D E i j)) r k d)
        | no d ↦ rw (stays i k (omega arith)) (not_stopped (at size n D E i (length es)) (every_true (suc (length es)) (λ j. running (at size n D E i j)) r (length es) (omega arith)))
      ]

  -- ---- all of them

  module _ (height_of parent_of : ℕ → ℕ) where
    abbrev tests : Premise → Bool
    tests = test size n D es faulty height_of parent_of

    tested : (p : Premise) → tests p ≡ true → Holds R faulty height_of parent_of p
    unfolding test
    tested settings_good t = t
    tested few_faulty t = leb-true (count faulty) (faults (settings_of size n D 0)) t
    tested never_full t = run_checked t
    tested common_ticks t = common_checked t
    tested proper_buffers t = lent_checked t
    tested in_time t = time_checked t
    tested no_forgery t = forgery_checked t
    tested one_name t = names_checked height_of parent_of t
    tested never_used_up t = heard_checked t

    -- a test stands in the verdict at its place
    placed : (f : Premise → Bool) (p : Premise) → get_or (map f premises) (place p) false ≡ f p
    unfolding premises place
    placed f settings_good = refl
    placed f few_faulty = refl
    placed f never_full = refl
    placed f common_ticks = refl
    placed f proper_buffers = refl
    placed f in_time = refl
    placed f no_forgery = refl
    placed f one_name = refl
    placed f never_used_up = refl

    holds : (f : Premise → Bool) → verdict size n D es faulty height_of parent_of ≡ map f premises → (p : Premise) → f p ≡ true → Holds R faulty height_of parent_of p
    unfolding verdict
    holds f v p t = tested p (sym (placed tests p) ∙ ap (λ (bs : List Bool). get_or bs (place p) false) v ∙ placed f p ∙ t)

    pub all_but : (q : Premise) → verdict size n D es faulty height_of parent_of ≡ map (λ p. other p q) premises → AllBut R faulty height_of parent_of q
    all_but q v p t = holds (λ p. other p q) v p t

    pub schedule_checked : verdict size n D es faulty height_of parent_of ≡ map (λ p. true) premises → Schedule R faulty height_of parent_of
    schedule_checked v =
        let all : (p : Premise) → Holds R faulty height_of parent_of p = λ p. holds (λ p. true) v p refl in
        record {
          premises =
              record {
                settings = all settings_good;
                few = all few_faulty;
                common = all common_ticks;
                lent = all proper_buffers;
                in_time = all in_time;
                no_forgery = all no_forgery;
                one_name = all one_name;
                heard = all never_used_up;
              };
          room = all never_full;
        }
