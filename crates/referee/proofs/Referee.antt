-- 02, request 13: the plain engine "gives the same answers, output and log as the working station on every sequence that its lent
-- list can hold", call by call from fresh. Stated of the exported calls: a list against a store. Assumes nothing.
use Prim.Native.Nat.{ℕ, zero, suc, ◌*◌, ◌/◌, ◌^◌, ◌<◌, ◌≤◌}
use mathlib.Core.Path.{◌≡◌, refl, sym, ap, ◌∙◌, subst}
use mathlib.Core.Bool.{Bool, true, false}
use mathlib.Core.List.{List, [], ◌∷◌, ◌++◌}
use mathlib.Core.Logic.{⊎_elim}
use mathlib.Core.Option.{Option, none, some}
use native.Mathlib.Omega.{arith}
use native.Mathlib.Nat.{eq-or-lt_of_le}
use lib.ListN.{length, length-append}
use borrow.Author.Tests.{eq-eqb, le-leb}
use Rattle.rules.specs.Limits.{Size, small, least_out}
use Rattle.rules.specs.Sizes.{Settings, good_settings}
use Rattle.rules.specs.Words.{State, fresh}
use Rattle.laws.proofs.Bytes.{Bytes}
use Rattle.laws.proofs.Tests.{by_bool, no_bool}
use Rattle.kept.proofs.WellFormed.{whole, fresh_formed}
use Rattle.store.specs.Layout.{store_length}
use Rattle.store.specs.Decode.{state_of, encode}
use Rattle.fresh.specs.Fresh.{freshly, answer}
use Rattle.store.proofs.Forms.{sized}
use Rattle.oneform.proofs.OneForm.{encoded_left}
use Rattle.calls.specs.Calls.{Called}
use Rattle.slots.specs.Slots.{is_kept}
use Rattle.lent_list.specs.Lists.{Input, bytes_of, inputs_of, slots_in, has_length, fresh_list}
use Rattle.lent_list.specs.Plain.{folded, held, Answer, Left, left, plain_fresh, logged, plain_log}
use Rattle.referee.specs.Runs.{plain_call, station_call, Same, list_at, store_at, plain_at, station_at, Holds}
use Rattle.referee.proofs.Listing.{Lists, gives_back, filled, fresh_lists}
use Rattle.referee.proofs.Turns.{Tied, Turn, full, passed, joined, held_is, proper, turns}

-- settings of a small group; a list of a proper length and a store of the small length are lent
module _ (n D own : ℕ) (list store : List ℕ) (long : has_length list ≡ true) (wide : length store ≡ store_length small) where
  abbrev asked : Settings
  asked = record { n = n; D = D; own = own; size = small }

  abbrev plain_by : Bool → Left
  plain_by z = elim z [ false ↦ left (10 * 2 ^ 32) list | true ↦ left 0 (fresh_list asked (length list)) ]

  abbrev plain_test : Bool → Left
  plain_test z = elim z [ false ↦ left (1 * 2 ^ 32) list | true ↦ plain_by (good_settings asked) ]

  plain_fresh_lem : {z : Bool} → good_settings asked ≡ z → plain_fresh list n D own ≡ plain_by z
  unfolding plain_fresh
  plain_fresh_lem e = ap plain_test long ∙ ap plain_by e

  station_bad : good_settings asked ≡ false → freshly store n D own ≡ answer (10 * 2 ^ 32) store
  unfolding freshly
  station_bad g = let e = sized small store wide in rw (e, eq-eqb (length store) (store_length small) wide, freshly, g)

  station_good : good_settings asked ≡ true → freshly store n D own ≡ answer 0 (encode (fresh asked))
  unfolding freshly
  station_good g =
      let e = sized small store wide in
      rw (e, eq-eqb (length store) (store_length small) wide, freshly, g) (ap (λ (z : Size). answer 0 (encode (fresh (record { n = n; D = D; own = own; size = z })))) e)

  -- a fresh list is answered as a fresh store is
  pub fresh_alike : (plain_fresh list n D own).result ≡ (freshly store n D own).result
  fresh_alike =
      by_bool (good_settings asked)
      (λ g. ap (λ (a : Left). a.result) (plain_fresh_lem g) ∙ (unfold left answer in sym (ap (λ a. a.result) (station_good g))))
      (λ g. ap (λ (a : Left). a.result) (plain_fresh_lem g) ∙ (unfold left answer in sym (ap (λ a. a.result) (station_bad g))))

  -- good settings, any inputs of any bytes, and for each call an out buffer of any bytes and any length
  module _ (good : good_settings asked ≡ true) (input : ℕ → Input) (bytes : (k : ℕ) → Bytes (bytes_of (input k))) (lent : ℕ → List ℕ) where
    abbrev lists : ℕ → List ℕ
    lists = list_at n D own input list store lent

    abbrev stores : ℕ → List ℕ
    stores = store_at n D own input list store lent

    abbrev Held : ℕ → Type 0
    Held = Holds n D own input list store lent

    starts : Lists (slots_in list) asked [] (lists zero)
    unfolding list_at
    starts = rw (ap (λ (a : Left). a.bytes) (plain_fresh_lem good)) (unfold left in fresh_lists asked good refl list long)

    -- the list and the store hold the same inputs
    tied : (k : ℕ) → Held k → Tied (slots_in list) asked (lists k) (stores k)
    unfolding list_at store_at
    tied zero h =
        record {
          inputs = [];
          lists = starts;
          state = fresh asked;
          folds = (unfold folded in refl);
          formed = fresh_formed asked good;
          settings = (unfold fresh in refl);
          store = ap (λ a. a.store) (station_good good) ∙ (unfold answer in refl);
        }
    tied (suc k) h = next (turns refl (tied k (λ j u. h j (omega arith))) (input k) (bytes k) (lent k))
      where
        next : Turn (slots_in list) asked (input k) (lists k) (plain_call (input k) (lists k) (lent k)) (station_call (input k) (stores k) (lent k))
            → Tied (slots_in list) asked (plain_call (input k) (lists k) (lent k)).list (station_call (input k) (stores k) (lent k)).store
        next (full f e) = absurd (h k (omega arith) e)
        next (passed a t d e u) = t
        next (joined a t d u) = t

    -- call k
    abbrev plain : ℕ → Answer
    plain = plain_at n D own input list store lent

    abbrev station : ℕ → Called
    station = station_at n D own input list store lent

    abbrev Turned : ℕ → Type 0
    Turned k = Turn (slots_in list) asked (input k) (lists k) (plain k) (station k)

    turned : (k : ℕ) → Held k → Turned k
    turned k h = turns refl (tied k h) (input k) (bytes k) (lent k)

    -- "the same answers, output": each call that the list can hold, and those before it
    pub answers_alike : (k : ℕ) → Held (suc k) → Same (plain k) (station k)
    answers_alike k h = next (turned k (λ j u. h j (omega arith)))
      where
        next : Turned k → Same (plain k) (station k)
        next (full f e) = absurd (h k (omega arith) e)
        next (passed a t d e u) = a
        next (joined a t d u) = a

    -- an answer 0, 6, 7 or 8 adds exactly its input to the list, and any other adds nothing
    pub one_added : (k : ℕ) → Held (suc k) → is_kept ((plain k).result / 2 ^ 32) ≡ true → inputs_of (plain k).list ≡ inputs_of (lists k) ++ input k ∷ []
    one_added k h v = next (turned k (λ j u. h j (omega arith)))
      where
        next : Turned k → inputs_of (plain k).list ≡ inputs_of (lists k) ++ input k ∷ []
        next (full f e) = absurd (h k (omega arith) e)
        next (passed a t d e u) = no_bool (sym v ∙ u)
        next (joined a t d u) = d

    pub none_added : (k : ℕ) → Held (suc k) → is_kept ((plain k).result / 2 ^ 32) ≡ false → (plain k).list ≡ lists k
    none_added k h v = next (turned k (λ j u. h j (omega arith)))
      where
        next : Turned k → (plain k).list ≡ lists k
        next (full f e) = absurd (h k (omega arith) e)
        next (passed a t d e u) = d
        next (joined a t d u) = no_bool (sym u ∙ v)

    -- ---- what a list can hold: as many inputs as it has slots, and 13 only where they are used up

    used : (k : ℕ) → Held k → length (inputs_of (lists k)) ≤ k
    unfolding list_at
    used zero h = let e = ap length (gives_back starts) in omega (arith, e)
    used (suc k) h = let u = used k (λ j u. h j (omega arith)) in next u (turned k (λ j u. h j (omega arith)))
      where
        next : length (inputs_of (lists k)) ≤ k → Turned k → length (inputs_of (plain k).list) ≤ suc k
        next u (full f e) = absurd (h k (omega arith) e)
        next u (passed a t d e v) = rw d (omega arith)
        next u (joined a t d v) = rw d (omega (arith, length-append (inputs_of (lists k)) (input k ∷ [])))

    not_13 : (k : ℕ) → (plain k).result ≡ 13 * 2 ^ 32 → is_kept ((plain k).result / 2 ^ 32) ≡ true → ⊥
    unfolding is_kept
    not_13 k e u = no_bool (sym u ∙ ap (λ (r : ℕ). is_kept (r / 2 ^ 32)) e)

    free : (k : ℕ) → k < slots_in list → Held k → (plain k).result ≡ 13 * 2 ^ 32 → ⊥
    free k h b e = next (turned k b)
      where
        next : Turned k → ⊥
        next (full f d) = omega (arith, filled (tied k b).lists f, ap length (gives_back (tied k b).lists), used k b)
        next (passed a t d n u) = n e
        next (joined a t d u) = not_13 k e u

    pub roomy : (k : ℕ) → k ≤ slots_in list → Held k
    roomy zero h j u e = absurd (omega arith)
    roomy (suc k) h j u e =
        let before : Held k = roomy k (omega arith) in
        ⊎_elim (λ (d : j ≡ k). free k (omega arith) before (subst (λ (i : ℕ). (plain i).result ≡ 13 * 2 ^ 32) d e)) (λ (d : j < k). before j d e)
        (eq-or-lt_of_le {n = j} {m = k} (omega arith))

    module _ (k : ℕ) (o : List ℕ) where
      abbrev log_of : Option State → Left
      log_of z = elim z [ none ↦ left (2 * 2 ^ 32) o | some s ↦ logged s.log o ]

      abbrev log_test : Bool → Left
      log_test z = elim z [ false ↦ left (1 * 2 ^ 32) o | true ↦ log_of (held (lists k)) ]

    -- "and log": what is written of the list's log is the log that the store holds
    pub logs_alike : (k : ℕ) → Held k → (o : List ℕ) → least_out small ≤ length o → plain_log (lists k) o ≡ logged (state_of (stores k)).log o
    unfolding plain_log
    logs_alike k h o w =
        let t = tied k h in
        let is : state_of (stores k) ≡ t.state = ap state_of t.store ∙ (encoded_left t.state (whole t.formed)).is in
        ap (log_test k o) (proper refl t o ∙ le-leb (least_out small) (length o) w) ∙ ap (log_of k o) (held_is refl t) ∙ ap (λ (s : State). logged s.log o) (sym is)
