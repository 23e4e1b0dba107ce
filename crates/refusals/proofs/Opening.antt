-- What bars every call alike: where nothing does, the rules answer; else the buffers stay as they were. Assumes nothing.
use Prim.Native.Nat.{ℕ, ◌*◌, ◌^◌, ◌≤◌, ◌<◌}
use mathlib.Core.Path.{◌≡◌, refl, sym, ap, ◌∙◌, subst}
use mathlib.Core.Bool.{Bool, true, false, not, ◌&&◌, and-false}
use mathlib.Core.List.{List}
use native.Mathlib.Omega.{arith}
use lib.ListN.{length}
use lib.Dec.{leb, eqb}
use borrow.Author.Tests.{eq-eqb, le-leb, lt-leb, eqb-true, leb-true, not-true, not-false}
use Rattle.rules.specs.Limits.{least_out}
use Rattle.rules.specs.Messages.{outgoing}
use Rattle.rules.specs.Words.{State}
use Rattle.rules.specs.Refusals.{Outcome, refused, running}
use Rattle.rules.specs.WellFormed.{well_formed}
use Rattle.laws.proofs.Tests.{by_bool, no_bool}
use Rattle.laws.proofs.Truths.{and_2, both}
use Rattle.fields.specs.Places.{Bytes}
use Rattle.store.specs.Layout.{store_length, size_in}
use Rattle.store.specs.Decode.{state_of, has_form}
use Rattle.outgoing.proofs.Writing.{wrote_prefix}
use Rattle.oneform.proofs.Held.{left_bytes}
use Rattle.formed.proofs.Whole.{formed_decoded, unformed_decoded}
use Rattle.calls.specs.Calls.{Called, refusal, answered, called, Gives}
use Rattle.acts.specs.Works.{Formed}
use Rattle.acts.proofs.Works.{state_size}
use Rattle.stops.specs.Answers.{Answers}
use Rattle.stops.proofs.Answers.{answers_is, refused_short, refused_answers}
use Rattle.refusals.specs.Barred.{barred, refusal_number, unformed, Checks}
use Rattle.std.specs.Prelude.{Result, Ok, Err, ⊤}
use Rattle.answer.specs.Numbers.{number_of}
use Rattle.answer.specs.declared.Refusal.{Refusal}
use Rattle.answer.specs.declared.Refusal.TheVariants.{Lengths, Malformed, Stopped, Unreadable, NotAllowed, Full, Split, Clock, NoOffer, BadSettings, Ahead, UsedUp, Journal, Envelope, Slip}

-- a refusal has a number
pub refusal_some : (e : Refusal) → number_of e ≡ 0 → ⊥
refusal_some Lengths z = absurd (omega arith)
refusal_some Malformed z = absurd (omega arith)
refusal_some Stopped z = absurd (omega arith)
refusal_some Unreadable z = absurd (omega arith)
refusal_some NotAllowed z = absurd (omega arith)
refusal_some Full z = absurd (omega arith)
refusal_some Split z = absurd (omega arith)
refusal_some Clock z = absurd (omega arith)
refusal_some NoOffer z = absurd (omega arith)
refusal_some BadSettings z = absurd (omega arith)
refusal_some Ahead z = absurd (omega arith)
refusal_some UsedUp z = absurd (omega arith)
refusal_some Journal z = absurd (omega arith)
refusal_some Envelope z = absurd (omega arith)
refusal_some Slip z = absurd (omega arith)

module _ {q : Result ⊤ Refusal} {e : Refusal} (i : q ≡ Err e) where
  pub refusal_err : refusal_number q ≡ 0 → ⊥
  refusal_err z = refusal_some e (ap refusal_number (sym i) ∙ z)

  pub refusal_told : {r : ℕ} → r ≡ number_of e * 2 ^ 32 → r ≡ refusal_number q * 2 ^ 32
  refusal_told t = t ∙ ap (λ (x : Result ⊤ Refusal). refusal_number x * 2 ^ 32) (sym i)

-- else it is no number
pub refusal_none : (q : Result ⊤ Refusal) → ((e : Refusal) → q ≡ Err e → ⊥) → refusal_number q ≡ 0
refusal_none (Ok u) h = refl
refusal_none (Err e) h = absurd (h e refl)

-- ---- from an outcome as it stands in the buffers to what a call gives

module _ {x : Outcome} {o b' o' : List ℕ} {r : ℕ} where
  pub answers_gives : length (outgoing x.out) ≤ length o → Answers x o b' o' r → Gives (answered x o) r b' o'
  unfolding answered
  answers_gives l a = record { result = a.told; store = left_bytes a.left; out = a.out ∙ wrote_prefix o (outgoing x.out) l }

-- ---- what the check says

module _ (b o : List ℕ) where
  abbrev fits : Bool
  fits = eqb (length b) (store_length (size_in b)) && leb (least_out (size_in b)) (length o)

  abbrev whole : Bool
  whole = has_form b && well_formed (state_of b)

  unformed_lengths : fits ≡ false → 1 ≡ unformed b o
  unfolding unformed
  unformed_lengths p = rw (p, unformed)

  pub unformed_store : {y : Bool} → y ≡ eqb (length b) (store_length (size_in b)) → not y ≡ true → 1 ≡ unformed b o
  unformed_store {y} e n = unformed_lengths (rw (sym e ∙ not-true y n))

  pub unformed_out : length o < least_out (size_in b) → 1 ≡ unformed b o
  unformed_out h = unformed_lengths (ap (eqb (length b) (store_length (size_in b)) &&◌) (lt-leb (least_out (size_in b)) (length o) h) ∙ and-false (eqb (length b) (store_length (size_in b))))

  pub lent_long : {y : Bool} → y ≡ eqb (length b) (store_length (size_in b)) → not y ≡ false → length b ≡ store_length (size_in b)
  lent_long {y} e n = eqb-true (length b) (store_length (size_in b)) (sym e ∙ not-false y n)

  module _ {y : Bool} (e : y ≡ eqb (length b) (store_length (size_in b))) (n : not y ≡ false) (m : least_out (size_in b) ≤ length o) where
    proper : fits ≡ true
    proper = rw (sym e ∙ not-false y n, le-leb (least_out (size_in b)) (length o) m)

    pub unformed_bytes : whole ≡ false → 2 ≡ unformed b o
    unfolding unformed
    unformed_bytes g = rw (proper, unformed, g)

    pub unformed_not : whole ≡ true → 0 ≡ unformed b o
    unfolding unformed
    unformed_not g = rw (proper, unformed, g)

-- where it refuses nothing is told
pub checks_untold : {b o t : List ℕ} {r : ℕ} → 0 < r → r ≡ unformed b o → Checks b o r t
checks_untold l e = record { is = e; told = λ z. absurd (omega arith) }

-- it refuses nothing
pub record Lent (b o : List ℕ) : Type 0 where
  pub long : length b ≡ store_length (size_in b)
  pub room : least_out (size_in b) ≤ length o
  pub formed : (has_form b && well_formed (state_of b)) ≡ true

module _ (b o : List ℕ) where
  pub lent : unformed b o ≡ 0 → Lent b o
  unfolding unformed
  lent z =
      by_bool (fits b o)
      (λ p.
      by_bool (whole b o)
      (λ g.
      let t = and_2 (eqb (length b) (store_length (size_in b))) (leb (least_out (size_in b)) (length o)) p in
      record { long = eqb-true (length b) (store_length (size_in b)) t.0; room = leb-true (least_out (size_in b)) (length o) t.1; formed = g })
      (λ g. absurd (let n : 2 ≡ 0 = rw (p, unformed, g) at z in omega arith)))
      (λ p. absurd (let n : 1 ≡ 0 = rw (p, unformed) at z in omega arith))

  -- any number of it bars the call
  pub barred_unformed : (unformed b o ≡ 0 → ⊥) → unformed b o ≡ barred b o
  unfolding unformed barred
  barred_unformed n =
      by_bool (fits b o) (λ p. by_bool (whole b o) (λ g. absurd (n (rw (p, unformed, g)))) (λ g. rw (p, unformed, barred, g))) (λ p. rw (p, unformed, barred))

  module _ (k : Lent b o) where
    lent_fits : fits b o ≡ true
    lent_fits = both (eq-eqb (length b) (store_length (size_in b)) k.long) (le-leb (least_out (size_in b)) (length o) k.room)

    pub lent_formed : Bytes b → Formed b
    lent_formed h = let t = and_2 (has_form b) (well_formed (state_of b)) k.formed in record { form = record { bytes = h; form = t.0 }; good = t.1 }

    pub barred_stopped : running (state_of b) ≡ false → 3 ≡ barred b o
    unfolding barred
    barred_stopped r = rw (lent_fits, barred, k.formed, r)

    pub barred_not : running (state_of b) ≡ true → 0 ≡ barred b o
    unfolding barred
    barred_not r = rw (lent_fits, barred, k.formed, r)

    -- a store that is well formed is answered by the rules
    called_formed : (f : State → Outcome) → called f b o ≡ answered (f (state_of b)) o
    unfolding called
    called_formed f = rw (lent_fits, called, formed_decoded b true (sym k.formed) refl)

    pub lent_gives : {b' o' : List ℕ} {r : ℕ} (f : State → Outcome) → length (outgoing (f (state_of b)).out) ≤ least_out (state_of b).settings.size → Answers (f (state_of b)) o b' o' r
        → Gives (called f b o) r b' o'
    lent_gives {b'} {o'} {r} f l a =
        subst (λ (c : Called). Gives c r b' o') (sym (called_formed f)) (answers_gives (omega (arith, k.room, ap least_out (state_size b))) a)

  -- else nothing changes
  pub unformed_gives : (f : State → Outcome) {r : ℕ} → r ≡ unformed b o * 2 ^ 32 → (unformed b o ≡ 0 → ⊥) → Gives (called f b o) r b o
  unfolding unformed called refusal
  unformed_gives f e n =
      by_bool (fits b o)
      (λ p.
      by_bool (whole b o) (λ g. absurd (n (rw (p, unformed, g))))
      (λ g. rw (p, called, unformed_decoded b false (sym g) refl) (record { result = rw (p, unformed, g) at e; store = refl; out = refl })))
      (λ p. rw (p, called) (record { result = rw (p, unformed) at e; store = refl; out = refl }))

-- ---- what bars a call

-- nothing bars it
pub record Opened (b o : List ℕ) : Type 0 where
  pub lent : Lent b o
  pub runs : running (state_of b) ≡ true

module _ (b o : List ℕ) where
  -- what the check says of the buffers decides, or the phase
  by_check : {P : Type 0} → (Lent b o → P) → ((unformed b o ≡ 0 → ⊥) → P) → P
  by_check f g = by_bool (eqb (unformed b o) 0) (λ z. f (lent b o (eqb-true (unformed b o) 0 z))) (λ z. g (λ q. no_bool (sym (eq-eqb (unformed b o) 0 q) ∙ z)))

  pub opened : barred b o ≡ 0 → Opened b o
  opened z =
      by_check
      (λ k. by_bool (running (state_of b)) (λ r. record { lent = k; runs = r }) (λ r. absurd (omega (arith, barred_stopped b o k r))))
      (λ n. absurd (n (barred_unformed b o n ∙ z)))

  -- something bars it: nothing changes
  module _ (f : State → Outcome) (stops : (s : State) → running s ≡ false → f s ≡ refused 3 s) (h : Bytes b) {r : ℕ} (e : r ≡ barred b o * 2 ^ 32) where
    stopped_gives : Lent b o → running (state_of b) ≡ false → Gives (called f b o) r b o
    stopped_gives k q =
        let s = state_of b in
        let c = sym (stops s q) in
        let a = refused_answers 3 (lent_formed b o k h).form (e ∙ ap (◌* 2 ^ 32) (sym (barred_stopped b o k q))) o in
        lent_gives b o k f (subst (λ (x : Outcome). length (outgoing x.out) ≤ least_out s.settings.size) c (refused_short 3 s)) (answers_is c a)

    pub barred_gives : (barred b o ≡ 0 → ⊥) → Gives (called f b o) r b o
    barred_gives n =
        by_check (λ k. by_bool (running (state_of b)) (λ q. absurd (n (sym (barred_not b o k q)))) (λ q. stopped_gives k q))
        (λ d. unformed_gives b o f (e ∙ ap (◌* 2 ^ 32) (sym (barred_unformed b o d))) d)
