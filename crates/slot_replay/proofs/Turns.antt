-- A replay, slot by slot: what it will have come to stays the same. Assumes nothing.
use Prim.Native.Nat.{ℕ, suc, ◌+◌, ◌-◌, ◌*◌, ◌/◌, ◌^◌, ◌<◌, ◌≤◌}
use mathlib.Core.Path.{◌≡◌, sym, ap, ap₂, ◌∙◌, subst}
use mathlib.Core.Bool.{Bool, true, false, ◌&&◌}
use mathlib.Core.List.{List, ◌∷◌, ◌++◌}
use native.Mathlib.Omega.{arith}
use native.Mathlib.Nat.{add-zero}
use native.Mathlib.Numerals.{add-one}
use lib.ListN.{length, take, drop}
use lib.Seq.{take-add, take_all, drop_at, take-take, drop-drop, length-take-le}
use lib.Dec.{leb, eqb}
use denote.Bor.{Bor}
use borrow.Author.Tests.{eq-eqb, ne_eqb, leb-true, leb-false}
use Rattle.rules.specs.Lists.{unbe}
use Rattle.laws.proofs.Bytes.{length_unbe}
use Rattle.laws.proofs.Tests.{by_bool}
use Rattle.fields.specs.Places.{put}
use Rattle.outgoing.specs.Wrote.{wrote}
use Rattle.outgoing.proofs.Writing.{wrote_append, put_wrote}
use Rattle.slots.specs.Slots as slots
use Rattle.slots.specs.Slots.{slot_length, most_input, judged, torn}
use Rattle.slot_reader.specs.Meaning.{input_place, slot_of, Within}
use Rattle.slot_reader.specs.declared.Slot.{Slot}
use Rattle.slot_reader.specs.declared.Slot.TheVariants.{Blank, Torn, Bad, Whole}
use Rattle.journal.specs.Journal.{slot_count, slot_at, slots_from, slots_of}
use Rattle.journal.proofs.Rooms.{slots_step, slots_end, slot_count_lem}
use Rattle.keeping.specs.Taken.{is_taken}
use Rattle.slot_replay.specs.Handed.{handed}
use Rattle.slot_replay.specs.Fold.{Replay, ends, skipping, replay_from, places_bytes}
use Rattle.slot_replay.specs.Meaning.{Hands, Ended, Bounded, ended, end_of}
use Rattle.slot_replay.specs.declared.Ending.{Ending}

abbrev ending : Bool → ℕ → ℕ → ℕ → Ending
ending stop c p n = record { stopped = stop; records = c; place = p; torn = n }

-- where it ends, nothing is left to write
pub at_rest : (stop : Bool) (c p n : ℕ) (b o t : List ℕ) → ended (ending stop c p n) b o t ≡ end_of n t (ends stop c p b o)
unfolding ended end_of ends places_bytes wrote
at_rest stop c p n b o t =
    ap (λ (x : ℕ). record { stopped = stop; records = c; place = p; torn = x; store = b; out = o; report = t }) (sym (add-zero n))

-- a torn place, written
pub at_skip : (p n : ℕ) (t : List ℕ) (v : Replay) → p < 2 ^ 32 → end_of (n + 1) (put t (12 + 4 * n) 4 p) v ≡ end_of n t (skipping p v)
unfolding end_of skipping places_bytes
at_skip p n t v h =
    let ps = places_bytes v.torn in
    let count : n + 1 + length v.torn ≡ n + suc (length v.torn) = omega arith in
    let place : 12 + 4 * (n + 1) ≡ 12 + 4 * n + length (unbe 4 p) = omega (arith, length_unbe 4 p) in
    let bytes : wrote (put t (12 + 4 * n) 4 p) (12 + 4 * (n + 1)) ps ≡ wrote t (12 + 4 * n) (unbe 4 p ++ ps) =
    ap₂ (λ (l : List ℕ) (x : ℕ). wrote l x ps) (put_wrote t (12 + 4 * n) 4 p h) place ∙ sym (wrote_append t (12 + 4 * n) (unbe 4 p) ps) in
    ap₂ (λ (x : ℕ) (l : List ℕ). record { stopped = v.stopped; records = v.records; place = v.place; torn = x; store = v.store; out = v.out; report = l }) count bytes

-- an ending within the journal
pub bounded_at : (j : List ℕ) {stop : Bool} {c p k : ℕ} → c ≤ p → k ≤ p → p ≤ length j / slot_length → Bounded j (ending stop c p k)
bounded_at j h l m = record { records = h; torn = l; place = omega (arith, slot_count_lem j) }

pub at_start : (j b o t : List ℕ) → end_of 0 t (replay_from 0 0 b o (slots_from j 0 (length j / slot_length - 0))) ≡ end_of 0 t (replay_from 0 0 b o (slots_of j))
unfolding slots_of
at_start j b o t = let e : length j / slot_length - 0 ≡ slot_count j = omega (arith, slot_count_lem j) in ap (λ (n : ℕ). end_of 0 t (replay_from 0 0 b o (slots_from j 0 n))) e

-- one slot: what a replay from it on will have come to is what one from the next on will, or it ends here
module _ (j : List ℕ) (w : Ended) (c p n k : ℕ) (b o t : List ℕ) (i : end_of k t (replay_from c p b o (slots_from j p (n - p))) ≡ w) where
  pub at_end : n ≡ p → ended (ending false c n k) b o t ≡ w
  unfolding replay_from
  at_end e = rw e (at_rest false c p k b o t ∙ sym (ap (λ l. end_of k t (replay_from c p b o l)) (slots_end j p n (omega arith))) ∙ i)

  module _ (h : p < n) (r : Slot) (s : slot_of r ≡ judged (slot_at j p)) where
    abbrev rest : List slots.Slot
    rest = slots_from j (p + 1) (n - (p + 1))

    here : {x : slots.Slot} → slot_of r ≡ x → end_of k t (replay_from c p b o (x ∷ rest)) ≡ w
    here e = sym (ap (λ l. end_of k t (replay_from c p b o l)) (slots_step j p n h ∙ ap (◌∷ rest) (sym s ∙ e))) ∙ i

    pub at_blank : r ≡ Blank → ended (ending false c p k) b o t ≡ w
    unfolding replay_from slot_of
    at_blank e = at_rest false c p k b o t ∙ here (ap slot_of e)

    pub at_torn : {t' : List ℕ} → r ≡ Torn → p < 2 ^ 32 → t' ≡ put t (12 + 4 * k) 4 p → end_of (k + 1) t' (replay_from c (p + 1) b o rest) ≡ w
    unfolding replay_from slot_of
    at_torn e l u = ap (λ (x : List ℕ). end_of (k + 1) x (replay_from c (p + 1) b o rest)) u ∙ at_skip p k t (replay_from c (p + 1) b o rest) l ∙ ap (λ (x : ℕ). end_of k t (skipping p (replay_from c x b o rest))) (add-one p) ∙ here (ap slot_of e)

    pub at_bad : r ≡ Bad → ended (ending true c p k) b o t ≡ w
    unfolding replay_from slot_of
    at_bad e = at_rest true c p k b o t ∙ here (ap slot_of e)

    module _ {q f : ℕ} {i₀ : Bor (List ℕ)} (e : r ≡ Whole q f i₀) where
      abbrev input : List ℕ
      input = i₀.now

      -- a whole record, by whether its number is the next and its input is taken
      abbrev goes : Bool → Replay
      goes x = elim x [ false ↦ ends true c p b o | true ↦ replay_from (suc c) (suc p) (handed f input b o).store (handed f input b o).out rest ]

      numbered : (x : Bool) → (eqb q c && is_taken (handed f input b o).result) ≡ x → end_of k t (goes x) ≡ w
      unfolding replay_from slot_of
      numbered x d = sym (ap (λ y. end_of k t (goes y)) d) ∙ here (ap slot_of e)

      pub at_other : (q ≡ c → ⊥) → ended (ending true c p k) b o t ≡ w
      at_other d = at_rest true c p k b o t ∙ numbered false (ap (◌&& is_taken (handed f input b o).result) (ne_eqb q c d))

      module _ {b' o' : List ℕ} {a : ℕ} (g : Hands f i₀.now b o a b' o') (d : q ≡ c) where
        taken_is : is_taken (handed f input b o).result ≡ is_taken a
        taken_is = ap is_taken (sym g.gives.result)

        test : (x : Bool) → is_taken a ≡ x → (eqb q c && is_taken (handed f input b o).result) ≡ x
        test x u = ap₂ (λ (y z : Bool). y && z) (eq-eqb q c d) (taken_is ∙ u)

        pub at_untaken : {y : Bool} → y ≡ is_taken a → y ≡ false → ended (ending true c p k) b' o' t ≡ w
        at_untaken v u =
            let z = g.untaken (sym v ∙ u) in
            ap₂ (λ (x y : List ℕ). ended (ending true c p k) x y t) z.0 z.1 ∙ at_rest true c p k b o t ∙ numbered false (test false (sym v ∙ u))

        pub at_taken : {y : Bool} → y ≡ is_taken a → y ≡ true → end_of k t (replay_from (c + 1) (p + 1) b' o' rest) ≡ w
        at_taken v u =
            ap₂ (λ (x y : ℕ). end_of k t (replay_from x y b' o' rest)) (add-one c) (add-one p)
            ∙ ap₂ (λ (x y : List ℕ). end_of k t (replay_from (suc c) (suc p) x y rest)) g.gives.store g.gives.out
            ∙ numbered true (test true (sym v ∙ u))
