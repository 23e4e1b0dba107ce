-- The lengths that a replay asks for, its report, and what the call leaves. Assumes nothing.
use Prim.Native.Nat.{ℕ, suc, ◌+◌, ◌-◌, ◌*◌, ◌^◌, ◌<◌, ◌≤◌}
use mathlib.Core.Path.{◌≡◌, refl, sym, ap, ap₂, ◌∙◌}
use mathlib.Core.Bool.{Bool, true, false, ◌&&◌}
use mathlib.Core.List.{List, [], ◌∷◌, ◌++◌}
use mathlib.Core.Option.{Option, none, some}
use native.Mathlib.Omega.{arith}
use native.Mathlib.Nat.{add-suc}
use lib.ListN.{length, drop, set, length-append, length-drop}
use lib.Seq.{drop-drop, drop-set-add}
use lib.Dec.{leb, eqb}
use borrow.Author.Tests.{eqb-true, ltb-true, leb-true, lt-ltb, le-ltb, lt-leb, le-leb}
use Rattle.rules.specs.Limits.{least_out}
use Rattle.rules.specs.Lists.{unbe}
use Rattle.rules.specs.Words.{State}
use Rattle.rules.specs.WellFormed.{well_formed}
use Rattle.laws.proofs.Bytes.{length_unbe}
use Rattle.laws.proofs.Truths.{and_4}
use Rattle.fields.specs.Places.{put}
use Rattle.outgoing.specs.Wrote.{wrote}
use Rattle.outgoing.proofs.Writing.{wrote_append, wrote_prefix, put_wrote, length_wrote}
use Rattle.store.specs.Layout.{store_length, size_in}
use Rattle.store.specs.Decode.{decode, state_of, has_form}
use Rattle.formed.proofs.Whole.{formed_decoded, unformed_decoded}
use Rattle.journal.specs.Journal.{slot_count, slots_of, is_short}
use Rattle.slot_replay.specs.Fold.{Replay, replay_from, places_bytes, report_length}
use Rattle.replay.specs.Replay.{told, report_bytes, Replayed, replayed, reported, has_lengths, replaying}
use Rattle.slot_replay.specs.Meaning.{Ended, ended, end_of, Replays}
use Rattle.slot_replay.specs.declared.Ending.{Ending}

-- ---- lengths

module _ (j b o t : List ℕ) where
  abbrev long : Bool
  long = eqb (length b) (store_length (size_in b))

  abbrev all : Bool → Bool → Bool → Bool → Bool
  all x y z u = x && y && z && u

  abbrev wide : Bool
  wide = leb (least_out (size_in b)) (length o)

  abbrev listed : Bool
  listed = leb (report_length (slot_count j)) (length t)

  pub no_store : {y : Bool} → y ≡ long → y ≡ false → false ≡ has_lengths j b o t
  unfolding has_lengths
  no_store e f = sym (ap (λ (x : Bool). all x wide (is_short j) listed) (sym e ∙ f))

  module _ {y : Bool} (e : y ≡ long) (f : y ≡ true) where
    pub no_out : length o < least_out (size_in b) → false ≡ has_lengths j b o t
    unfolding has_lengths
    no_out h = sym (ap₂ (λ (x z : Bool). all x z (is_short j) listed) (sym e ∙ f) (lt-leb (least_out (size_in b)) (length o) h))

    module _ (w : least_out (size_in b) ≤ length o) {n : ℕ} (c : n ≡ slot_count j) where
      opened : (x : Bool) → is_short j ≡ x → has_lengths j b o t ≡ (x && listed)
      unfolding has_lengths
      opened x g = ap₂ (λ (x z : Bool). all x z (is_short j) listed) (sym e ∙ f) (le-leb (least_out (size_in b)) (length o) w) ∙ ap (◌&& listed) g

      pub too_long : 4_294_967_295 < n → false ≡ has_lengths j b o t
      unfolding is_short
      too_long h = sym (opened false (le-ltb (slot_count j) (2 ^ 32) (omega (arith, c))))

      pub by_report : n ≤ 4_294_967_295 → leb (12 + 4 * n) (length t) ≡ has_lengths j b o t
      unfolding is_short
      by_report h = ap (λ (x : ℕ). leb (report_length x) (length t)) c ∙ sym (opened true (lt-ltb (slot_count j) (2 ^ 32) (omega (arith, c))))

  -- what follows of them
  pub lengths_parts : {y : Bool} → y ≡ has_lengths j b o t → y ≡ true
      → (length b ≡ store_length (size_in b)) × (slot_count j < 2 ^ 32) × (report_length (slot_count j) ≤ length t)
  unfolding has_lengths is_short
  lengths_parts e f =
      let p = and_4 long wide (is_short j) listed (sym e ∙ f) in
      (eqb-true (length b) (store_length (size_in b)) p.0, ltb-true (slot_count j) (2 ^ 32) p.2, leb-true (report_length (slot_count j)) (length t) p.3)

-- ---- the report

length_places : (ps : List ℕ) → length (places_bytes ps) ≡ 4 * length ps
unfolding places_bytes
length_places [] = refl
length_places (p ∷ ps) = omega (arith, length-append (unbe 4 p) (places_bytes ps), length_unbe 4 p, length_places ps)

-- what is written behind a place, from there on
drop_wrote : (n k : ℕ) (s bs : List ℕ) → drop n (wrote s (n + k) bs) ≡ wrote (drop n s) k bs
unfolding wrote
drop_wrote n k s [] = refl
drop_wrote n k s (x ∷ bs) =
    ap (λ (i : ℕ). drop n (wrote (set s (n + k) x) i bs)) (sym (add-suc n k)) ∙ drop_wrote n (suc k) (set s (n + k) x) bs
    ∙ ap (λ (l : List ℕ). wrote l (suc k) bs) (drop-set-add n s k x)

-- three numbers at the start, and the places behind them
head_wrote : (c p n : ℕ) (t ps : List ℕ) → c < 2 ^ 32 → p < 2 ^ 32 → n < 2 ^ 32 → 12 + length ps ≤ length t
    → put (put (put (wrote t 12 ps) 0 4 c) 4 4 p) 8 4 n
    ≡ (unbe 4 c ++ (unbe 4 p ++ (unbe 4 n ++ ps))) ++ drop (12 + length ps) t
unfolding unbe
head_wrote c p n t ps hc hp hn h =
    let t₀ = wrote t 12 ps in
    let t₁ = wrote t₀ 0 (unbe 4 c) in
    let t₂ = wrote t₁ 4 (unbe 4 p) in
    let hd = unbe 4 c ++ (unbe 4 p ++ unbe 4 n) in
    let rest = drop (12 + length ps) t in
    let z : length ps ≤ length (drop 12 t) = rw length-drop (omega arith) in
    let l : length hd ≤ length t₀ = omega (arith, length_wrote t 12 ps) in
    let e₁ : put t₀ 0 4 c ≡ t₁ = put_wrote t₀ 0 4 c hc in
    let e₂ : put (put t₀ 0 4 c) 4 4 p ≡ t₂ = ap (λ (x : List ℕ). put x 4 4 p) e₁ ∙ put_wrote t₁ 4 4 p hp in
    let e₃ : put (put (put t₀ 0 4 c) 4 4 p) 8 4 n ≡ wrote t₂ 8 (unbe 4 n) = ap (λ (x : List ℕ). put x 8 4 n) e₂ ∙ put_wrote t₂ 8 4 n hn in
    let joined : wrote t₀ 0 hd ≡ wrote t₂ 8 (unbe 4 n) = wrote_append t₀ 0 (unbe 4 c) (unbe 4 p ++ unbe 4 n) ∙ wrote_append t₁ 4 (unbe 4 p) (unbe 4 n) in
    e₃ ∙ sym joined ∙ wrote_prefix t₀ hd l
    ∙ ap (hd ++◌) (drop_wrote 12 0 t ps ∙ wrote_prefix (drop 12 t) ps z ∙ ap (ps ++◌) (drop-drop (length ps) 12 t))

-- ---- the call

module _ (j b o t : List ℕ) where
  -- an answer by its two tests
  abbrev answered : Bool → Option State → Replayed
  answered x d = elim x [ false ↦ replayed (1 * 2 ^ 32) b o t | true ↦ elim d [ none ↦ replayed (2 * 2 ^ 32) b o t | some s ↦ reported (replay_from 0 0 b o (slots_of j)) t ] ]

  pub no_lengths : {y : Bool} {r : ℕ} → y ≡ has_lengths j b o t → y ≡ false → r ≡ 1 * 2 ^ 32 → replayed r b o t ≡ replaying j b o t
  unfolding replaying
  no_lengths e f g = ap (λ (x : ℕ). replayed x b o t) g ∙ sym (ap (λ (x : Bool). answered x (decode b)) (sym e ∙ f))

  module _ {y z : Bool} (e : y ≡ has_lengths j b o t) (f : y ≡ true) (u : z ≡ (has_form b && well_formed (state_of b))) where
    pub no_form : {r : ℕ} → z ≡ false → r ≡ 2 * 2 ^ 32 → replayed r b o t ≡ replaying j b o t
    unfolding replaying
    no_form v g = ap (λ (x : ℕ). replayed x b o t) g ∙ sym (ap₂ answered (sym e ∙ f) (unformed_decoded b z u v))

    went : z ≡ true → reported (replay_from 0 0 b o (slots_of j)) t ≡ replaying j b o t
    unfolding replaying
    went v = sym (ap₂ answered (sym e ∙ f) (formed_decoded b z u v))

    module _ (v : z ≡ true) {x : Ending} {b' o' t' t'' : List ℕ} (g : Replays j b o t x b' o' t') (h : t'' ≡ put (put (put t' 0 4 x.records) 4 4 x.place) 8 4 x.torn) where
      abbrev w : Replay
      w = replay_from 0 0 b o (slots_of j)

      parts_of : (b' ≡ w.store) × (o' ≡ w.out) × (t' ≡ wrote t 12 (places_bytes w.torn)) × (x.torn ≡ length w.torn) × (x.records ≡ w.records) × (x.place ≡ w.place) × (x.stopped ≡ w.stopped)
      unfolding ended end_of
      parts_of =
          (ap (λ (y : Ended). y.store) g.is, ap (λ (y : Ended). y.out) g.is, ap (λ (y : Ended). y.report) g.is, ap (λ (y : Ended). y.torn) g.is ∙ omega arith, ap (λ (y : Ended). y.records) g.is, ap (λ (y : Ended). y.place) g.is, ap (λ (y : Ended). y.stopped) g.is)

      report_is : t'' ≡ report_bytes w ++ drop (length (report_bytes w)) t
      unfolding report_bytes
      report_is =
          let p = parts_of in
          let ps = places_bytes w.torn in
          let n = length_places w.torn in
          let k = g.bounded in
          let d = lengths_parts j b o t e f in
          let l : 12 + length ps ≤ length t = omega (arith, n, k.torn, k.place, d.2, p.3) in
          let whole : report_bytes w ≡ unbe 4 x.records ++ (unbe 4 x.place ++ (unbe 4 x.torn ++ ps)) =
          ap₂ (λ (c y : ℕ). unbe 4 c ++ (unbe 4 y ++ (unbe 4 (length w.torn) ++ ps))) (sym p.4) (sym p.5)
          ∙ ap (λ (y : ℕ). unbe 4 x.records ++ (unbe 4 x.place ++ (unbe 4 y ++ ps))) (sym p.3) in
          let size : length (unbe 4 x.records ++ (unbe 4 x.place ++ (unbe 4 x.torn ++ ps))) ≡ 12 + length ps =
          omega (arith, length-append (unbe 4 x.records) (unbe 4 x.place ++ (unbe 4 x.torn ++ ps)), length-append (unbe 4 x.place) (unbe 4 x.torn ++ ps), length-append (unbe 4 x.torn) ps, length_unbe 4 x.records, length_unbe 4 x.place, length_unbe 4 x.torn) in
          h ∙ ap (λ (y : List ℕ). put (put (put y 0 4 x.records) 4 4 x.place) 8 4 x.torn) p.2
          ∙ head_wrote x.records x.place x.torn t ps (omega (arith, k.records, k.place, d.1)) (omega (arith, k.place, d.1)) (omega (arith, k.torn, k.place, d.1)) l
          ∙ ap₂ (λ (y : List ℕ) (i : ℕ). y ++ drop i t) (sym whole) (sym size ∙ ap length (sym whole))

      rest : replayed (told w) b' o' t'' ≡ replaying j b o t
      unfolding reported
      rest = let p = parts_of in ap₂ (λ (x y : List ℕ). replayed (told w) x y t'') p.0 p.1 ∙ ap (replayed (told w) w.store w.out) report_is ∙ went v

      pub ends_well : {r : ℕ} → x.stopped ≡ false → r ≡ x.records → replayed r b' o' t'' ≡ replaying j b o t
      unfolding told
      ends_well s q =
          let p = parts_of in
          let i : told w ≡ w.records = ap (λ (y : Bool). elim y [ false ↦ w.records | true ↦ 13 * 2 ^ 32 + w.place ]) (sym p.6 ∙ s) in
          ap (λ (y : ℕ). replayed y b' o' t'') (q ∙ p.4 ∙ sym i) ∙ rest

      pub ends_stopped : {r : ℕ} → x.stopped ≡ true → r ≡ 13 * 2 ^ 32 + x.place → replayed r b' o' t'' ≡ replaying j b o t
      unfolding told
      ends_stopped s q =
          let p = parts_of in
          let i : told w ≡ 13 * 2 ^ 32 + w.place = ap (λ (y : Bool). elim y [ false ↦ w.records | true ↦ 13 * 2 ^ 32 + w.place ]) (sym p.6 ∙ s) in
          ap (λ (y : ℕ). replayed y b' o' t'') (q ∙ ap (λ (y : ℕ). 13 * 2 ^ 32 + y) p.5 ∙ sym i) ∙ rest
