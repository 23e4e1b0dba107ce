-- What a replay makes of the slots that tries and cuts left, and what a stopped one leaves. Assumes nothing.
use Prim.Native.Nat.{ℕ, zero, suc, ◌+◌, ◌≤◌}
use mathlib.Core.Path.{◌≡◌, refl, sym, ap, ap₂, ◌∙◌, subst}
use mathlib.Core.Bool.{Bool, true, false, ◌&&◌}
use mathlib.Core.List.{List, [], ◌∷◌}
use native.Mathlib.Omega.{arith}
use native.Mathlib.Nat.{add-zero}
use lib.ListN.{length, take, replicate}
use lib.Dec.{eqb}
use Rattle.laws.proofs.Tests.{by_bool, no_bool, eqb_self}
use Rattle.slots.specs.Slots.{Slot, blank, torn, bad, whole}
use Rattle.keeping.specs.Taken.{is_taken}
use Rattle.slot_replay.specs.Handed.{handed}
use Rattle.slot_replay.specs.Fold.{Replay, ends, skipping, replay_from}
use Rattle.cuts.specs.Disk.{Try}
use Rattle.cuts.specs.After.{is_untouched, is_complete, laid, completed, torn_places, used, store_after, out_after, AllTaken, replay_of, calm}
use Rattle.cuts.proofs.Tries.{lays}

-- ---- the slots that tries left

-- a replay by its completed inputs, the slots used up and the torn places
abbrev result : ℕ → ℕ → List ℕ → List ℕ → List (ℕ × List ℕ) → ℕ → List ℕ → Replay
result c p b o cs u ps = record { stopped = false; records = c + length cs; place = p + u; torn = ps; store = store_after cs b o; out = out_after cs b o }

same_result : (c p : ℕ) (b o : List ℕ) {cs ds : List (ℕ × List ℕ)} {u v : ℕ} {ps qs : List ℕ} → cs ≡ ds → u ≡ v → ps ≡ qs → result c p b o cs u ps ≡ result c p b o ds v qs
same_result c p b o {cs} {ds} {u} {v} {ps} {qs} e f g = ap₂ (λ (x : List (ℕ × List ℕ)) (y : ℕ). result c p b o x y ps) e f ∙ ap (result c p b o ds v) g

-- no input
ends_result : (c p : ℕ) (b o : List ℕ) → ends false c p b o ≡ result c p b o [] 0 []
unfolding ends store_after out_after
ends_result c p b o = ap₂ (λ (x y : ℕ). record { stopped = false; records = x; place = y; torn = []; store = b; out = o }) (sym (add-zero c)) (sym (add-zero p))

-- blank slots end it well
replay_blank : (c p n : ℕ) (b o : List ℕ) → replay_from c p b o (replicate n blank) ≡ ends false c p b o
unfolding replay_from
replay_blank c p zero b o = refl
replay_blank c p (suc n) b o = refl

-- a torn slot is passed over
torn_result : (c p : ℕ) (b o : List ℕ) (cs : List (ℕ × List ℕ)) (u : ℕ) (ps : List ℕ) → skipping p (result c (suc p) b o cs u ps) ≡ result c p b o cs (suc u) (p ∷ ps)
unfolding skipping
torn_result c p b o cs u ps =
    ap (λ (x : ℕ). record { stopped = false; records = c + length cs; place = x; torn = p ∷ ps; store = store_after cs b o; out = out_after cs b o }) (let e : suc p + u ≡ p + suc u = omega arith in e)

-- a whole record whose number is the next and whose input is taken
module _ (c p k : ℕ) (bs b o : List ℕ) where
  replay_whole : (ss : List Slot) → is_taken (handed k bs b o).result ≡ true
      → replay_from c p b o (whole c k bs ∷ ss) ≡ replay_from (suc c) (suc p) (handed k bs b o).store (handed k bs b o).out ss
  unfolding replay_from
  replay_whole ss t =
      ap₂ (λ (x y : Bool). elim (x && y) [ false ↦ ends true c p b o | true ↦ replay_from (suc c) (suc p) (handed k bs b o).store (handed k bs b o).out ss ]) (eqb_self c) t

  whole_result : (cs : List (ℕ × List ℕ)) (u : ℕ) (ps : List ℕ)
      → result (suc c) (suc p) (handed k bs b o).store (handed k bs b o).out cs u ps ≡ result c p b o ((k, bs) ∷ cs) (suc u) ps
  unfolding store_after out_after
  whole_result cs u ps =
      let x = handed k bs b o in
      ap₂ (λ (y z : ℕ). record { stopped = false; records = y; place = z; torn = ps; store = store_after cs x.store x.out; out = out_after cs x.store x.out })
      (let e : suc c + length cs ≡ c + suc (length cs) = omega arith in e) (let e : suc p + u ≡ p + suc u = omega arith in e)

-- what a try adds, by how far it went
module _ (a : Try) (ts : List Try) (n : ℕ) {x y : Bool} (e : is_untouched a ≡ x) (f : is_complete a ≡ y) where
  pub completed_is : completed (a ∷ ts) (suc n)
      ≡ elim x [ true ↦ completed ts (suc n) | false ↦ elim y [ true ↦ (a.kind, a.input) ∷ completed ts n | false ↦ completed ts n ] ]
  unfolding completed
  completed_is = ap₂ (λ (x y : Bool). elim x [ true ↦ completed ts (suc n) | false ↦ elim y [ true ↦ (a.kind, a.input) ∷ completed ts n | false ↦ completed ts n ] ]) e f

  torn_is : (p : ℕ) → torn_places (a ∷ ts) (suc n) p
      ≡ elim x [ true ↦ torn_places ts (suc n) p | false ↦ elim y [ true ↦ torn_places ts n (suc p) | false ↦ p ∷ torn_places ts n (suc p) ] ]
  unfolding torn_places
  torn_is p = ap₂ (λ (x y : Bool). elim x [ true ↦ torn_places ts (suc n) p | false ↦ elim y [ true ↦ torn_places ts n (suc p) | false ↦ p ∷ torn_places ts n (suc p) ] ]) e f

  used_is : used (a ∷ ts) (suc n) ≡ elim x [ true ↦ used ts (suc n) | false ↦ suc (used ts n) ]
  unfolding used
  used_is = ap (λ (x : Bool). elim x [ true ↦ used ts (suc n) | false ↦ suc (used ts n) ]) e

no_tries : (c p n : ℕ) (b o : List ℕ) → replay_from c p b o (laid c [] n) ≡ result c p b o (completed [] n) (used [] n) (torn_places [] n p)
unfolding laid completed used torn_places
no_tries c p n b o = replay_blank c p n b o ∙ ends_result c p b o

no_slots : (a : Try) (ts : List Try) (c p : ℕ) (b o : List ℕ)
    → replay_from c p b o (laid c (a ∷ ts) zero) ≡ result c p b o (completed (a ∷ ts) zero) (used (a ∷ ts) zero) (torn_places (a ∷ ts) zero p)
unfolding laid completed used torn_places replay_from
no_slots a ts c p b o = ends_result c p b o

replay_torn : (c p : ℕ) (b o : List ℕ) (ss : List Slot) → replay_from c p b o (torn ∷ ss) ≡ skipping p (replay_from c (suc p) b o ss)
unfolding replay_from
replay_torn c p b o ss = refl

-- a replay of what tries left hands over the completed inputs, in their order, and lists exactly the torn places
pub replay_laid : (ts : List Try) (c p n : ℕ) (b o : List ℕ) → AllTaken (completed ts n) b o → replay_from c p b o (laid c ts n) ≡ replay_of c p ts n b o
unfolding replay_of
replay_laid [] c p n b o w = no_tries c p n b o
replay_laid (a ∷ ts) c p zero b o w = no_slots a ts c p b o
replay_laid (a ∷ ts) c p (suc n) b o w =
    by_bool (is_untouched a)
    (λ e.
    let cs = completed_is a ts n e refl in
    ap (replay_from c p b o) (lays c a ts n e refl) ∙ replay_laid ts c p (suc n) b o (subst (λ l. AllTaken l b o) cs w)
    ∙ sym (same_result c p b o cs (used_is a ts n e refl) (torn_is a ts n e refl p)))
    (λ e.
    by_bool (is_complete a)
    (λ f.
    let cs = completed_is a ts n e f in
    let v = subst (λ l. AllTaken l b o) cs w in
    let x = handed a.kind a.input b o in
    ap (replay_from c p b o) (lays c a ts n e f) ∙ replay_whole c p a.kind a.input b o (laid (suc c) ts n) v.0
    ∙ replay_laid ts (suc c) (suc p) n x.store x.out v.1 ∙ whole_result c p a.kind a.input b o (completed ts n) (used ts n) (torn_places ts n (suc p))
    ∙ sym (same_result c p b o cs (used_is a ts n e f) (torn_is a ts n e f p)))
    (λ f.
    let cs = completed_is a ts n e f in
    ap (replay_from c p b o) (lays c a ts n e f) ∙ replay_torn c p b o (laid c ts n)
    ∙ ap (skipping p) (replay_laid ts c (suc p) n b o (subst (λ l. AllTaken l b o) cs w)) ∙ torn_result c p b o (completed ts n) (used ts n) (torn_places ts n (suc p))
    ∙ sym (same_result c p b o cs (used_is a ts n e f) (torn_is a ts n e f p))))

-- ---- a stopped replay

-- a whole record, by whether its number is the next and its input is taken
whole_goes : (c p q k : ℕ) (bs b o : List ℕ) (ss : List Slot) (x : Bool) → (eqb q c && is_taken (handed k bs b o).result) ≡ x
    → replay_from c p b o (whole q k bs ∷ ss) ≡ elim x [ false ↦ ends true c p b o | true ↦ replay_from (suc c) (suc p) (handed k bs b o).store (handed k bs b o).out ss ]
unfolding replay_from
whole_goes c p q k bs b o ss x e =
    ap (λ (y : Bool). elim y [ false ↦ ends true c p b o | true ↦ replay_from (suc c) (suc p) (handed k bs b o).store (handed k bs b o).out ss ]) e

-- it ends no earlier than it began
place_le : (c p : ℕ) (b o : List ℕ) (ss : List Slot) → p ≤ (replay_from c p b o ss).place
unfolding replay_from ends skipping
place_le c p b o [] = omega arith
place_le c p b o (blank ∷ ss) = omega arith
place_le c p b o (torn ∷ ss) = omega (arith, place_le c (suc p) b o ss)
place_le c p b o (bad ∷ ss) = omega arith
place_le c p b o (whole q k bs ∷ ss) =
    by_bool (eqb q c && is_taken (handed k bs b o).result)
    (λ t. omega (arith, place_le (suc c) (suc p) (handed k bs b o).store (handed k bs b o).out ss, ap (λ v. v.place) (whole_goes c p q k bs b o ss true t)))
    (λ t. omega (arith, ap (λ v. v.place) (whole_goes c p q k bs b o ss false t)))

-- 13 "leaves the state of the records before it": all but the number is as if the journal ended before the slot where it stopped
pub stopped_before : (c p n : ℕ) (b o : List ℕ) (ss : List Slot) → (replay_from c p b o ss).stopped ≡ true → (replay_from c p b o ss).place ≡ p + n
    → replay_from c p b o (take n ss) ≡ calm (replay_from c p b o ss)
unfolding replay_from ends skipping calm
stopped_before c p n b o [] t e = no_bool (sym t)
stopped_before c p n b o (blank ∷ ss) t e = no_bool (sym t)
stopped_before c p zero b o (torn ∷ ss) t e = absurd (omega (arith, place_le c (suc p) b o ss, e))
stopped_before c p (suc n) b o (torn ∷ ss) t e = ap (skipping p) (stopped_before c (suc p) n b o ss t (e ∙ omega arith))
stopped_before c p zero b o (bad ∷ ss) t e = refl
stopped_before c p (suc n) b o (bad ∷ ss) t e = absurd (omega (arith, e))
stopped_before c p zero b o (whole q k bs ∷ ss) t e =
    by_bool (eqb q c && is_taken (handed k bs b o).result)
    (λ u.
    absurd
    (omega (arith, e, place_le (suc c) (suc p) (handed k bs b o).store (handed k bs b o).out ss, ap (λ v. v.place) (whole_goes c p q k bs b o ss true u))))
    (λ u. sym (ap calm (whole_goes c p q k bs b o ss false u)))
stopped_before c p (suc n) b o (whole q k bs ∷ ss) t e =
    by_bool (eqb q c && is_taken (handed k bs b o).result)
    (λ u.
    let x = handed k bs b o in
    let g = whole_goes c p q k bs b o ss true u in
    whole_goes c p q k bs b o (take n ss) true u
    ∙ stopped_before (suc c) (suc p) n x.store x.out ss (ap (λ v. v.stopped) (sym g) ∙ t) (ap (λ v. v.place) (sym g) ∙ e ∙ omega arith)
    ∙ sym (ap calm g))
    (λ u. absurd (omega (arith, e, ap (λ v. v.place) (whole_goes c p q k bs b o ss false u))))
