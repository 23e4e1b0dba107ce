-- What each answer of the writer leaves of the buffer. Assumes nothing.
use Prim.Native.Nat.{ℕ, ◌*◌, ◌%◌, ◌^◌, ◌<◌, ◌≤◌}
use mathlib.Core.Path.{◌≡◌, refl, sym, ap, ap₂, ◌∙◌}
use mathlib.Core.Bool.{Bool, true, false, ◌&&◌, and-false}
use mathlib.Core.List.{List, []}
use mathlib.Core.Option.{Option, none, some}
use native.Mathlib.Omega.{arith}
use lib.ListN.{length}
use lib.Dec.{leb, eqb}
use borrow.Author.Tests.{le-leb, lt-leb, eq-eqb, ne_eqb}
use Rattle.outgoing.specs.Wrote.{wrote}
use Rattle.slots.specs.Slots.{Written, written}
use Rattle.items.specs.Reading.{most_bytes}
use Rattle.bundle.specs.Writing.{bundled, writing}
use Rattle.bundle.specs.Meaning.{total_of, bundle_in}
use Rattle.std.specs.Prelude.{Option as Maybe, Some, None}

module _ (s list out : List ℕ) where
  -- an answer by its test and by what may be written
  abbrev answered : Bool → Option (List ℕ) → Written
  answered b o =
      elim b [
        | false ↦ written (1 * 2 ^ 32) out
        | true ↦ elim o [ none ↦ written (14 * 2 ^ 32) out | some e ↦ written (length e) (wrote out 0 e) ]
      ]

  refused_1 : {r : ℕ} → r ≡ 1 * 2 ^ 32 → (eqb (length list % 8) 0 && leb most_bytes (length out)) ≡ false → written r out ≡ writing s list out
  unfolding writing
  refused_1 e t = ap (λ (x : ℕ). written x out) e ∙ sym (ap (λ (b : Bool). answered b (bundled s list)) t)

  pub not_eights : {r : ℕ} → (length list % 8 ≡ 0 → ⊥) → r ≡ 1 * 2 ^ 32 → written r out ≡ writing s list out
  not_eights h e = refused_1 e (ap (λ (b : Bool). b && leb most_bytes (length out)) (ne_eqb (length list % 8) 0 h))

  pub out_short : {r : ℕ} → length out < most_bytes → r ≡ 1 * 2 ^ 32 → written r out ≡ writing s list out
  out_short h e = refused_1 e (ap (λ (b : Bool). eqb (length list % 8) 0 && b) (lt-leb most_bytes (length out) h) ∙ and-false (eqb (length list % 8) 0))

  module _ (h : length list % 8 ≡ 0) (l : most_bytes ≤ length out) {t : Maybe ℕ} (a : t ≡ total_of (bundled s list)) where
    tested : (eqb (length list % 8) 0 && leb most_bytes (length out)) ≡ true
    tested = ap₂ ◌&&◌ (eq-eqb (length list % 8) 0 h) (le-leb most_bytes (length out) l)

    pub not_bundled : {r : ℕ} → t ≡ None → r ≡ 14 * 2 ^ 32 → written r out ≡ writing s list out
    unfolding writing total_of
    not_bundled {r} q e = go (bundled s list) refl
      where
        go : (o : Option (List ℕ)) → bundled s list ≡ o → written r out ≡ writing s list out
        go none p = ap (λ (x : ℕ). written x out) e ∙ sym (ap₂ answered tested p)
        go (some x) p = absurd (let z : ◌≡◌ {A = ℕ} 0 1 = let w : ◌≡◌ {A = Maybe ℕ} None (Some (length x)) = sym q ∙ a ∙ ap total_of p in cc in omega arith)

    pub is_bundled : {n : ℕ} {left : List ℕ} → t ≡ Some n → left ≡ wrote out 0 (bundle_in s list) → written n left ≡ writing s list out
    unfolding writing total_of bundle_in
    is_bundled {n} {left} q e = go (bundled s list) refl
      where
        go : (o : Option (List ℕ)) → bundled s list ≡ o → written n left ≡ writing s list out
        go none p = absurd (let z : ◌≡◌ {A = ℕ} 0 1 = let w : ◌≡◌ {A = Maybe ℕ} (Some n) None = sym q ∙ a ∙ ap total_of p in cc in omega arith)
        go (some x) p =
            let w : ◌≡◌ {A = Maybe ℕ} (Some n) (Some (length x)) = sym q ∙ a ∙ ap total_of p in
            let v : n ≡ length x = cc in
            let u : left ≡ wrote out 0 x = e ∙ ap (λ (o : Option (List ℕ)). wrote out 0 (elim o [ none ↦ [] | some y ↦ y ])) p in
            ap₂ written v u ∙ sym (ap₂ answered tested p)
