-- What each answer leaves of the list. Assumes nothing.
use Prim.Native.Nat.{ℕ, ◌*◌, ◌^◌, ◌<◌, ◌≤◌}
use mathlib.Core.Path.{◌≡◌, refl, sym, ap, ap₂, ◌∙◌}
use mathlib.Core.Bool.{Bool, true, false}
use mathlib.Core.List.{List, []}
use mathlib.Core.Option.{Option, none, some}
use native.Mathlib.Omega.{arith}
use lib.ListN.{length}
use lib.Dec.{leb}
use borrow.Author.Tests.{le-leb, lt-leb}
use Rattle.outgoing.specs.Wrote.{wrote}
use Rattle.slots.specs.Slots.{Written, written}
use Rattle.items.specs.Items.{Items, messages_of}
use Rattle.items.specs.Reading.{envelope_in}
use Rattle.envelope.specs.Reading.{least_list, list_of, is_envelope, list_in, reading}
use Rattle.items.specs.Meaning.{count_of, AllOf}
use Rattle.std.specs.Prelude.{Option as Maybe, Some, None}

module _ (s list : List ℕ) where
  -- an answer by its test and by what was read
  abbrev answered : Bool → Option Items → Written
  answered b o =
      elim b [
        | false ↦ written (1 * 2 ^ 32) list
        | true ↦ elim o [ none ↦ written (14 * 2 ^ 32) list | some i ↦ written (length (messages_of i)) (wrote list 0 (list_of i)) ]
      ]

  pub list_short : {r : ℕ} → length list < least_list → r ≡ 1 * 2 ^ 32 → written r list ≡ reading s list
  unfolding reading
  list_short h e = ap (λ (x : ℕ). written x list) e ∙ sym (ap (λ (b : Bool). answered b (envelope_in s)) (lt-leb least_list (length list) h))

  module _ (h : least_list ≤ length list) {r : Maybe ℕ} (a : AllOf (envelope_in s) s r) where
    roomy : leb least_list (length list) ≡ true
    roomy = le-leb least_list (length list) h

    pub not_envelope : {x : ℕ} → r ≡ None → x ≡ 14 * 2 ^ 32 → written x list ≡ reading s list
    unfolding reading count_of
    not_envelope {x} q e = go (envelope_in s) refl
      where
        go : (o : Option Items) → envelope_in s ≡ o → written x list ≡ reading s list
        go none p = ap (λ (y : ℕ). written y list) e ∙ sym (ap₂ answered roomy p)
        go (some i) p = absurd (let z : ◌≡◌ {A = ℕ} 0 1 = let w : ◌≡◌ {A = Maybe ℕ} None (Some (length (messages_of i))) = sym q ∙ a.is ∙ ap count_of p in cc in omega arith)

    module _ {n : ℕ} (q : r ≡ Some n) where
      pub is_envelope_lem : is_envelope s ≡ true
      unfolding is_envelope count_of
      is_envelope_lem = go (envelope_in s) refl
        where
          go : (o : Option Items) → envelope_in s ≡ o → is_envelope s ≡ true
          go none p = absurd (let z : ◌≡◌ {A = ℕ} 0 1 = let w : ◌≡◌ {A = Maybe ℕ} (Some n) None = sym q ∙ a.is ∙ ap count_of p in cc in omega arith)
          go (some i) p = ap (λ (o : Option Items). elim o [ none ↦ false | some i ↦ true ]) p

      pub listed_all : {left : List ℕ} → left ≡ wrote list 0 (list_in s) → written n left ≡ reading s list
      unfolding reading count_of list_in
      listed_all {left} e = go (envelope_in s) refl
        where
          go : (o : Option Items) → envelope_in s ≡ o → written n left ≡ reading s list
          go none p = absurd (let z : ◌≡◌ {A = ℕ} 0 1 = let w : ◌≡◌ {A = Maybe ℕ} (Some n) None = sym q ∙ a.is ∙ ap count_of p in cc in omega arith)
          go (some i) p =
              let w : ◌≡◌ {A = Maybe ℕ} (Some n) (Some (length (messages_of i))) = sym q ∙ a.is ∙ ap count_of p in
              let v : n ≡ length (messages_of i) = cc in
              let u : left ≡ wrote list 0 (list_of i) = e ∙ ap (λ (o : Option Items). wrote list 0 (elim o [ none ↦ [] | some j ↦ list_of j ])) p in
              ap₂ written v u ∙ sym (ap₂ answered roomy p)
