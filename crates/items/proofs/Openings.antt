-- Reading an envelope, test by test. Assumes nothing.
use Prim.Native.Nat.{ℕ, ◌+◌, ◌-◌, ◌<◌, ◌≤◌}
use mathlib.Core.Path.{◌≡◌, refl, sym, ap, ap₂, ◌∙◌}
use mathlib.Core.Bool.{Bool, true, false, ◌&&◌}
use mathlib.Core.List.{List}
use native.Mathlib.Omega.{arith}
use lib.ListN.{length, take, drop, get_or, length-drop}
use lib.Seq.{take_all}
use lib.Dec.{leb, eqb}
use borrow.Author.Tests.{le-leb, lt-leb, eq-eqb, ne_eqb}
use Rattle.fields.specs.Places.{number}
use Rattle.items.specs.Items.{envelope_tag}
use Rattle.items.specs.Reading.{most_bytes, most_depth, inside, is_opened, envelope_in}
use Rattle.items.specs.Meaning.{count_of, Few, AllOf}
use Rattle.std.specs.Prelude.{Option as Maybe, Some, None}
use Rattle.items.proofs.Grammar.{envelope_opened, envelope_not}

few_more : {m n : ℕ} (r : Maybe ℕ) → Few m r → m ≤ n → Few n r
few_more (Some k) f h = omega arith
few_more None f h = tt

module _ (s : List ℕ) where
  no_envelope : is_opened s ≡ false → AllOf (envelope_in s) s None
  unfolding count_of
  no_envelope h = record { is = sym (ap count_of (envelope_not s h)); few = tt }

  -- an envelope by its tests
  abbrev tests : Bool → Bool → Bool → Bool
  tests a b c = a && b && c

  pub read_long : most_bytes < length s → AllOf (envelope_in s) s None
  unfolding is_opened
  read_long h = no_envelope (ap (λ (a : Bool). tests a (eqb (get_or s 0 0) envelope_tag) (eqb (3 + number s 1 2) (length s))) (lt-leb (length s) most_bytes h))

  module _ (l : length s ≤ most_bytes) where
    fits : leb (length s) most_bytes ≡ true
    fits = le-leb (length s) most_bytes l

    pub read_other : (get_or s 0 0 ≡ envelope_tag → ⊥) → AllOf (envelope_in s) s None
    unfolding is_opened
    read_other h = no_envelope (ap₂ (λ (a b : Bool). tests a b (eqb (3 + number s 1 2) (length s))) fits (ne_eqb (get_or s 0 0) envelope_tag h))

    pub read_cut : (3 + number s 1 2 ≡ length s → ⊥) → AllOf (envelope_in s) s None
    unfolding is_opened
    read_cut h =
        no_envelope
        (ap₂ (λ (a c : Bool). tests a (eqb (get_or s 0 0) envelope_tag) c) fits (ne_eqb (3 + number s 1 2) (length s) h) ∙ none_left (eqb (get_or s 0 0) envelope_tag))
      where
        none_left : (b : Bool) → (b && false) ≡ false
        none_left true = refl
        none_left false = refl

    pub read_inside : get_or s 0 0 ≡ envelope_tag → 3 + number s 1 2 ≡ length s → {n : ℕ} → n ≡ length s - 3 → {r : Maybe ℕ}
        → AllOf (inside most_depth (take n (drop 3 s))) (take n (drop 3 s)) r → AllOf (envelope_in s) s r
    unfolding is_opened
    read_inside t e {n} p {r} a =
        let part : take n (drop 3 s) ≡ drop 3 s = take_all n (drop 3 s) (simp length-drop (omega arith)) in
        let o : is_opened s ≡ true =
        ap₂ (λ (x y : Bool). tests x y (eqb (3 + number s 1 2) (length s))) fits (eq-eqb (get_or s 0 0) envelope_tag t) ∙ eq-eqb (3 + number s 1 2) (length s) e in
        record { is = a.is ∙ ap count_of (ap (inside most_depth) part ∙ sym (envelope_opened s o)); few = few_more r a.few (omega (arith, ap length part, length-drop 3 s)) }
