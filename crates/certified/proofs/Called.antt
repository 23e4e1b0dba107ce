-- The call by its cases: refused for the lengths, refused for the store, or the number that is kept. Assumes nothing.
use Prim.Native.Nat.{ℕ, ◌+◌, ◌*◌, ◌^◌}
use mathlib.Core.Path.{◌≡◌, sym, ap, ◌∙◌}
use mathlib.Core.Bool.{Bool, true, false, not, ◌&&◌, and-false}
use mathlib.Core.List.{List}
use lib.ListN.{length}
use lib.Dec.{eqb}
use borrow.Author.Tests.{eqb-true, eq-eqb, ne_eqb, not-true, not-false}
use Rattle.rules.specs.Lists.{be}
use Rattle.rules.specs.Words.{reached_of}
use Rattle.rules.specs.WellFormed.{well_formed}
use Rattle.laws.proofs.Tests.{and_left}
use Rattle.fields.specs.Places.{number, Bytes}
use Rattle.wire.proofs.Reading.{be_number}
use Rattle.store.specs.Layout.{store_length, size_in}
use Rattle.std.specs.Prelude.{Option as Told, Some, None}
use mathlib.Core.Option.{Option}
use native.Mathlib.Numerals.{add-one}
use Rattle.tallies.specs.Values.{told, reached_number}
use Rattle.store.specs.Decode.{tallies, state_from, state_of, has_form, Form}
use Rattle.formed.proofs.Whole.{formed_decoded, unformed_decoded}
use Rattle.certified.specs.Called.{asked, certified_called}

-- the number of a clock that is kept, and of none
module _ (r : Told ℕ) {o : Option ℕ} (e : told r ≡ o) where
  pub since_some : (c : ℕ) → r ≡ Some c → c + 1 ≡ reached_number o
  since_some c s = add-one c ∙ sym (ap reached_number (sym e ∙ ap told s))

  pub since_none : r ≡ None → 0 ≡ reached_number o
  since_none s = sym (ap reached_number (sym e ∙ ap told s))

module _ (b : List ℕ) (view height : ℕ) (name : List ℕ) where
  abbrev lengths : Bool
  lengths = eqb (length b) (store_length (size_in b)) && eqb (length name) 32

  refused_lengths : lengths ≡ false → 1 * 2 ^ 32 ≡ certified_called b view height name
  unfolding certified_called
  refused_lengths p = rw (p, certified_called)

  pub refused_store : {y : Bool} → y ≡ eqb (length b) (store_length (size_in b)) → not y ≡ true → 1 * 2 ^ 32 ≡ certified_called b view height name
  refused_store {y} q n = refused_lengths (rw (sym q ∙ not-true y n))

  pub refused_name : (length name ≡ 32 → ⊥) → 1 * 2 ^ 32 ≡ certified_called b view height name
  refused_name d =
      refused_lengths (ap (eqb (length b) (store_length (size_in b)) &&◌) (ne_eqb (length name) 32 d) ∙ and-false (eqb (length b) (store_length (size_in b))))

  module _ {y : Bool} (q : y ≡ eqb (length b) (store_length (size_in b))) (n : not y ≡ false) where
    pub whole : length b ≡ store_length (size_in b)
    whole = eqb-true (length b) (store_length (size_in b)) (sym q ∙ not-false y n)

    module _ (m : length name ≡ 32) {w : Bool} (g : w ≡ (has_form b && well_formed (state_of b))) where
      proper : lengths ≡ true
      proper = rw (sym q ∙ not-false y n, eq-eqb (length name) 32 m)

      pub refused_formless : not w ≡ true → 2 * 2 ^ 32 ≡ certified_called b view height name
      unfolding certified_called
      refused_formless t = rw (proper, certified_called, unformed_decoded b w g (not-true w t))

      pub has_form_lem : Bytes b → not w ≡ false → Form b
      has_form_lem h t = record { bytes = h; form = and_left (has_form b) (well_formed (state_of b)) (sym g ∙ not-false w t) }

      pub tells : {r k : ℕ} → not w ≡ false → k ≡ number name 0 32 → r ≡ reached_number (reached_of (asked view height k) (tallies b))
          → r ≡ certified_called b view height name
      unfolding certified_called state_of state_from
      tells {k = k} t e p =
          let named : k ≡ be name = e ∙ ap (number name 0) (sym m) ∙ sym (be_number name) in
          rw (proper, certified_called, formed_decoded b w g (not-false w t), ← named) p
