-- The call by its cases: refused for the lengths, refused for the store, a name that isn't logged, or its slip. Assumes nothing.
use Prim.Native.Nat.{ℕ, suc, ◌+◌, ◌*◌, ◌^◌, ◌≤◌, ◌<◌}
use mathlib.Core.Path.{◌≡◌, refl, sym, ap, ◌∙◌}
use mathlib.Core.Bool.{Bool, true, false, not, ◌&&◌, and-false}
use mathlib.Core.List.{List}
use mathlib.Core.Option.{Option, none, some}
use native.Mathlib.Omega.{arith}
use native.Mathlib.Nat.{zero-add}
use lib.ListN.{length}
use lib.Dec.{leb, eqb}
use borrow.Author.Tests.{eqb-true, eq-eqb, ne_eqb, le-leb, lt-leb, not-true, not-false}
use Rattle.rules.specs.Limits.{least_out}
use Rattle.rules.specs.Lists.{be}
use Rattle.rules.specs.WellFormed.{well_formed}
use Rattle.laws.proofs.Tests.{and_left}
use Rattle.fields.specs.Places.{number, Bytes}
use Rattle.wire.proofs.Reading.{be_number}
use Rattle.outgoing.specs.Wrote.{Says}
use Rattle.outgoing.proofs.Writing.{wrote_prefix}
use Rattle.store.specs.Layout.{store_length, size_in}
use Rattle.store.specs.Decode.{statements, names, state_from, state_of, has_form, Form}
use Rattle.store.specs.Searches.{first_from}
use Rattle.std.specs.Prelude.{Option as Maybe, Some, None}
use Rattle.formed.proofs.Whole.{formed_decoded, unformed_decoded}
use Rattle.calls.specs.Calls.{refusal, Gives}
use Rattle.slip.specs.Slips.{slip_bytes}
use Rattle.slip_writer.specs.Writer.{height_from, log_chain, slip_of}
use Rattle.slip_writer.specs.Called.{handed_over, write_called}
use Rattle.slip_writer.proofs.Chains.{name_found, name_missing}

module _ (b name o : List ℕ) where
  abbrev lengths : Bool
  lengths = eqb (length b) (store_length (size_in b)) && eqb (length name) 32 && leb (least_out (size_in b)) (length o)

  refused_lengths : {r : ℕ} → r ≡ 1 * 2 ^ 32 → lengths ≡ false → Gives (write_called b name o) r b o
  unfolding write_called refusal
  refused_lengths e p = rw (p, write_called) (record { result = e; store = refl; out = refl })

  pub refused_store : {r : ℕ} {y : Bool} → r ≡ 1 * 2 ^ 32 → y ≡ eqb (length b) (store_length (size_in b)) → not y ≡ true → Gives (write_called b name o) r b o
  refused_store {y = y} e q n = refused_lengths e (rw (sym q ∙ not-true y n))

  pub refused_name : {r : ℕ} → r ≡ 1 * 2 ^ 32 → (length name ≡ 32 → ⊥) → Gives (write_called b name o) r b o
  refused_name e d = refused_lengths e (rw (ne_eqb (length name) 32 d, and-false (eqb (length b) (store_length (size_in b)))))

  pub refused_out : {r : ℕ} → r ≡ 1 * 2 ^ 32 → length o < least_out (size_in b) → Gives (write_called b name o) r b o
  refused_out e h = refused_lengths e (rw (lt-leb (least_out (size_in b)) (length o) h) (and-false (eqb (length b) (store_length (size_in b)) && eqb (length name) 32)))

  module _ {y : Bool} (q : y ≡ eqb (length b) (store_length (size_in b))) (n : not y ≡ false) where
    pub whole : length b ≡ store_length (size_in b)
    whole = eqb-true (length b) (store_length (size_in b)) (sym q ∙ not-false y n)

    module _ (k : length name ≡ 32) (m : least_out (size_in b) ≤ length o) where
      proper : lengths ≡ true
      proper = rw (sym q ∙ not-false y n, eq-eqb (length name) 32 k, le-leb (least_out (size_in b)) (length o) m)

      module _ {w : Bool} (g : w ≡ (has_form b && well_formed (state_of b))) where
        pub refused_formless : {r : ℕ} → r ≡ 2 * 2 ^ 32 → not w ≡ true → Gives (write_called b name o) r b o
        unfolding write_called refusal
        refused_formless e t = rw (proper, write_called, unformed_decoded b w g (not-true w t)) (record { result = e; store = refl; out = refl })

        pub has_form_lem : Bytes b → not w ≡ false → Form b
        has_form_lem h t = record { bytes = h; form = and_left (has_form b) (well_formed (state_of b)) (sym g ∙ not-false w t) }

        module _ (t : not w ≡ false) where
          handed : write_called b name o ≡ handed_over (slip_of (be name) (state_of b)) b o
          unfolding write_called
          handed = rw (proper, write_called, formed_decoded b w g (not-false w t))

          -- the name that was read is the one that was handed in
          module _ {v : ℕ} (u : v ≡ number name 0 32) {f : Maybe ℕ} (e : f ≡ first_from (eqb v) 0 (names b)) where
            named : v ≡ be name
            named = u ∙ ap (number name 0) (sym k) ∙ sym (be_number name)

            slip_is : {r : Option ℕ} → height_from 1 v (names b) ≡ r
                → slip_of (be name) (state_of b) ≡ elim r [ none ↦ none | some h ↦ some (slip_bytes v (log_chain (statements b) (names b) h)) ]
            unfolding slip_of state_of state_from
            slip_is {r} d = ap (λ (z : ℕ). slip_of z (state_of b)) (sym named) ∙ rw (d, slip_of)

            pub gives_unlogged : {r : ℕ} → r ≡ 15 * 2 ^ 32 → f ≡ None → Gives (write_called b name o) r b o
            unfolding handed_over refusal
            gives_unlogged d z =
                rw (handed, slip_is (name_missing b v e z)) (record { result = d; store = refl; out = refl })

            pub gives_slip : {i : ℕ} → f ≡ Some i → {h : ℕ} → h ≡ i + 1 → {o' : List ℕ} {r : ℕ} → Says o 0 (slip_bytes v (log_chain (statements b) (names b) h)) o' r → length (slip_bytes v (log_chain (statements b) (names b) h)) ≤ length o
                → Gives (write_called b name o) r b o'
            unfolding handed_over
            gives_slip {i} z {h} x p l =
                let d : suc i ≡ h = omega arith in
                let said = slip_bytes v (log_chain (statements b) (names b) h) in
                rw (handed, slip_is ((name_found b v e z).0 ∙ ap some d)) (record { result = p.ends ∙ zero-add (length said); store = refl; out = p.out ∙ wrote_prefix o said l })
