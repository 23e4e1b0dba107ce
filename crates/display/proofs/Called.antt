-- The call by its cases: refused for the lengths, refused for the store, or what the state shows. Assumes nothing.
use Prim.Native.Nat.{ℕ, ◌*◌, ◌^◌, ◌≤◌, ◌<◌}
use mathlib.Core.Path.{◌≡◌, refl, sym, ap, ◌∙◌}
use mathlib.Core.Bool.{Bool, true, false, not, ◌&&◌, and-false}
use mathlib.Core.List.{List}
use native.Mathlib.Omega.{arith}
use native.Mathlib.Nat.{zero-add}
use lib.ListN.{length}
use lib.Dec.{leb, eqb}
use borrow.Author.Tests.{eqb-true, le-leb, lt-leb, not-true, not-false}
use Rattle.rules.specs.Limits.{least_out}
use Rattle.rules.specs.WellFormed.{well_formed}
use Rattle.rules.specs.Display.{display, entries}
use Rattle.laws.proofs.Tests.{and_left}
use Rattle.fields.specs.Places.{Bytes}
use Rattle.outgoing.specs.Wrote.{Says}
use Rattle.outgoing.proofs.Writing.{wrote_prefix}
use Rattle.store.specs.Layout.{statement_table, store_length, size_in, count_of}
use Rattle.store.specs.Decode.{statement_at, statements, state_from, state_of, has_form, Form}
use Rattle.store.proofs.Forms.{form_statements}
use Rattle.store.proofs.Rows.{rows_length}
use Rattle.formed.proofs.Whole.{formed_decoded, unformed_decoded}
use Rattle.calls.specs.Calls.{refusal, Gives}
use Rattle.display.specs.Called.{shows, display_called}
use Rattle.display.proofs.Bytes.{display_room}

-- the display of a store fits its least out buffer
room : (b : List ℕ) → Form b → length (entries (display (state_of b))) ≤ least_out (size_in b)
unfolding state_of state_from statements
room b f = display_room (state_of b) (omega (arith, rows_length (statement_at b) 0 (count_of statement_table b), form_statements b f))

module _ (b o : List ℕ) where
  abbrev lengths : Bool
  lengths = eqb (length b) (store_length (size_in b)) && leb (least_out (size_in b)) (length o)

  refused_lengths : {r : ℕ} → r ≡ 1 * 2 ^ 32 → lengths ≡ false → Gives (display_called b o) r b o
  unfolding display_called refusal
  refused_lengths e p = rw (p, display_called) (record { result = e; store = refl; out = refl })

  pub refused_store : {r : ℕ} {y : Bool} → r ≡ 1 * 2 ^ 32 → y ≡ eqb (length b) (store_length (size_in b)) → not y ≡ true → Gives (display_called b o) r b o
  refused_store {y = y} e q n = refused_lengths e (rw (sym q ∙ not-true y n))

  pub refused_out : {r : ℕ} → r ≡ 1 * 2 ^ 32 → length o < least_out (size_in b) → Gives (display_called b o) r b o
  refused_out e h =
      refused_lengths e (ap (eqb (length b) (store_length (size_in b)) &&◌) (lt-leb (least_out (size_in b)) (length o) h) ∙ and-false (eqb (length b) (store_length (size_in b))))

  module _ {y : Bool} (q : y ≡ eqb (length b) (store_length (size_in b))) (n : not y ≡ false) where
    pub whole : length b ≡ store_length (size_in b)
    whole = eqb-true (length b) (store_length (size_in b)) (sym q ∙ not-false y n)

    module _ (m : least_out (size_in b) ≤ length o) where
      proper : lengths ≡ true
      proper = rw (sym q ∙ not-false y n, le-leb (least_out (size_in b)) (length o) m)

      module _ {w : Bool} (g : w ≡ (has_form b && well_formed (state_of b))) where
        pub refused_formless : {r : ℕ} → r ≡ 2 * 2 ^ 32 → not w ≡ true → Gives (display_called b o) r b o
        unfolding display_called refusal
        refused_formless e t = rw (proper, display_called, unformed_decoded b w g (not-true w t)) (record { result = e; store = refl; out = refl })

        pub has_form_lem : Bytes b → not w ≡ false → Form b
        has_form_lem h t = record { bytes = h; form = and_left (has_form b) (well_formed (state_of b)) (sym g ∙ not-false w t) }

        pub gives_display : {o' : List ℕ} {r : ℕ} → Bytes b → not w ≡ false → Says o 0 (entries (display (state_of b))) o' r → Gives (display_called b o) r b o'
        unfolding display_called shows
        gives_display h t p =
            let said = entries (display (state_of b)) in
            rw (proper, display_called, formed_decoded b w g (not-false w t))
            (record { result = p.ends ∙ zero-add (length said); store = refl; out = p.out ∙ wrote_prefix o said (omega (arith, room b (has_form_lem h t))) })
