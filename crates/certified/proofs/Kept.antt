-- The clock of a block's tally, by where a search finds it; none for a block that no record can have. Assumes nothing.
use Prim.Native.Nat.{ℕ, zero, suc, ◌+◌, ◌^◌, ◌≤◌, ◌<◌}
use mathlib.Core.Path.{◌≡◌, refl, sym, ap, ◌∙◌}
use mathlib.Core.Bool.{false}
use mathlib.Core.List.{List}
use mathlib.Core.Logic.{◌⊎◌, inl, inr}
use mathlib.Core.Option.{Option, none}
use native.Mathlib.Omega.{arith}
use Rattle.rules.specs.Words.{Certificate, Tally, certificate_of, same_block, of_block, reached_of}
use Rattle.laws.proofs.Tests.{by_bool}
use Rattle.laws.proofs.Tallies.{block_eq}
use Rattle.fields.proofs.Laws.{number_lt}
use Rattle.store.specs.Layout.{tally_table, size_in, count_of, place_of}
use Rattle.tallies.specs.Values.{reached_from}
use Rattle.store.specs.Decode.{tally_for, tally_at, since_for, since_at, rows, tallies, Form}
use Rattle.store.specs.Searches.{first_from, block_at}
use Rattle.std.specs.Prelude.{Option as Maybe, Some, None}
use Rattle.store.proofs.Searches.{found_within}

-- the clock of the record at a place
kept_at : (ℕ → Tally) → Maybe ℕ → Option ℕ
kept_at f (Some j) = (f j).reached
kept_at f None = none

reached_rows : (t : Certificate) (f : ℕ → Tally) (i n : ℕ) → reached_of t (rows f i n) ≡ kept_at f (first_from (of_block t) i (rows f i n))
unfolding reached_of rows first_from kept_at
reached_rows t f i zero = refl
reached_rows t f i (suc n) = by_bool (of_block t (f i)) (λ q. rw (q, reached_of)) (λ q. rw (q, reached_of) (reached_rows t f (suc i) n))

module _ (b : List ℕ) (t : Certificate) {r : Maybe ℕ} (e : r ≡ block_at t (tallies b)) where
  pub kept_there : (j : ℕ) → r ≡ Some j → reached_from (since_at b j) ≡ reached_of t (tallies b)
  unfolding tallies kept_at tally_for since_for
  kept_there j q = sym (reached_rows t (tally_at b) 0 (count_of tally_table b) ∙ ap (kept_at (tally_at b)) (sym e ∙ q))

  pub kept_missing : r ≡ None → none ≡ reached_of t (tallies b)
  unfolding tallies kept_at
  kept_missing q = sym (reached_rows t (tally_at b) 0 (count_of tally_table b) ∙ ap (kept_at (tally_at b)) (sym e ∙ q))

  pub place_within : (j : ℕ) → r ≡ Some j → j < count_of tally_table b
  unfolding tallies
  place_within j q = found_within (of_block t) (tally_at b) (count_of tally_table b) r e j q

-- a number that doesn't fit a record's field is in none
outside : (t : Certificate) (f : ℕ → Tally) → ((k : ℕ) → same_block t (certificate_of (f k)) ≡ false) → (i n : ℕ) → reached_of t (rows f i n) ≡ none
unfolding reached_of rows
outside t f d i zero = refl
outside t f d i (suc n) = rw (d i, reached_of) (outside t f d (suc i) n)

module _ {b : List ℕ} (k : Form b) (t : Certificate) where
  differs : (256 ^ 4 ≤ t.view) ⊎ (256 ^ 4 ≤ t.height) → (j : ℕ) → same_block t (certificate_of (tally_at b j)) ≡ false
  unfolding tally_for
  differs l j =
      by_bool (same_block t (certificate_of (tally_at b j)))
      (λ q.
      let (v, h, _) = block_eq t (certificate_of (tally_at b j)) q in
      let at = place_of tally_table (size_in b) j in
      elim l [ inl m ↦ absurd (omega (arith, number_lt b k.bytes (at + 0) 4)) | inr m ↦ absurd (omega (arith, number_lt b k.bytes (at + 4) 4)) ])
      (λ q. q)

  pub kept_outside : (256 ^ 4 ≤ t.view) ⊎ (256 ^ 4 ≤ t.height) → none ≡ reached_of t (tallies b)
  unfolding tallies
  kept_outside l = sym (outside t (tally_at b) (differs l) 0 (count_of tally_table b))
