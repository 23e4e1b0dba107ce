-- A store of the form is the bytes of its state. Assumes nothing.
use Prim.Native.Nat.{ℕ, ◌+◌, ◌*◌, ◌<◌}
use mathlib.Core.Path.{◌≡◌, sym, ap, ap₂, ◌∙◌}
use mathlib.Core.List.{List, [], ◌∷◌, ◌++◌}
use native.Mathlib.Omega.{arith}
use native.Mathlib.Nat.{add-zero, zero-add}
use lib.ListN.{get_or}
use lib.Dec.{eqb}
use Rattle.rules.specs.Limits.{Size, small, last_view, most_statements, most_tallies}
use Rattle.rules.specs.Lists.{within}
use Rattle.fields.specs.Places.{number}
use Rattle.fields.specs.Records.{fields}
use Rattle.store.specs.Layout.{header_format, statement_format, tally_format, mask_format, name_format, statement_table, tally_table, log_table, blame_base, size_in, place_of, count_of}
use Rattle.store.specs.Decode.{kind_number, statement_values, tally_values, statement_at, tally_at, tally_for, blame_at, blame_for, name_at, name_for, kind_at, statements, tallies, blames_for, names, kinds, state_from, state_of, Form, header_values, bytes_of, encode}
use Rattle.store.proofs.Values.{phase_number_lem, kind_number_lem}
use Rattle.tallies.proofs.Values.{vote_number_lem}
use Rattle.store.proofs.Rows.{rows_append, rows_length, rows_all}
use Rattle.store.proofs.Forms.{Parts, parts}
use Rattle.oneform.proofs.Pieces.{bytes_at, bytes_all, record_bytes_lem, rows_bytes, table_bytes}

module _ (b : List ℕ) (k : Form b) where
  abbrev z : Size
  z = size_in b

  abbrev p : Parts b
  p = parts b k.form

  header_is : header_values (state_of b) ≡ fields b 0 header_format
  unfolding header_values state_of state_from statements tallies names
  header_is = simp (phase_number_lem, rows_length)

  kind_is : (i : ℕ) → i < count_of statement_table b → kind_number (eqb (kind_at b i) 1) ≡ kind_at b i
  unfolding kinds
  kind_is i l = kind_number_lem (kind_at b i) (rows_all (within 1 2) (kind_at b) 0 (count_of statement_table b) p.kinds i (omega arith) (omega arith))

  -- each record's bytes
  statement_is : (i : ℕ) → i < count_of statement_table b
      → bytes_of statement_format (statement_values (statement_at b i)) ≡ bytes_at b (place_of statement_table small i) statement_table.size
  unfolding statement_at kind_at
  statement_is i l =
      ap (bytes_of statement_format) (simp (kind_is i l, vote_number_lem))
      ∙ record_bytes_lem b k.bytes (place_of statement_table small i) statement_format (tt, (tt, (tt, (tt, (tt, (tt, (tt, (tt, tt))))))))

  tally_is : (i : ℕ) → bytes_of tally_format (tally_values (tally_at b i)) ≡ bytes_at b (place_of tally_table z i) tally_table.size
  unfolding tally_for
  tally_is i =
      ap (bytes_of tally_format) (simp vote_number_lem)
      ∙ record_bytes_lem b k.bytes (place_of tally_table z i) tally_format (tt, (tt, (tt, (tt, (tt, (tt, tt))))))

  mask_is : (i : ℕ) → bytes_of mask_format (blame_at b i ∷ []) ≡ bytes_at b (blame_base z + 2 * i) 2
  unfolding blame_for
  mask_is i =
      ap (λ (n : ℕ). bytes_of mask_format (number b n 2 ∷ [])) (sym (add-zero (blame_base z + 2 * i)))
      ∙ record_bytes_lem b k.bytes (blame_base z + 2 * i) mask_format (tt, tt)

  name_is : (i : ℕ) → bytes_of name_format (name_at b i ∷ []) ≡ bytes_at b (place_of log_table z i) log_table.size
  unfolding name_for
  name_is i =
      ap (λ (n : ℕ). bytes_of name_format (number b n 32 ∷ [])) (sym (add-zero (place_of log_table z i)))
      ∙ record_bytes_lem b k.bytes (place_of log_table z i) name_format (tt, tt)

  header_bytes : bytes_of header_format (header_values (state_of b)) ≡ bytes_at b 0 68
  header_bytes =
      ap (bytes_of header_format) header_is
      ∙ record_bytes_lem b k.bytes 0 header_format (tt, (tt, (tt, (tt, (tt, (tt, (tt, (tt, (tt, (tt, (tt, (tt, (tt, (tt, tt))))))))))))))

  -- the five pieces of a store, in a row
  more : (n m : ℕ) → bytes_at b 0 n ++ bytes_at b n m ≡ bytes_at b 0 (n + m)
  more n m = ap (λ (k : ℕ). bytes_at b 0 n ++ bytes_at b k m) (sym (zero-add n)) ∙ sym (rows_append (λ i. get_or b i 0) 0 n m)

  pieces : bytes_at b 0 68 ++ bytes_at b 68 (80 * most_statements z) ++ bytes_at b (tally_table.base z) (tally_table.size * most_tallies z) ++ bytes_at b (blame_base z) (2 * last_view z) ++ bytes_at b (log_table.base z) (32 * most_statements z) ≡ b
  pieces =
      ap (λ (x : List ℕ). x ++ bytes_at b (tally_table.base z) (tally_table.size * most_tallies z) ++ bytes_at b (blame_base z) (2 * last_view z) ++ bytes_at b (log_table.base z) (32 * most_statements z)) (more 68 (80 * most_statements z))
      ∙ ap (λ (x : List ℕ). x ++ bytes_at b (blame_base z) (2 * last_view z) ++ bytes_at b (log_table.base z) (32 * most_statements z)) (more (tally_table.base z) (tally_table.size * most_tallies z))
      ∙ ap (λ (x : List ℕ). x ++ bytes_at b (log_table.base z) (32 * most_statements z)) (more (blame_base z) (2 * last_view z)) ∙ more (log_table.base z) (32 * most_statements z)
      ∙ ap (bytes_at b 0) (sym p.long) ∙ bytes_all b

  pub encode_state : encode (state_of b) ≡ b
  unfolding encode state_of state_from statements tallies blames_for names
  encode_state =
      ap₂ ◌++◌
      (ap₂ ◌++◌
      (ap₂ ◌++◌ (ap₂ ◌++◌ header_bytes (table_bytes b k.bytes z statement_table (λ x. bytes_of statement_format (statement_values x)) (statement_at b) statement_is p.statements.used))
      (table_bytes b k.bytes z tally_table (λ t. bytes_of tally_format (tally_values t)) (tally_at b) (λ i l. tally_is i) p.tallies.used))
      (rows_bytes b k.bytes (λ m. bytes_of mask_format (m ∷ [])) (blame_at b) (blame_base z) 2 0 (last_view z) (λ i l m. mask_is i) ∙ ap (λ (at : ℕ). bytes_at b at (2 * last_view z)) (add-zero (blame_base z))))
      (table_bytes b k.bytes z log_table (λ n. bytes_of name_format (n ∷ [])) (name_at b) (λ i l. name_is i) p.log.used)
      ∙ pieces
