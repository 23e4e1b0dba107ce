-- What the form of a store gives to whoever reads its records. Assumes nothing.
use Prim.Native.Nat.{ℕ, ◌≤◌}
use mathlib.Core.Path.{◌≡◌}
use mathlib.Core.List.{List}
use lib.ListN.{length}
use Rattle.rules.specs.Limits.{most_statements, most_tallies, most_statements_large, most_tallies_large}
use Rattle.store.specs.Layout.{size_in, store_length, statement_table, tally_table, count_of}
use Rattle.store.specs.Decode.{Form}
use Rattle.store.proofs.Forms.{parts, form_statements, form_tallies}

module _ {b : List ℕ} (k : Form b) where
  pub long : length b ≡ store_length (size_in b)
  long = (parts b k.form).long

  pub few_statements_lem : (count_of statement_table b ≤ most_statements (size_in b)) × (count_of statement_table b ≤ most_statements_large)
  few_statements_lem = form_statements b k

  pub few_tallies_lem : (count_of tally_table b ≤ most_tallies (size_in b)) × (count_of tally_table b ≤ most_tallies_large)
  few_tallies_lem = form_tallies b k
