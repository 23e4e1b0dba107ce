-- What the form of a store gives, table by table, and what gives the form. Assumes nothing.
use Prim.Native.Nat.{ℕ, ◌+◌, ◌*◌, ◌<◌, ◌≤◌}
use mathlib.Core.Path.{◌≡◌, refl, ap, subst}
use mathlib.Core.Bool.{true, ◌&&◌}
use mathlib.Core.List.{List}
use native.Mathlib.Omega.{arith}
use lib.ListN.{length}
use lib.Dec.{leb, eqb}
use borrow.Author.Tests.{eqb-true, leb-true, eq-eqb, ne_eqb, le-leb}
use Rattle.rules.specs.Limits.{Size, small, large, last_view, most_statements, most_tallies, most_statements_large, most_tallies_large}
use Rattle.rules.specs.Lists.{all, within}
use Rattle.rules.specs.Words.{Statement, Tally}
use Rattle.laws.proofs.Bounds.{statements_most, tallies_most}
use Rattle.laws.proofs.Tests.{and_left, and_right}
use Rattle.fields.specs.Places.{Bytes}
use Rattle.fields.specs.Records.{fields, Ordered}
use Rattle.store.specs.Layout.{size_of, size_in, header_format, statement_format, tally_format, Table, statement_table, tally_table, log_table, blame_base, store_length, count_of, place_of}
use Rattle.store.specs.Decode.{statement_from, tally_from, statement_at, tally_for, blame_for, name_for, kind_at, statements, tallies, blames_for, names, kinds, state_from, state_of, table_fits, has_form, Form, Left}
use Rattle.store.proofs.Kept.{part, fields_same}
use Rattle.store.proofs.Tables.{Local, Used, Holds}

-- the fields of each record lie in order
abbrev pub ordered_header : Ordered 0 header_format (size_of header_format)
ordered_header = (tt, (tt, (tt, (tt, (tt, (tt, (tt, (tt, (tt, (tt, (tt, (tt, (tt, (tt, tt))))))))))))))

abbrev pub ordered_statement : Ordered 0 statement_format statement_table.size
ordered_statement = (tt, (tt, (tt, (tt, (tt, (tt, (tt, (tt, tt))))))))

abbrev pub ordered_tally : Ordered 0 tally_format tally_table.size
ordered_tally = (tt, (tt, (tt, (tt, (tt, (tt, tt))))))

-- each table's reader looks at its records alone
pub local_statement : (z : Size) → Local (statement_table.base z) statement_table.size statement_at
unfolding statement_at
local_statement z = record { reads = λ b b' i s. ap statement_from (fields_same b b' (place_of statement_table z i) 0 statement_table.size statement_format ordered_statement (part s (omega arith) (omega arith))) }

pub local_kind : (z : Size) → Local (statement_table.base z) statement_table.size kind_at
unfolding kind_at
local_kind z = record { reads = λ b b' i s. s.same (place_of statement_table z i + 40) 1 (omega arith) (omega arith) }

pub local_tally : (z : Size) → Local (tally_table.base z) tally_table.size (tally_for z)
unfolding tally_for
local_tally z = record { reads = λ b b' i s. ap tally_from (fields_same b b' (place_of tally_table z i) 0 tally_table.size tally_format ordered_tally (part s (omega arith) (omega arith))) }

pub local_blame : (z : Size) → Local (blame_base z) 2 (blame_for z)
unfolding blame_for
local_blame z = record { reads = λ b b' i s. s.same (blame_base z + 2 * i) 2 (omega arith) (omega arith) }

pub local_name : (z : Size) → Local (log_table.base z) log_table.size (name_for z)
unfolding name_for
local_name z = record { reads = λ b b' i s. s.same (place_of log_table z i) 32 (omega arith) (omega arith) }

-- the limits of a store's length are those that its length was computed from
pub sized : (z : Size) (b : List ℕ) → length b ≡ store_length z → size_in b ≡ z
unfolding size_in last_view most_statements most_tallies
sized small b e = rw (ne_eqb (length b) (store_length large) (λ n. omega arith), size_in)
sized large b e = rw (eq-eqb (length b) (store_length large) e, size_in)

pub is_large : (b : List ℕ) → length b ≡ store_length large → size_in b ≡ large
unfolding size_in last_view most_statements most_tallies
is_large b e = rw (eq-eqb (length b) (store_length large) e, size_in)

pub is_small : (b : List ℕ) → (length b ≡ store_length large → ⊥) → size_in b ≡ small
unfolding size_in last_view most_statements most_tallies
is_small b e = rw (ne_eqb (length b) (store_length large) e, size_in)

-- the form, part by part
pub record Parts (b : List ℕ) : Type 0 where
  pub long : length b ≡ store_length (size_in b)
  pub statements : Holds (size_in b) statement_table statement_at b (statements b)
  pub tallies : Holds (size_in b) tally_table (tally_for (size_in b)) b (tallies b)
  pub log : Holds (size_in b) log_table (name_for (size_in b)) b (names b)
  pub kinds : all (within 1 2) (kinds b) ≡ true

used_fits : (z : Size) (t : Table) (b : List ℕ) → table_fits z t b ≡ true → Used z t b
unfolding table_fits
used_fits z t b e = record { within = leb-true _ _ (and_left _ _ e); clear = eqb-true _ _ (and_right (leb (count_of t b) (t.room z)) _ e) }

fits_used : (z : Size) (t : Table) (b : List ℕ) → Used z t b → table_fits z t b ≡ true
unfolding table_fits
fits_used z t b u = rw (le-leb _ _ u.within, eq-eqb _ _ u.clear)

pub parts : (b : List ℕ) → has_form b ≡ true → Parts b
unfolding has_form statements tallies names
parts b e =
    let z = size_in b in
    let long = eqb (length b) (store_length z) in
    let one = table_fits z statement_table b in
    let two = table_fits z tally_table b in
    let three = table_fits z log_table b in
    let d = and_left (long && one && two && three) _ e in
    let c = and_left (long && one && two) _ d in
    let a = and_left (long && one) _ c in
    record {
      long = eqb-true _ _ (and_left long one a);
      statements = record { used = used_fits z statement_table b (and_right long one a); is = refl };
      tallies = record { used = used_fits z tally_table b (and_right (long && one) two c); is = refl };
      log = record { used = used_fits z log_table b (and_right (long && one && two) three d); is = refl };
      kinds = and_right (long && one && two && three) _ e;
    }

pub has_form_lem : (b : List ℕ) → length b ≡ store_length (size_in b) → Used (size_in b) statement_table b → Used (size_in b) tally_table b → Used (size_in b) log_table b → all (within 1 2) (kinds b) ≡ true
    → has_form b ≡ true
unfolding has_form
has_form_lem b n x t l k = rw (eq-eqb _ _ n, fits_used (size_in b) statement_table b x, fits_used (size_in b) tally_table b t, fits_used (size_in b) log_table b l, k)

-- a store is left, from what each of its parts holds
pub left : (z : Size) {b : List ℕ} {h : List ℕ} {xs : List Statement} {ts : List Tally} {ms l : List ℕ} → Bytes b → length b ≡ store_length z → fields b 0 header_format ≡ h
    → Holds z statement_table statement_at b xs → Holds z tally_table (tally_for z) b ts → blames_for z b ≡ ms → Holds z log_table (name_for z) b l → all (within 1 2) (kinds b) ≡ true
    → Left b (state_from z h xs ts ms l)
unfolding state_of statements tallies names
left z {b} {h} {xs} {ts} {ms} {l} bytes long eh x t em n k =
    subst (λ (y : Size). length b ≡ store_length y → Holds y statement_table statement_at b xs → Holds y tally_table (tally_for y) b ts → blames_for y b ≡ ms
    → Holds y log_table (name_for y) b l → Left b (state_from y h xs ts ms l)) (sized z b long)
    (λ long x t em n. record {
      form = record { bytes = bytes; form = has_form_lem b long x.used t.used n.used k };
      is = λ i. state_from (size_in b) (eh i) (x.is i) (t.is i) (em i) (n.is i);
    }) long x t em n

-- the form, by name
pub form_long : (b : List ℕ) → Form b → length b ≡ store_length (size_in b)
form_long b k = (parts b k.form).long

-- a record behind the last of a table that isn't full has its place
pub behind_last : (b : List ℕ) {r n m : ℕ} → Form b × (n < m) → r ≡ n → (length b ≡ store_length (size_in b)) × (r < m)
behind_last b h e = (form_long b h.0, omega (arith, h.1))

pub form_statements : (b : List ℕ) → Form b → (count_of statement_table b ≤ most_statements (size_in b)) × (count_of statement_table b ≤ most_statements_large)
form_statements b k = let h = (parts b k.form).statements.used.within in (h, omega (arith, statements_most (size_in b)))

pub form_tallies : (b : List ℕ) → Form b → (count_of tally_table b ≤ most_tallies (size_in b)) × (count_of tally_table b ≤ most_tallies_large)
form_tallies b k = let h = (parts b k.form).tallies.used.within in (h, omega (arith, tallies_most (size_in b)))

pub form_log : (b : List ℕ) → Form b → (count_of log_table b ≤ most_statements (size_in b)) × (count_of log_table b ≤ most_statements_large)
form_log b k = let h = (parts b k.form).log.used.within in (h, omega (arith, statements_most (size_in b)))
