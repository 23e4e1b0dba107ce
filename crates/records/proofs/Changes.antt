-- What each write makes of the state that a store holds. Assumes nothing.
use Prim.Native.Nat.{ℕ, suc, ◌+◌, ◌-◌, ◌*◌, ◌^◌, ◌<◌, ◌≤◌}
use mathlib.Core.Path.{◌≡◌, refl, sym, ap, ◌∙◌}
use mathlib.Core.Bool.{true}
use mathlib.Core.List.{List, [], ◌∷◌, ◌++◌}
use mathlib.Core.Option.{some}
use native.Mathlib.Omega.{arith}
use native.Mathlib.Nat.{add-zero, zero-add}
use native.Mathlib.Numerals.{add-one}
use lib.ListN.{length, get_or, set}
use Rattle.rules.specs.Limits.{Size, small, last_view, most_statements}
use Rattle.rules.specs.Lists.{all, within}
use Rattle.rules.specs.Sizes.{joined}
use Rattle.rules.specs.Words.{Statement, Phase}
use Rattle.rules.specs.Inputs.{with_phase, with_clock, with_tables, with_blames, with_log, noted, blames_of, blamed}
use Rattle.laws.proofs.Bounds.{statements_most, tallies_most}
use Rattle.laws.proofs.Masks.{joined_lt}
use Rattle.laws.proofs.Tests.{and_left, and_right}
use Rattle.fields.specs.Places.{number, put, Bytes}
use Rattle.fields.specs.Records.{fields, puts, Fit}
use Rattle.fields.proofs.Records.{length_puts, bytes_puts, fields_puts}
use Rattle.fields.proofs.Laws.{number_lt, number_put_same, length_put, bytes_put}
use Rattle.store.specs.Layout.{header_format, statement_format, name_format, Table, statement_table, tally_table, log_table, blame_base, end_of, store_length, size_in, count_of, place_of}
use Rattle.store.specs.Decode.{nth, phase_number, kind_number, statement_from, statement_values, statement_at, tally_for, blame_for, name_for, kind_at, statements, tallies, blames, blames_for, names, kinds, rows, state_from, state_of, Form, Left}
use Rattle.tallies.specs.Values.{vote_of}
use Rattle.records.specs.Changes.{storing, noting, appending}
use Rattle.store.proofs.Values.{number_phase, number_kind, statement_back}
use Rattle.store.proofs.Rows.{rows_at}
use Rattle.records.proofs.Places.{change_none}
use Rattle.store.proofs.Kept.{SameIn, part, put_low, put_high, puts_high, fields_same, field_put}
use Rattle.store.proofs.Tables.{Holds, holds_same, rows_kept, rows_put}
use Rattle.store.proofs.Forms.{ordered_header, ordered_statement, local_statement, local_kind, local_tally, local_blame, local_name, Parts, parts, left}
use Rattle.records.proofs.Writes.{Placed, put_record, add_record}

-- where the tables stand
placed_statements : (z : Size) → Placed z statement_table 11
placed_statements z = record { counted = refl; field = omega arith; apart = omega arith; behind = omega arith; store = omega arith; few = omega (arith, statements_most z, tallies_most z) }

placed_log : (z : Size) → Placed z log_table 13
placed_log z = record { counted = refl; field = omega arith; apart = omega arith; behind = omega arith; store = omega arith; few = omega (arith, statements_most z, tallies_most z) }

-- a table's count and records are as they were
pub record Kept (z : Size) (t : Table) (b b' : List ℕ) : Type 0 where
  pub count : count_of t b' ≡ count_of t b
  pub records : SameIn b b' (t.base z) (end_of t z)

-- a record's reading, from its numbers
statement_row : (b : List ℕ) (i : ℕ) {vs : List ℕ} → fields b (place_of statement_table small i) statement_format ≡ vs → statement_at b i ≡ statement_from vs
unfolding statement_at
statement_row b i e = ap statement_from e

kind_row : (b : List ℕ) (i : ℕ) {vs : List ℕ} → fields b (place_of statement_table small i) statement_format ≡ vs → kind_at b i ≡ nth vs 3
unfolding kind_at
kind_row b i e = ap (λ (vs : List ℕ). nth vs 3) e

name_row : (z : Size) (b : List ℕ) (i : ℕ) {vs : List ℕ} → fields b (place_of log_table z i) name_format ≡ vs → name_for z b i ≡ nth vs 0
unfolding name_for
name_row z b i e = ap (λ (at : ℕ). number b at 32) (sym (add-zero (place_of log_table z i))) ∙ ap (λ (vs : List ℕ). nth vs 0) e

noted_row : (b : List ℕ) (i c : ℕ) → statement_from (set (fields b (place_of statement_table small i) statement_format) 7 (c + 1)) ≡ noted c (statement_at b i)
unfolding noted statement_at
noted_row b i c = let e : vote_of (c + 1) ≡ some c = rw add-one in simp e

-- the kinds of statements are another reading of their table
kinds_held : (b : List ℕ) (k : Form b) → Holds (size_in b) statement_table kind_at b (kinds b)
unfolding kinds
kinds_held b k = record { used = (parts b k.form).statements.used; is = refl }

kinds_are : (z : Size) (b : List ℕ) {ks : List ℕ} → Holds z statement_table kind_at b ks → all (within 1 2) ks ≡ true → all (within 1 2) (kinds b) ≡ true
unfolding kinds
kinds_are z b h e = ap (all (within 1 2)) h.is ∙ e

all_last : (ks : List ℕ) (x : ℕ) → all (within 1 2) ks ≡ true → within 1 2 x ≡ true → all (within 1 2) (ks ++ x ∷ []) ≡ true
unfolding all
all_last [] x h e = rw e
all_last (y ∷ ks) x h e = rw (and_left (within 1 2 y) _ h) (all_last ks x (and_right (within 1 2 y) _ h) e)

-- what is left where some parts of a store are as they were
module _ (b b' : List ℕ) (k : Form b) where
  abbrev z : Size
  z = size_in b

  abbrev p : Parts b
  p = parts b k.form

  pub statements_kept : Kept z statement_table b b' → Holds z statement_table statement_at b' (statements b)
  statements_kept s = holds_same z statement_table statement_at (local_statement z) b b' p.statements s.count s.records

  tallies_kept : Kept z tally_table b b' → Holds z tally_table (tally_for z) b' (tallies b)
  tallies_kept s = holds_same z tally_table (tally_for z) (local_tally z) b b' p.tallies s.count s.records

  pub log_kept : Kept z log_table b b' → Holds z log_table (name_for z) b' (names b)
  log_kept s = holds_same z log_table (name_for z) (local_name z) b b' p.log s.count s.records

  pub blames_kept : SameIn b b' (blame_base z) (log_table.base z) → blames_for z b' ≡ blames b
  unfolding blames_for
  blames_kept s = ap (0 ∷◌) (rows_kept (blame_base z) 2 (blame_for z) (local_blame z) b b' (last_view z) s)

  pub kinds_kept : Kept z statement_table b b' → all (within 1 2) (kinds b') ≡ true
  unfolding kinds
  kinds_kept s =
      ap (all (within 1 2)) (holds_same z statement_table kind_at (local_kind z) b b' (kinds_held b k) s.count s.records).is ∙ p.kinds

  pub header_kept : SameIn b b' 0 68 → fields b' 0 header_format ≡ fields b 0 header_format
  header_kept s = fields_same b b' 0 0 68 header_format ordered_header s

module _ (b : List ℕ) (k : Form b) where
  abbrev q : Parts b
  q = parts b k.form

  -- ---- the header

  -- what a write before the counts leaves
  in_header : (b' : List ℕ) (e : ℕ) {h : List ℕ} → e ≤ 62 → SameIn b b' e (store_length (size_in b)) → Bytes b' → length b' ≡ length b → fields b' 0 header_format ≡ h
      → Left b' (state_from (size_in b) h (statements b) (tallies b) (blames b) (names b))
  in_header b' e l s bytes long eh =
      let xs : Kept (size_in b) statement_table b b' = record { count = s.same 62 2 (omega arith) (omega arith); records = part s (omega arith) (omega arith) } in
      let ts : Kept (size_in b) tally_table b b' = record { count = s.same 64 2 (omega arith) (omega arith); records = part s (omega arith) (omega arith) } in
      let ns : Kept (size_in b) log_table b b' = record { count = s.same 66 2 (omega arith) (omega arith); records = part s (omega arith) (omega arith) } in
      left (size_in b) bytes (long ∙ q.long) eh (statements_kept b b' k xs) (tallies_kept b b' k ts) (blames_kept b b' k (part s (omega arith) (omega arith)))
      (log_kept b b' k ns) (kinds_kept b b' k xs)

  put_header : (i v : ℕ) → i < 11 → (get_or header_format i (0, 0)).0 + (get_or header_format i (0, 0)).1 ≤ 62 → v < 256 ^ (get_or header_format i (0, 0)).1
      → Left (put b (get_or header_format i (0, 0)).0 (get_or header_format i (0, 0)).1 v)
      (state_from (size_in b) (set (fields b 0 header_format) i v) (statements b) (tallies b) (blames b) (names b))
  put_header i v l low fit =
      let o = (get_or header_format i (0, 0)).0 in
      let w = (get_or header_format i (0, 0)).1 in
      in_header (put b o w v) (o + w) low (put_high b o w v (store_length (size_in b))) (bytes_put b k.bytes o w v) (length_put b o w v)
      (ap (λ (at : ℕ). fields (put b at w v) 0 header_format) (sym (zero-add o))
      ∙ field_put b 0 0 68 header_format ordered_header (omega (arith, q.long)) i v (omega arith) fit)

  pub put_phase : (v : Phase) → phase_number v < 256 ^ 4 → Left (put b 0 4 (phase_number v)) (with_phase v (state_of b))
  unfolding with_phase state_of state_from
  put_phase v fit =
      let h = put_header 0 (phase_number v) (omega arith) (omega arith) fit in
      record { form = h.form; is = h.is ∙ ap (λ (x : Phase). with_phase x (state_of b)) (number_phase v) }

  pub put_clock : (c : ℕ) → c < 256 ^ 4 → Left (put b 16 4 c) (with_clock c (state_of b))
  unfolding with_clock state_of state_from
  put_clock c fit = put_header 6 c (omega arith) (omega arith) fit

  -- a whole header is written that keeps the counts
  pub put_station : (vs : List ℕ) → Fit header_format vs → nth vs 11 ≡ count_of statement_table b → nth vs 12 ≡ count_of tally_table b → nth vs 13 ≡ count_of log_table b
      → Left (puts b 0 header_format vs) (state_from (size_in b) vs (statements b) (tallies b) (blames b) (names b))
  put_station vs fit x t l =
      let b' = puts b 0 header_format vs in
      let s : SameIn b b' 68 (store_length (size_in b)) = puts_high b 0 68 header_format ordered_header vs (store_length (size_in b)) in
      let h : fields b' 0 header_format ≡ vs = fields_puts b 0 0 68 header_format vs ordered_header (omega (arith, q.long)) fit in
      let xs : Kept (size_in b) statement_table b b' = record { count = ap (λ (ws : List ℕ). nth ws 11) h ∙ x; records = part s (omega arith) (omega arith) } in
      let ts : Kept (size_in b) tally_table b b' = record { count = ap (λ (ws : List ℕ). nth ws 12) h ∙ t; records = part s (omega arith) (omega arith) } in
      let ns : Kept (size_in b) log_table b b' = record { count = ap (λ (ws : List ℕ). nth ws 13) h ∙ l; records = part s (omega arith) (omega arith) } in
      left (size_in b) (bytes_puts b k.bytes 0 header_format vs) (length_puts b 0 header_format vs ∙ q.long) h (statements_kept b b' k xs) (tallies_kept b b' k ts)
      (blames_kept b b' k (part s (omega arith) (omega arith))) (log_kept b b' k ns) (kinds_kept b b' k xs)

  -- ---- the statements

  in_statements : (b' : List ℕ) {h : List ℕ} {xs : List Statement} → Bytes b' → length b' ≡ length b → fields b' 0 header_format ≡ h → SameIn b b' 64 68
      → SameIn b b' (end_of statement_table (size_in b)) (store_length (size_in b)) → Holds (size_in b) statement_table statement_at b' xs → all (within 1 2) (kinds b') ≡ true
      → Left b' (state_from (size_in b) h xs (tallies b) (blames b) (names b))
  in_statements b' bytes long eh mid high holds ks =
      left (size_in b) bytes (long ∙ q.long) eh holds
      (tallies_kept b b' k record { count = mid.same 64 2 (omega arith) (omega arith); records = part high (omega arith) (omega arith) })
      (blames_kept b b' k (part high (omega arith) (omega arith)))
      (log_kept b b' k record { count = mid.same 66 2 (omega arith) (omega arith); records = part high (omega arith) (omega arith) }) ks

  pub add_statement : (x : Statement) → count_of statement_table b < most_statements (size_in b) → Fit statement_format (statement_values x)
      → Left (put (puts b (place_of statement_table small (count_of statement_table b)) statement_format (statement_values x)) 62 2 (count_of statement_table b + 1)) (storing x (state_of b))
  unfolding storing with_tables state_of state_from
  add_statement x l fit =
      let vs = statement_values x in
      let n = count_of statement_table b in
      let b' = put (puts b (place_of statement_table small n) statement_format vs) 62 2 (n + 1) in
      let a = add_record (size_in b) statement_table statement_at (local_statement (size_in b)) b q.statements 11 (placed_statements (size_in b)) statement_format ordered_statement k.bytes q.long vs x l fit (λ e. statement_row b' n e ∙ statement_back x) in
      let c = add_record (size_in b) statement_table kind_at (local_kind (size_in b)) b (kinds_held b k) 11 (placed_statements (size_in b)) statement_format ordered_statement k.bytes q.long vs (kind_number x.is_new_view) l fit (kind_row b' n) in
      let ks = kinds_are (size_in b) b' c.holds (all_last (kinds b) (kind_number x.is_new_view) q.kinds (number_kind x.is_new_view).0) in
      in_statements b' a.bytes a.long a.header (part a.mid (omega arith) (omega arith)) a.high a.holds ks

  pub put_vote : (j c : ℕ) → j < count_of statement_table b → c + 1 < 256 ^ 4 → Left (put b (place_of statement_table small j + 76) 4 (c + 1)) (noting j c (state_of b))
  unfolding noting with_tables state_of state_from
  put_vote j c l fit =
      let at = place_of statement_table small j in
      let b' = put b (at + 76) 4 (c + 1) in
      let n = q.statements.used.within in
      let row : fields b' at statement_format ≡ set (fields b at statement_format) 7 (c + 1) =
      field_put b at 0 80 statement_format ordered_statement (omega (arith, q.long)) 7 (c + 1) (omega arith) fit in
      let x = put_record (size_in b) statement_table statement_at (local_statement (size_in b)) b q.statements 11 (placed_statements (size_in b)) j 76 4 (c + 1) (noted c) l (omega arith) (statement_row b' j row ∙ noted_row b j c) in
      let y = put_record (size_in b) statement_table kind_at (local_kind (size_in b)) b (kinds_held b k) 11 (placed_statements (size_in b)) j 76 4 (c + 1) (λ (x : ℕ). x) l (omega arith) (kind_row b' j row ∙ sym (kind_row b j refl)) in
      let ks = kinds_are (size_in b) b' y.holds (ap (all (within 1 2)) (change_none j (kinds b)) ∙ q.kinds) in
      in_statements b' (bytes_put b k.bytes (at + 76) 4 (c + 1)) (length_put b (at + 76) 4 (c + 1)) (header_kept b b' k x.low)
      (part x.low (omega arith) (omega arith)) x.high x.holds ks

  -- ---- the blame masks

  blames_put : (j m : ℕ) → j < (last_view (size_in b)) → m < 256 ^ 2
      → blames_for (size_in b) (put b (blame_base (size_in b) + 2 * j) 2 (joined (blame_for (size_in b) b j) m)) ≡ set (blames b) (suc j) (joined (get_or (blames b) (suc j) 0) m)
  unfolding blames_for blame_for
  blames_put j m l fit =
      let at = blame_base (size_in b) + 2 * j in
      let u = joined (number b at 2) m in
      let now : number (put b at 2 u) at 2 ≡ u = number_put_same b at 2 u (omega (arith, q.long)) (joined_lt 16 (number b at 2) m (number_lt b k.bytes at 2) fit) in
      let old : get_or (rows (blame_for (size_in b) b) 0 (last_view (size_in b))) j 0 ≡ number b at 2 = rows_at (blame_for (size_in b) b) 0 0 (last_view (size_in b)) j l ∙ ap (blame_for (size_in b) b) (zero-add j) in
      ap (0 ∷◌)
      (rows_put (blame_base (size_in b)) 2 (blame_for (size_in b)) (local_blame (size_in b)) b (put b at 2 u) j (last_view (size_in b)) u l now (part (put_low b at 2 u) (omega arith) (omega arith)) (put_high b at 2 u _)
      ∙ ap (λ (x : ℕ). set (rows (blame_for (size_in b) b) 0 (last_view (size_in b))) j (joined x m)) (sym old))

  pub put_blame : (v m : ℕ) → 1 ≤ v → v ≤ (last_view (size_in b)) → m < 256 ^ 2
      → Left (put b (blame_base (size_in b) + 2 * (v - 1)) 2 (joined (blame_for (size_in b) b (v - 1)) m)) (blamed v m (state_of b))
  unfolding blamed blames_of with_blames state_of state_from
  put_blame v m l l' fit =
      let e : suc (v - 1) ≡ v = omega arith in
      let at = blame_base (size_in b) + 2 * (v - 1) in
      let u = joined (blame_for (size_in b) b (v - 1)) m in
      let b' = put b at 2 u in
      let low = put_low b at 2 u in
      let high = put_high b at 2 u (store_length (size_in b)) in
      let xs : Kept (size_in b) statement_table b b' = record { count = low.same 62 2 (omega arith) (omega arith); records = part low (omega arith) (omega arith) } in
      let ts : Kept (size_in b) tally_table b b' = record { count = low.same 64 2 (omega arith) (omega arith); records = part low (omega arith) (omega arith) } in
      let ns : Kept (size_in b) log_table b b' = record { count = low.same 66 2 (omega arith) (omega arith); records = part high (omega arith) (omega arith) } in
      left (size_in b) (bytes_put b k.bytes at 2 u) (length_put b at 2 u ∙ q.long) (header_kept b b' k (part low (omega arith) (omega arith))) (statements_kept b b' k xs) (tallies_kept b b' k ts)
      (blames_put (v - 1) m (omega arith) fit ∙ ap (λ (w : ℕ). set (blames b) w (joined (get_or (blames b) w 0) m)) e) (log_kept b b' k ns) (kinds_kept b b' k xs)

  -- ---- the log

  pub add_name : (n : ℕ) → count_of log_table b < most_statements (size_in b) → n < 256 ^ 32
      → Left (put (put b (place_of log_table (size_in b) (count_of log_table b)) 32 n) 66 2 (count_of log_table b + 1)) (appending n (state_of b))
  unfolding appending with_log state_of state_from
  add_name n l fit =
      let c = count_of log_table b in
      let b₁ = puts b (place_of log_table (size_in b) c) name_format (n ∷ []) in
      let b' = put b₁ 66 2 (c + 1) in
      let a = add_record (size_in b) log_table (name_for (size_in b)) (local_name (size_in b)) b q.log 13 (placed_log (size_in b)) name_format (tt, tt) k.bytes q.long (n ∷ []) n l (fit, tt) (name_row (size_in b) b' c) in
      let xs : Kept (size_in b) statement_table b b' = record { count = a.low.same 62 2 (omega arith) (omega arith); records = part a.mid (omega arith) (omega arith) } in
      let ts : Kept (size_in b) tally_table b b' = record { count = a.low.same 64 2 (omega arith) (omega arith); records = part a.mid (omega arith) (omega arith) } in
      let e : b' ≡ put (put b (place_of log_table (size_in b) c) 32 n) 66 2 (c + 1) = ap (λ (at : ℕ). put (put b at 32 n) 66 2 (c + 1)) (add-zero (place_of log_table (size_in b) c)) in
      rw (← e)
      (left (size_in b) a.bytes (a.long ∙ q.long) a.header (statements_kept b b' k xs) (tallies_kept b b' k ts) (blames_kept b b' k (part a.mid (omega arith) (omega arith)))
      a.holds (kinds_kept b b' k xs))
