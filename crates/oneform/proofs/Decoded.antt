-- The bytes of a state whose numbers fit have the form, and hold that state. Assumes nothing.
use Prim.Native.Nat.{ℕ, ◌+◌, ◌*◌, ◌≤◌}
use mathlib.Core.Path.{◌≡◌, refl, sym, ap, ◌∙◌, subst}
use mathlib.Core.Bool.{true}
use mathlib.Core.List.{List, [], ◌∷◌, ◌++◌, append_assoc, append-nil, map, map-id}
use native.Mathlib.Omega.{arith}
use native.Mathlib.Nat.{add-zero}
use lib.ListN.{length, drop, length-append}
use Rattle.rules.specs.Limits.{Size, small, last_view, most_statements, most_tallies}
use Rattle.rules.specs.Lists.{all, within}
use Rattle.rules.specs.Words.{Statement, Tally, State}
use Rattle.fields.specs.Places.{number, Bytes}
use Rattle.fields.specs.Records.{fields, Fit}
use Rattle.store.specs.Layout.{header_format, statement_format, tally_format, mask_format, name_format, statement_table, tally_table, log_table, blame_base, store_length, count_of, place_of}
use Rattle.store.specs.Decode.{nth, kind_number, statement_from, statement_values, tally_from, tally_values, statement_at, tally_for, blame_for, name_for, kind_at, rows, blames_for, kinds, state_from, header_values, bytes_of, flat, table_of, Left, encode}
use Rattle.store.proofs.Values.{number_phase, number_kind, tally_back, statement_back}
use Rattle.store.proofs.Tables.{Holds}
use Rattle.store.proofs.Forms.{left}
use Rattle.oneform.proofs.Pieces.{Tiled}
use Rattle.oneform.proofs.ReadBack.{Each, bytes, fields_bytes, length_bytes, length_flat, length_table, bytes_append, bytes_record, bytes_flat, bytes_table, rows_flat, table_used, table_rows}

abbrev single : ℕ → List ℕ
single n = n ∷ []

-- every number of a state fits its field, every table its room
pub record Fitted (s : State) : Type 0 where
  pub header : Fit header_format (header_values s)
  pub statements : Each (λ x. Fit statement_format (statement_values x)) s.statements
  pub tallies : Each (λ t. Fit tally_format (tally_values t)) s.tallies
  pub masks : Each (λ m. Fit mask_format (m ∷ [])) (drop 1 s.blames)
  pub names : Each (λ b. Fit name_format (b ∷ [])) s.log
  pub few_statements : length s.statements ≤ most_statements s.settings.size
  pub few_tallies : length s.tallies ≤ most_tallies s.settings.size
  pub few_names : length s.log ≤ most_statements s.settings.size
  pub views : length (drop 1 s.blames) ≡ last_view s.settings.size
  pub none_blamed : 0 ∷ drop 1 s.blames ≡ s.blames

-- ---- what a reader finds in each record

abbrev tiled_statement : Tiled 0 statement_format
tiled_statement = (tt, (tt, (tt, (tt, (tt, (tt, (tt, (tt, tt))))))))

module _ (z : Size) (p q : List ℕ) (i : ℕ) where
  statement_reads : (x : Statement) → Fit statement_format (statement_values x) → 68 + 80 * i ≡ length p
      → statement_at (p ++ (bytes_of statement_format (statement_values x) ++ q)) i ≡ x
  unfolding statement_at
  statement_reads x f e =
      ap statement_from (fields_bytes p q (place_of statement_table small i) 0 statement_format (statement_values x) tiled_statement f (omega arith)) ∙ statement_back x

  kind_reads : (x : Statement) → Fit statement_format (statement_values x) → 68 + 80 * i ≡ length p
      → kind_at (p ++ (bytes_of statement_format (statement_values x) ++ q)) i ≡ kind_number x.is_new_view
  unfolding kind_at
  kind_reads x f e =
      ap (λ (vs : List ℕ). nth vs 3) (fields_bytes p q (place_of statement_table small i) 0 statement_format (statement_values x) tiled_statement f (omega arith))

  tally_reads : (t : Tally) → Fit tally_format (tally_values t) → tally_table.base z + tally_table.size * i ≡ length p → tally_for z (p ++ (bytes_of tally_format (tally_values t) ++ q)) i ≡ t
  unfolding tally_for
  tally_reads t f e = ap tally_from (fields_bytes p q (place_of tally_table z i) 0 tally_format (tally_values t) (tt, (tt, (tt, (tt, (tt, (tt, tt)))))) f (omega arith)) ∙ tally_back t

  single_reads : (at w v : ℕ) → Fit ((0, w) ∷ []) (v ∷ []) → at ≡ length p → number (p ++ (bytes_of ((0, w) ∷ []) (v ∷ []) ++ q)) at w ≡ v
  single_reads at w v f e =
      let r : List ℕ = p ++ (bytes_of ((0, w) ∷ []) (v ∷ []) ++ q) in
      ap (λ (k : ℕ). number r k w) (sym (add-zero at)) ∙ ap (λ (vs : List ℕ). nth vs 0) (fields_bytes p q at 0 ((0, w) ∷ []) (v ∷ []) (tt, tt) f (omega arith))

  mask_reads : (m : ℕ) → Fit mask_format (m ∷ []) → blame_base z + 2 * i ≡ length p → blame_for z (p ++ (bytes_of mask_format (m ∷ []) ++ q)) i ≡ m
  unfolding blame_for
  mask_reads m f e = single_reads (blame_base z + 2 * i) 2 m f e

  name_reads : (n : ℕ) → Fit name_format (n ∷ []) → log_table.base z + 32 * i ≡ length p → name_for z (p ++ (bytes_of name_format (n ∷ []) ++ q)) i ≡ n
  unfolding name_for
  name_reads n f e = single_reads (place_of log_table z i) 32 n f e

-- ---- the five pieces of a store, from each of them on

module _ (h x t m l : List ℕ) where
  from_header : h ++ x ++ t ++ m ++ l ≡ h ++ (x ++ (t ++ (m ++ l)))
  from_header = simp append_assoc

  from_tallies : h ++ x ++ t ++ m ++ l ≡ (h ++ x) ++ (t ++ (m ++ l))
  from_tallies = simp append_assoc

  from_masks : h ++ x ++ t ++ m ++ l ≡ (h ++ x ++ t) ++ (m ++ l)
  from_masks = simp append_assoc

  from_log : h ++ x ++ t ++ m ++ l ≡ (h ++ x ++ t ++ m) ++ (l ++ [])
  from_log = simp (append_assoc, append-nil)

  long_five : length (h ++ x ++ t ++ m ++ l) ≡ length h + length x + length t + length m + length l
  long_five = simp length-append

kinds_good : (xs : List Statement) → all (within 1 2) (map (λ (x : Statement). kind_number x.is_new_view) xs) ≡ true
unfolding all
kinds_good [] = refl
kinds_good (x ∷ xs) = rw (number_kind x.is_new_view).0 (kinds_good xs)

module _ (s : State) (k : Fitted s) where
  abbrev z : Size
  z = s.settings.size

  abbrev h : List ℕ
  h = bytes_of header_format (header_values s)

  abbrev x : List ℕ
  x = table_of z statement_table (bytes statement_format statement_values) s.statements

  abbrev t : List ℕ
  t = table_of z tally_table (bytes tally_format tally_values) s.tallies

  abbrev m : List ℕ
  m = flat (bytes mask_format single) (drop 1 s.blames)

  abbrev l : List ℕ
  l = table_of z log_table (bytes name_format single) s.log

  abbrev b : List ℕ
  b = h ++ x ++ t ++ m ++ l

  -- how long each piece is
  long_h : length h ≡ 68
  long_h = length_bytes header_format (header_values s) k.header

  long_x : length x ≡ 80 * most_statements z
  long_x = length_table statement_format statement_values z statement_table refl s.statements k.statements k.few_statements

  long_t : length t ≡ tally_table.size * most_tallies z
  long_t = length_table tally_format tally_values z tally_table refl s.tallies k.tallies k.few_tallies

  long_m : length m ≡ 2 * last_view z
  long_m = length_flat mask_format single (drop 1 s.blames) k.masks ∙ ap (λ (n : ℕ). 2 * n) k.views

  long_l : length l ≡ 32 * most_statements z
  long_l = length_table name_format single z log_table refl s.log k.names k.few_names

  long : length b ≡ store_length z
  long = long_five h x t m l ∙ rw (long_h, long_x, long_t, long_m, long_l)

  all_bytes : Bytes b
  all_bytes =
      bytes_append (h ++ x ++ t ++ m) l
      (bytes_append (h ++ x ++ t) m
      (bytes_append (h ++ x) t
      (bytes_append h x (bytes_record header_format (header_values s) k.header) (bytes_table statement_format statement_values z statement_table refl s.statements k.statements k.few_statements))
      (bytes_table tally_format tally_values z tally_table refl s.tallies k.tallies k.few_tallies))
      (bytes_flat mask_format single (drop 1 s.blames) k.masks))
      (bytes_table name_format single z log_table refl s.log k.names k.few_names)

  header_is : fields b 0 header_format ≡ header_values s
  header_is =
      ap (λ (r : List ℕ). fields r 0 header_format) (from_header h x t m l)
      ∙ fields_bytes [] (x ++ (t ++ (m ++ l))) 0 0 header_format (header_values s) (tt, (tt, (tt, (tt, (tt, (tt, (tt, (tt, (tt, (tt, (tt, (tt, (tt, (tt, tt)))))))))))))) k.header refl

  count_is : (i c : ℕ) → nth (header_values s) i ≡ c → nth (fields b 0 header_format) i ≡ c
  count_is i c e = ap (λ (vs : List ℕ). nth vs i) header_is ∙ e

  count_statements : count_of statement_table b ≡ length s.statements
  unfolding header_values
  count_statements = count_is 11 (length s.statements) refl

  count_tallies : count_of tally_table b ≡ length s.tallies
  unfolding header_values
  count_tallies = count_is 12 (length s.tallies) refl

  count_log : count_of log_table b ≡ length s.log
  unfolding header_values
  count_log = count_is 13 (length s.log) refl

  -- what each table holds
  statements_held : Holds z statement_table statement_at b s.statements
  statements_held =
      let e = from_header h x t m l in
      let c = ap (count_of statement_table) (sym e) ∙ count_statements in
      subst (λ (r : List ℕ). Holds z statement_table statement_at r s.statements) (sym e)
      record {
        used = table_used statement_format statement_values z statement_table refl s.statements k.statements k.few_statements h (t ++ (m ++ l)) (sym long_h) c;
        is =
            table_rows statement_format statement_values z statement_table refl s.statements k.statements k.few_statements h (t ++ (m ++ l)) (sym long_h) c
            (λ y. y) statement_at (statement_reads z)
            ∙ map-id s.statements;
      }

  kinds_held : all (within 1 2) (kinds b) ≡ true
  unfolding kinds
  kinds_held =
      let e = from_header h x t m l in
      let c = ap (count_of statement_table) (sym e) ∙ count_statements in
      subst (λ (r : List ℕ). all (within 1 2) (kinds r) ≡ true) (sym e)
      (ap (all (within 1 2)) (table_rows statement_format statement_values z statement_table refl s.statements k.statements k.few_statements h (t ++ (m ++ l)) (sym long_h) c
      (λ y. kind_number y.is_new_view) kind_at (kind_reads z))
      ∙ kinds_good s.statements)

  tallies_held : Holds z tally_table (tally_for z) b s.tallies
  tallies_held =
      let e = from_tallies h x t m l in
      let c = ap (count_of tally_table) (sym e) ∙ count_tallies in
      let at : tally_table.base z ≡ length (h ++ x) = omega (arith, length-append h x, long_h, long_x) in
      subst (λ (r : List ℕ). Holds z tally_table (tally_for z) r s.tallies) (sym e)
      record {
        used = table_used tally_format tally_values z tally_table refl s.tallies k.tallies k.few_tallies (h ++ x) (m ++ l) at c;
        is =
            table_rows tally_format tally_values z tally_table refl s.tallies k.tallies k.few_tallies (h ++ x) (m ++ l) at c (λ y. y) (tally_for z) (tally_reads z)
            ∙ map-id s.tallies;
      }

  log_held : Holds z log_table (name_for z) b s.log
  log_held =
      let e = from_log h x t m l in
      let c = ap (count_of log_table) (sym e) ∙ count_log in
      let at : log_table.base z ≡ length (h ++ x ++ t ++ m) =
      omega (arith, length-append h x, length-append (h ++ x) t, length-append (h ++ x ++ t) m, long_h, long_x, long_t, long_m) in
      subst (λ (r : List ℕ). Holds z log_table (name_for z) r s.log) (sym e)
      record {
        used = table_used name_format single z log_table refl s.log k.names k.few_names (h ++ x ++ t ++ m) [] at c;
        is =
            table_rows name_format single z log_table refl s.log k.names k.few_names (h ++ x ++ t ++ m) [] at c (λ y. y) (name_for z) (name_reads z) ∙ map-id s.log;
      }

  blames_held : blames_for z b ≡ s.blames
  unfolding blames_for
  blames_held =
      let ms = drop 1 s.blames in
      let at : blame_base z + 2 * 0 ≡ length (h ++ x ++ t) = omega (arith, length-append h x, length-append (h ++ x) t, long_h, long_x, long_t) in
      ap (0 ∷◌)
      (ap (λ (r : List ℕ). rows (blame_for z r) 0 (last_view z)) (from_masks h x t m l) ∙ ap (rows (blame_for z (h ++ x ++ t ++ (m ++ l))) 0) (sym k.views)
      ∙ rows_flat mask_format single (blame_base z) (λ y. y) (blame_for z) (mask_reads z) (h ++ x ++ t) l 0 ms k.masks at ∙ map-id ms)
      ∙ k.none_blamed

  state_is : state_from z (header_values s) s.statements s.tallies s.blames s.log ≡ s
  unfolding state_from header_values
  state_is = λ i. record {
    settings = s.settings;
    phase = number_phase s.phase i;
    view = s.view;
    entry = s.entry;
    clock = s.clock;
    lock = s.lock;
    statements = s.statements;
    tallies = s.tallies;
    blames = s.blames;
    log = s.log;
  }

  -- the bytes of a state hold it
  pub encode_left : Left (encode s) s
  unfolding encode
  encode_left =
      let e = left z all_bytes long header_is statements_held tallies_held blames_held log_held kinds_held in
      record { form = e.form; is = e.is ∙ state_is }
