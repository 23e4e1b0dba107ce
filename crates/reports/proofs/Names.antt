-- The log grows name by name, each reported: what is logged and said so far. Assumes nothing.
use Prim.Native.Nat.{ℕ, suc, ◌+◌, ◌-◌, ◌*◌, ◌<◌, ◌≤◌}
use mathlib.Core.Path.{◌≡◌, refl, sym, ap, ◌∙◌, subst}
use mathlib.Core.List.{List, [], ◌∷◌, ◌++◌, append-nil, append_assoc}
use native.Mathlib.Omega.{arith}
use native.Mathlib.Nat.{zero-add}
use lib.ListN.{length, get_or, drop, length-append}
use Rattle.rules.specs.Limits.{most_statements_large}
use Rattle.laws.proofs.Bounds.{statements_most}
use Rattle.rules.specs.Messages.{Effect, committed, effect, outgoing}
use Rattle.rules.specs.Words.{Statement, State}
use Rattle.rules.specs.Inputs.{saying, with_log, reports, logging}
use Rattle.fields.specs.Names.{name_of}
use Rattle.wire.specs.Meaning.{statement_of}
use Rattle.outgoing.specs.Wrote.{Says}
use Rattle.wire.specs.declared.Statement as code
use Rattle.outgoing.proofs.Writing.{says_none, says_one, says_outgoing}
use Rattle.store.specs.Layout.{statement_table, log_table, size_in, count_of}
use Rattle.store.specs.Decode.{rows, statement_at, name_at, statements, names, state_from, state_of, Form, Left}
use Rattle.records.specs.Changes.{appending}
use Rattle.store.proofs.Rows.{rows_append, rows_length, rows_at}
use Rattle.glance.specs.Tables.{name_in, statement_in}
use Rattle.glance.proofs.Readers.{name_of_lem}
use Rattle.laws.proofs.Lengths.{weight, length_effect, reports_bytes}
use Rattle.acts.specs.Works.{Works}
use Rattle.acts.proofs.Works.{left_then, works_is, works_saying}
use Rattle.reports.specs.Gains.{grown_log, Enough}
use Rattle.moments.proofs.Sizes.{left_size}

-- ---- lists

drop_append : {A : Type 0} (xs ys : List A) → drop (length xs) (xs ++ ys) ≡ ys
drop_append [] ys = refl
drop_append (x ∷ xs) ys = drop_append xs ys

reports_append : (h : ℕ) (xs : List ℕ) (y : ℕ) → reports h (xs ++ y ∷ []) ≡ reports h xs ++ committed (h + length xs) y ∷ []
unfolding reports
reports_append h [] y = ap (λ (k : ℕ). committed k y ∷ []) (omega arith)
reports_append h (x ∷ xs) y = ap (committed h x ∷◌) (reports_append (suc h) xs y ∙ ap (λ (k : ℕ). reports (suc h) xs ++ committed k y ∷ []) (omega arith))

-- the same statements stand at the same places
pub same_places : (b b' : List ℕ) → statements b' ≡ statements b → (i : ℕ) → i < count_of statement_table b → statement_at b' i ≡ statement_at b i
unfolding statements
same_places b b' e i l =
    let d = statement_at b 0 in
    let n : count_of statement_table b' ≡ count_of statement_table b = sym (rows_length (statement_at b') 0 (count_of statement_table b')) ∙ ap length e ∙ rows_length (statement_at b) 0 (count_of statement_table b) in
    ap (statement_at b') (sym (zero-add i)) ∙ sym (rows_at (statement_at b') d 0 (count_of statement_table b') i (omega arith))
    ∙ ap (λ (xs : List Statement). get_or xs i d) e ∙ rows_at (statement_at b) d 0 (count_of statement_table b) i l ∙ ap (statement_at b) (zero-add i)

-- ---- the log of a length

module _ (b t : List ℕ) where
  abbrev old : ℕ
  old = count_of log_table b

  -- what was gained
  abbrev pub gains : ℕ → List ℕ
  gains k = rows (name_in b t) old (k - old)

  pub old_length : length (names b) ≡ old
  unfolding names
  old_length = rows_length (name_at b) 0 old

  gains_more : (k : ℕ) → old ≤ k → gains (k + 1) ≡ gains k ++ name_in b t k ∷ []
  unfolding rows
  gains_more k l =
      let e : k + 1 - old ≡ k - old + 1 = omega arith in
      let d : old + (k - old) ≡ k = omega arith in
      ap (rows (name_in b t) old) e ∙ rows_append (name_in b t) old (k - old) 1 ∙ ap (λ (j : ℕ). gains k ++ name_in b t j ∷ []) d

  grown_more : (k : ℕ) → old ≤ k → grown_log b t (k + 1) ≡ grown_log b t k ++ name_in b t k ∷ []
  grown_more k l = ap (names b ++◌) (gains_more k l) ∙ sym (append_assoc (names b) (gains k) (name_in b t k ∷ []))

  pub grown_length : (k : ℕ) → old ≤ k → length (grown_log b t k) ≡ k
  grown_length k l = omega (arith, length-append (names b) (gains k), old_length, rows_length (name_in b t) old (k - old))

  logging_is : (k : ℕ) → saying (with_log (grown_log b t k) (state_of b)) (reports (suc old) (gains k)) ≡ logging (grown_log b t k) (state_of b)
  unfolding logging state_of state_from
  logging_is k =
      sym
      (ap (saying (with_log (grown_log b t k) (state_of b)))
      (ap (reports (suc (length (names b)))) (drop_append (names b) (gains k)) ∙ ap (λ (j : ℕ). reports (suc j) (gains k)) old_length))

-- ---- so far

-- the table's length is enough in both columns
pub enough_few : {b t : List ℕ} {n at room : ℕ} → Enough b t n at room → n ≤ most_statements_large
enough_few {b} e = omega (arith, e.fits, statements_most (size_in b))

-- the log has the names up to k, and they are reported
pub record Logged (b t o : List ℕ) (at k : ℕ) (b' o' : List ℕ) (next : ℕ) : Type 0 where
  pub low : count_of log_table b ≤ k
  pub left : Left b' (with_log (grown_log b t k) (state_of b))
  pub says : Says o at (outgoing (reports (suc (count_of log_table b)) (gains b t k))) o' next

module _ (b t o : List ℕ) (at : ℕ) where
  pub logged_none : (k : ℕ) → k ≡ count_of log_table b → Form b → Logged b t o at k b o at
  unfolding rows with_log state_of state_from reports outgoing
  logged_none k e f =
      let z : k - count_of log_table b ≡ 0 = omega arith in
      let g : gains b t k ≡ [] = ap (rows (name_in b t) (count_of log_table b)) z in
      record {
        low = omega arith;
        left = record { form = f; is = ap (λ (l : List ℕ). with_log l (state_of b)) (sym (ap (names b ++◌) g ∙ append-nil (names b))) };
        says = subst (λ (xs : List ℕ). Says o at (outgoing (reports (suc (count_of log_table b)) xs)) o at) (sym g) (says_none o at);
      }

  module _ {b' o' : List ℕ} {k next : ℕ} (g : Logged b t o at k b' o' next) where
    pub logged_next : {b'' o'' : List ℕ} {r : ℕ} (n : ℕ) → n ≡ name_in b t k → Left b'' (appending n (state_of b')) → Says o' next (effect (committed (k + 1) n)) o'' r
        → Logged b t o at (k + 1) b'' o'' r
    unfolding appending with_log
    logged_next {b''} {o''} {r} n e l p =
        let h = count_of log_table b in
        let x = name_in b t k in
        let c : suc h + length (gains b t k) ≡ k + 1 = omega (arith, rows_length (name_in b t) h (k - h), g.low) in
        let es : ◌≡◌ {A = List Effect} (reports (suc h) (gains b t k) ++ committed (k + 1) n ∷ []) (reports (suc h) (gains b t (k + 1))) =
        (λ i. reports (suc h) (gains b t k) ++ committed (sym c i) (e i) ∷ []) ∙ sym (ap (reports (suc h)) (gains_more b t k g.low) ∙ reports_append (suc h) (gains b t k) x) in
        record {
          low = omega (arith, g.low);
          left = left_then (appending n) g.left l (ap (λ (j : List ℕ). with_log j (state_of b)) (ap (λ (y : ℕ). grown_log b t k ++ y ∷ []) e ∙ sym (grown_more b t k g.low)));
          says =
              subst (λ (fs : List Effect). Says o at (outgoing fs) o'' r) es
              (says_outgoing o at (reports (suc h) (gains b t k)) (committed (k + 1) n ∷ []) o' o'' next r g.says (says_one o' next (committed (k + 1) n) o'' r p));
        }

    pub logged_size : size_in b' ≡ size_in b
    unfolding with_log state_of state_from
    logged_size = left_size g.left

    pub logged_count : count_of log_table b' ≡ k
    unfolding with_log state_of state_from names
    logged_count = sym (rows_length (name_at b') 0 (count_of log_table b')) ∙ ap (λ (s : State). length s.log) g.left.is ∙ grown_length b t k g.low

    pub logged_name : (x : code.Statement) → get_or t k 0 < count_of statement_table b → statement_of x (statement_at b' (get_or t k 0)).voted ≡ statement_at b' (get_or t k 0)
        → name_of x.name ≡ name_in b t k
    unfolding with_log state_of state_from name_in statement_in
    logged_name x l e =
        name_of_lem x _ (statement_at b' (get_or t k 0)) e ∙ ap (λ (y : Statement). y.name) (same_places b b' (ap (λ (s : State). s.statements) g.left.is) (get_or t k 0) l)

    -- where the next report ends
    pub logged_ends : next ≡ at + 39 * (k - count_of log_table b)
    logged_ends =
        let h = count_of log_table b in
        omega (arith, g.says.ends, reports_bytes (suc h) (gains b t k), rows_length (name_in b t) h (k - h))

    pub logged_done : (n : ℕ) → k ≡ n → Works (logging (grown_log b t n) (state_of b)) o at b' o' next
    logged_done n e =
        subst (λ (j : ℕ). Works (logging (grown_log b t j) (state_of b)) o at b' o' next) e
        (works_is (logging_is b t k) (works_saying (reports (suc (count_of log_table b)) (gains b t k)) g.left g.says))

pub committed_bytes : (h n : ℕ) → length (effect (committed h n)) ≡ 39
unfolding weight
committed_bytes h n = length_effect (committed h n)
