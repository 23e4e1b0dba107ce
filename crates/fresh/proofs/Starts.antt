-- A cleared store, with the header of fresh settings, holds the fresh state. Assumes nothing.
use Prim.Native.Nat.{ℕ, zero, suc, ◌+◌, ◌-◌, ◌*◌, ◌%◌, ◌^◌, ◌<◌, ◌≤◌}
use mathlib.Core.Path.{◌≡◌, refl, sym, ap, ap₂, ◌∙◌}
use mathlib.Core.Bool.{Bool, true, false, ◌&&◌}
use mathlib.Core.List.{List, [], ◌∷◌}
use native.Mathlib.Omega.{arith}
use native.Mathlib.Nat.{zero-add, mul-zero}
use lib.ListN.{length, replicate}
use lib.Dec.{leb, eqb}
use borrow.Author.Tests.{leb-true, ltb-true, eq-eqb, ne_eqb}
use Rattle.rules.specs.Limits.{least_stations, most_stations, least_delay, most_delay, Size, last_view}
use Rattle.rules.specs.Lists.{all, within}
use Rattle.rules.specs.Sizes.{Settings, good_settings}
use Rattle.rules.specs.Words.{State, fresh}
use Rattle.settings.specs.Made.{made, pick, size_from}
use Rattle.settings.specs.declared.Size as declared-size
use Rattle.settings.specs.declared.Settings as declared
use Rattle.std.specs.Prelude.{Some, None}
use Rattle.laws.proofs.Tests.{by_bool, and_left, and_right}
use Rattle.laws.proofs.Bytes.{pow_pos}
use Rattle.fields.specs.Places.{number, put, Bytes}
use Rattle.fields.specs.Records.{fields, puts, Fit}
use Rattle.fields.proofs.Laws.{number_put_same, length_put, bytes_put}
use Rattle.store.specs.Layout.{header_format, Table, statement_table, tally_table, log_table, blame_base, store_length, size_in, count_of}
use Rattle.store.specs.Decode.{statement_at, tally_for, blame_for, name_for, kind_at, blames, blames_for, kinds, rows, statements, tallies, state_from, state_of, header_values, Left, encode}
use Rattle.fresh.specs.Fresh.{answer, freshly}
use Rattle.store.proofs.Kept.{zero_front, zero_end}
use Rattle.store.proofs.Tables.{Holds}
use Rattle.store.proofs.Forms.{left, sized}
use Rattle.oneform.proofs.Held.{left_bytes}
use Rattle.records.proofs.Changes.{put_station}

-- ---- a cleared store

zero_all : (b : List ℕ) (n : ℕ) → n ≤ length b → (at w : ℕ) → at + w ≤ n → number (put b 0 n 0) at w ≡ 0
zero_all b n l at w h =
    let b' = put b 0 n 0 in
    let whole : number b' 0 n ≡ 0 = number_put_same b 0 n 0 (omega arith) (pow_pos n) in
    let q : at + w + (n - (at + w)) ≡ n = omega arith in
    ap (λ (k : ℕ). number b' k w) (sym (zero-add at)) ∙ zero_end b' 0 at w (zero_front b' 0 (at + w) (n - (at + w)) (ap (number b' 0) q ∙ whole))

rows_zero : (f : ℕ → ℕ) (i n : ℕ) → ((k : ℕ) → k < i + n → f k ≡ 0) → rows f i n ≡ replicate n 0
unfolding rows
rows_zero f i zero h = refl
rows_zero f i (suc n) h = ap₂ ◌∷◌ (h i (omega arith)) (rows_zero f (suc i) n (λ k l. h k (omega arith)))

module _ (b : List ℕ) (bytes : Bytes b) (long : length b ≡ store_length (size_in b)) where
  abbrev z : Size
  z = size_in b

  abbrev cleared : List ℕ
  cleared = put b 0 (store_length z) 0

  none_counted : (t : Table) → t.count_at + 2 ≤ store_length z → count_of t cleared ≡ 0
  none_counted t h = zero_all b (store_length z) (omega arith) t.count_at 2 h

  holds_none : {A : Type 0} (t : Table) (f : List ℕ → ℕ → A) → t.count_at + 2 ≤ store_length z → t.base z + t.size * t.room z ≤ store_length z → Holds z t f cleared []
  unfolding rows
  holds_none t f h l =
      let c = none_counted t h in
      let none : t.size * 0 ≡ 0 = mul-zero t.size in
      record {
        used =
            record {
              within = rw c (omega arith);
              clear =
                  ap (λ (n : ℕ). number cleared (t.base z + t.size * n) (t.size * t.room z - t.size * n)) c
                  ∙ zero_all b (store_length z) (omega arith) (t.base z + t.size * 0) (t.size * t.room z - t.size * 0) (omega arith);
            };
        is = ap (rows (f cleared) 0) c;
      }

  blames_none : blames_for z cleared ≡ replicate (suc (last_view z)) 0
  unfolding blames_for blame_for
  blames_none = ap (0 ∷◌) (rows_zero (blame_for z cleared) 0 (last_view z) (λ k l. zero_all b (store_length z) (omega arith) (blame_base z + 2 * k) 2 (omega arith)))

  kinds_none : all (within 1 2) (kinds cleared) ≡ true
  unfolding kinds rows all
  kinds_none = ap (λ (n : ℕ). all (within 1 2) (rows (kind_at cleared) 0 n)) (none_counted statement_table (omega arith))

  cleared_left : Left cleared (state_from z (fields cleared 0 header_format) [] [] (replicate (suc (last_view z)) 0) [])
  cleared_left =
      left z (bytes_put b bytes 0 (store_length z) 0) (length_put b 0 (store_length z) 0 ∙ long) refl (holds_none statement_table statement_at (omega arith) (omega arith))
      (holds_none tally_table (tally_for z) (omega arith) (omega arith)) blames_none (holds_none log_table (name_for z) (omega arith) (omega arith)) kinds_none

  -- ---- and the fresh header

  fresh_fits : (g : Settings) → good_settings g ≡ true → Fit header_format (header_values (fresh g))
  unfolding good_settings within header_values fresh
  fresh_fits g e =
      let odd = eqb (g.n % 2) 1 in
      let few = within least_stations most_stations g.n in
      let delay = within least_delay most_delay g.D in
      let a = and_left (odd && few && delay) _ e in
      let n = leb-true g.n most_stations (and_right (leb least_stations g.n) _ (and_right odd _ (and_left (odd && few) _ a))) in
      let d = leb-true g.D most_delay (and_right (leb least_delay g.D) _ (and_right (odd && few) _ a)) in
      let o = ltb-true g.own g.n (and_right (odd && few && delay) _ e) in
      (omega arith, (omega arith, (omega arith, (omega arith, (omega arith, (omega arith, (omega arith, (omega arith, (omega arith, (pow_pos 32, (omega arith, (omega arith, (omega arith, (omega arith, tt))))))))))))))

  pub fresh_left : (g : Settings) → good_settings g ≡ true → g.size ≡ z
      → Left (puts cleared 0 header_format (header_values (fresh g))) (fresh g)
  unfolding header_values fresh state_of state_from good_settings
  fresh_left g e sz =
      let l = cleared_left in
      let y : size_in cleared ≡ g.size = sized z cleared (length_put b 0 (store_length z) 0 ∙ long) ∙ sym sz in
      let h = put_station cleared l.form (header_values (fresh g)) (fresh_fits g e) (sym (none_counted statement_table (omega arith)))
      (sym (none_counted tally_table (omega arith))) (sym (none_counted log_table (omega arith))) in
      let s : state_of cleared ≡ state_from z (fields cleared 0 header_format) [] [] (replicate (suc (last_view z)) 0) [] = l.is in
      let ms : blames cleared ≡ replicate (suc (last_view g.size)) 0 =
      ap (λ (s : State). s.blames) s ∙ ap (λ (x : Size). replicate (suc (last_view x)) 0) (sym sz) in
      record { form = h.form; is = h.is ∙ (λ i. state_from (y i) (header_values (fresh g)) (s i).statements (s i).tallies (ms i) (s i).log) }

-- ---- the answers

pub length_refused : (b : List ℕ) (n d own : ℕ) → (length b ≡ store_length (size_in b) → ⊥) → answer (1 * 2 ^ 32) b ≡ freshly b n d own
unfolding freshly
length_refused b n d own h = rw (ne_eqb (length b) (store_length (size_in b)) h, freshly)

module _ (b : List ℕ) (n d own : ℕ) (y : declared-size.Size) (same : size_from y ≡ size_in b) where
  abbrev asked : Settings
  asked = record { n = n; D = d; own = own; size = size_from y }

  pub settings_refused : length b ≡ store_length (size_in b) → good_settings asked ≡ false → answer (10 * 2 ^ 32) b ≡ freshly b n d own
  unfolding freshly
  settings_refused l e = rw (eq-eqb (length b) (store_length (size_in b)) l, freshly, e)

  pub made_fresh : length b ≡ store_length (size_in b) → good_settings asked ≡ true → {b' : List ℕ} → Left b' (fresh asked) → answer 0 b' ≡ freshly b n d own
  unfolding freshly
  made_fresh l e h = rw (eq-eqb (length b) (store_length (size_in b)) l, freshly, e) (ap (answer 0) (left_bytes h) ∙ ap (λ (x : Size). answer 0 (encode (fresh (record { n = n; D = d; own = own; size = x })))) same)

  -- what the settings' constructor answers
  abbrev given : declared.Settings
  given = record { n = n; delay = d; own = own; size = y }

  made_is : (t : Bool) → good_settings asked ≡ t → made n d own y ≡ pick t (Some given) None
  unfolding made
  made_is t e = ap (λ (u : Bool). pick u (Some given) None) e

  pub made_good : (g : declared.Settings) → made n d own y ≡ Some g → (good_settings asked ≡ true) × (g ≡ given)
  made_good g e =
      by_bool (good_settings asked)
      (λ t. let m = made_is true t in let q : g ≡ given = cc in (t, q))
      (λ f. let m = made_is false f in let z : ◌≡◌ {A = ℕ} 0 1 = cc in absurd (omega arith))

  pub made_bad : made n d own y ≡ None → good_settings asked ≡ false
  made_bad e =
      by_bool (good_settings asked) (λ t. let m = made_is true t in let z : ◌≡◌ {A = ℕ} 0 1 = cc in absurd (omega arith)) (λ f. f)
