-- What a write of a tally makes of the state that a store holds. Assumes nothing.
use Prim.Native.Nat.{ℕ, ◌+◌, ◌^◌, ◌<◌, ◌≤◌}
use mathlib.Core.Path.{◌≡◌, refl, sym, ap, ◌∙◌}
use mathlib.Core.List.{List}
use native.Mathlib.Omega.{arith}
use lib.ListN.{length, set}
use Rattle.rules.specs.Limits.{Size, most_tallies, last_clock}
use Rattle.rules.specs.Sizes.{joined}
use Rattle.rules.specs.Words.{Tally, Moment, reached_at, grown}
use Rattle.rules.specs.Inputs.{with_tables}
use Rattle.laws.proofs.Bounds.{statements_most, tallies_most}
use Rattle.fields.specs.Places.{put, Bytes}
use Rattle.fields.specs.Records.{fields, puts, Fit}
use Rattle.fields.proofs.Laws.{length_put, bytes_put, number_lt}
use Rattle.store.specs.Layout.{header_format, tally_format, statement_table, tally_table, end_of, store_length, size_in, count_of, place_of}
use Rattle.tallies.specs.Values.{told, vote_of, vote_number, reached_number}
use Rattle.store.specs.Decode.{tally_from, tally_values, tally_for, tally_at, since_for, since_at, statements, blames, names, state_from, state_of, Form, Left}
use Rattle.tallies.specs.Meaning.{tally_of}
use Rattle.tallies.specs.declared.Tally as code
use Rattle.joining.specs.Changes.{changing, growing, Fits, Voted, opening}
use Rattle.store.proofs.Kept.{SameIn, part, put_low, field_put}
use Rattle.store.proofs.Values.{tally_back}
use Rattle.store.proofs.Tables.{Holds}
use Rattle.store.proofs.Forms.{ordered_tally, local_tally, Parts, parts, sized, left}
use Rattle.records.proofs.Writes.{Placed, put_record, add_record}
use Rattle.fields.specs.Names.{name_of}
use Rattle.tallies.proofs.Values.{number_vote, vote_number_lem, reached_fits}
use Rattle.records.proofs.Changes.{Kept, statements_kept, blames_kept, log_kept, kinds_kept, header_kept}
use Rattle.records.proofs.Places.{changed_twice}

-- where the tallies stand
placed_tallies : (z : Size) → Placed z tally_table 12
placed_tallies z = record { counted = refl; field = omega arith; apart = omega arith; behind = omega arith; store = omega arith; few = omega (arith, statements_most z, tallies_most z) }

-- a tally's reading, from its numbers
tally_row : (z : Size) (b : List ℕ) (i : ℕ) {vs : List ℕ} → fields b (place_of tally_table z i) tally_format ≡ vs → tally_for z b i ≡ tally_from vs
unfolding tally_for
tally_row z b i e = ap tally_from e

-- what the two writes of a joining do to a tally: the mask, then the clock
abbrev masked : ℕ → Tally → Tally
masked m t = record { view = t.view; height = t.height; name = t.name; mask = joined t.mask m; opener = t.opener; reached = t.reached }

abbrev clocked : Moment → Tally → Tally
clocked k t = record { view = t.view; height = t.height; name = t.name; mask = t.mask; opener = t.opener; reached = reached_at k t.reached t.mask }

masked_row : (z : Size) (b : List ℕ) (i m v : ℕ) → v ≡ joined (tally_for z b i).mask m
    → tally_from (set (fields b (place_of tally_table z i) tally_format) 3 v) ≡ masked m (tally_for z b i)
unfolding tally_for
masked_row z b i m v e = rw e

clocked_row : (z : Size) (b : List ℕ) (i : ℕ) (k : Moment) (v : ℕ) → vote_of v ≡ reached_at k (tally_for z b i).reached (tally_for z b i).mask
    → tally_from (set (fields b (place_of tally_table z i) tally_format) 5 v) ≡ clocked k (tally_for z b i)
unfolding tally_for
clocked_row z b i k v e = simp e

-- the code's tally fits its record, since its parts have the fields' widths
pub tally_fits : (t : code.Tally) → t.block.view < 2 ^ 32 → t.block.height < 2 ^ 32 → name_of t.block.name < 256 ^ 32 → t.block.mask < 2 ^ 16 → Fits t
    → Fit tally_format (tally_values (tally_of t))
unfolding tally_of
tally_fits t v h n m f = (v, (h, (n, (m, (f.opener, (f.reached, tt))))))

module _ (b : List ℕ) (k : Form b) where
  abbrev q : Parts b
  q = parts b k.form

  in_tallies : (b' : List ℕ) {h : List ℕ} {ts : List Tally} → Bytes b' → length b' ≡ length b → fields b' 0 header_format ≡ h → SameIn b b' 62 64 → SameIn b b' 66 (tally_table.base (size_in b))
      → SameIn b b' (end_of tally_table (size_in b)) (store_length (size_in b)) → Holds (size_in b) tally_table (tally_for (size_in b)) b' ts → Left b' (state_from (size_in b) h (statements b) ts (blames b) (names b))
  in_tallies b' bytes long eh low mid high holds =
      let xs : Kept (size_in b) statement_table b b' = record { count = low.same 62 2 (omega arith) (omega arith); records = part mid (omega arith) (omega arith) } in
      left (size_in b) bytes (long ∙ q.long) eh (statements_kept b b' k xs) holds (blames_kept b b' k (part high (omega arith) (omega arith)))
      (log_kept b b' k record { count = mid.same 66 2 (omega arith) (omega arith); records = part high (omega arith) (omega arith) }) (kinds_kept b b' k xs)

  pub add_tally : (t : Tally) → count_of tally_table b < most_tallies (size_in b) → Fit tally_format (tally_values t)
      → Left (put (puts b (place_of tally_table (size_in b) (count_of tally_table b)) tally_format (tally_values t)) 64 2 (count_of tally_table b + 1)) (opening t (state_of b))
  unfolding opening with_tables state_of state_from
  add_tally t l fit =
      let n = count_of tally_table b in
      let b' = put (puts b (place_of tally_table (size_in b) n) tally_format (tally_values t)) 64 2 (n + 1) in
      let a = add_record (size_in b) tally_table (tally_for (size_in b)) (local_tally (size_in b)) b q.tallies 12 (placed_tallies (size_in b)) tally_format ordered_tally k.bytes q.long (tally_values t) t l fit (λ e. tally_row (size_in b) b' n e ∙ tally_back t) in
      in_tallies b' a.bytes a.long a.header (part a.low (omega arith) (omega arith)) a.mid a.high a.holds

  -- one number of record j is written
  put_tally : (j o w v : ℕ) (f : Tally → Tally) → j < count_of tally_table b → o + w ≤ tally_table.size
      → tally_for (size_in b) (put b (place_of tally_table (size_in b) j + o) w v) j ≡ f (tally_for (size_in b) b j)
      → Left (put b (place_of tally_table (size_in b) j + o) w v) (changing j f (state_of b))
  unfolding changing with_tables state_of state_from
  put_tally j o w v f l i e =
      let at = place_of tally_table (size_in b) j + o in
      let b' = put b at w v in
      let x = put_record (size_in b) tally_table (tally_for (size_in b)) (local_tally (size_in b)) b q.tallies 12 (placed_tallies (size_in b)) j o w v f l i e in
      in_tallies b' (bytes_put b k.bytes at w v) (length_put b at w v) (header_kept b b' k (part x.low (omega arith) (omega arith)))
      (part x.low (omega arith) (omega arith)) (part x.low (omega arith) (omega arith)) x.high x.holds

  put_mask : (j m v : ℕ) → j < count_of tally_table b → v ≡ joined (tally_at b j).mask m → v < 256 ^ 2
      → (tally_for (size_in b) (put b (place_of tally_table (size_in b) j + 40) 2 v) j ≡ masked m (tally_at b j)) × (Left (put b (place_of tally_table (size_in b) j + 40) 2 v) (changing j (masked m) (state_of b)))
  put_mask j m v l e fit =
      let at = place_of tally_table (size_in b) j in
      let n = q.tallies.used.within in
      let row = tally_row (size_in b) (put b (at + 40) 2 v) j (field_put b at 0 tally_table.size tally_format ordered_tally (omega (arith, q.long)) 3 v (omega arith) fit) ∙ masked_row (size_in b) b j m v e in
      (row, put_tally j 40 2 v (masked m) l (omega arith) row)

  put_since : (j : ℕ) (at : Moment) (v : ℕ) → j < count_of tally_table b → vote_of v ≡ reached_at at (tally_at b j).reached (tally_at b j).mask → v < 256 ^ 4
      → Left (put b (place_of tally_table (size_in b) j + 43) 4 v) (changing j (clocked at) (state_of b))
  put_since j a v l e fit =
      let at = place_of tally_table (size_in b) j in
      let n = q.tallies.used.within in
      put_tally j 43 4 v (clocked a) l (omega arith)
      (tally_row (size_in b) (put b (at + 43) 4 v) j (field_put b at 0 tally_table.size tally_format ordered_tally (omega (arith, q.long)) 5 v (omega arith) fit) ∙ clocked_row (size_in b) b j a v e)

-- ---- a joining, by the tally that grew

-- the clock that it keeps fits its record
pub clock_fits : (b : List ℕ) → Bytes b → (at : Moment) (j m : ℕ) (t u : code.Tally) → tally_of t ≡ tally_at b j → tally_of u ≡ grown at (tally_of t) m → at.clock ≤ last_clock
    → reached_number (told u.reached) < 256 ^ 4
unfolding tally_of grown tally_for since_for
clock_fits b bytes at j m t u e f l =
    let g : told u.reached ≡ reached_at at (told t.reached) (joined t.block.mask m) = ap (λ (w : Tally). w.reached) f in
    let h : told t.reached ≡ vote_of (since_at b j) = ap (λ (w : Tally). w.reached) e in
    let n : vote_number (told t.reached) < 256 ^ 4 = rw (h, vote_number_lem) (number_lt b bytes _ 4) in
    rw g (reached_fits at _ (told t.reached) n l)

pub grown_at : (b : List ℕ) (k : Form b) (at : Moment) (j m : ℕ) (t u : code.Tally) → j < count_of tally_table b → tally_of t ≡ tally_at b j
    → tally_of u ≡ grown at (tally_of t) m → {b' : List ℕ} → Voted b j u.block.mask (reached_number (told u.reached)) b' → Left b' (growing at j m (state_of b))
unfolding tally_of grown growing changing with_tables
grown_at b k at j m t u l e f {b'} p =
    let z = size_in b in
    let place = place_of tally_table z j in
    let g : tally_of u ≡ grown at (tally_at b j) m = f ∙ ap (λ (w : Tally). grown at w m) e in
    let mask : u.block.mask ≡ joined (tally_at b j).mask m = ap (λ (w : Tally). w.mask) g in
    let r = reached_number (told u.reached) in
    let since : vote_of r ≡ reached_at at (tally_at b j).reached (joined (tally_at b j).mask m) = number_vote (told u.reached) ∙ ap (λ (w : Tally). w.reached) g in
    let b₁ = put b (place + 40) 2 u.block.mask in
    let (row, one) = put_mask b k j m u.block.mask l mask p.mask_fits in
    let size : size_in b₁ ≡ z = sized z b₁ (length_put b (place + 40) 2 u.block.mask ∙ (parts b k.form).long) in
    let again : vote_of r ≡ reached_at at (tally_for z b₁ j).reached (tally_for z b₁ j).mask = since ∙ ap (λ (w : Tally). reached_at at w.reached w.mask) (sym row) in
    let count : count_of tally_table b₁ ≡ count_of tally_table b = (put_low b (place + 40) 2 u.block.mask).same 64 2 (omega arith) (omega arith) in
    let two = put_since b₁ one.form j at r (omega arith) (rw size again) p.reached_fits in
    let two' : Left b' (changing j (clocked at) (state_of b₁)) = rw p.is (rw size at two) in
    record {
      form = two'.form;
      is = two'.is ∙ ap (changing j (clocked at)) one.is ∙ ap (λ (us : List Tally). with_tables (state_of b).statements us (state_of b)) (changed_twice (masked m) (clocked at) j (state_of b).tallies);
    }
