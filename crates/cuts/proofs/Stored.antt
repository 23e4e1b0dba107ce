-- A record stored byte by byte into a blank slot, up to a cut: the slot is blank, torn or whole. Assumes nothing.
use Prim.Native.Nat.{ℕ, zero, suc, ◌-◌, ◌^◌, ◌<◌, ◌≤◌}
use mathlib.Core.Path.{◌≡◌, refl, sym, ap, ◌∙◌}
use mathlib.Core.Bool.{true, false}
use mathlib.Core.List.{List}
use mathlib.Core.Logic.{⊎_elim}
use native.Mathlib.Omega.{arith}
use native.Mathlib.Nat.{eq-or-lt_of_le}
use lib.ListN.{length, get_or, set, length-set}
use lib.Seq.{get_or-set_same, get_or-set_other, ext_get_or}
use lib.Dec.{lit<}
use borrow.Author.Tests.{eqb-true, ne_eqb}
use Rattle.fields.specs.Places.{number}
use Rattle.slots.specs.Slots.{slot_length, most_input, is_input, record_bytes, is_blank, is_ended, judged, blank, torn, whole}
use Rattle.slots.proofs.Inputs.{input_fits}
use Rattle.slots.proofs.Records.{length_record}
use Rattle.cuts.specs.Disk.{storing}
use Rattle.slot_reader.proofs.OneForm.{judged_torn, blank_only, zero_byte, not_blank, first_byte, reads_back}

pub length_storing : (n : ℕ) (r s : List ℕ) → length (storing n r s) ≡ length s
unfolding storing
length_storing zero r s = refl
length_storing (suc n) r s = simp length-set (length_storing n r s)

-- the bytes stored, and those that were there
stored_below : (n : ℕ) (r s : List ℕ) (i : ℕ) → n ≤ length s → i < n → get_or (storing n r s) i 0 ≡ get_or r i 0
unfolding storing
stored_below zero r s i h l = absurd (omega arith)
stored_below (suc n) r s i h l =
    ⊎_elim
    (λ (e : i ≡ n). ap (λ (k : ℕ). get_or (set (storing n r s) n (get_or r n 0)) k 0) e ∙ get_or-set_same (storing n r s) n (get_or r n 0) 0 (omega (arith, length_storing n r s)) ∙ ap (λ (k : ℕ). get_or r k 0) (sym e))
    (λ (m : i < n). get_or-set_other (storing n r s) n i (get_or r n 0) 0 (λ e. omega (arith, e)) ∙ stored_below n r s i (omega arith) m)
    (eq-or-lt_of_le {n = i} {m = n} (omega arith))

stored_above : (n : ℕ) (r s : List ℕ) (i : ℕ) → n ≤ i → get_or (storing n r s) i 0 ≡ get_or s i 0
unfolding storing
stored_above zero r s i h = refl
stored_above (suc n) r s i h = get_or-set_other (storing n r s) n i (get_or r n 0) 0 (λ e. omega (arith, e)) ∙ stored_above n r s i (omega arith)

-- all of them
pub stored_all : (r s : List ℕ) → length s ≡ slot_length → length r ≡ slot_length → storing slot_length r s ≡ r
stored_all r s n m =
    let l = length_storing slot_length r s in
    ext_get_or 0 (storing slot_length r s) r (l ∙ n ∙ sym m) (λ i h. stored_below slot_length r s i (omega arith) (omega arith))

not_ended : (s : List ℕ) → get_or s 127 0 ≡ 0 → is_ended s ≡ false
unfolding is_ended
not_ended s z = ne_eqb (get_or s 127 0) 0x5A (λ f. omega (arith, z, f))

-- a record stored into a blank slot
module _ (s : List ℕ) (n : length s ≡ slot_length) (e : judged s ≡ blank) (q k : ℕ) (bs : List ℕ) (i : is_input k bs ≡ true) where
  abbrev made : List ℕ
  made = record_bytes q k bs

  fits : length bs ≤ most_input
  fits = (input_fits k bs i).1

  zero_at : (x : ℕ) → x < slot_length → get_or s x 0 ≡ 0
  unfolding is_blank
  zero_at x h = zero_byte s slot_length x (eqb-true (number s 0 slot_length) 0 (blank_only s e)) h

  -- cut after the first byte and before the last
  pub stored_some : (m : ℕ) → 0 < m → m < slot_length → judged (storing m made s) ≡ torn
  stored_some m h l =
      let first : get_or (storing m made s) 0 0 ≡ suc 0x1F = stored_below m made s 0 (omega arith) h ∙ first_byte q k bs fits in
      let last : get_or (storing m made s) 127 0 ≡ 0 = stored_above m made s 127 (omega arith) ∙ zero_at 127 (lit< tt) in
      judged_torn (storing m made s) (not_blank (storing m made s) 0 0x1F (lit< tt) first) (not_ended (storing m made s) last)

  -- complete
  pub stored_whole : q < 2 ^ 32 → judged (storing slot_length made s) ≡ whole q k bs
  stored_whole f = ap judged (stored_all made s n (length_record q k bs fits)) ∙ reads_back q k bs fits i f
