-- Fields at places of a line. Assumes nothing.
use Prim.Native.Nat.{ℕ, zero, suc, ◌-◌}
use mathlib.Core.Path.{◌≡◌, refl, sym, ap, ◌∙◌}
use mathlib.Core.Bool.{true, false}
use mathlib.Core.List.{List, [], ◌∷◌}
use mathlib.Core.Option.{none, some}
use native.Mathlib.Omega.{arith}
use lib.ListN.{take, drop}
use Rattle.rules.specs.Script.{same_list}
use Rattle.fields.specs.declared.Name.{Name}
use Rattle.fields.specs.Names.{name_of}
use Rattle.hex_words.specs.Meaning.{named_of}
use Rattle.text.specs.Words.{name, word, rest, no_word, decimal, mask}
use Rattle.parts.specs.Fields.{says, flaw_of, field_of, plain, unlabelled, got, wrong, onto, reads}
use Rattle.text.specs.Places.{WordOf}
use Rattle.parts.specs.Places.{small, Holds, Says, Field}
use Rattle.parts.specs.declared.Flaw.{Flaw}
use Rattle.parts.specs.declared.Flaw.TheVariants as flaw
use Rattle.parts.specs.declared.Part.{Part}
use Rattle.parts.specs.declared.Sort as sorts
use Rattle.parts.specs.declared.Sort.TheVariants as sort
use Rattle.parts.specs.declared.Sort.TheVariants.{Number, Mask}
use Rattle.std.proofs.Common.{Result, Ok, Err, IsErr, IsErrAnd, Some, None, ok_or, Option as Answer}
use Rattle.text.specs.declared.Span.{Span}
use Rattle.text.proofs.Runs.{word_none, word_some}
use Rattle.numbers.proofs.Digits.{decimal_most, mask_lt}

pub label_yes : (l s : List ℕ) → same_list (word s) l ≡ true → unlabelled l s ≡ rest s
unfolding unlabelled
label_yes l s e = rw (e, unlabelled)

pub label_no : (l s : List ℕ) → same_list (word s) l ≡ false → unlabelled l s ≡ s
unfolding unlabelled
label_no l s e = rw (e, unlabelled)

-- no tag below 2 or above 8 has a label, or a limit of its own
pub field_plain : (t : ℕ) → (t ≡ 2 → ⊥) → (t ≡ 3 → ⊥) → (t ≡ 4 → ⊥) → (t ≡ 5 → ⊥) → (t ≡ 6 → ⊥) → (t ≡ 7 → ⊥) → (t ≡ 8 → ⊥) → field_of t ≡ plain
unfolding field_of
field_plain zero a b c d e f g = refl
field_plain (suc zero) a b c d e f g = refl
field_plain (suc (suc zero)) a b c d e f g = absurd (a refl)
field_plain (suc (suc (suc zero))) a b c d e f g = absurd (b refl)
field_plain (suc (suc (suc (suc zero)))) a b c d e f g = absurd (c refl)
field_plain (suc (suc (suc (suc (suc zero))))) a b c d e f g = absurd (d refl)
field_plain (suc (suc (suc (suc (suc (suc zero)))))) a b c d e f g = absurd (e refl)
field_plain (suc (suc (suc (suc (suc (suc (suc zero))))))) a b c d e f g = absurd (f refl)
field_plain (suc (suc (suc (suc (suc (suc (suc (suc zero)))))))) a b c d e f g = absurd (g refl)
field_plain (suc (suc (suc (suc (suc (suc (suc (suc (suc t))))))))) a b c d e f g = refl

-- a number as a name
pub small_name : (v : ℕ) → name_of (small v) ≡ v
unfolding name_of
small_name v = omega arith

pub small_is : (n : Name) → n ≡ small n.fourth → name_of n ≡ n.fourth
unfolding name_of
small_is n e = ap name_of e ∙ small_name n.fourth

pub holds_zero : (x : sorts.Sort) → Holds x (small 0)
holds_zero (Number most) = (refl, omega arith)
holds_zero sort.Name = tt
holds_zero Mask = (refl, omega arith)

pub ends_none : (s : List ℕ) → no_word s ≡ true → reads [] s ≡ got []
unfolding reads
ends_none s e = rw (e, reads)

pub ends_extra : (s : List ℕ) → no_word s ≡ false → reads [] s ≡ wrong flaw.Extra
unfolding reads
ends_extra s e = rw (e, reads)

module _ (t : ℕ) (s : List ℕ) (ts : List ℕ) where
  abbrev r : List ℕ
  r = unlabelled (field_of t).label s

  pub reads_missing : no_word r ≡ true → reads (t ∷ ts) s ≡ wrong flaw.Missing
  unfolding reads
  reads_missing e = rw (e, reads)

  pub reads_not : no_word r ≡ false → says (field_of t).sort (word r) ≡ none → reads (t ∷ ts) s ≡ wrong (flaw_of (field_of t).sort)
  unfolding reads
  reads_not e f = rw (e, f, reads)

  pub reads_is : (v : ℕ) → no_word r ≡ false → says (field_of t).sort (word r) ≡ some v → reads (t ∷ ts) s ≡ onto v (reads ts (rest r))
  unfolding reads
  reads_is v e f = rw (e, f, reads)

module _ (s : List ℕ) (at t : ℕ) (w : Span) (r : WordOf s (unlabelled (field_of t).label (drop at s)) w) where
  pub field_missing : w.start ≡ w.end → (ts : List ℕ) → reads (t ∷ ts) (drop at s) ≡ wrong flaw.Missing
  field_missing e ts = reads_missing t (drop at s) ts (word_none r e)

  module _ (n : w.start ≡ w.end → ⊥) where
    abbrev here : List ℕ
    here = take (w.end - w.start) (drop w.start s)

    pub field_not : (f : Flaw) → Says (field_of t).sort here (Err f) → (ts : List ℕ) → reads (t ∷ ts) (drop at s) ≡ wrong f
    field_not f e ts = reads_not t (drop at s) ts (word_some r n) (rw r.is at e.0) ∙ ap wrong (sym e.1)

    pub field_is : (x : Name) → Says (field_of t).sort here (Ok x) → Field s at t (record { value = x; next = w.end })
    field_is x e =
        record {
          goes = λ ts. reads_is t (drop at s) ts (name_of x) (word_some r n) (rw r.is at e.0) ∙ ap (λ (l : List ℕ). onto (name_of x) (reads ts l)) (sym r.after);
          inside = r.high;
          holds = e.1;
        }

-- what is wrong further on is wrong with the whole
pub before : {s : List ℕ} {at t : ℕ} {p : Part} → Field s at t p → (ts : List ℕ) (f : Flaw) → reads ts (drop p.next s) ≡ wrong f → reads (t ∷ ts) (drop at s) ≡ wrong f
unfolding onto
before a ts f e = a.goes ts ∙ ap (onto _) e

-- what a word says by its sort
pub says_number : (most : ℕ) (w : List ℕ) (v : ℕ) → decimal most w ≡ some v → Says (Number most) w (Ok (small v))
unfolding says
says_number most w v e = (e ∙ ap some (sym (small_is (small v) refl)), (refl, decimal_most most w v e))

pub says_name : (w : List ℕ) (o : Answer Name) → named_of o ≡ name w → Says sort.Name w (ok_or o flaw.Name)
unfolding says flaw_of
says_name w (Some n) e = (sym e, tt)
says_name w None e = (sym e, refl)

pub says_mask : (w : List ℕ) (v : ℕ) → mask w ≡ some v → Says Mask w (Ok (small v))
unfolding says
says_mask w v e = (e ∙ ap some (sym (small_is (small v) refl)), (refl, mask_lt w v e))

-- ---- answers that `?` hands on

pub gives : {A : Type 0} (r : Result A Flaw) (f : Flaw) → IsErr r × IsErrAnd r (λ e. e ≡ f) → r ≡ Err f
gives (Ok x) f h = absurd h.1
gives (Err e) f h = ap Err h.1

module _ {A : Type 0} (f : Flaw) where
  pub took : (o : Answer A) (x : A) → Ok x ≡ ok_or o f → o ≡ Some x
  took (Some y) x e = let z : y ≡ x = cc in ap Some z
  took None x e = absurd (let z : ◌≡◌ {A = ℕ} 0 1 = cc in omega arith)

  pub lacked : (o : Answer A) (e : Flaw) → Err e ≡ ok_or o f → (o ≡ None) × (e ≡ f)
  lacked (Some y) e h = absurd (let z : ◌≡◌ {A = ℕ} 0 1 = cc in omega arith)
  lacked None e h = (refl, let z : e ≡ f = cc in z)
