-- A fresh list: what bars it, and that writing the settings and zeros leaves it. Assumes nothing.
use Prim.Native.Nat.{ℕ, zero, suc, ◌+◌, ◌-◌, ◌*◌, ◌^◌}
use mathlib.Core.Path.{◌≡◌, refl, sym, ap, ap₂, ◌∙◌}
use mathlib.Core.Bool.{Bool, true, false}
use mathlib.Core.List.{List, ◌∷◌, ◌++◌, append-nil}
use native.Mathlib.Omega.{arith}
use native.Mathlib.Nat.{zero-div, zero-mod}
use lib.ListN.{length, replicate, drop_of_length-le}
use Rattle.rules.specs.Lists.{unbe}
use Rattle.rules.specs.Sizes.{good_settings}
use Rattle.laws.proofs.Bytes.{pow_pos}
use Rattle.fields.specs.Places.{put}
use Rattle.fields.proofs.Laws.{length_put}
use Rattle.outgoing.specs.Wrote.{Says}
use Rattle.outgoing.proofs.Writing.{wrote_prefix, says_both, put_says}
use Rattle.lent_list.specs.Lists.{has_length, fresh_list}
use Rattle.lent_list.specs.Plain.{Left, left, plain_fresh}
use Rattle.lent_list.proofs.Lengths.{lengths}
use Rattle.lent_list.proofs.Made.{asked, settings_fit}

-- zeros are the bytes of zero
zeros : (w : ℕ) → unbe w 0 ≡ replicate w 0
unfolding unbe
zeros zero = refl
zeros (suc w) = ap₂ ◌∷◌ (zero-div (256 ^ w)) (ap (unbe w) (zero-mod (256 ^ w)) ∙ zeros w)

-- ---- the answers

module _ (l : List ℕ) (n d own : ℕ) where
  abbrev by_settings : Bool → Left
  by_settings z = elim z [ false ↦ left (10 * 2 ^ 32) l | true ↦ left 0 (fresh_list (asked n d own) (length l)) ]

  abbrev by_length : Bool → Left
  by_length z = elim z [ false ↦ left (1 * 2 ^ 32) l | true ↦ by_settings (good_settings (asked n d own)) ]

  pub length_refused : {r : ℕ} → has_length l ≡ false → r ≡ 1 * 2 ^ 32 → left r l ≡ plain_fresh l n d own
  unfolding plain_fresh
  length_refused h e = ap (λ (k : ℕ). left k l) e ∙ sym (ap by_length h)

  module _ (h : has_length l ≡ true) where
    settled : {z : Bool} → good_settings (asked n d own) ≡ z → by_settings z ≡ plain_fresh l n d own
    unfolding plain_fresh
    settled g = sym (ap by_length h ∙ ap by_settings g)

    pub settings_refused : {r : ℕ} → good_settings (asked n d own) ≡ false → r ≡ 10 * 2 ^ 32 → left r l ≡ plain_fresh l n d own
    settings_refused g e = ap (λ (k : ℕ). left k l) e ∙ settled g

    pub is_fresh : {s₁ s₂ s₃ s₄ : List ℕ} {w : ℕ} → good_settings (asked n d own) ≡ true → s₁ ≡ put l 0 1 n → s₂ ≡ put s₁ 1 2 d → s₃ ≡ put s₂ 3 1 own
        → w ≡ length s₃ - 4 → s₄ ≡ put s₃ 4 w 0 → left 0 s₄ ≡ plain_fresh l n d own
    is_fresh {s₁} {s₂} {s₃} {s₄} {w} g e₁ e₂ e₃ f e₄ =
        let fit = settings_fit (asked n d own) g in
        let long = (lengths l h).0 in
        let l₃ : length s₃ ≡ length l = ap length e₃ ∙ length_put s₂ 3 1 own ∙ ap length e₂ ∙ length_put s₁ 1 2 d ∙ ap length e₁ ∙ length_put l 0 1 n in
        let v : w ≡ length l - 4 = omega arith in
        let tail : List ℕ = replicate w 0 in
        let third = unbe 1 own ++ tail in
        let second = unbe 2 d ++ third in
        let a : Says l 0 (unbe 1 n) s₁ 1 = put_says l 0 1 n (omega (arith, fit.0)) e₁ refl in
        let b : Says s₁ 1 (unbe 2 d) s₂ 3 = put_says s₁ 1 2 d (omega (arith, fit.1)) e₂ refl in
        let c : Says s₂ 3 (unbe 1 own) s₃ 4 = put_says s₂ 3 1 own (omega (arith, fit.2)) e₃ refl in
        let z : Says s₃ 4 (unbe w 0) s₄ (4 + w) = put_says s₃ 4 w 0 (pow_pos w) e₄ refl in
        let y : Says s₃ 4 tail s₄ (4 + w) = rw (zeros w) at z in
        let all : Says l 0 (unbe 1 n ++ second) s₄ (4 + w) =
        says_both l 0 (unbe 1 n) second s₁ s₄ 1 (4 + w) a (says_both s₁ 1 (unbe 2 d) third s₂ s₄ 3 (4 + w) b (says_both s₂ 3 (unbe 1 own) tail s₃ s₄ 4 (4 + w) c y)) in
        let m : length (unbe 1 n ++ second) ≡ length l = omega (arith, all.ends, long) in
        let is : s₄ ≡ fresh_list (asked n d own) (length l) =
        all.out ∙ wrote_prefix l (unbe 1 n ++ second) (omega arith)
        ∙ ap ((unbe 1 n ++ second) ++◌) (drop_of_length-le l {i = length (unbe 1 n ++ second)} (omega arith)) ∙ append-nil (unbe 1 n ++ second)
        ∙ laid v in
        ap (left 0) is ∙ settled g
      where
        laid : w ≡ length l - 4 → unbe 1 n ++ (unbe 2 d ++ (unbe 1 own ++ replicate w 0)) ≡ fresh_list (asked n d own) (length l)
        laid v = unfold fresh_list in ap (λ (k : ℕ). unbe 1 n ++ (unbe 2 d ++ (unbe 1 own ++ replicate k 0))) v
