-- A log written name by name. Assumes nothing.
use Prim.Native.Nat.{ℕ, ◌+◌, ◌*◌, ◌<◌, ◌≤◌}
use mathlib.Core.Path.{◌≡◌, refl, sym, ap, ap₂, ◌∙◌}
use mathlib.Core.List.{List, [], ◌∷◌}
use native.Mathlib.Omega.{arith}
use lib.ListN.{length, drop, get_or, length-append}
use Rattle.rules.specs.Lists.{unbe}
use Rattle.laws.proofs.Bytes.{length_unbe}
use Rattle.fields.specs.Names.{name_of}
use Rattle.fields.specs.declared.Name.{Name}
use Rattle.outgoing.specs.Wrote.{wrote}
use Rattle.outgoing.proofs.Writing.{wrote_append}
use Rattle.lent_list.specs.Plain.{log_bytes}
use Rattle.plain_words.specs.Places.{Within}
use Rattle.plain_words.proofs.Firsts.{firsts_long, firsts_done, firsts_next}
use Rattle.plain_tables.specs.Meaning.{names, room}
use Rattle.plain_tables.specs.declared.Names.{Names}

bytes_long : (bs : List ℕ) → length (log_bytes bs) ≡ 32 * length bs
unfolding log_bytes
bytes_long [] = refl
bytes_long (b ∷ bs) = omega (arith, length-append (unbe 32 b) (log_bytes bs), length_unbe 32 b, bytes_long bs)

module _ (log : Names) (w : Within room log.items log.count) where
  counted : length (names log) ≡ log.count
  unfolding names
  counted = firsts_long name_of log.items log.count (omega (arith, w.long, w.most))

  pub log_long : 32 * log.count ≡ length (log_bytes (names log))
  log_long = omega (arith, bytes_long (names log), counted)

  -- what is still to be written
  module _ (o o₀ : List ℕ) (k : ℕ) (i : wrote o (32 * k) (log_bytes (drop k (names log))) ≡ wrote o₀ 0 (log_bytes (names log))) where
    pub log_ends : log.count ≤ k → o ≡ wrote o₀ 0 (log_bytes (names log))
    unfolding names log_bytes wrote
    log_ends h = sym (ap (λ (bs : List ℕ). wrote o (32 * k) (log_bytes bs)) (firsts_done name_of log.items log.count k h)) ∙ i

    pub log_next : (d : Name) {o₁ : List ℕ} → k < log.count → o₁ ≡ wrote o (32 * k) (unbe 32 (name_of (get_or log.items k d)))
        → wrote o₁ (32 * (k + 1)) (log_bytes (drop (k + 1) (names log))) ≡ wrote o₀ 0 (log_bytes (names log))
    unfolding names log_bytes
    log_next d {o₁} h e =
        let b = name_of (get_or log.items k d) in
        let rest = log_bytes (drop (k + 1) (names log)) in
        let n : 32 * (k + 1) ≡ 32 * k + length (unbe 32 b) = omega (arith, length_unbe 32 b) in
        ap₂ (λ (x : List ℕ) (j : ℕ). wrote x j rest) e n ∙ sym (wrote_append o (32 * k) (unbe 32 b) rest)
        ∙ sym (ap (λ (bs : List ℕ). wrote o (32 * k) (log_bytes bs)) (firsts_next name_of d log.items log.count k (omega (arith, w.long, w.most)) h)) ∙ i
