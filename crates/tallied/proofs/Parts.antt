-- A block and a tally as the code tests them. Assumes nothing.
use Prim.Native.Nat.{ℕ, zero, suc, ◌+◌, ◌^◌, ◌<◌, ◌≤◌}
use mathlib.Core.Path.{◌≡◌, refl, sym, ap, ◌∙◌}
use mathlib.Core.Bool.{Bool, true, false, not, ◌&&◌, and-true, and-false}
use native.Mathlib.Nat.{add-zero}
use Rattle.rules.specs.Limits.{last_height}
use Rattle.rules.specs.Lists.{iff}
use Rattle.fields.specs.Places.{Bytes, number}
use Rattle.fields.proofs.Laws.{number_lt}
use Rattle.store.proofs.Kept.{zero_front}
use mathlib.Core.List.{List}
use Rattle.store.specs.Layout.{size_in, tally_table, place_of}
use Rattle.std.specs.Prelude.{Option as Told, Some, None}
use Rattle.tallies.specs.Values.{told, opener_of, reached_from}
use Rattle.store.specs.Decode.{tally_at, tally_for, opener_at, opener_for, since_at, since_for}
use native.Mathlib.Omega.{arith}
use lib.Dec.{leb, ltb, eqb}
use borrow.Author.Tests.{lt-ltb, le-ltb, le-leb, ne_eqb}
use Rattle.rules.specs.Sizes.{holds, quorum}
use Rattle.rules.specs.Messages.{view_allowed, block_allowed}
use Rattle.rules.specs.WellFormed.{is_name, is_mask, opener_good, reached_good, tally_good}
use Rattle.settings.specs.Made.{settings_of}
use Rattle.settings.specs.declared.Settings.{Settings}

stored_name : (b : List ℕ) → Bytes b → (at : ℕ) → is_name (number b at 32) ≡ true
unfolding is_name
stored_name b bytes at = lt-ltb _ _ (number_lt b bytes at 32)

-- ---- a height, where it is known whether the name is all zero

pub height_bare : (h : ℕ) → eqb h 0 ≡ (leb h last_height && iff (eqb h 0) true)
unfolding iff
height_bare zero = refl
height_bare (suc h) = rw (ne_eqb (suc h) 0 (λ e. absurd (omega arith))) (sym (and-false (leb (suc h) last_height)))

pub height_named : (h : ℕ) → (leb 1 h && leb h last_height) ≡ (leb h last_height && iff (eqb h 0) false)
unfolding iff
height_named zero = refl
height_named (suc h) = rw (le-leb 1 (suc h) (omega arith), ne_eqb (suc h) 0 (λ e. absurd (omega arith))) (sym (and-true (leb (suc h) last_height)))

-- a name that begins with something is one
pub begins_named : (b : List ℕ) (at : ℕ) → (number b at 8 ≡ 0 → ⊥) → eqb (number b at 32) 0 ≡ false
begins_named b at d = ne_eqb (number b at 32) 0 (λ e. d (zero_front b at 8 24 e))

-- ---- a tally, by the numbers of its record: what is bad makes it bad

pub lost : (a q : Bool) → q ≡ false → false ≡ (a && q)
lost a q e = sym (ap (λ (x : Bool). a && x) e ∙ and-false a)

pub kept : (a b c d x : Bool) → a ≡ true → b ≡ true → c ≡ true → d ≡ true → x ≡ (a && b && c && d && x)
kept a b c d x p q r s = rw (p, q, r, s) refl

module _ (g : Settings) (now : ℕ) (b : List ℕ) (bytes : Bytes b) (i at : ℕ) (e : at ≡ place_of tally_table (size_in b) i) where
  abbrev good : Bool
  good = tally_good (settings_of g) now (tally_at b i)

  abbrev viewed : Bool
  viewed = view_allowed (settings_of g) (number b at 4)

  abbrev blocked : Bool
  blocked = block_allowed (number b (at + 4) 4) (number b (at + 8) 32)

  abbrev masked : Bool
  masked = ltb (number b (at + 40) 2) (2 ^ g.n)

  abbrev opened : Bool
  opened = opener_good (settings_of g) (number b (at + 40) 2) (opener_of (opener_at b i))

  abbrev since : Bool
  since = reached_good (settings_of g) now (number b (at + 40) 2) (reached_from (since_at b i))

  tally_is : (viewed && blocked && masked && opened && since) ≡ good
  unfolding tally_good is_mask tally_for opener_for since_for
  tally_is = rw (e, add-zero (place_of tally_table (size_in b) i), stored_name b bytes (place_of tally_table (size_in b) i + 8), and-true)

  pub bad_view : viewed ≡ false → false ≡ good
  bad_view q = ap (λ (x : Bool). x && blocked && masked && opened && since) (sym q) ∙ tally_is

  pub bad_block : blocked ≡ false → false ≡ good
  bad_block q = ap (λ (x : Bool). x && masked && opened && since) (lost viewed blocked q) ∙ tally_is

  pub bad_mask : masked ≡ false → false ≡ good
  bad_mask q = ap (λ (x : Bool). x && opened && since) (lost (viewed && blocked) masked q) ∙ tally_is

  pub bad_opener : opened ≡ false → false ≡ good
  bad_opener q = ap (λ (x : Bool). x && since) (lost (viewed && blocked && masked) opened q) ∙ tally_is

  -- and where the rest is good it is as good as its clock
  pub as_since : viewed ≡ true → blocked ≡ true → masked ≡ true → opened ≡ true → since ≡ good
  as_since v k m o = kept viewed blocked masked opened since v k m o ∙ tally_is

-- the clock of the first quorum
module _ (g : Settings) (now m : ℕ) (r : Told ℕ) where
  pub reached_none : r ≡ None → not (quorum (settings_of g) m) ≡ reached_good (settings_of g) now m (told r)
  unfolding reached_good
  reached_none e = rw e

  pub reached_some : (c : ℕ) → r ≡ Some c → (quorum (settings_of g) m && leb c now) ≡ reached_good (settings_of g) now m (told r)
  unfolding reached_good
  reached_some c e = rw e

-- who opened a tally
module _ (g : Settings) (m : ℕ) (r : Told ℕ) where
  pub opener_none : r ≡ None → true ≡ opener_good (settings_of g) m (told r)
  unfolding opener_good
  opener_none e = rw e

  pub opener_other : (a x : ℕ) → r ≡ Some x → a ≡ x → g.n ≤ a → false ≡ opener_good (settings_of g) m (told r)
  unfolding opener_good
  opener_other a x e q l = let f : ltb x g.n ≡ false = le-ltb x g.n (omega arith) in rw (e, f)

  pub opener_some : (a x : ℕ) → r ≡ Some x → a ≡ x → a < g.n → {h : Bool} → h ≡ holds m a → h ≡ opener_good (settings_of g) m (told r)
  unfolding opener_good
  opener_some a x e q l {h} p = let f : ltb x g.n ≡ true = lt-ltb x g.n (omega arith) in rw (e, f) (p ∙ ap (holds m) q)
