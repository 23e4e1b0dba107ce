-- The blame masks: each is of these stations, and joining one keeps a state formed. Assumes nothing.
use mathlib.Core.Path.{◌≡◌, sym, ap, ◌∙◌}
use Prim.Native.Nat.{ℕ, zero, suc, ◌^◌, ◌≤◌, ◌<◌}
use native.Mathlib.Omega.{arith}
use mathlib.Core.Bool.{true}
use mathlib.Core.List.{List, [], ◌∷◌}
use lib.Dec.{eqb}
use lib.ListN.{length, get_or, set, length-set}
use borrow.Author.Tests.{eqb-true, eq-eqb}
use Rattle.rules.specs.Limits.{last_view}
use Rattle.rules.specs.Lists.{all}
use Rattle.rules.specs.Sizes.{Settings, joined}
use Rattle.rules.specs.Messages.{view_allowed}
use Rattle.rules.specs.Words.{State}
use Rattle.rules.specs.Inputs.{with_tables, with_blames, with_log, blames_of, blamed}
use Rattle.rules.specs.WellFormed.{is_mask, blames_good}
use Rattle.laws.proofs.Tests.{no_bool}
use Rattle.laws.proofs.Masks.{joined_lt}
use Rattle.laws.proofs.Truths.{and_3}
use Rattle.laws.proofs.Allowed.{mask_lt, lt_mask, none_lt, view_within}
use Rattle.kept.specs.Parts.{Formed}
use Rattle.kept.proofs.Lists.{all_set, all_get_d}
use Rattle.kept.proofs.Recorded.{recorded}

module _ (g : Settings) where
  blames_parts : (m : ℕ) (ms : List ℕ) → blames_good g (m ∷ ms) ≡ true → (m ≡ 0) × (length ms ≡ last_view g.size) × (all (is_mask g) ms ≡ true)
  unfolding blames_good
  blames_parts m ms e =
      let t = and_3 (eqb m 0) (eqb (length ms) (last_view g.size)) (all (is_mask g) ms) e in
      (eqb-true m 0 t.0, eqb-true (length ms) (last_view g.size) t.1, t.2)

  pub blames_set : (ms : List ℕ) (v k : ℕ) → 1 ≤ v → k < 2 ^ g.n → blames_good g ms ≡ true → blames_good g (set ms v k) ≡ true
  unfolding blames_good
  blames_set [] v k l h e = no_bool (sym e)
  blames_set (m ∷ ms) zero k l h e = absurd (omega arith)
  blames_set (m ∷ ms) (suc v) k l h e =
      let (a, b, c) = blames_parts m ms e in
      rw (eq-eqb m 0 a, eq-eqb (length (set ms v k)) (last_view g.size) (length-set ms v k ∙ b)) (all_set (is_mask g) ms v k c (lt_mask g k h))

  pub blames_mask : (ms : List ℕ) (v : ℕ) → blames_good g ms ≡ true → get_or ms v 0 < 2 ^ g.n
  unfolding blames_good
  blames_mask [] v e = no_bool (sym e)
  blames_mask (m ∷ ms) zero e = rw (blames_parts m ms e).0 (none_lt g)
  blames_mask (m ∷ ms) (suc v) e =
      mask_lt g (get_or ms v 0) (all_get_d (is_mask g) ms v 0 (blames_parts m ms e).2 (lt_mask g 0 (none_lt g)))

  -- one mask a view, and one for view 0
  pub blames_length : (ms : List ℕ) → blames_good g ms ≡ true → length ms ≡ suc (last_view g.size)
  unfolding blames_good
  blames_length [] e = no_bool (sym e)
  blames_length (m ∷ ms) e = ap suc (blames_parts m ms e).1

module _ {s : State} (f : Formed s) (v : ℕ) where
  pub blames_of_mask : blames_of v s < 2 ^ s.settings.n
  unfolding blames_of
  blames_of_mask = blames_mask s.settings s.blames v f.blames

  pub blamed_formed : (m : ℕ) → view_allowed s.settings v ≡ true → m < 2 ^ s.settings.n → Formed (blamed v m s)
  unfolding blamed with_tables with_blames with_log
  blamed_formed m a h =
      let w = view_within s.settings v a in
      recorded f s.statements s.tallies _ s.log f.tables
      (blames_set s.settings s.blames v (joined (blames_of v s) m) w.0 (joined_lt s.settings.n (blames_of v s) m blames_of_mask h) f.blames)
