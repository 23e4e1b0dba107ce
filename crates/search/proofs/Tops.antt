-- The step of the search for the top statement of a view. Assumes nothing.
use Prim.Native.Nat.{ℕ, ◌-◌, ◌<◌, ◌≤◌}
use mathlib.Core.Path.{◌≡◌, refl, sym, ap, ◌∙◌}
use mathlib.Core.Bool.{true, false}
use mathlib.Core.List.{List, ◌∷◌}
use mathlib.Core.Option.{Option, none, some}
use native.Mathlib.Omega.{arith}
use lib.Dec.{ltb}
use borrow.Author.Tests.{eq-eqb, ne_eqb, lt-ltb, le-ltb}
use Rattle.rules.specs.Words.{Statement}
use Rattle.rules.specs.Inputs.{top}
use Rattle.store.specs.Decode.{rows}
use Rattle.std.specs.Prelude.{Option as Maybe, Some, None}
use Rattle.search.specs.Finds.{found_in, Finds}
use Rattle.store.proofs.Rows.{rows_end, rows_whole, rows_back}

-- the greater of a statement and what stands behind it
abbrev over : Statement → Option Statement → Option Statement
over x none = some x
over x (some y) = elim (ltb x.height y.height) [ true ↦ some y | false ↦ some x ]

module _ (v : ℕ) (x : Statement) (xs : List Statement) where
  top_other : (x.view ≡ v → ⊥) → top v (x ∷ xs) ≡ top v xs
  unfolding top
  top_other d = rw (ne_eqb _ _ d, top)

  top_over : x.view ≡ v → top v (x ∷ xs) ≡ over x (top v xs)
  unfolding top
  top_over e = go (top v xs) refl
    where
      go : (o : Option Statement) → top v xs ≡ o → top v (x ∷ xs) ≡ over x o
      go none q = rw (eq-eqb _ _ e, q, top)
      go (some y) q = rw (eq-eqb _ _ e, q, top)

-- the height of what was found
abbrev height_of : (ℕ → Statement) → Maybe ℕ → ℕ
height_of f (Some j) = (f j).height
height_of f None = 0

-- of the records from i on, the top one was found, and its height is known
pub record Topmost (f : ℕ → Statement) (v n i : ℕ) (best : Maybe ℕ) (height : ℕ) : Type 0 where
  pub finds : Finds f n (top v (rows f i (n - i))) best
  pub tall : height ≡ height_of f best

module _ (f : ℕ → Statement) (v n : ℕ) where
  pub topmost_none : (i : ℕ) → n ≤ i → Topmost f v n i None 0
  unfolding top
  topmost_none i h = record { finds = record { is = rw (rows_end f n i h); inside = tt }; tall = refl }

  module _ (i : ℕ) (l : 0 < i) (m : i ≤ n) where
    abbrev x : Statement
    x = f (i - 1)

    abbrev rest : List Statement
    rest = rows f i (n - i)

    pub topmost_other : (best : Maybe ℕ) (height : ℕ) → Topmost f v n i best height → (x.view ≡ v → ⊥) → Topmost f v n (i - 1) best height
    topmost_other best height k d = record {
      finds = record { is = k.finds.is ∙ sym (ap (top v) (rows_back f n i l m) ∙ top_other v x rest d); inside = k.finds.inside };
      tall = k.tall;
    }

    module _ (e : x.view ≡ v) where
      is_over : (best : Maybe ℕ) → found_in f best ≡ top v rest → over x (found_in f best) ≡ top v (rows f (i - 1) (n - (i - 1)))
      is_over best q = ap (over x) q ∙ sym (ap (top v) (rows_back f n i l m) ∙ top_over v x rest e)

      pub topmost_lower : (best : Maybe ℕ) (height : ℕ) → Topmost f v n i best height → x.height < height → Topmost f v n (i - 1) best height
      topmost_lower None height k h = absurd (omega (arith, k.tall))
      topmost_lower (Some j) height k h =
          let g : x.height < (f j).height = omega (arith, k.tall) in
          record { finds = record { is = sym (rw (lt-ltb _ _ g, over)) ∙ is_over (Some j) k.finds.is; inside = k.finds.inside }; tall = k.tall }

      pub topmost_here : (best : Maybe ℕ) (height : ℕ) → Topmost f v n i best height → (new : ℕ) → new ≡ x.height → height ≤ new → Topmost f v n (i - 1) (Some (i - 1)) new
      topmost_here best height k new t h = record {
        finds = record { is = here best height k.tall (omega arith) ∙ is_over best k.finds.is; inside = omega arith };
        tall = t;
      }
        where
          here : (best : Maybe ℕ) (height : ℕ) → height ≡ height_of f best → height ≤ x.height → some x ≡ over x (found_in f best)
          here None height t h = refl
          here (Some j) height t h = let g : (f j).height ≤ x.height = omega arith in rw (le-ltb _ _ g, over)

  pub topmost_all : (i : ℕ) (best : Maybe ℕ) (height : ℕ) → i ≤ 0 → Topmost f v n i best height → Finds f n (top v (rows f 0 n)) best
  topmost_all i best height h k = record { is = k.finds.is ∙ ap (top v) (rows_whole f n i h); inside = k.finds.inside }
