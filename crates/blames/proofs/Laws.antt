-- The blame masks, as the code tests them. Assumes nothing.
use Prim.Native.Nat.{ℕ}
use mathlib.Core.Path.{◌≡◌, sym, ap, ◌∙◌}
use mathlib.Core.List.{List, ◌∷◌}
use lib.ListN.{length}
use borrow.Author.Tests.{eq-eqb}
use Rattle.rules.specs.Limits.{last_view}
use Rattle.rules.specs.Lists.{all}
use Rattle.rules.specs.Sizes as sizes
use Rattle.rules.specs.WellFormed.{is_mask, blames_good}
use Rattle.store.specs.Layout.{size_in}
use Rattle.store.specs.Decode.{rows, blame_at, blames_for, blames}
use Rattle.store.proofs.Rows.{rows_length}

masks_are : (g : sizes.Settings) (ms : List ℕ) → length ms ≡ last_view g.size → blames_good g (0 ∷ ms) ≡ all (is_mask g) ms
unfolding blames_good
masks_are g ms e = rw (eq-eqb _ _ e)

pub blames_are : (g : sizes.Settings) (b : List ℕ) → g.size ≡ size_in b → blames_good g (blames b) ≡ all (is_mask g) (rows (blame_at b) 0 (last_view (size_in b)))
unfolding blames_for
blames_are g b e =
    let last = last_view (size_in b) in
    masks_are g (rows (blame_at b) 0 last) (rows_length (blame_at b) 0 last ∙ ap last_view (sym e))
