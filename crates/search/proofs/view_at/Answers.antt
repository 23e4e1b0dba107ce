-- `search::view_at` meets its contract. Assumes nothing.
use Prim.Native.Nat.{ℕ}
use mathlib.Core.Path.{◌∙◌, sym, ap}
use native.Mathlib.Nat.{add-zero}
use Rattle.fields.specs.Places.{number}
use Rattle.rules.specs.Limits.{small}
use Rattle.store.specs.Layout.{statement_table, place_of}
use Rattle.store.specs.Decode.{statement_at}
use Rattle.search.proofs.view_at.Goals as goal

pub returns : goal.returns
unfolding statement_at
returns c =
    let a = c.args in
    c.get.ensures.0 ∙ ap (λ (at : ℕ). number a.store.now at 4) (sym (add-zero (place_of statement_table small a.i)))
