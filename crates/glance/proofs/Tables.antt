-- The names that places in a table stand for. Assumes nothing.
use Prim.Native.Nat.{ℕ}
use mathlib.Core.Path.{◌≡◌, ap}
use mathlib.Core.List.{List}
use lib.ListN.{get_or}
use Rattle.store.specs.Decode.{statement_at}
use Rattle.glance.specs.Tables.{statement_in, name_in}

pub name_at_lem : (b t : List ℕ) (k p : ℕ) → p ≡ get_or t k 0 → (statement_at b p).name ≡ name_in b t k
unfolding name_in statement_in
name_at_lem b t k p e = ap (λ (i : ℕ). (statement_at b i).name) e
