-- Any two outcomes that a call's contract allows are identical. Assumes nothing.
use Prim.Native.Nat.{ℕ}
use mathlib.Core.Path.{◌≡◌, sym, ◌∙◌}
use mathlib.Core.List.{List}
use Rattle.calls.specs.Calls.{Called, Gives}

pub one_outcome : {c : Called} {r r' : ℕ} {b b' o o' : List ℕ} → Gives c r b o → Gives c r' b' o' → (r ≡ r') × (b ≡ b') × (o ≡ o')
one_outcome g h = (g.result ∙ sym h.result, g.store ∙ sym h.store, g.out ∙ sym h.out)
