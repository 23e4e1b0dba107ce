-- A block's voters by what was found. Assumes nothing.
use Prim.Native.Nat.{ℕ}
use mathlib.Core.Path.{◌≡◌, refl}
use mathlib.Core.List.{List, [], ◌∷◌}
use mathlib.Core.Option.{Option, none, some}
use Rattle.rules.specs.Lists.{first}
use Rattle.rules.specs.Words.{Certificate, Tally, of_block, voters}
use Rattle.laws.proofs.Tests.{by_bool}

abbrev pub mask_of : Option Tally → ℕ
mask_of none = 0
mask_of (some t) = t.mask

pub voters_first : (t : Certificate) (us : List Tally) → voters t us ≡ mask_of (first (of_block t) us)
unfolding voters first
voters_first t [] = refl
voters_first t (u ∷ us) = by_bool (of_block t u) (λ q. rw (q, voters, first)) (λ q. rw (q, voters, first) (voters_first t us))
