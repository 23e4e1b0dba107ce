-- What the bytes in an out buffer say: the outgoing fields, read back as a host reads them. Assumes nothing.
use Rattle.std.specs.Prelude.{ℕ, zero, suc, true, false, List, [], ◌∷◌, length, take, drop, eqb}
use Rattle.std.proofs.Math.Option.{Option, none, some, map}
use Rattle.rules.specs.Lists.{be}
use Rattle.rules.specs.Messages.{read, Effect, to_all, to_one, committed}

-- "to one (station byte, message)"
unfoldable pub one_in : List ℕ → Option Effect
unfolding read
one_in [] = none
one_in (i ∷ bs) = map (to_one i) (read bs)

-- "committed (height 4, name 32)"
unfoldable pub committed_in : List ℕ → Option Effect
unfolding be
committed_in bs = elim (eqb (length bs) 36) [ true ↦ some (committed (be (take 4 bs)) (be (drop 4 bs))) | false ↦ none ]

-- "tag 10 to all; tag 11 to one; tag 12 committed"; a field of another tag or form says nothing
unfoldable pub effect_in : ℕ → List ℕ → Option Effect
unfolding one_in committed_in read
effect_in tag bs =
    elim (eqb tag 0x10) [
      | true ↦ map to_all (read bs)
      | false ↦ elim (eqb tag 0x11) [ true ↦ one_in bs | false ↦ elim (eqb tag 0x12) [ true ↦ committed_in bs | false ↦ none ] ]
    ]

unfoldable pub if_said : Option Effect → List Effect → List Effect
if_said none es = es
if_said (some e) es = e ∷ es

-- field by field, "one-byte tag, two-byte length, then the value"; at most so many
unfoldable pub heard_in : ℕ → List ℕ → List Effect
unfolding effect_in if_said be
heard_in zero bs = []
heard_in (suc n) [] = []
heard_in (suc n) (tag ∷ bs) =
    let width = be (take 2 bs) in
    let rest = drop 2 bs in
    if_said (effect_in tag (take width rest)) (heard_in n (drop width rest))

-- there are no more fields than bytes
unfoldable pub heard : List ℕ → List Effect
unfolding heard_in
heard bs = heard_in (length bs) bs
