-- 02, request 6, "a second part writes the slip for any logged block from the store". Assumes nothing.
use Rattle.std.specs.Prelude.{ℕ, zero, suc, true, false, List, [], ◌∷◌, get_or, eqb}
use Rattle.std.proofs.Math.Option.{Option, none, some}
use Rattle.rules.specs.Lists.{first}
use Rattle.rules.specs.Words.{Statement, State}
use Rattle.linked.specs.Links.{is_link}
use Rattle.slip.specs.Slips.{slip_bytes}

-- the name logged at a height; below the first stands genesis
unfoldable pub logged_at : List ℕ → ℕ → ℕ
logged_at l zero = 0
logged_at l (suc h) = get_or l h 0

-- the height at which a name is logged, from some height on, the lower of two; none where it isn't
unfoldable pub height_from : ℕ → ℕ → List ℕ → Option ℕ
height_from h b [] = none
height_from h b (c ∷ l) = elim (eqb b c) [ true ↦ some h | false ↦ height_from (suc h) b l ]

-- from a height down to height 1: at each the first stored propose of the logged name, above the name logged below it
unfoldable pub log_chain : List Statement → List ℕ → ℕ → List Statement
unfolding first is_link logged_at
log_chain xs l zero = []
log_chain xs l (suc h) = elim (first (is_link (suc h) (logged_at l (suc h)) (logged_at l h)) xs) [ none ↦ [] | some x ↦ x ∷ log_chain xs l h ]

-- the slip of a name; "for a name not logged" none
unfoldable pub slip_of : ℕ → State → Option (List ℕ)
unfolding height_from log_chain slip_bytes
slip_of b s = elim (height_from 1 b s.log) [ none ↦ none | some h ↦ some (slip_bytes b (log_chain s.statements s.log h)) ]
