-- The refusals of a call of the plain engine that come before the rules. Assumes nothing.
use Rattle.std.specs.Prelude.{ℕ, true, false, ◌&&◌, List, length, leb}
use Rattle.rules.specs.Limits.{small, least_out}
use Rattle.lent_list.specs.Lists.{has_length, has_form}

-- 1 for a length, 2 for the form, 0 for neither
unfoldable pub bar : List ℕ → List ℕ → ℕ
bar l o = elim (has_length l && leb (least_out small) (length o)) [ false ↦ 1 | true ↦ elim (has_form l) [ false ↦ 2 | true ↦ 0 ] ]
