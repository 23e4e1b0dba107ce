-- 02, request 10: two status messages, and the certificate part of the one with the higher rank. Assumes nothing.
use Rattle.std.specs.Prelude.{ℕ, ◌+◌, true, false, List, [], drop, eqb}
use Rattle.std.proofs.Math.Option.{Option, none, some}
use Rattle.rules.specs.Messages.{Message, new_view, propose, vote, blame, blame_set, status, read, allowed}
use Rattle.rules.specs.Sizes.{Settings}
use Rattle.rules.specs.Words.{Certificate, below}
use Rattle.groups.specs.Groups.{group}

-- the certificate that a status reports; a message of another kind is no report
unfoldable pub reported : Message → Option Certificate
reported (new_view v h b c m a) = none
reported (propose v h b p m a) = none
reported (vote v h b a) = none
reported (blame v a) = none
reported (blame_set v m) = none
reported (status h b c m) = some (record { view = c; height = h; name = b; mask = m })

-- "readable and allowed"
unfoldable pub report : Settings → List ℕ → Option Certificate
unfolding read allowed reported
report g s = elim (read s) [ none ↦ none | some m ↦ elim (allowed g m) [ true ↦ reported m | false ↦ none ] ]

-- "the one with the higher rank"; "equal rank gives the first"; "if only one is readable and allowed", that one; "if neither": 0
unfoldable pub taken : Option Certificate → Option Certificate → ℕ
unfolding below
taken none none = 0
taken none (some c) = 2
taken (some c) none = 1
taken (some c) (some d) = elim (below c d) [ true ↦ 2 | false ↦ 1 ]

-- with a kind or n that isn't good nothing is allowed
unfoldable pub taken_of : ℕ → ℕ → List ℕ → List ℕ → ℕ
unfolding group report taken
taken_of k n first second = elim (group k n) [ none ↦ 0 | some g ↦ taken (report g first) (report g second) ]

-- a part of memory: its block and its offset, and the bytes there
abbrev pub Part : Type 0
Part = (ℕ × ℕ) × List ℕ

-- "the certificate part", "from the height field to the end": what stands behind the four bytes of the kind
abbrev pub certificate_part : Part → Part
certificate_part p = ((p.0.0, 4 + p.0.1), drop 4 p.1)

-- "an empty part of the first"
abbrev pub empty_part : Part → Part
empty_part p = (p.0, [])

-- "hand back the certificate part of the one with the higher rank"
unfoldable pub chosen : ℕ → ℕ → Part → Part → Part
unfolding taken_of
chosen k n first second =
    elim (eqb (taken_of k n first.1 second.1) 1) [
      | true ↦ certificate_part first
      | false ↦ elim (eqb (taken_of k n first.1 second.1) 2) [ true ↦ certificate_part second | false ↦ empty_part first ]
    ]
