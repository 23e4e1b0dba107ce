-- 02, request 6: an entry of a slip, "each propose in a tag 41", as it is written and as any bytes are read. Assumes nothing.
use Rattle.std.specs.Prelude.{ℕ, ◌+◌, true, false, ◌&&◌, List, take, drop, eqb}
use Rattle.std.proofs.Math.Option.{Option, none, some}
use Rattle.rules.specs.Messages.{Message, new_view, propose, vote, blame, blame_set, status, field, write, read, allowed}
use Rattle.rules.specs.Sizes.{Settings}
use Rattle.rules.specs.Words.{Statement, message}
use Rattle.wire.specs.Fields.{is_field}

unfoldable pub entry_bytes : Statement → List ℕ
unfolding field write message
entry_bytes x = field 0x41 (write (message x))

-- the propose of a message; another kind is none
unfoldable pub propose_of : Message → Option Statement
propose_of (new_view v h b c m a) = none
propose_of (propose v h b p m a) = some (record { is_new_view = false; view = v; height = h; name = b; link = p; mask = m; author = a; voted = none })
propose_of (vote v h b a) = none
propose_of (blame v a) = none
propose_of (blame_set v m) = none
propose_of (status h b c m) = none

unfoldable pub propose_in : List ℕ → Option Statement
unfolding propose_of
propose_in bs = elim (read bs) [ none ↦ none | some m ↦ propose_of m ]

-- the entry at some byte; "missing" or "unreadable" it is none
unfoldable pub entry_at : List ℕ → ℕ → Option Statement
unfolding is_field propose_in
entry_at s at = elim (is_field s at 0x41 97) [ true ↦ propose_in (take 97 (drop (at + 3) s)) | false ↦ none ]

-- the parent of an entry that is the block asked for, and is allowed; else none
unfoldable pub parent_in : Settings → ℕ → ℕ → Option Statement → Option ℕ
unfolding allowed message
parent_in g h b none = none
parent_in g h b (some x) = elim (eqb b x.name && eqb h x.height && allowed g (message x)) [ true ↦ some x.link | false ↦ none ]
