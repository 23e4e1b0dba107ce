-- `tally_at` meets its contract: the numbers of a certificate are those of the record, who opened it, and when it first had a quorum. Assumes nothing.
use mathlib.Core.Path.{◌≡◌}
use Prim.Native.Nat.{ℕ}
use mathlib.Core.Option.{Option}
use Rattle.rules.specs.Words.{Certificate, Tally}
use Rattle.words.specs.Meaning.{block_of}
use Rattle.tallies.specs.Meaning.{tally_of}
use Rattle.store.specs.Decode.{tally_for, opener_for, since_for}
use Rattle.store.proofs.tally_at.Goals as goal

-- a block with its voters, who opened it, and when it had a quorum
abbrev with : Option ℕ → Option ℕ → Certificate → Tally
with k r t = record { view = t.view; height = t.height; name = t.name; mask = t.mask; opener = k; reached = r }

same-with : {k k' r r' : Option ℕ} {t t' : Certificate} → k ≡ k' → r ≡ r' → t ≡ t' → with k r t ≡ with k' r' t'
same-with p q e = λ i. with (p i) (q i) (e i)

pub returns : goal.returns
unfolding tally_for opener_for since_for tally_of block_of
returns c =
    same-with c.opener_at-opener.ensures c.reached_at-reached.ensures (rw c.tally_place.ensures.0 at c.get_certificate-block.ensures)
