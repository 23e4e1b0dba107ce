-- A store of the small limits' length is of its exact length. Assumes nothing.
use Rattle.std.proofs.Common.{ℕ, ◌≡◌, sym, ap, ◌∙◌, List, length}
use Rattle.rules.specs.Limits.{small, last_view, most_statements, most_tallies}
use Rattle.store.specs.Layout.{store_length, small_length, size_in}
use Rattle.store.proofs.Forms.{sized}

pub exact_long : (b : List ℕ) → length b ≡ small_length → length b ≡ store_length (size_in b)
unfolding last_view most_statements most_tallies
exact_long b e = e ∙ ap store_length (sym (sized small b e))
