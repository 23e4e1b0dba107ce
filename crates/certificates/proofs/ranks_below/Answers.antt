-- `certificates::ranks_below` meets its contract: a rank is the number of the first eight bytes. Assumes nothing.
use Rattle.certificates.proofs.Ranks.{rank_number}
use Rattle.store.specs.Decode.{tally_for, tally_at}
use Rattle.store.specs.Layout.{tally_table, size_in, place_of}
use Rattle.words.specs.Meaning.{block_of}
use Rattle.fields.proofs.Laws.{number_lt, number_split}
use Rattle.fields.specs.Places.{number, Bytes}
use Rattle.rules.specs.Words.{certificate_of}
use native.Mathlib.Nat.{add-zero}
use mathlib.Core.Path.{refl, sym, ap, ◌∙◌}
use Prim.Native.Nat.{ℕ, ◌+◌, ◌*◌, ◌^◌}
use borrow.Author.Rules.{rules}
use Rattle.certificates.proofs.ranks_below.Goals as goal

pub returns : goal.returns
unfolding tally_for block_of
returns c =
    let a = c.args in
    let bytes : Bytes a.store.now = c.type_inv.store in
    let tally-place = c.tally_place in
    let b = a.store.now in
    let at = place_of tally_table (size_in b) a.i in
    rw (c.from.ensures, c.from-2.ensures) (rank_number (certificate_of (tally_at b a.i)) (block_of a.best) (number_lt b bytes (at + 4) 4) (search rules)
    (c.get-rank.ensures.0 ∙ ap (λ (k : ℕ). number b k 8) (tally-place.ensures.0 ∙ sym (add-zero at)) ∙ number_split b (at + 0) 4 4 ∙ ap (λ (k : ℕ). number b (at + 0) 4 * 256 ^ 4 + number b (k + 4) 4) (add-zero at)) refl)
