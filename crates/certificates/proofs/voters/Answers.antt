-- `certificates::voters` meets its contract. Assumes nothing.
use mathlib.Core.Path.{sym, ap, ◌∙◌}
use native.Mathlib.Omega.{arith}
use Rattle.rules.specs.Words.{Tally, of_block}
use Rattle.words.specs.Meaning.{block_of}
use Rattle.tallies.specs.Meaning.{tally_of}
use Rattle.store.specs.Layout.{tally_table, count_of}
use Rattle.store.specs.Decode.{tally_at, tallies}
use Rattle.store.proofs.Searches.{found_within, found_first, missing_first}
use Rattle.store.proofs.Counts.{long, few_tallies_lem}
use Rattle.certificates.proofs.Masks.{mask_of, voters_first}
use Rattle.certificates.proofs.voters.Goals as goal

pub tally_at-requires : goal.tally_at-requires
unfolding tallies
tally_at-requires c =
    let a = c.args in let pre = c.requires in let find-tally = c.find_tally in
    (long pre, omega (arith, few_tallies_lem pre, found_within (of_block (block_of a.block)) (tally_at a.store.now) (count_of tally_table a.store.now) find-tally.result find-tally.ensures c.in-Some.i c.in-Some.is))

pub returns-in-Some : goal.returns-in-Some
unfolding tallies tally_of
returns-in-Some c =
    let a = c.args in
    let find-tally = c.find_tally in ap (λ (t : Tally). t.mask) c.tally_at.ensures ∙ sym (voters_first (block_of a.block) (tallies a.store.now) ∙ ap mask_of (found_first (of_block (block_of a.block)) (tally_at a.store.now) (count_of tally_table a.store.now) find-tally.result find-tally.ensures c.in-Some.i c.in-Some.is))

pub returns-in-None : goal.returns-in-None
unfolding tallies
returns-in-None c =
    let a = c.args in
    let find-tally = c.find_tally in
    sym (voters_first (block_of a.block) (tallies a.store.now) ∙ ap mask_of (missing_first (of_block (block_of a.block)) (tally_at a.store.now) (count_of tally_table a.store.now) find-tally.result find-tally.ensures c.in-None.is))
