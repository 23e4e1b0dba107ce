-- `seek_tally` meets its contract: a place before the end is that of the tally. Assumes nothing.
use Prim.Native.Nat.{ℕ, ◌+◌, ◌*◌}
use mathlib.Core.Path.{◌≡◌}
use native.Mathlib.Omega.{arith}
use lib.Dec.{lit≤}
use Rattle.rules.specs.Words.{of_block}
use Rattle.words.specs.Meaning.{block_of}
use Rattle.fields.specs.Names.{name_of}
use Rattle.lookup.specs.Search.{has_block}
use Rattle.store.specs.Layout.{tally_size}
use Rattle.store.specs.Decode.{tally_at}
use Rattle.store.proofs.Searches.{block_found, placed_nowhere, placed_here}
use Rattle.store.proofs.seek_tally.Goals as goal

pub first-i-requires : goal.first-i-requires
first-i-requires c =
    (lit≤ tt, omega (arith, c.requires.0, c.requires.1, c.tallies_in-base.ensures))

pub returns-then-end-i : goal.returns-then-end-i
unfolding block_of
returns-then-end-i c =
    let a = c.args in
    placed_nowhere (tally_at a.store.now) (of_block (block_of a.block)) _ (block_found c.args.store.now c.type_inv.store (block_of c.args.block) c.well_formed.1.1.1.0.1.1.1.0.1 _ _ c.key_of-key.ensures c.tallies_in-base.ensures) _ _ _ c.first-i.ensures c.if-end-i.true

pub returns : goal.returns
unfolding block_of
returns c =
    let a = c.args in
    placed_here (tally_at a.store.now) (of_block (block_of a.block)) _ (block_found c.args.store.now c.type_inv.store (block_of c.args.block) c.well_formed.1.1.1.0.1.1.1.0.1 _ _ c.key_of-key.ensures c.tallies_in-base.ensures) _ _ _ c.first-i.ensures c.if-end-i.false
