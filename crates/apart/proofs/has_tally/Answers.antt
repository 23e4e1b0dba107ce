-- `apart::has_tally` meets its contract. Assumes nothing.
use Rattle.apart.proofs.Hanging.{has_start, has_is}
use Rattle.chains.specs.Chains.{chain_of}
use Rattle.form.proofs.Forms.{few_tallies_lem}
use lib.Dec.{lit≤}
use native.Mathlib.Omega.{arith}
use mathlib.Core.Path.{ap, ◌∙◌}
use Rattle.apart.proofs.has_tally.Goals as goal

pub overflow_cast-left : goal.overflow_cast-left
overflow_cast-left c =
    let q = c.chain_of-chain.ensures.0 ∙ ap chain_of c.requires.1.mixes in
    let walk = has_start c.args.store.now c.type_inv.store _ c.tallies_in-base.ensures c.requires.1.salt c.args.count c.requires.0.is c.args.block.key c.args.block.at c.requires.1.hang _ q c.chain_of-chain.ensures.1 in
    record { fits = omega (arith, walk.within, few_tallies_lem c.requires.0) }

pub walked-requires : goal.walked-requires
walked-requires c =
    let tallies-in = c.tallies_in-base in
    let q = c.chain_of-chain.ensures.0 ∙ ap chain_of c.requires.1.mixes in
    let walk = has_start c.args.store.now c.type_inv.store _ tallies-in.ensures c.requires.1.salt c.args.count c.requires.0.is c.args.block.key c.args.block.at c.requires.1.hang _ q c.chain_of-chain.ensures.1 in
    let k = c.requires.0 in
    (lit≤ tt, omega (arith, k.long, k.room, tallies-in.ensures), few_tallies_lem k, c.requires.2, walk)

pub returns : goal.returns
returns c =
    let tallies-in = c.tallies_in-base in
    let chain-of = c.chain_of-chain in
    let q = chain-of.ensures.0 ∙ ap chain_of c.requires.1.mixes in
    let has = has_is c.args.store.now c.type_inv.store _ tallies-in.ensures c.requires.1.salt c.args.count c.requires.0.is c.args.block.key c.args.block.at c.requires.1.hang _ q chain-of.ensures.1 in
    has _ c.walked.ensures
