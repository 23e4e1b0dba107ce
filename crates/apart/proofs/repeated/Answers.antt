-- `apart::repeated` meets its contract. Assumes nothing.
use mathlib.Core.Path.{sym, ap, ◌∙◌}
use native.Mathlib.Omega.{arith}
use lib.Dec.{lit≤}
use Rattle.laws.proofs.Tests.{no_bool}
use Rattle.form.proofs.Forms.{few_tallies_lem}
use Rattle.chains.specs.Chains.{chain_of}
use Rattle.apart.proofs.Hanging.{met_start, met_is, met_hangs}
use Rattle.apart.proofs.repeated.Goals as goal

pub has_block-requires : goal.has_block-requires
has_block-requires c =
    let tallies-in = c.tallies_in-base in
    let get = c.get-key in let with-words = c.with_words in let chain-of = c.chain_of-chain in
    let q = chain-of.ensures.0 ∙ ap chain_of with-words.ensures in
    let walk = met_start c.args.store.now c.type_inv.store _ tallies-in.ensures c.args.salt c.args.count c.args.i _ get.ensures.0 c.requires.2 c.requires.1 _ q chain-of.ensures.1 in
    let k = c.requires.0 in
    (chain-of.ensures.1, lit≤ tt, omega (arith, k.long, k.room, tallies-in.ensures), few_tallies_lem k, omega (arith, k.long, k.room, c.requires.1, tallies-in.ensures), walk)

pub returns-then-has_block : goal.returns-then-has_block
returns-then-has_block c =
    let tallies-in = c.tallies_in-base in let get = c.get-key in
    let with-words = c.with_words in let chain-of = c.chain_of-chain in
    let q = chain-of.ensures.0 ∙ ap chain_of with-words.ensures in
    let met = met_is c.args.store.now c.type_inv.store _ tallies-in.ensures c.args.salt c.args.count c.args.i _ get.ensures.0 c.requires.2 c.requires.1 _ q chain-of.ensures.1 in
    record { is = sym c.if-has_block.true ∙ c.has_block.ensures ∙ met; hangs = λ e. no_bool e }

pub hang-requires : goal.hang-requires
hang-requires c =
    (c.chain_of-chain.ensures.1, omega (arith, c.requires.1, few_tallies_lem c.requires.0), omega (arith, few_tallies_lem c.requires.0))

pub returns : goal.returns
returns c =
    let tallies-in = c.tallies_in-base in
    let get = c.get-key in
    let with-words = c.with_words in
    let chain-of = c.chain_of-chain in let has_block = c.has_block in
    let if1 = c.if-has_block in
    let q = chain-of.ensures.0 ∙ ap chain_of with-words.ensures in
    let met = met_is c.args.store.now c.type_inv.store _ tallies-in.ensures c.args.salt c.args.count c.args.i _ get.ensures.0 c.requires.2 c.requires.1 _ q chain-of.ensures.1 in
    let hangs = met_hangs c.args.store.now c.type_inv.store _ tallies-in.ensures c.args.salt c.args.count c.args.i _ get.ensures.0 c.requires.2 c.requires.1 _ q chain-of.ensures.1 in
    record { is = sym if1.false ∙ has_block.ensures ∙ met; hangs = λ e. rw (c.hang.ensures.0, c.hang.ensures.1) (hangs (few_tallies_lem c.requires.0)) }
