-- `backed::there` meets its contract. Assumes nothing.
use Rattle.backed.proofs.Parts.{there_missing, there_genesis, there_both}
use Rattle.backed.proofs.Keys.{certified_genesis, certified_later}
use Rattle.store.specs.Decode.{statement_at, tallies}
use mathlib.Core.Path.{refl, sym, ◌∙◌}
use Rattle.backed.proofs.there.Goals as goal

pub returns-then-not-own_there : goal.returns-then-not-own_there
returns-then-not-own_there c =
    let a = c.args in
    sym (there_missing (tallies a.store.now) (statement_at a.store.now a.i) _ refl (sym c.own_there.ensures ∙ c.if-not-own_there.true))

pub returns-then-block-lt4294967296 : goal.returns-then-block-lt4294967296
returns-then-block-lt4294967296 c =
    let own-there = c.own_there in
    let b = c.args.store.now in
    let i = c.args.i in
    sym (there_genesis (tallies b) (statement_at b i) _ refl _ refl (sym own-there.ensures ∙ c.if-not-own_there.false) (certified_genesis b c.type_inv.store i _ c.requires.4.keyed.key_is c.if-block-lt4294967296.true))

pub has_tally-requires : goal.has_tally-requires
has_tally-requires c =
    let block = c.requires.4 in
    (c.requires.0, record { salt = c.args.salt; hang = c.requires.1; mixes = block.mixes }, block.fits)

pub returns : goal.returns
returns c =
    let own-there = c.own_there in
    let if1 = c.if-not-own_there in
    let b = c.args.store.now in
    let i = c.args.i in
    let block = c.requires.4 in
    c.has_tally.ensures _ block.keyed
    ∙ sym (there_both (tallies b) (statement_at b i) _ refl _ refl (sym own-there.ensures ∙ if1.false) (certified_later b c.type_inv.store i _ block.keyed.key_is c.if-block-lt4294967296.false))
