-- `plain_acts::blaming` meets its contract. Assumes nothing.
use mathlib.Core.Path.{sym, ap₂, ◌∙◌}
use native.Mathlib.Omega.{arith}
use Rattle.wire.specs.Meaning.{message_of}
use Rattle.outgoing.proofs.Writing.{length_to_all, length_write_most}
use mathlib.Core.Bool.{◌&&◌}
use Rattle.wire.specs.declared.Message.TheVariants.{BlameSet}
use Rattle.plain_acts.proofs.Laws.{only_kept, set_sent}
use Rattle.plain_acts.proofs.blaming.Goals as goal

pub blamed-kept-requires : goal.blamed-kept-requires
blamed-kept-requires c =
    (c.requires.0, c.requires.1)

pub blame_full-full-requires : goal.blame_full-full-requires
blame_full-full-requires c =
    c.requires.1

pub blames_of-held-requires : goal.blames_of-held-requires
blames_of-held-requires c =
    c.requires.1

pub to_all-next-requires : goal.to_all-next-requires
to_all-next-requires c =
    let m = message_of (BlameSet c.args.view c.blames_of-held.result) in
    (tt, omega (arith, length_to_all m, length_write_most m, c.requires.2))

pub quit-engine-requires : goal.quit-engine-requires
quit-engine-requires c =
    c.blamed-kept.ensures.sized

pub returns-then-inside-full : goal.returns-then-inside-full
unfolding message_of
returns-then-inside-full c =
    let a = c.args in
    let blamed = c.blamed-kept in
    let is-in = c.is_in-inside in
    let blame-full = c.blame_full-full in let if1 = c.if-inside-full in
    let blames-of = c.blames_of-held in let to-all = c.to_all-next in
    set_sent a.view a.mask a.e blamed.result blamed.ensures _ a.at blames-of.result (ap₂ ◌&&◌ (sym is-in.ensures) (sym blame-full.ensures) ∙ if1.true) blames-of.ensures c.quit-engine.ensures to-all.ensures

pub returns : goal.returns
returns c =
    let a = c.args in
    only_kept a.view a.mask a.e c.blamed-kept.result c.blamed-kept.ensures _ a.at (ap₂ ◌&&◌ (sym c.is_in-inside.ensures) (sym c.blame_full-full.ensures) ∙ c.if-inside-full.false)
