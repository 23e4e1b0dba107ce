-- `entry_at` meets its contract: no room, the heads of a propose, or others. Assumes nothing.
use mathlib.Core.Path.{sym, ap, ◌∙◌}
use mathlib.Core.Option.{some}
use native.Mathlib.Omega.{arith}
use Rattle.slip_entries.proofs.Reading.{entry_short, entry_here, entry_other}
use Rattle.slip_entries.proofs.entry_at.Goals as goal

pub returns-then-slip-at-lt-ENTRY : goal.returns-then-slip-at-lt-ENTRY
returns-then-slip-at-lt-ENTRY c =
    entry_short c.args.slip.now c.args.at (omega (arith, c.if-slip-at-lt-ENTRY.true))

pub returns-then-heads_stand : goal.returns-then-heads_stand
returns-then-heads_stand c =
    let shared-slice-known = c.shared_slice_known-1 in let if1 = c.if-slip-at-lt-ENTRY in
    ap some c.propose_at.ensures ∙ entry_here c.args.slip.now shared-slice-known.given c.args.at (omega (arith, if1.false, c.requires)) (sym c.heads_stand.ensures ∙ c.if-heads_stand.true)

pub returns : goal.returns
returns c =
    entry_other c.args.slip.now c.type_inv.slip c.args.at (omega (arith, c.if-slip-at-lt-ENTRY.false, c.requires)) (sym c.heads_stand.ensures ∙ c.if-heads_stand.false)
