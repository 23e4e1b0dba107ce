-- `turns::complain` meets its contract: the blame is said, then joined. Assumes nothing.
use Rattle.laws.proofs.Allowed.{only_lt}
use Rattle.wire.specs.Meaning.{message_of}
use Rattle.turns.proofs.Parts.{works_still, complain_calm, blame_bytes, complained}
use Rattle.moments.proofs.Moments.{view_of_loaded, entered_before, overdue_now}
use Rattle.store.proofs.Forms.{form_long}
use native.Mathlib.Omega.{arith}
use mathlib.Core.Path.{sym, ap, ◌∙◌}
use Rattle.acts.proofs.Votes.{loaded_own, own_small, only_small}
use Rattle.kept.proofs.Facts.{sizes_of}
use Rattle.acts.proofs.Works.{formed_parts}
use Rattle.store.specs.Decode.{state_of}
use Rattle.rules.specs.Sizes.{only}
use Rattle.outgoing.proofs.Writing.{says_length}
use Rattle.store.proofs.Loaded.{loaded_view}
use Rattle.turns.proofs.complain.Goals as goal

pub load-station-requires : goal.load-station-requires
load-station-requires c =
    omega (arith, form_long _ c.requires.0.form)

pub overdue_at-requires : goal.overdue_at-requires
overdue_at-requires c =
    let pre = c.requires in
    (pre.0, c.load-station.ensures, entered_before pre.0 c.load-station.result c.load-station.ensures, pre.2)

pub returns-then-not-overdue_at : goal.returns-then-not-overdue_at
returns-then-not-overdue_at c =
    let args = c.args in let pre = c.requires in let load = c.load-station in
    works_still args.out.now args.at pre.0.form (complain_calm _ (sym (c.overdue_at.ensures ∙ overdue_now pre.0 load.result load.ensures) ∙ c.if-not-overdue_at.true))

pub overflow_cast-blame : goal.overflow_cast-blame
overflow_cast-blame c =
    record { fits = omega (arith, own_small c.requires.0 c.load-station.result c.load-station.ensures) }

pub to_all-next-requires : goal.to_all-next-requires
unfolding message_of
to_all-next-requires c =
    let load = c.load-station in
    (tt, omega (arith, blame_bytes load.result.view load.result.settings.own, c.requires.1))

pub only-requires : goal.only-requires
only-requires c =
    let pre = c.requires in
    let load = c.load-station in
    own_small pre.0 load.result load.ensures

pub overflow_cast-only : goal.overflow_cast-only
overflow_cast-only c =
    let pre = c.requires in
    let load = c.load-station in
    record { fits = omega (arith, c.only.ensures, only_small pre.0 load.result load.ensures) }

pub blaming-requires : goal.blaming-requires
unfolding message_of
blaming-requires c =
    let args = c.args in
    let pre = c.requires in
    let load = c.load-station in
    let to-all = c.to_all-next in
    let k = pre.0 in
    let s = state_of args.store.now in
    (k, view_of_loaded k load.result load.ensures, omega (arith, c.only.ensures, ap only (loaded_own k load.result load.ensures), only_lt s.settings s.settings.own (sizes_of (formed_parts k).formed).own), omega (arith, to-all.ensures.ends, blame_bytes load.result.view load.result.settings.own, says_length to-all.ensures, pre.1))

pub returns : goal.returns
unfolding message_of
returns c =
    let pre = c.requires in
    let load = c.load-station in
    let overdue-at = c.overdue_at in
    let if1 = c.if-not-overdue_at in
    let to-all = c.to_all-next in let only = c.only in
    let blaming = c.blaming in
    let k = pre.0 in
    complained load.result.view load.result.settings.own _ k.form (sym (overdue-at.ensures ∙ overdue_now pre.0 load.result load.ensures) ∙ if1.false) (loaded_view load.result _ load.ensures) (loaded_own k load.result load.ensures) only.ensures to-all.ensures blaming.ensures
