-- `display::show_one` meets its contract: not voted for, logged, or shown. Assumes nothing.
use native.Mathlib.Omega.{arith}
use Rattle.store.proofs.Forms.{form_long, form_statements}
use Rattle.store.proofs.Loaded.{loaded_logged}
use Rattle.glance.proofs.Seeing.{delay_short}
use Rattle.glance.proofs.Voting.{vote_missing, vote_given}
use mathlib.Core.Path.{refl}
use Rattle.display.proofs.Bytes.{one_unvoted, one_logged, one_shown}
use Rattle.display.proofs.show_one.Goals as goal

pub vote_in-requires : goal.vote_in-requires
vote_in-requires c =
    let pre = c.requires in (form_long _ pre.0, omega (arith, pre.3, form_statements _ pre.0))

pub returns-in_default : goal.returns-in_default
returns-in_default c =
    let pre = c.requires in one_unvoted _ _ pre.1 pre.2 _ _ _ refl (vote_missing _ _ c.vote_in.result c.vote_in.ensures c.in_default.is)

pub statement_at-x-requires : goal.statement_at-x-requires
statement_at-x-requires c =
    let pre = c.requires in (form_long _ pre.0, omega (arith, pre.3, form_statements _ pre.0))

pub is_logged-requires : goal.is_logged-requires
is_logged-requires c =
    let pre = c.requires in (pre.0, loaded_logged _ _ pre.1)

pub returns-then-is_logged : goal.returns-then-is_logged
returns-then-is_logged c =
    let pre = c.requires in
    one_logged _ _ pre.1 pre.2 _ _ c.statement_at-x.ensures c.is_logged.ensures _ _ c.if-is_logged.true

pub overflow_mul-due : goal.overflow_mul-due
overflow_mul-due c =
    let pre = c.requires in omega (arith, delay_short _ _ pre.1 pre.0.bytes)

pub overflow_add-due : goal.overflow_add-due
overflow_add-due c =
    let pre = c.requires in omega (arith, delay_short _ _ pre.1 pre.0.bytes)

pub overflow_add-due-2 : goal.overflow_add-due-2
overflow_add-due-2 c =
    let pre = c.requires in omega (arith, delay_short _ _ pre.1 pre.0.bytes)

pub returns : goal.returns
returns c =
    let pre = c.requires in
    let statement-at = c.statement_at-x in
    let is-logged = c.is_logged in
    let if2 = c.if-is_logged in let ticks-left = c.ticks_left-left in
    one_shown _ _ pre.1 pre.2 _ _ statement-at.ensures is-logged.ensures _ _ (vote_given _ _ c.vote_in.result c.vote_in.ensures _ c.in-Some.is) (λ e. absurd (omega arith)) if2.false (rw (c.from.ensures, c.from-2.ensures) at ticks-left.ensures) c.show.ensures
