-- `acts::blaming` meets its contract. Assumes nothing.
use Rattle.acts.proofs.Stores.{view_in, view_blamed}
use Rattle.store.specs.Decode.{state_of}
use Rattle.acts.proofs.Blames.{goes_on_outside, goes_on_with_few, quits_with_set}
use Rattle.acts.proofs.Works.{formed_parts, left_formed}
use Rattle.kept.proofs.Blames.{blamed_formed}
use mathlib.Core.Path.{sym, ◌∙◌}
use Rattle.acts.proofs.blaming.Goals as goal

pub join_blame-requires : goal.join_blame-requires
join_blame-requires c =
    let w = view_in c.args.store.now c.args.view c.requires.1 in (c.requires.0.form, w.0, w.1)

pub is_in-requires : goal.is_in-requires
is_in-requires c =
    c.join_blame.ensures.form

pub returns-then-not-is_in : goal.returns-then-not-is_in
returns-then-not-is_in c =
    let args = c.args in let join-blame = c.join_blame in
    goes_on_outside (state_of args.store.now) args.view args.mask join-blame.ensures args.out.now args.at (sym c.is_in.ensures ∙ c.if-not-is_in.true)

pub blame_full-requires : goal.blame_full-requires
blame_full-requires c =
    let args = c.args in let pre = c.requires in
    let join-blame = c.join_blame in
    (join-blame.ensures.form, view_blamed _ args.view args.mask join-blame.ensures pre.1)

pub returns-then-not-blame_full : goal.returns-then-not-blame_full
returns-then-not-blame_full c =
    let args = c.args in
    let join-blame = c.join_blame in
    goes_on_with_few (state_of args.store.now) args.view args.mask join-blame.ensures args.out.now args.at (sym c.blame_full.ensures ∙ c.if-not-blame_full.true)

pub quit_with_set-requires : goal.quit_with_set-requires
quit_with_set-requires c =
    let args = c.args in
    let pre = c.requires in let join-blame = c.join_blame in
    (left_formed join-blame.ensures (blamed_formed (formed_parts pre.0).formed args.view args.mask pre.1 pre.2), view_blamed _ args.view args.mask join-blame.ensures pre.1, pre.3)

pub returns : goal.returns
returns c =
    let args = c.args in
    let join-blame = c.join_blame in
    let is-in = c.is_in in
    let if1 = c.if-not-is_in in
    let blame-full = c.blame_full in let if2 = c.if-not-blame_full in
    let quit-with-set = c.quit_with_set in
    quits_with_set (state_of args.store.now) args.view args.mask join-blame.ensures (sym is-in.ensures ∙ if1.false) (sym blame-full.ensures ∙ if2.false) quit-with-set.ensures
