-- `acts::quit_with_set` meets its contract. Assumes nothing.
use Rattle.acts.proofs.Works.{set_bytes, works_quit}
use Rattle.acts.proofs.Stores.{view_in, blame_place}
use Rattle.store.proofs.Forms.{form_long}
use Rattle.store.specs.Decode.{state_of}
use Rattle.outgoing.proofs.Writing.{says_one}
use Rattle.wire.specs.Meaning.{message_of}
use Rattle.rules.specs.Inputs.{blames_of}
use Rattle.rules.specs.Messages.{to_all, blame_set}
use mathlib.Core.List.{[], ◌∷◌}
use native.Mathlib.Omega.{arith}
use mathlib.Core.Path.{◌∙◌}
use Rattle.acts.proofs.quit_with_set.Goals as goal

pub overflow_sub-view : goal.overflow_sub-view
overflow_sub-view c =
    (view_in c.args.store.now c.args.view c.requires.1).0

pub blame_at-held-requires : goal.blame_at-held-requires
blame_at-held-requires c =
    (form_long _ c.requires.0.form, omega (arith, view_in c.args.store.now c.args.view c.requires.1))

pub to_all-requires : goal.to_all-requires
unfolding message_of
to_all-requires c =
    let args = c.args in let pre = c.requires in
    let blame-at = c.blame_at-held in
    (tt, omega (arith, set_bytes args.view blame-at.result, pre.2))

pub returns : goal.returns
unfolding message_of
returns c =
    let a = c.args in
    let b = a.store.now in
    let e = c.blame_at-held.ensures ∙ blame_place b a.view c.requires.1 in
    works_quit (state_of b) (to_all (blame_set a.view (blames_of a.view (state_of b))) ∷ []) c.quit.ensures
    (rw (← e) (says_one a.out.now a.at (to_all (blame_set a.view c.blame_at-held.result)) _ _ c.to_all.ensures))
