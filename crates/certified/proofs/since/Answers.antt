-- `certified::since` meets its contract: out of range, found, or missing. Assumes nothing.
use mathlib.Core.Path.{◌∙◌}
use mathlib.Core.Logic.{inl, inr}
use native.Mathlib.Omega.{arith}
use Rattle.fields.specs.Names.{name_of}
use Rattle.words.specs.Meaning.{block_of}
use Rattle.store.proofs.Forms.{form_long, form_tallies}
use Rattle.certified.specs.Called.{asked}
use Rattle.certified.proofs.Kept.{kept_there, kept_missing, place_within, kept_outside}
use Rattle.certified.proofs.since.Goals as goal

pub returns-then-most-view : goal.returns-then-most-view
returns-then-most-view c = let a = c.args in kept_outside c.requires (asked a.view a.height (name_of a.name)) (inl (omega (arith, c.if-most-view.true)))

pub returns-then-most-height : goal.returns-then-most-height
returns-then-most-height c = let a = c.args in kept_outside c.requires (asked a.view a.height (name_of a.name)) (inr (omega (arith, c.if-most-height.true)))

pub reached_at-requires : goal.reached_at-requires
reached_at-requires c =
    (form_long _ c.requires, omega (arith, place_within c.args.store.now _ c.find_tally.ensures _ c.in_ok-i.was, form_tallies _ c.requires))

pub returns-in_err-i : goal.returns-in_err-i
unfolding block_of
returns-in_err-i c =
    let a = c.args in
    rw c.from_residual.ensures (kept_missing a.store.now (asked a.view a.height (name_of a.name)) c.find_tally.ensures c.in_err-i.was)

pub returns : goal.returns
unfolding block_of
returns c =
    let a = c.args in
    c.reached_at.ensures ∙ kept_there a.store.now (asked a.view a.height (name_of a.name)) c.find_tally.ensures _ c.in_ok-i.was
