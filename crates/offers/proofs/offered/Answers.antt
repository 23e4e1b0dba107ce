-- `offers::offered` meets its contract: it may be made, or not. Assumes nothing.
use mathlib.Core.Path.{sym, ◌∙◌}
use Rattle.fields.specs.Names.{name_of}
use Rattle.store.specs.Decode.{state_of}
use Rattle.offers.proofs.Offers.{offered_not, offered_then}
use Rattle.offers.proofs.offered.Goals as goal

pub returns-then-not-may_offer : goal.returns-then-not-may_offer
returns-then-not-may_offer c =
    let a = c.args in offered_not (name_of a.name) (state_of a.store.now) (sym c.may_offer.ensures ∙ c.if-not-may_offer.true)

pub returns : goal.returns
returns c =
    let a = c.args in c.extended.ensures ∙ offered_then (name_of a.name) (state_of a.store.now) (sym c.may_offer.ensures ∙ c.if-not-may_offer.false)
