-- `plain_offers::offered` meets its contract. Assumes nothing.
use mathlib.Core.Path.{sym, ap, ◌∙◌}
use Rattle.fields.specs.Names.{name_of}
use Rattle.plain_statements.specs.Meaning.{held_of, found_of}
use Rattle.plain_tables.specs.Meaning.{state}
use Rattle.plain_offers.proofs.Laws.{extension_held, offered_not, offered_topless, offered_top}
use Rattle.plain_offers.proofs.offered.Goals as goal

pub returns-then-not-may_offer : goal.returns-then-not-may_offer
returns-then-not-may_offer c =
    let a = c.args in
    offered_not (name_of a.name) (state a.e) (sym c.may_offer.ensures ∙ c.if-not-may_offer.true)

pub returns-in-None : goal.returns-in-None
unfolding state
returns-in-None c =
    let a = c.args in
    let may-offer = c.may_offer in
    let if1 = c.if-not-may_offer in
    offered_topless (name_of a.name) (state a.e) (sym may-offer.ensures ∙ if1.false) (ap found_of (sym c.in-None.is) ∙ c.top.ensures)

pub returns-in-Some : goal.returns-in-Some
unfolding state
returns-in-Some c =
    let a = c.args in
    let may-offer = c.may_offer in
    let if1 = c.if-not-may_offer in let top = c.top in let h = c.in-Some.held in
    c.extended.ensures ∙ extension_held h (name_of a.name) (state a.e)
    ∙ offered_top (name_of a.name) (state a.e) (sym may-offer.ensures ∙ if1.false) (held_of h) (ap found_of (sym c.in-Some.is) ∙ top.ensures)
