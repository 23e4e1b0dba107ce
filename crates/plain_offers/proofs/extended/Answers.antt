-- `plain_offers::extended` meets its contract. Assumes nothing.
use lib.Dec.{ltb}
use Rattle.rules.specs.Limits.{last_height}
use mathlib.Core.Path.{◌≡◌, sym, ap, ◌∙◌}
use native.Mathlib.Omega.{arith}
use mathlib.Core.Option.{none, some}
use borrow.Author.Tests.{ltb-true}
use Rattle.rules.specs.Sizes.{quorum}
use Rattle.rules.specs.Messages as messages
use Rattle.rules.specs.Words.{message}
use Rattle.rules.specs.Words as words
use Rattle.laws.proofs.Tests.{and_right}
use Rattle.fields.specs.Names.{name_of}
use Rattle.settings.specs.Made.{settings_of}
use Rattle.wire.specs.Meaning.{statement_of, message_of}
use Rattle.plain_tallies.specs.Meaning.{tallies}
use Rattle.plain_tables.specs.Meaning.{state}
use Rattle.plain_acts.proofs.Laws.{own_small}
use Rattle.plain_offers.proofs.Laws.{extension_made, extension_none, extendable_is, above_is}
use Rattle.plain_offers.proofs.extended.Goals as goal

pub overflow_cast-result : goal.overflow_cast-result
overflow_cast-result c =
    record { fits = omega (arith, own_small c.args.e c.requires) }

pub overflow_add-result : goal.overflow_add-result
overflow_add-result c =
    let h = c.args.x.height in
    omega (arith, ltb-true h last_height (and_right c.quorum-certified.result (ltb h last_height) c.if-certified-x.true))

-- the voters are those of the top's own block, and the tests are those of an extension
pub returns-then-certified-x : goal.returns-then-certified-x
unfolding message_of message statement_of state
returns-then-certified-x c =
    let a = c.args in
    let x = statement_of a.x none in
    let held : c.voters-mask.result ≡ words.voters (words.own_block x 0) (state a.e).tallies = c.voters-mask.ensures ∙ ap (λ (t : words.Certificate). words.voters t (tallies a.e.tallies)) c.own_block.ensures in
    let extends = extendable_is x (name_of a.name) (state a.e) c.voters-mask.result held c.quorum-certified.result (c.quorum-certified.ensures ∙ ap (quorum (settings_of a.e.settings)) c.from.ensures) in
    ap (λ (m : messages.Message). some m) (above_is x (name_of a.name) (state a.e) c.voters-mask.result held)
    ∙ extension_made x (name_of a.name) (state a.e) (sym extends ∙ c.if-certified-x.true)

pub returns : goal.returns
unfolding statement_of state
returns c =
    let a = c.args in
    let x = statement_of a.x none in
    let held : c.voters-mask.result ≡ words.voters (words.own_block x 0) (state a.e).tallies = c.voters-mask.ensures ∙ ap (λ (t : words.Certificate). words.voters t (tallies a.e.tallies)) c.own_block.ensures in
    let extends = extendable_is x (name_of a.name) (state a.e) c.voters-mask.result held c.quorum-certified.result (c.quorum-certified.ensures ∙ ap (quorum (settings_of a.e.settings)) c.from.ensures) in
    extension_none x (name_of a.name) (state a.e) (sym extends ∙ c.if-certified-x.false)
