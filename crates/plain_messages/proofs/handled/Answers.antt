-- `plain_messages::handled` meets its contract. Assumes nothing.
use Prim.Native.Nat.{ℕ, ◌<◌}
use mathlib.Core.Bool.{true}
use mathlib.Core.Path.{◌≡◌, refl, sym, ap, ◌∙◌}
use native.Mathlib.Omega.{arith}
use mathlib.Core.Option.{none, some}
use Rattle.rules.specs.Limits.{mask_bits}
use Rattle.rules.specs.Sizes.{only}
use Rattle.rules.specs.Messages.{vote, blame, blame_set, allowed}
use Rattle.rules.specs.Inputs as inputs
use Rattle.rules.specs.Words as words
use Rattle.laws.proofs.Allowed.{allowed_rights}
use Rattle.fields.specs.Names.{name_of}
use Rattle.wire.specs.Meaning.{message_of}
use Rattle.fields.specs.declared.Name.{Name}
use Rattle.wire.specs.declared.Message.{Message}
use Rattle.wire.specs.declared.Message.TheVariants.{Vote, Blame}
use Rattle.plain_words.specs.Meaning.{certificate_of}
use Rattle.plain_tables.specs.Meaning.{state}
use Rattle.plain_tables.specs.declared.Engine.{Engine}
use Rattle.plain_messages.specs.Whole.{Whole}
use Rattle.plain_messages.proofs.Laws.{few_tallies_lem, view_small, author_small, voter_certificate, told, stated_worked, tallied_worked, blamed_worked}
use Rattle.plain_messages.proofs.handled.Goals as goal

pub statement-requires : goal.statement-requires
unfolding message_of
statement-requires c =
    let a = c.args in
    let k = c.requires.0 in
    (k, ap (λ (z : Message). allowed (state a.e).settings (message_of z)) (sym c.in-Stated.is) ∙ c.requires.1, c.requires.2)

-- whoever votes is a station
voter_small : (e : Engine) (m : Message) (view height : ℕ) (name : Name) (author : ℕ) → Whole e → allowed (state e).settings (message_of m) ≡ true → m ≡ Vote view height name author → author < mask_bits
unfolding message_of
voter_small e m view height name author whole may is =
    author_small e whole author (allowed_rights (state e).settings (vote view height (name_of name) author) (ap (λ (z : Message). allowed (state e).settings (message_of z)) (sym is) ∙ may)).2

pub mask_of-mask-requires : goal.mask_of-mask-requires
mask_of-mask-requires c =
    rw c.from.ensures (voter_small c.args.e c.args.message c.in-Vote.view c.in-Vote.height c.in-Vote.name c.in-Vote.author c.requires.0 c.requires.1 c.in-Vote.is)

pub tallied-engine-requires : goal.tallied-engine-requires
tallied-engine-requires c =
    let a = c.args in
    let k = c.requires.0 in
    (k.sized, omega (arith, few_tallies_lem a.e k))

-- and so is whoever blames
blamer_small : (e : Engine) (m : Message) (view author : ℕ) → Whole e → allowed (state e).settings (message_of m) ≡ true → m ≡ Blame view author → author < mask_bits
unfolding message_of
blamer_small e m view author whole may is =
    author_small e whole author (allowed_rights (state e).settings (blame view author) (ap (λ (z : Message). allowed (state e).settings (message_of z)) (sym is) ∙ may)).1

pub mask_of-requires : goal.mask_of-requires
mask_of-requires c =
    rw c.from-in-Blame.ensures (blamer_small c.args.e c.args.message c.in-Blame.view c.in-Blame.author c.requires.0 c.requires.1 c.in-Blame.is)

pub blaming-requires : goal.blaming-requires
unfolding message_of
blaming-requires c =
    let a = c.args in let pre = c.requires in let k = pre.0 in
    (k.sized, view_small a.e k c.in-Blame.view (allowed_rights (state a.e).settings (blame c.in-Blame.view c.in-Blame.author) (ap (λ (z : Message). allowed (state a.e).settings (message_of z)) (sym c.in-Blame.is) ∙ pre.1)).0, pre.2)

pub blaming-requires-in-BlameSet : goal.blaming-requires-in-BlameSet
unfolding message_of
blaming-requires-in-BlameSet c =
    let a = c.args in let pre = c.requires in let k = pre.0 in
    (k.sized, view_small a.e k c.in-BlameSet.view (allowed_rights (state a.e).settings (blame_set c.in-BlameSet.view c.in-BlameSet.mask) (ap (λ (z : Message). allowed (state a.e).settings (message_of z)) (sym c.in-BlameSet.is) ∙ pre.1)).0, pre.2)

pub tallied-engine-requires-in-Status : goal.tallied-engine-requires-in-Status
tallied-engine-requires-in-Status c =
    let a = c.args in
    let k = c.requires.0 in
    (k.sized, omega (arith, few_tallies_lem a.e k))

pub returns-in-Stated : goal.returns-in-Stated
returns-in-Stated c =
    let a = c.args in
    let k = c.requires.0 in
    told a.e _ a.at c.in-Stated.is (stated_worked a.e _ a.at c.in-Stated.x c.statement.ensures)

pub returns-in-Vote : goal.returns-in-Vote
unfolding message_of inputs.handled
returns-in-Vote c =
    let a = c.args in
    told a.e _ a.at c.in-Vote.is
    (tallied_worked a.e _ a.at (some c.in-Vote.author) _ _ (voter_certificate c.in-Vote.view c.in-Vote.height c.in-Vote.name c.in-Vote.author (c.mask_of-mask.ensures ∙ ap only c.from.ensures)) c.tallied-engine.ensures)

pub returns-in-Blame : goal.returns-in-Blame
unfolding message_of inputs.handled
returns-in-Blame c =
    let a = c.args in let pre = c.requires in
    let mask-of2 = c.mask_of in
    let k = pre.0 in
    told a.e _ a.at c.in-Blame.is (blamed_worked a.e _ a.at c.in-Blame.view (mask-of2.ensures ∙ ap only c.from-in-Blame.ensures) c.blaming.ensures)

pub returns-in-BlameSet : goal.returns-in-BlameSet
unfolding message_of inputs.handled
returns-in-BlameSet c =
    let a = c.args in
    let k = c.requires.0 in
    told a.e _ a.at c.in-BlameSet.is c.blaming-in-BlameSet.ensures

pub returns-in-Status : goal.returns-in-Status
unfolding message_of inputs.handled certificate_of
returns-in-Status c =
    let a = c.args in
    let t : words.Certificate = record { view = c.in-Status.cert; height = c.in-Status.height; name = name_of c.in-Status.name; mask = c.in-Status.mask } in
    told a.e _ a.at c.in-Status.is (tallied_worked a.e _ a.at none t t refl c.tallied-engine-in-Status.ensures)
