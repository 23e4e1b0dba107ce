-- `Tally::grown` meets its contract: the mask and the clock alone change. Assumes nothing.
use mathlib.Core.Path.{ap, ◌∙◌}
use Rattle.rules.specs.Words.{reached_at, grown}
use Rattle.fields.specs.Names.{name_of}
use Rattle.tallies.specs.Values.{told}
use Rattle.tallies.specs.Meaning.{tally_of, moment_of}
use Rattle.tallies.proofs.Tally.grown.Goals as goal

pub returns : goal.returns
unfolding tally_of grown
returns c =
    let a = c.args in
    let t = a.self in
    let voters = c.joined-voters.ensures in
    let since = c.reached-reached.ensures ∙ ap (reached_at (moment_of a.moment) (told t.reached)) voters in
    λ i. record { view = t.block.view; height = t.block.height; name = name_of t.block.name; mask = voters i; opener = told t.opener; reached = since i }
