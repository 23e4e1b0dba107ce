-- `plain_blames::overdue` meets its contract: the definition, part by part. Assumes nothing.
use native.Mathlib.Omega.{arith}
use Rattle.laws.proofs.Allowed.{sizes}
use Rattle.settings.specs.Made.{settings_of}
use Rattle.plain_acts.proofs.Laws.{own_small}
use Rattle.plain_blames.proofs.Laws.{few_votes, overdue_parts}
use Rattle.plain_blames.proofs.overdue.Goals as goal

pub holds-blamed-requires : goal.holds-blamed-requires
holds-blamed-requires c = omega (arith, own_small c.args.e c.requires.0)

pub patience-most-requires : goal.patience-most-requires
patience-most-requires c = (few_votes _ c.args.e.statements c.requires.0.statements c.votes-voted.ensures, (sizes (settings_of c.args.e.settings) c.requires.0.good).mostD)

pub returns : goal.returns
returns c =
    let args = c.args in let is-in = c.is_in-inside in
    let blames-of = c.blames_of-mask in let holds = c.holds-blamed in
    overdue_parts args.e is-in.ensures blames-of.ensures holds.ensures c.votes-voted.ensures c.patience-most.ensures c.since-ago.ensures
