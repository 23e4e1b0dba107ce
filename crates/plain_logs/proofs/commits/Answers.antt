-- `plain_logs::commits` meets its contract: the due ones of the station, in turn. Assumes nothing.
use mathlib.Core.Path.{ap, ◌∙◌}
use mathlib.Core.List.{List}
use native.Mathlib.Omega.{arith}
use Rattle.rules.specs.Words.{Statement}
use Rattle.rules.specs.Inputs as inputs
use Rattle.laws.proofs.Allowed.{sizes}
use Rattle.settings.specs.Made.{settings_of}
use Rattle.plain_statements.specs.Meaning.{statements}
use Rattle.plain_tables.specs.Meaning.{names, state}
use Rattle.plain_logs.proofs.Saying.{due_parts}
use Rattle.plain_logs.proofs.commits.Goals as goal

pub overflow_mul-wait : goal.overflow_mul-wait
overflow_mul-wait c = omega (arith, (sizes (settings_of c.args.e.settings) c.requires.0.good).mostD)

pub overflow_add-wait : goal.overflow_add-wait
overflow_add-wait c = omega (arith, (sizes (settings_of c.args.e.settings) c.requires.0.good).mostD)

pub commits-requires : goal.commits-requires
commits-requires c = (c.requires.0.statements, c.requires.1, c.due-due.ensures.within, c.requires.0.log)

pub returns : goal.returns
unfolding state
returns c =
    let e = c.args.e in
    record {
      within = c.commits.ensures.within;
      is =
          c.commits.ensures.is
          ∙ ap (λ (ds : List Statement). inputs.commits (statements e.statements) ds (names e.log)) (c.due-due.ensures.is ∙ due_parts e);
    }
