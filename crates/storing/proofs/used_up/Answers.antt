-- `storing::used_up` meets its contract. Assumes nothing.
use mathlib.Core.Path.{sym, ap, ◌∙◌}
use lib.Dec.{leb}
use Rattle.rules.specs.Limits.{most_opened}
use Rattle.store.specs.Decode.{tallies}
use Rattle.std.specs.Prelude.{ℕ, Option}
use Rattle.storing.specs.Records.{used_by}
use Rattle.storing.proofs.used_up.Goals as goal

pub returns-in-Some : goal.returns-in-Some
unfolding used_by
returns-in-Some c =
    let a = c.args in
    sym (ap (λ (r : Option ℕ). used_by r a.author (tallies a.store.now)) c.in-Some.is)

pub returns-in-None : goal.returns-in-None
unfolding used_by
returns-in-None c =
    let a = c.args in
    ap (leb most_opened) c.opened_by.ensures ∙ sym (ap (λ (r : Option ℕ). used_by r a.author (tallies a.store.now)) c.in-None.is)
