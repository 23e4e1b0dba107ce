-- `tallied::good::reached_good` meets its contract. Assumes nothing.
use Rattle.tallied.proofs.Parts.{reached_none, reached_some}
use lib.Dec.{leb}
use mathlib.Core.Bool.{Bool, ◌&&◌}
use mathlib.Core.Path.{sym, ap, ◌∙◌}
use Rattle.tallied.proofs.good.reached_good.Goals as goal

pub returns-in_default : goal.returns-in_default
returns-in_default c =
    let a = c.args in rw (c.quorum-certified.ensures, c.from.ensures) (reached_none a.settings a.clock a.mask a.reached c.in_default.is)

pub returns-then-not-certified : goal.returns-then-not-certified
returns-then-not-certified c =
    let a = c.args in
    ap (λ (x : Bool). x && leb c.in-Some.first a.clock) (sym c.if-not-certified.true ∙ (rw c.from.ensures at c.quorum-certified.ensures)) ∙ reached_some a.settings a.clock a.mask a.reached _ c.in-Some.is

pub returns : goal.returns
returns c =
    let a = c.args in
    ap (λ (x : Bool). x && leb c.in-Some.first a.clock) (sym c.if-not-certified.false ∙ (rw c.from.ensures at c.quorum-certified.ensures)) ∙ reached_some a.settings a.clock a.mask a.reached _ c.in-Some.is
