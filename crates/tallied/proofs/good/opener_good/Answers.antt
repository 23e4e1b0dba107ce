-- `tallied::good::opener_good` meets its contract. Assumes nothing.
use native.Mathlib.Omega.{arith}
use Rattle.tallied.proofs.Parts.{opener_none, opener_other, opener_some}
use Rattle.tallied.proofs.good.opener_good.Goals as goal

pub returns-in_default : goal.returns-in_default
returns-in_default c =
    let a = c.args in opener_none a.settings a.mask a.opener c.in_default.is

pub returns-then-settings-author : goal.returns-then-settings-author
returns-then-settings-author c =
    let a = c.args in opener_other a.settings a.mask a.opener _ _ c.in-Some.is c.from-author.ensures c.if-settings-author.true

pub holds-requires : goal.holds-requires
holds-requires c = omega (arith, c.if-settings-author.false, c.requires)

pub returns : goal.returns
returns c =
    let a = c.args in opener_some a.settings a.mask a.opener _ _ c.in-Some.is c.from-author.ensures c.if-settings-author.false (rw c.from.ensures at c.holds.ensures)
