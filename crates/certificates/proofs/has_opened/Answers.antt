-- `certificates::has_opened` meets its contract. Assumes nothing.
use Rattle.std.proofs.Common.{rules}
use Rattle.certificates.proofs.Openings.{opened_is}
use Rattle.certificates.proofs.has_opened.Goals as goal

pub returns : goal.returns
returns c =
    let a = c.args in opened_is a.store.now a.author a.i _ c.opener_at.ensures _ (search rules)
