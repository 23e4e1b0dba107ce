-- `lines::kinds::made` meets its contract: by the kind. Assumes nothing.
use Rattle.lines.specs.Kinds.{makes}
use Rattle.parts.proofs.Fields.{small_name}
use Rattle.fields.specs.Names.{name_of}
use Rattle.wire.specs.Meaning.{message_of}
use Rattle.laws.proofs.Tests.{no_bool}
use mathlib.Core.Path.{◌≡◌, sym, ap, ◌∙◌}
use native.Mathlib.Omega.{arith}
use Rattle.lines.proofs.kinds.made.Goals as goal

pub returns-in-NewView : goal.returns-in-NewView
unfolding makes message_of
returns-in-NewView c =
    let e : name_of c.small-link.result ≡ c.args.cert = ap name_of c.small-link.ensures ∙ small_name _ ∙ c.from.ensures in
    (rw (c.in-NewView.is, e), λ _. rw e (omega arith))

pub returns-in-Propose : goal.returns-in-Propose
unfolding makes message_of
returns-in-Propose c = (rw c.in-Propose.is, λ q. no_bool (sym q))

pub returns-in-Vote : goal.returns-in-Vote
unfolding makes message_of
returns-in-Vote c = (rw c.in-Vote.is, tt)

pub returns-in-Blame : goal.returns-in-Blame
unfolding makes message_of
returns-in-Blame c = (rw c.in-Blame.is, tt)

pub returns-in-BlameSet : goal.returns-in-BlameSet
unfolding makes message_of
returns-in-BlameSet c = (rw c.in-BlameSet.is, tt)

pub returns-in-Status : goal.returns-in-Status
unfolding makes message_of
returns-in-Status c = (rw c.in-Status.is, tt)
