-- `plain_turns::used_up` meets its contract. Assumes nothing.
use mathlib.Core.Path.{sym, ap, ap₂, ◌∙◌}
use Prim.Native.Nat.{ℕ}
use mathlib.Core.Bool.{Bool, not, ◌&&◌}
use lib.Dec.{leb}
use Rattle.rules.specs.Limits.{most_opened}
use Rattle.rules.specs.Refusals as refusals
use Rattle.wire.specs.Meaning.{message_of}
use Rattle.wire.specs.declared.Message.{Message}
use Rattle.plain_words.specs.Meaning.{certificate_of}
use Rattle.plain_tables.specs.Meaning.{state}
use Rattle.plain_turns.proofs.Laws.{others_free}
use Rattle.plain_turns.proofs.used_up.Goals as goal

pub returns-in_default : goal.returns-in_default
returns-in_default c = others_free c.args.message (state c.args.e) (λ v h n a q. c.in_default.not-Vote v h n a q)

pub returns : goal.returns
unfolding message_of refusals.used_up certificate_of state
returns c =
    let a = c.args in
    ap₂ (λ (o : Bool) (n : ℕ). not o && leb most_opened n) c.any_of.ensures c.opened_by.ensures ∙ ap (λ (m : Message). refusals.used_up (message_of m) (state a.e)) (sym c.in-Vote.is)
