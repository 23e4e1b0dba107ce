-- `plain_messages::statement` meets its contract. Assumes nothing.
use mathlib.Core.Path.{sym, ap, ◌∙◌}
use native.Mathlib.Omega.{arith}
use mathlib.Core.Option.{none}
use Rattle.rules.specs.Words.{message, conflict}
use Rattle.wire.specs.Meaning.{statement_of}
use Rattle.plain_statements.specs.Meaning.{held_of, found_of}
use Rattle.plain_tables.specs.Meaning.{state}
use Rattle.plain_messages.proofs.Laws.{certifies, links, few_statements_lem, few_tallies_lem, found_linked, stored_room, repeated, elsewhere, against, alone}
use Rattle.plain_messages.proofs.statement.Goals as goal

pub certificate_joined-engine-requires : goal.certificate_joined-engine-requires
certificate_joined-engine-requires c =
    let a = c.args in
    let k = c.requires.0 in
    (k.sized, omega (arith, few_tallies_lem a.e k), certifies (state a.e).settings (statement_of a.x none) c.requires.1)

pub returns-then-any_same : goal.returns-then-any_same
returns-then-any_same c =
    let a = c.args in
    let k = c.requires.0 in
    repeated (statement_of a.x none) a.e _ a.at (sym c.any_same.ensures ∙ c.if-any_same.true) c.certificate_joined-engine.ensures

pub stored-now-requires : goal.stored-now-requires
stored-now-requires c =
    let a = c.args in
    let k = c.requires.0 in
    (k.sized, omega (arith, few_statements_lem a.e k), omega (arith, few_tallies_lem a.e k), certifies (state a.e).settings (statement_of a.x none) c.requires.1)

pub returns-then-not-is_in : goal.returns-then-not-is_in
unfolding statement_of
returns-then-not-is_in c =
    let a = c.args in let pre = c.requires in
    let any_same = c.any_same in let if1 = c.if-any_same in
    let k = pre.0 in
    elsewhere (statement_of a.x none) a.e _ a.at (sym any_same.ensures ∙ if1.false) (sym c.is_in.ensures ∙ c.if-not-is_in.true) c.stored-now.ensures

pub both-next-requires : goal.both-next-requires
both-next-requires c =
    let a = c.args in let pre = c.requires in
    let first-conflict = c.first_conflict in let k = pre.0 in
    (found_linked a.e k (conflict (statement_of a.x none)) c.in-Some.held (ap found_of (sym c.in-Some.is) ∙ first-conflict.ensures), links (state a.e).settings a.x pre.1, pre.2)

pub voting-requires : goal.voting-requires
voting-requires c =
    let a = c.args in let pre = c.requires in
    let stored = c.stored-now in
    let k = pre.0 in
    (stored.ensures.sized, stored_room a.e k (statement_of a.x none) stored.result stored.ensures, certifies (state a.e).settings (statement_of a.x none) pre.1, links (state a.e).settings a.x pre.1, pre.2)

pub returns-in-Some : goal.returns-in-Some
unfolding statement_of held_of message
returns-in-Some c =
    let a = c.args in
    let pre = c.requires in let any_same = c.any_same in
    let if1 = c.if-any_same in
    let stored = c.stored-now in
    let is-in = c.is_in in
    let if2 = c.if-not-is_in in
    let first-conflict = c.first_conflict in
    let quit = c.quit-engine in
    let k = pre.0 in
    against (statement_of a.x none) a.e _ a.at (sym any_same.ensures ∙ if1.false) (sym is-in.ensures ∙ if2.false) stored.result stored.ensures (held_of c.in-Some.held) (ap found_of (sym c.in-Some.is) ∙ first-conflict.ensures) quit.ensures c.both-next.ensures

pub returns-in-None : goal.returns-in-None
unfolding statement_of
returns-in-None c =
    let a = c.args in let pre = c.requires in
    let any_same = c.any_same in
    let if1 = c.if-any_same in
    let stored = c.stored-now in
    let is-in = c.is_in in let if2 = c.if-not-is_in in
    let first-conflict = c.first_conflict in let k = pre.0 in
    alone (statement_of a.x none) a.e _ a.at (sym any_same.ensures ∙ if1.false) (sym is-in.ensures ∙ if2.false) stored.result stored.ensures (ap found_of (sym c.in-None.is) ∙ first-conflict.ensures) c.voting.ensures
