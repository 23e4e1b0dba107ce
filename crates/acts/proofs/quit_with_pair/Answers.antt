-- `acts::quit_with_pair` meets its contract. Assumes nothing.
use Rattle.acts.proofs.Works.{pair_bytes, works_quit}
use Rattle.store.specs.Decode.{state_of}
use Rattle.wire.specs.Meaning.{statement_of, message_of}
use Rattle.rules.specs.Words.{message}
use Rattle.rules.specs.Messages.{to_all}
use mathlib.Core.Option.{none}
use mathlib.Core.List.{[], ◌∷◌}
use native.Mathlib.Omega.{arith}
use Rattle.acts.proofs.quit_with_pair.Goals as goal

pub send_both-requires : goal.send_both-requires
unfolding message_of
send_both-requires c =
    let args = c.args in let pre = c.requires in
    (pre.1, pre.2, omega (arith, pair_bytes (statement_of args.first none) (statement_of args.second none), pre.3))

pub returns : goal.returns
unfolding message_of
returns c =
    let args = c.args in let quit = c.quit in
    works_quit (state_of args.store.now) (to_all (message (statement_of args.first none)) ∷ to_all (message (statement_of args.second none)) ∷ []) quit.ensures c.send_both.ensures
