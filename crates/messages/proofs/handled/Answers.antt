-- `messages::handled` meets its contract: by the kind of the message. Assumes nothing.
use native.Mathlib.Omega.{arith}
use Rattle.wire.specs.Meaning.{message_of}
use Rattle.words.specs.Meaning.{block_of}
use Rattle.store.specs.Decode.{state_of}
use Rattle.stops.proofs.Answers.{answers_is}
use Rattle.messages.proofs.Handling.{stated_handled, vote_handled, status_handled, blame_handled, set_handled, stated_sendable, vote_author, blame_author, set_mask}
use Rattle.kept.proofs.Facts.{clocks_of}
use Rattle.acts.proofs.Works.{formed_parts}
use Rattle.messages.proofs.handled.Goals as goal

pub stated-requires : goal.stated-requires
unfolding message_of
stated-requires c =
    let p = c.requires in (p.0, stated_sendable p.0 p.1 c.in-Stated.is, p.2)

pub voted-requires : goal.voted-requires
unfolding block_of
voted-requires c =
    let p = c.requires in
    let t = vote_author p.0 p.1 c.in-Vote.is in
    (p.0.form, t.0, omega (arith, t.1), (clocks_of (formed_parts p.0).formed).last)

pub voter-mask-requires : goal.voter-mask-requires
voter-mask-requires c =
    let p = c.requires in (blame_author p.0 p.1 c.in-Blame.is).1

pub blamed-requires : goal.blamed-requires
blamed-requires c =
    let p = c.requires in
    let t = blame_author p.0 p.1 c.in-Blame.is in
    (p.0, t.0, rw c.voter-mask.ensures t.2, p.2)

pub blamed-requires-in-BlameSet : goal.blamed-requires-in-BlameSet
blamed-requires-in-BlameSet c =
    let p = c.requires in
    let t = set_mask p.0 p.1 c.in-BlameSet.is in
    (p.0, t.0, t.1, p.2)

pub counted-requires : goal.counted-requires
counted-requires c =
    let p = c.requires in
    (p.0.form, c.find_certificate-place.ensures, tt, (clocks_of (formed_parts p.0).formed).last)

pub returns-in-Stated : goal.returns-in-Stated
returns-in-Stated c =
    let args = c.args in
    let stated = c.stated in
    answers_is (stated_handled (state_of args.store.now) c.in-Stated.is) stated.ensures

pub returns-in-Vote : goal.returns-in-Vote
returns-in-Vote c =
    let a = c.args in
    answers_is (vote_handled (state_of a.store.now) c.in-Vote.is) (c.voted.ensures a.out.now)

pub returns-in-Blame : goal.returns-in-Blame
returns-in-Blame c =
    let args = c.args in
    let voter = c.voter-mask in let blamed = c.blamed in
    answers_is (blame_handled (state_of args.store.now) c.in-Blame.is voter.ensures) blamed.ensures

pub returns-in-BlameSet : goal.returns-in-BlameSet
returns-in-BlameSet c =
    let args = c.args in
    let blamed2 = c.blamed-in-BlameSet in
    answers_is (set_handled (state_of args.store.now) c.in-BlameSet.is) blamed2.ensures

pub returns-in-Status : goal.returns-in-Status
returns-in-Status c =
    let a = c.args in
    answers_is (status_handled (state_of a.store.now) c.in-Status.is) (c.counted.ensures a.out.now)
