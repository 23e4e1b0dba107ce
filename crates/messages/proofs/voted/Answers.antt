-- `messages::voted` meets its contract: refused where its author is used up, else counted. Assumes nothing.
use Rattle.words.specs.Meaning.{block_of}
use Rattle.messages.proofs.Handling.{vote_refused, vote_counted}
use Rattle.messages.proofs.voted.Goals as goal

pub returns-then-used_up : goal.returns-then-used_up
returns-then-used_up c =
    let used = c.used_up in
    let found = c.find_certificate-place in
    vote_refused c.requires.0 (block_of c.args.block) c.requires.1 c.args.author found.result found.ensures used.ensures c.if-used_up.true c.answer.ensures

pub counted-requires : goal.counted-requires
counted-requires c =
    (c.requires.0, c.find_certificate-place.ensures, c.requires.2, c.requires.3)

pub returns : goal.returns
returns c =
    let used = c.used_up in
    let found = c.find_certificate-place in
    vote_counted c.requires.0 (block_of c.args.block) c.requires.1 c.args.author found.result found.ensures used.ensures c.if-used_up.false c.counted.ensures
