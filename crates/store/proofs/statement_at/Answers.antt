-- `statement_at` meets its contract: each field is the number at its place of the record. Assumes nothing.
use Rattle.wire.specs.Meaning.{statement_of}
use Rattle.store.specs.Decode.{statement_at}
use Rattle.store.proofs.statement_at.Goals as goal

pub returns : goal.returns
unfolding statement_of statement_at
returns c =
    rw (c.get-kind.ensures.0, c.get_four-view.ensures, c.get_four-height.ensures, c.get_name-name.ensures.0, c.get_name-link.ensures.0, c.get_two-mask.ensures, c.get-author.ensures.0)
