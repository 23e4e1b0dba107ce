-- `heading::header_good` meets its contract. Assumes nothing.
use Rattle.store.specs.Meaning.{header_of}
use Rattle.store.specs.Decode.{state_from}
use Rattle.heading.proofs.header_good.Goals as goal

pub returns : goal.returns
unfolding state_from header_of
returns c =
    rw (c.settings_good.ensures, c.view_allowed.ensures, c.from.ensures, c.clocks_in_order.ensures, c.lock_good.ensures)
