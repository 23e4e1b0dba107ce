-- `put_block` meets its contract: view, height and name are put one after the other. Assumes nothing.
use Rattle.records.proofs.put_block.Goals as goal

pub returns : goal.returns
returns c =
    rw (c.put_name.ensures, c.put-2.ensures, c.put.ensures)
