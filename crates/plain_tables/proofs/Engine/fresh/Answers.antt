-- `plain_tables::Engine::fresh` meets its contract. Assumes nothing.
use Rattle.plain_tables.proofs.Laws.{fresh_is}
use Rattle.plain_tables.proofs.Engine.fresh.Goals as goal

pub returns : goal.returns
returns c =
    let a = c.args in let k = c.requires in
    record {
      sized = record { statements = c.none.ensures.within; tallies = c.none-2.ensures.within; log = c.none-3.ensures.within; small = k.0; good = k.1 };
      is = fresh_is a.settings c.genesis.result c.none.result c.none-2.result c.none-3.result k.0 c.genesis.ensures c.none.ensures.is c.none-2.ensures.is c.none-3.ensures.is;
    }
