-- What is needed to vote on statements in an order of places. Assumes nothing.
use Rattle.std.specs.Prelude.{ℕ, ◌+◌, ◌*◌, ◌<◌, ◌≤◌, List, length}
use Rattle.rules.specs.Limits.{most_statements_large}
use Rattle.store.specs.Layout.{statement_table, count_of}
use Rattle.orders.specs.Orders.{place_at}
use Rattle.acts.specs.Works.{Formed}

-- the first places of the order are those of stored statements, and the out buffer has room from a place on
pub record Listed (b order : List ℕ) (count at room : ℕ) : Type 0 where
  pub formed : Formed b
  pub few : count ≤ most_statements_large
  pub long : count ≤ length order
  pub inside : (j : ℕ) → j < count → place_at order j < count_of statement_table b
  pub space : at + 160 * count ≤ room
