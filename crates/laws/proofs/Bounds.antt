-- What holds of the limits in both columns: the bounds that fields and buffers are made for. Assumes nothing.
use Prim.Native.Nat.{◌*◌, ◌+◌, ◌≤◌}
use lib.Dec.{lit≤}
use Rattle.rules.specs.Limits.{Size, small, large, last_view, most_statements, most_tallies, least_out, last_view_large, most_statements_large, most_tallies_large}

pub views_most : (z : Size) → last_view z ≤ last_view_large
unfolding last_view
views_most small = lit≤ tt
views_most large = lit≤ tt

pub views_some : (z : Size) → 1 ≤ last_view z
unfolding last_view
views_some small = lit≤ tt
views_some large = lit≤ tt

pub statements_most : (z : Size) → most_statements z ≤ most_statements_large
unfolding most_statements
statements_most small = lit≤ tt
statements_most large = lit≤ tt

pub tallies_most : (z : Size) → most_tallies z ≤ most_tallies_large
unfolding most_tallies
tallies_most small = lit≤ tt
tallies_most large = lit≤ tt

-- a tick's largest output fits the out buffer
pub out_enough : (z : Size) → 62 + 160 * most_statements z ≤ least_out z
unfolding most_statements least_out
out_enough small = lit≤ tt
out_enough large = lit≤ tt

pub statements_some : (z : Size) → 2 ≤ most_statements z
unfolding most_statements
statements_some small = lit≤ tt
statements_some large = lit≤ tt

pub out_least : (z : Size) → 200 ≤ least_out z
unfolding least_out
out_least small = lit≤ tt
out_least large = lit≤ tt
