-- 01, 'Sizes of a group': every limit, and the only file of the definitions that has their digits. A limit of the large column is
-- nowhere below that of the small one: it is the room that code keeps for either. Assumes nothing.
use Rattle.std.specs.Prelude.{ℕ}

-- which of the two columns of limits a group goes by: 01's, or the larger one of 02's request 14
pub data Size : Type 0 where
  small large : Size

-- "stations n = 2f+1: odd, 3 to 15"
abbrev pub least_stations : ℕ
least_stations = 3

abbrev pub most_stations : ℕ
most_stations = 15

-- "D, delay bound in ticks: 1 to 10,000"
abbrev pub least_delay : ℕ
least_delay = 1

abbrev pub most_delay : ℕ
most_delay = 10_000

-- "views: 1 to 32"; 02: "raise views to 256"
abbrev pub first_view : ℕ
first_view = 1

abbrev pub last_view_small : ℕ
last_view_small = 32

abbrev pub last_view_large : ℕ
last_view_large = 256

unfoldable pub last_view : Size → ℕ
last_view small = last_view_small
last_view large = last_view_large

-- "heights: 0 to 65,535"
abbrev pub last_height : ℕ
last_height = 65_535

-- "stored statements: 128"; 02: "and statements to 512"
abbrev pub most_statements_small : ℕ
most_statements_small = 128

abbrev pub most_statements_large : ℕ
most_statements_large = 512

unfoldable pub most_statements : Size → ℕ
most_statements small = most_statements_small
most_statements large = most_statements_large

-- 02: "raise tallies to 512" (01 had 256); "tallies go to 1,024"
abbrev pub most_tallies_small : ℕ
most_tallies_small = 512

abbrev pub most_tallies_large : ℕ
most_tallies_large = 1_024

unfoldable pub most_tallies : Size → ℕ
most_tallies small = most_tallies_small
most_tallies large = most_tallies_large

-- 02: "let each author open at most 16 by vote messages"
abbrev pub most_opened : ℕ
most_opened = 16

-- "clock: 0 to 4,000,000,000"
abbrev pub last_clock : ℕ
last_clock = 4_000_000_000

-- "out buffer: at least 32,768 bytes"; 02: "to at least 131,072 bytes"
abbrev pub least_out_small : ℕ
least_out_small = 32_768

abbrev pub least_out_large : ℕ
least_out_large = 131_072

unfoldable pub least_out : Size → ℕ
least_out small = least_out_small
least_out large = least_out_large

-- "a mask is 16 bits"
abbrev pub mask_bits : ℕ
mask_bits = 16
