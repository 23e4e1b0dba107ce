-- 01, 'Sizes of a group': settings and when they are good, the leader, the quorum, masks. Assumes nothing.
use Rattle.std.specs.Prelude.{ℕ, ◌/◌, ◌%◌, ◌^◌, Bool, ◌&&◌, ltb, eqb}
use Rattle.std.specs.Int.Bits.{bit_or}
use Rattle.std.specs.Int.Count.{ones_in}
use Rattle.rules.specs.Limits.{Size, least_stations, most_stations, least_delay, most_delay, mask_bits}
use Rattle.rules.specs.Lists.{within}

pub record Settings : Type 0 where
  -- "stations n = 2f+1"
  pub n : ℕ
  -- "D, delay bound in ticks"
  pub D : ℕ
  -- "own number"
  pub own : ℕ
  -- which limits the group goes by
  pub size : Size

-- "odd, 3 to 15"; "1 to 10,000"; "0 to n-1"
unfoldable pub good_settings : Settings → Bool
unfolding within
good_settings g =
    eqb (g.n % 2) 1 && within least_stations most_stations g.n && within least_delay most_delay g.D && ltb g.own g.n

-- "n = 2f+1"
abbrev pub faults : Settings → ℕ
faults g = g.n / 2

-- "the leader of view v is v mod n"
unfoldable pub leader : Settings → ℕ → ℕ
leader g v = v % g.n

-- "bit i is station i": the mask of one station, and whether a mask has it
unfoldable pub only : ℕ → ℕ
only i = 2 ^ i

abbrev pub bit : ℕ → ℕ → ℕ
bit m i = m / 2 ^ i % 2

unfoldable pub holds : ℕ → ℕ → Bool
holds m i = eqb (bit m i) 1

-- two masks joined: nobody is lost, nobody is counted twice
unfoldable pub joined : ℕ → ℕ → ℕ
joined m k = bit_or m k

-- how many stations a mask has
unfoldable pub count : ℕ → ℕ
unfolding ones_in
count m = ones_in mask_bits m

-- "a quorum is f+1 voters"
unfoldable pub quorum : Settings → ℕ → Bool
unfolding count
quorum g m = ltb (faults g) (count m)
