-- A block's name as one number. Assumes nothing.
use Rattle.std.specs.Prelude.{ℕ, ◌+◌, ◌*◌, ◌^◌}
use Rattle.fields.specs.declared.Name.{Name}

-- the number of the 32 bytes of a name, the first word the highest
unfoldable pub name_of : Name → ℕ
name_of n = ((n.first * 2 ^ 64 + n.second) * 2 ^ 64 + n.third) * 2 ^ 64 + n.fourth
