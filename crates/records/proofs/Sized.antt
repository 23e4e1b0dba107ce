-- The code's certificate and statement fit the fields of their records, since their parts have the fields' widths. Assumes nothing.
use Prim.Native.Nat.{◌<◌, ◌^◌}
use mathlib.Core.Bool.{Bool, true, false}
use mathlib.Core.Option.{none}
use native.Mathlib.Omega.{arith}
use Rattle.fields.specs.Names.{name_of}
use Rattle.fields.specs.Records.{Fit}
use Rattle.wire.specs.Meaning.{statement_of}
use Rattle.wire.specs.declared.Statement.{Statement}
use Rattle.store.specs.Layout.{statement_format, certificate_format}
use Rattle.store.specs.Decode.{kind_number, statement_values, certificate_values}
use Rattle.words.specs.Meaning.{block_of}
use Rattle.words.specs.declared.Certificate.{Certificate}

pub certificate_fits : (t : Certificate) → t.view < 2 ^ 32 → t.height < 2 ^ 32 → name_of t.name < 256 ^ 32 → t.mask < 2 ^ 16
    → Fit certificate_format (certificate_values (block_of t))
unfolding block_of
certificate_fits t v h n m = (v, (h, (n, (m, tt))))

kind_fits : (b : Bool) → kind_number b < 256
kind_fits true = omega arith
kind_fits false = omega arith

pub statement_fits : (x : Statement) → x.view < 2 ^ 32 → x.height < 2 ^ 32 → name_of x.name < 256 ^ 32 → name_of x.link < 256 ^ 32 → x.mask < 2 ^ 16
    → x.author < 2 ^ 8 → Fit statement_format (statement_values (statement_of x none))
unfolding statement_of
statement_fits x v h n l m a = (v, (h, (n, (kind_fits x.is_new_view, (a, (m, (l, (omega arith, tt))))))))
