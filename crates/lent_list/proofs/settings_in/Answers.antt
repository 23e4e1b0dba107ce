-- `lent_list::settings_in` meets its contract. Assumes nothing.
use native.Mathlib.Omega.{arith}
use mathlib.Core.Path.{refl}
use Rattle.lent_list.proofs.Lengths.{lengths}
use Rattle.lent_list.proofs.Made.{head_is}
use Rattle.lent_list.proofs.settings_in.Goals as goal

pub get-n-requires : goal.get-n-requires
get-n-requires c = omega (arith, (lengths c.args.list.now c.requires).0)

pub get-delay-requires : goal.get-delay-requires
get-delay-requires c = omega (arith, (lengths c.args.list.now c.requires).0)

pub get-own-requires : goal.get-own-requires
get-own-requires c = omega (arith, (lengths c.args.list.now c.requires).0)

pub returns : goal.returns
returns c =
    (head_is c.args.list.now c.get-n.ensures.0 c.get-delay.ensures.0 c.get-own.ensures.0, refl)
