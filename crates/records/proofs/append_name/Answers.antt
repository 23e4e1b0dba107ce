-- `append_name` meets its contract: a name is put behind the last, and counted. Assumes nothing.
use Rattle.fields.proofs.Names.{name_lt}
use Rattle.records.proofs.Changes.{add_name}
use Rattle.store.proofs.Forms.{form_long, behind_last}
use native.Mathlib.Omega.{arith}
use Rattle.records.proofs.append_name.Goals as goal

pub get_count-count-requires : goal.get_count-count-requires
get_count-count-requires c = omega (arith, form_long _ c.requires.0)

pub name_place-requires : goal.name_place-requires
name_place-requires c = behind_last _ c.requires c.get_count-count.ensures.0

pub put-requires : goal.put-requires
put-requires c = omega (arith, form_long _ c.requires.0)

pub returns : goal.returns
returns c =
    let good = c.well_formed in
    let pre = c.requires in
    let get-count = c.get_count-count in
    let name-place = c.name_place in let put-name = c.put_name in
    let n = good.1.0.1.1 in
    rw (c.put.ensures, put-name.ensures, name-place.ensures.0, get-count.ensures.0)
    (add_name _ pre.0 _ pre.1 (name_lt _ n.0.1 n.1.0.1 n.1.1.0.1 n.1.1.1.0.1))
