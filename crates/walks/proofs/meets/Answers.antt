-- `walks::meets` meets its contract. Assumes nothing.
use Prim.Native.Nat.{◌-◌}
use native.Mathlib.Omega.{arith}
use Rattle.fields.specs.Names.{name_of}
use Rattle.store.proofs.Forms.{form_long, form_log}
use Rattle.walks.proofs.Reaching.{told_at, meets_read}
use Rattle.walks.proofs.meets.Goals as goal

pub name_at-requires : goal.name_at-requires
name_at-requires c =
    (form_long _ c.requires.0, told_at c.requires.1 (c.args.k - 1) (omega (arith, c.if-place_in-eq0.false, c.place_in.ensures)) (λ p e. omega (arith, (c.requires.1.settles (c.args.k - 1) p e).logged, (form_log _ c.requires.0).0)))

pub returns : goal.returns
returns c =
    let args = c.args in
    meets_read args.store.now args.told.now args.k (name_of args.link) c.place_in.ensures c.if-place_in-eq0.false c.name_at.ensures _ c.eq.ensures
