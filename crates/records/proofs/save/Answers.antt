-- `save` meets its contract: the fields are put in the order of the format. Assumes nothing.
use Rattle.words.specs.Meaning.{block_of}
use Rattle.store.specs.Meaning.{header_of}
use native.Mathlib.Omega.{arith}
use Rattle.records.proofs.save.Goals as goal

pub put-requires-3 : goal.put-requires-3
put-requires-3 c = omega (arith, c.requires, c.put-2.auto.s, c.put_settings.auto.store, c.put.auto.s)

pub put-requires-4 : goal.put-requires-4
put-requires-4 c =
    omega (arith, c.requires, c.put-3.auto.s, c.put-2.auto.s, c.put_settings.auto.store, c.put.auto.s)

pub put_certificate-requires : goal.put_certificate-requires
put_certificate-requires c =
    omega (arith, c.requires, c.put-4.auto.s, c.put-3.auto.s, c.put-2.auto.s, c.put_settings.auto.store, c.put.auto.s)

pub put_counts-requires : goal.put_counts-requires
put_counts-requires c =
    omega (arith, c.requires, c.put_certificate.auto.store, c.put-4.auto.s, c.put-3.auto.s, c.put-2.auto.s, c.put_settings.auto.store, c.put.auto.s)

pub shape_of-store : goal.shape_of-store
shape_of-store c =
    omega (arith, c.put_counts.auto.store, c.put_certificate.auto.store, c.put-4.auto.s, c.put-3.auto.s, c.put-2.auto.s, c.put_settings.auto.store, c.put.auto.s)

pub returns : goal.returns
unfolding header_of block_of
returns c =
    rw (c.put_counts.ensures, c.put_certificate.ensures, c.put-4.ensures, c.put-3.ensures, c.put-2.ensures, c.put_settings.ensures, c.put.ensures, c.phase_number.ensures)
