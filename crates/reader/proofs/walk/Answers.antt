-- `reader::walk` meets its contract: each field of the message passed, one behind the other. Assumes nothing.
use Rattle.wire.specs.Fields.{walked}
use Rattle.reader.proofs.walk.Goals as goal

pub returns : goal.returns
unfolding walked
returns c =
    rw (c.field-8.ensures.1, c.field-7.ensures.0, c.field-7.ensures.1, c.field-6.ensures.0, c.field-6.ensures.1, c.field-5.ensures.0, c.field-5.ensures.1, c.field-4.ensures.0, c.field-4.ensures.1, c.field-3.ensures.0, c.field-3.ensures.1, c.field-2.ensures.0, c.field-2.ensures.1, c.field.ensures.0, c.field.ensures.1, c.new.ensures.0, c.new.ensures.1)
