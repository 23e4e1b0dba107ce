-- `lent_list::has_length` meets its contract. Assumes nothing.
use Rattle.lent_list.proofs.Lengths.{slots_counted, too_short, no_slots, slotless, most}
use Rattle.lent_list.proofs.has_length.Goals as goal

pub returns-then-size-lt-HEAD : goal.returns-then-size-lt-HEAD
returns-then-size-lt-HEAD c = too_short c.args.list.now c.if-size-lt-HEAD.true

pub returns-then-size-slots : goal.returns-then-size-slots
returns-then-size-slots c = no_slots c.args.list.now (slots_counted _) c.if-size-slots.true

pub returns-then-slots-eq0 : goal.returns-then-slots-eq0
returns-then-slots-eq0 c = slotless c.args.list.now (slots_counted _) c.if-slots-eq0.true

pub returns : goal.returns
returns c = most c.args.list.now (slots_counted _) c.if-size-slots.false c.if-slots-eq0.false
