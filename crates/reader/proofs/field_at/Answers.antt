-- `reader::field_at` meets its contract: by the kind, by the field's head, and the first field has the kind. Assumes nothing.
use mathlib.Core.Path.{sym, ◌∙◌}
use native.Mathlib.Omega.{arith}
use Rattle.reader.specs.Places.{place_of}
use Rattle.wire.proofs.Reading.{width_most, moved_not, head_room, kind_room, moved_past, moved_first, moved_on}
use mathlib.Core.Path.{ap}
use mathlib.Core.Bool.{not}
use Rattle.reader.proofs.field_at.Goals as goal

pub returns-then-not-has : goal.returns-then-not-has
unfolding place_of
returns-then-not-has c =
    let a = c.args in
    moved_not a.s.now a.tag (place_of a.cursor) (sym c.has.ensures ∙ c.if-not-has.true)

pub stands-requires : goal.stands-requires
stands-requires c = rw c.width_of-width.ensures (width_most c.args.tag)

pub returns-then-not-stands : goal.returns-then-not-stands
unfolding place_of
returns-then-not-stands c =
    let a = c.args in
    moved_past a.s.now a.tag (place_of a.cursor) c.has.ensures (ap not c.if-not-has.false) c.width_of-width.ensures c.stands.ensures (ap not c.if-not-stands.true)

pub overflow_add-next : goal.overflow_add-next
unfolding place_of
overflow_add-next c =
    let a = c.args in
    omega (arith, head_room a.s.now a.tag (place_of a.cursor) c.has.ensures (ap not c.if-not-has.false) c.width_of-width.ensures c.stands.ensures (ap not c.if-not-stands.false))

pub overflow_add-next-2 : goal.overflow_add-next-2
unfolding place_of
overflow_add-next-2 c =
    let a = c.args in
    omega (arith, head_room a.s.now a.tag (place_of a.cursor) c.has.ensures (ap not c.if-not-has.false) c.width_of-width.ensures c.stands.ensures (ap not c.if-not-stands.false))

pub overflow_add-result-then-tag-eq1 : goal.overflow_add-result-then-tag-eq1
unfolding place_of
overflow_add-result-then-tag-eq1 c =
    let if1 = c.if-not-has in let width_of_lem = c.width_of-width in
    let a = c.args in
    omega (arith, head_room a.s.now a.tag (place_of a.cursor) c.has.ensures (ap not if1.false) width_of_lem.ensures c.stands.ensures (ap not c.if-not-stands.false))

pub bounds-s-at : goal.bounds-s-at
unfolding place_of
bounds-s-at c =
    let if1 = c.if-not-has in let width_of_lem = c.width_of-width in let stands = c.stands in
    let a = c.args in
    kind_room a.s.now a.tag (place_of a.cursor) c.has.ensures (ap not if1.false) width_of_lem.ensures stands.ensures (ap not c.if-not-stands.false) c.if-tag-eq1.true

pub returns-then-tag-eq1 : goal.returns-then-tag-eq1
unfolding place_of
returns-then-tag-eq1 c =
    let if1 = c.if-not-has in let width_of_lem = c.width_of-width in let stands = c.stands in
    let a = c.args in
    moved_first a.s.now a.tag (place_of a.cursor) c.has.ensures (ap not if1.false) width_of_lem.ensures stands.ensures (ap not c.if-not-stands.false) c.if-tag-eq1.true

pub returns : goal.returns
unfolding place_of
returns c =
    let a = c.args in
    moved_on a.s.now a.tag (place_of a.cursor) c.has.ensures (ap not c.if-not-has.false) c.width_of-width.ensures c.stands.ensures (ap not c.if-not-stands.false) c.if-tag-eq1.false
