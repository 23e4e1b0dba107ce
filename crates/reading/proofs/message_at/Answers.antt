-- `reading::message_at` meets its contract: by the place, then by the kind. Assumes nothing.
use mathlib.Core.Path.{refl}
use native.Mathlib.Omega.{arith}
use Rattle.rules.specs.Lists.{any, keep}
use Rattle.rules.specs.Messages.{width, tags_of, row_of, table}
use Rattle.wire.specs.Fields.{has}
use Rattle.wire.specs.Meaning.{read_of}
use Rattle.reader.specs.Places.{place_of}
use Rattle.wire.proofs.Reading.{ended_made, ended_not, made_none, no_row, whole}
use Rattle.reading.proofs.message_at.Goals as goal

pub returns-then-cursor-s : goal.returns-then-cursor-s
unfolding read_of place_of
returns-then-cursor-s c = ended_not c.args.s.now _ c.if-cursor-s.true

pub new_view-requires : goal.new_view-requires
unfolding place_of keep has any width tags_of row_of table
new_view-requires c = omega (arith, whole c.args.s.now (place_of c.args.cursor) 1 c.requires c.if-cursor-s.false c.in-1.is)

pub propose-requires : goal.propose-requires
unfolding place_of keep has any width tags_of row_of table
propose-requires c = omega (arith, whole c.args.s.now (place_of c.args.cursor) 2 c.requires c.if-cursor-s.false c.in-2.is)

pub vote-requires : goal.vote-requires
unfolding place_of keep has any width tags_of row_of table
vote-requires c = omega (arith, whole c.args.s.now (place_of c.args.cursor) 3 c.requires c.if-cursor-s.false c.in-3.is)

pub blame-requires : goal.blame-requires
unfolding place_of keep has any width tags_of row_of table
blame-requires c = omega (arith, whole c.args.s.now (place_of c.args.cursor) 4 c.requires c.if-cursor-s.false c.in-4.is)

pub blame_set-requires : goal.blame_set-requires
unfolding place_of keep has any width tags_of row_of table
blame_set-requires c = omega (arith, whole c.args.s.now (place_of c.args.cursor) 5 c.requires c.if-cursor-s.false c.in-5.is)

pub status-requires : goal.status-requires
unfolding place_of keep has any width tags_of row_of table
status-requires c = omega (arith, whole c.args.s.now (place_of c.args.cursor) 6 c.requires c.if-cursor-s.false c.in-6.is)

pub returns-in-1 : goal.returns-in-1
unfolding place_of
returns-in-1 c = ended_made c.args.s.now (place_of c.args.cursor) 1 c.if-cursor-s.false c.in-1.is c.new_view.ensures

pub returns-in-2 : goal.returns-in-2
unfolding place_of
returns-in-2 c = ended_made c.args.s.now (place_of c.args.cursor) 2 c.if-cursor-s.false c.in-2.is c.propose.ensures

pub returns-in-3 : goal.returns-in-3
unfolding place_of
returns-in-3 c = ended_made c.args.s.now (place_of c.args.cursor) 3 c.if-cursor-s.false c.in-3.is c.vote.ensures

pub returns-in-4 : goal.returns-in-4
unfolding place_of
returns-in-4 c = ended_made c.args.s.now (place_of c.args.cursor) 4 c.if-cursor-s.false c.in-4.is c.blame.ensures

pub returns-in-5 : goal.returns-in-5
unfolding place_of
returns-in-5 c = ended_made c.args.s.now (place_of c.args.cursor) 5 c.if-cursor-s.false c.in-5.is c.blame_set.ensures

pub returns-in-6 : goal.returns-in-6
unfolding place_of
returns-in-6 c = ended_made c.args.s.now (place_of c.args.cursor) 6 c.if-cursor-s.false c.in-6.is c.status.ensures

pub returns-in_default : goal.returns-in_default
unfolding read_of place_of
returns-in_default c =
    let k = c.args.cursor.kind in
    let r = c.in_default.in_default-own.rest in
    let none_row = no_row k r.0.0.0.0.0.1 r.0.0.0.0.1 r.0.0.0.1 r.0.0.1 r.0.1 r.1 in
    ended_made c.args.s.now (place_of c.args.cursor) k c.if-cursor-s.false refl (made_none c.args.s.now k none_row)
