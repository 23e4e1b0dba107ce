-- `lines::read` meets its contract: by the first word. Assumes nothing.
use Rattle.text.proofs.Runs.{word_none}
use Rattle.lines.proofs.Replies.{nothing_blank, nothing_bad, nothing_log, nothing_state, nothing_display, unchanged, reads_as, line_blank, line_means, means_of, meanings, means_other}
use Rattle.text.specs.Words.{bytes}
use Rattle.lines.specs.Script.{orders}
use mathlib.Core.Path.{refl, ◌∙◌}
use native.Mathlib.Omega.{arith}
use Rattle.lines.proofs.read.Goals as goal

pub returns-then-start-at : goal.returns-then-start-at
returns-then-start-at c =
    unchanged _ _ _ _ (nothing_blank _ (line_blank _ (word_none c.word-first.ensures c.if-start-at.true))) refl

pub returns-in-1 : goal.returns-in-1
unfolding bytes means_of meanings orders
returns-in-1 c =
    reads_as _ _ _ _ _ (line_means c.word-first.ensures c.if-start-at.false c.which-order.ensures _ c.in-1.is) c.spoken.ensures

pub returns-in-2 : goal.returns-in-2
unfolding bytes means_of meanings orders
returns-in-2 c =
    reads_as _ _ _ _ _ (line_means c.word-first.ensures c.if-start-at.false c.which-order.ensures _ c.in-2.is) c.spoken-in-2.ensures

pub returns-in-3 : goal.returns-in-3
unfolding bytes means_of meanings orders
returns-in-3 c =
    reads_as _ _ _ _ _ (line_means c.word-first.ensures c.if-start-at.false c.which-order.ensures _ c.in-3.is) c.spoken-in-3.ensures

pub returns-in-4 : goal.returns-in-4
unfolding bytes means_of meanings orders
returns-in-4 c =
    reads_as _ _ _ _ _ (line_means c.word-first.ensures c.if-start-at.false c.which-order.ensures _ c.in-4.is) c.spoken-in-4.ensures

pub returns-in-5 : goal.returns-in-5
unfolding bytes means_of meanings orders
returns-in-5 c =
    reads_as _ _ _ _ _ (line_means c.word-first.ensures c.if-start-at.false c.which-order.ensures _ c.in-5.is) c.spoken-in-5.ensures

pub returns-in-6 : goal.returns-in-6
unfolding bytes means_of meanings orders
returns-in-6 c =
    reads_as _ _ _ _ _ (line_means c.word-first.ensures c.if-start-at.false c.which-order.ensures _ c.in-6.is) c.spoken-in-6.ensures

pub returns-in-7 : goal.returns-in-7
unfolding bytes means_of meanings orders
returns-in-7 c =
    unchanged _ _ _ _ c.fresh.ensures (line_means c.word-first.ensures c.if-start-at.false c.which-order.ensures _ c.in-7.is)

pub returns-in-8 : goal.returns-in-8
unfolding bytes means_of meanings orders
returns-in-8 c =
    unchanged _ _ _ _ c.tick.ensures (line_means c.word-first.ensures c.if-start-at.false c.which-order.ensures _ c.in-8.is)

pub returns-in-9 : goal.returns-in-9
unfolding bytes means_of meanings orders
returns-in-9 c =
    reads_as _ _ _ _ _ (line_means c.word-first.ensures c.if-start-at.false c.which-order.ensures _ c.in-9.is) c.hexed.ensures

pub returns-in-10 : goal.returns-in-10
unfolding bytes means_of meanings orders
returns-in-10 c =
    reads_as _ _ _ _ _ (line_means c.word-first.ensures c.if-start-at.false c.which-order.ensures _ c.in-10.is) c.hexed-in-10.ensures

pub returns-in-11 : goal.returns-in-11
unfolding bytes means_of meanings orders
returns-in-11 c =
    unchanged _ _ _ _ (c.alone.ensures _ (nothing_log _ refl)) (line_means c.word-first.ensures c.if-start-at.false c.which-order.ensures _ c.in-11.is)

pub returns-in-12 : goal.returns-in-12
unfolding bytes means_of meanings orders
returns-in-12 c =
    unchanged _ _ _ _ (c.alone-in-12.ensures _ (nothing_state _ refl)) (line_means c.word-first.ensures c.if-start-at.false c.which-order.ensures _ c.in-12.is)

pub returns-in-13 : goal.returns-in-13
unfolding bytes means_of meanings orders
returns-in-13 c =
    unchanged _ _ _ _ (c.alone-in-13.ensures _ (nothing_display _ refl)) (line_means c.word-first.ensures c.if-start-at.false c.which-order.ensures _ c.in-13.is)

pub returns-in-14 : goal.returns-in-14
unfolding bytes means_of meanings orders
returns-in-14 c =
    reads_as _ _ _ _ _ (line_means c.word-first.ensures c.if-start-at.false c.which-order.ensures _ c.in-14.is) c.hexed-in-14.ensures

pub returns-in-15 : goal.returns-in-15
unfolding bytes means_of meanings orders
returns-in-15 c =
    reads_as _ _ _ _ _ (line_means c.word-first.ensures c.if-start-at.false c.which-order.ensures _ c.in-15.is) c.chosen.ensures

pub returns-in-16 : goal.returns-in-16
unfolding bytes means_of meanings orders
returns-in-16 c =
    reads_as _ _ _ _ _ (line_means c.word-first.ensures c.if-start-at.false c.which-order.ensures _ c.in-16.is) c.slip.ensures

pub returns-in-17 : goal.returns-in-17
unfolding bytes means_of meanings orders
returns-in-17 c =
    reads_as _ _ _ _ _ (line_means c.word-first.ensures c.if-start-at.false c.which-order.ensures _ c.in-17.is) c.certified.ensures

pub returns-in_default : goal.returns-in_default
unfolding bytes
returns-in_default c =
    unchanged _ _ _ _
    (nothing_bad _ _ (line_means c.word-first.ensures c.if-start-at.false c.which-order.ensures _ refl ∙ means_other _ _ (λ l h. omega arith)))
    refl
