-- `choose::choose` meets its contract: by whose part is taken. Assumes nothing.
use mathlib.Core.Path.{sym, ap, ◌∙◌}
use native.Mathlib.Omega.{arith}
use Rattle.choose.specs.Meaning.{number_of}
use Rattle.choose.proofs.Laws.{first_length, second_length, first_part, second_part, empty_part_lem}
use Rattle.choose.proofs.choose.Goals as goal

pub slice_bounds-result-count : goal.slice_bounds-result-count
slice_bounds-result-count c =
    let a = c.args in
    omega (arith, first_length a.kind a.n a.first.now a.second.now c.type_inv.first (sym (ap number_of c.in-First.is) ∙ c.taken.ensures))

pub slice_bounds-result-start : goal.slice_bounds-result-start
slice_bounds-result-start c =
    let a = c.args in
    omega (arith, first_length a.kind a.n a.first.now a.second.now c.type_inv.first (sym (ap number_of c.in-First.is) ∙ c.taken.ensures))

pub slice_bounds-result-count-in-Second : goal.slice_bounds-result-count-in-Second
slice_bounds-result-count-in-Second c =
    let a = c.args in
    omega (arith, second_length a.kind a.n a.first.now a.second.now c.type_inv.second (sym (ap number_of c.in-Second.is) ∙ c.taken.ensures))

pub slice_bounds-result-start-in-Second : goal.slice_bounds-result-start-in-Second
slice_bounds-result-start-in-Second c =
    let a = c.args in
    omega (arith, second_length a.kind a.n a.first.now a.second.now c.type_inv.second (sym (ap number_of c.in-Second.is) ∙ c.taken.ensures))

pub returns-in-First : goal.returns-in-First
returns-in-First c =
    let a = c.args in
    first_part a.kind a.n (a.first.ref_ptr, a.first.now) (a.second.ref_ptr, a.second.now) (sym (ap number_of c.in-First.is) ∙ c.taken.ensures)

pub returns-in-Second : goal.returns-in-Second
returns-in-Second c =
    let a = c.args in
    second_part a.kind a.n (a.first.ref_ptr, a.first.now) (a.second.ref_ptr, a.second.now) (sym (ap number_of c.in-Second.is) ∙ c.taken.ensures)

pub returns-in-Neither : goal.returns-in-Neither
returns-in-Neither c =
    let a = c.args in
    empty_part_lem a.kind a.n (a.first.ref_ptr, a.first.now) (a.second.ref_ptr, a.second.now) (sym (ap number_of c.in-Neither.is) ∙ c.taken.ensures)
