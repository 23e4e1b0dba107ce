-- `parts::sort_of` meets its contract: by its tag. Assumes nothing.
use Rattle.parts.proofs.Fields.{field_plain}
use Rattle.parts.specs.Fields.{Field, field_of, plain}
use mathlib.Core.Path.{sym, ap}
use Rattle.parts.proofs.sort_of.Goals as goal

pub returns-in-2 : goal.returns-in-2
unfolding field_of
returns-in-2 c = rw c.in-2.is

pub returns-in-3 : goal.returns-in-3
unfolding field_of
returns-in-3 c = rw c.in-3.is

pub returns-in-4 : goal.returns-in-4
unfolding field_of
returns-in-4 c = rw c.in-4.is

pub returns-in-5 : goal.returns-in-5
unfolding field_of
returns-in-5 c = rw c.in-5.is

pub returns-in-6 : goal.returns-in-6
unfolding field_of
returns-in-6 c = rw c.in-6.is

pub returns-in-7 : goal.returns-in-7
unfolding field_of
returns-in-7 c = rw c.in-7.is

pub returns-in-8 : goal.returns-in-8
unfolding field_of
returns-in-8 c = rw c.in-8.is

pub returns-in_default : goal.returns-in_default
unfolding plain
returns-in_default c =
    sym (ap (λ (x : Field). x.sort) (field_plain _ c.in_default.in_default-own.rest.0.0.0.0.0.0.1 c.in_default.in_default-own.rest.0.0.0.0.0.1 c.in_default.in_default-own.rest.0.0.0.0.1 c.in_default.in_default-own.rest.0.0.0.1 c.in_default.in_default-own.rest.0.0.1 c.in_default.in_default-own.rest.0.1 c.in_default.in_default-own.rest.1))
