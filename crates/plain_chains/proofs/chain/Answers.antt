-- Answers to the goals of `plain_chains::chain`. Assumes nothing.
use Prim.Native.Nat.{ℕ, ◌+◌, ◌-◌}
use mathlib.Core.Path.{◌≡◌, refl, sym, ap, ◌∙◌}
use native.Mathlib.Omega.{arith}
use lib.ListN.{length-set}
use Rattle.fields.specs.Names.{name_of}
use Rattle.rules.specs.Lists.{first}
use Rattle.rules.specs.Inputs.{is_block}
use Rattle.wire.specs.Meaning.{statement_of}
use Rattle.plain_statements.specs.Meaning.{held_of, found_of, statements}
use Rattle.plain_tables.specs.Meaning.{names}
use Rattle.plain_chains.proofs.Walks.{counted, too_high, chain_start, walk_end, walk_broken, walk_next}
use Rattle.plain_chains.proofs.Joins.{gives_nothing}
use Rattle.plain_chains.proofs.chain.Goals as goal

pub returns-then-top-ge-NAMES : goal.returns-then-top-ge-NAMES
unfolding held_of statement_of
returns-then-top-ge-NAMES c =
    record {
      within = tt;
      is = too_high (statements c.args.xs) (held_of c.args.x) (omega (arith, counted c.args.xs c.requires.0, c.requires.1, c.if-top-ge-NAMES.true, c.lower-top.ensures));
    }

pub loop-k-init : goal.loop-k-init
loop-k-init c =
    let w = c.none.ensures.within in
    record { long = length-set c.none.result.items _ _ ∙ w.long; fits = omega arith; below = omega arith; is = refl }

pub overflow_cast-k : goal.overflow_cast-k
overflow_cast-k c = record { fits = omega (arith, c.loop-k.invariant.below, c.loop-k.invariant.fits) }

pub overflow_add-k : goal.overflow_add-k
overflow_add-k c = omega (arith, c.loop-k.invariant.below, c.loop-k.invariant.fits)

pub returns-in_err-y : goal.returns-in_err-y
unfolding held_of statement_of
returns-in_err-y c =
    let a = c.args in let l = c.loop-k in let xs = statements a.xs in
    let e : l.k ≡ l.k - 1 + 1 = omega arith in
    gives_nothing c.from_residual.ensures
    (sym (chain_start xs (held_of a.x) c.none.result.items _ a.x.statement.name c.lower-top.ensures (omega (arith, c.none.ensures.within.long, c.if-top-ge-NAMES.false)) refl
    ∙ walk_broken l.invariant (omega arith) (ap (λ (h : ℕ). first (is_block h (name_of l.link)) xs) e ∙ sym c.first_block.ensures ∙ ap found_of c.in_err-y.was)))

pub loop-k-preserved : goal.loop-k-preserved
unfolding held_of statement_of
loop-k-preserved c =
    let a = c.args in let l = c.loop-k in let xs = statements a.xs in
    let e : l.k ≡ l.k - 1 + 1 = omega arith in
    walk_next l.invariant _ _ refl (omega arith) (ap (λ (h : ℕ). first (is_block h (name_of l.link)) xs) e ∙ sym c.first_block.ensures ∙ ap found_of c.in_ok-y.was)

pub returns : goal.returns
unfolding held_of statement_of names
returns c =
    let a = c.args in let w = c.loop-k.invariant in
    record {
      within = record { long = w.long; most = w.fits };
      is = sym (chain_start (statements a.xs) (held_of a.x) c.none.result.items _ a.x.statement.name c.lower-top.ensures (omega (arith, c.none.ensures.within.long, c.if-top-ge-NAMES.false)) refl ∙ walk_end w (omega arith));
    }
