-- `chains::stirred` meets its contract. Assumes nothing.
use Rattle.std.proofs.Common.{ℕ, ◌+◌, ◌*◌, ◌/◌, ◌%◌, ◌^◌, ap, ◌∙◌, arith}
use Rattle.chains.specs.Chains.{stir}
use Rattle.chains.proofs.Mixes.{halves_fit}
use Rattle.chains.proofs.stirred.Goals as goal

pub overflow_mul-product : goal.overflow_mul-product
overflow_mul-product c = record { fits = halves_fit c.wrapping_add_u64-sum.result (omega (arith, c.wrapping_add_u64-sum.ensures.value)) }

pub returns : goal.returns
unfolding stir
returns c =
    c.wrapping_add_u64.ensures.value
    ∙ ap (λ (s : ℕ). (c.args.mix + s % 2 ^ 32 * (s / 2 ^ 32)) % 2 ^ 64) c.wrapping_add_u64-sum.ensures.value
