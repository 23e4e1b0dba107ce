-- `backed::certified_block` meets its contract. Assumes nothing.
use Rattle.backed.proofs.Keys.{certified_keyed}
use Rattle.chains.specs.Chains.{stir_words}
use Prim.Native.Nat.{ℕ}
use mathlib.Core.Path.{ap, ◌∙◌}
use Rattle.backed.proofs.certified_block.Goals as goal

pub returns : goal.returns
returns c =
    let a = c.args in
    let at = c.certified_at-at in
    record {
      keyed = certified_keyed a.store.now c.type_inv.store a.i _ c.certified_key-key.ensures _ at.ensures.0;
      fits = at.ensures.1;
      mixes = c.with_words-mixed.ensures ∙ ap (λ (m : ℕ). stir_words a.store.now m at.result 4) c.stirred.ensures;
    }
