-- `backed::own_block` meets its contract. Assumes nothing.
use Rattle.backed.proofs.Keys.{own_keyed}
use Rattle.store.specs.Layout.{statement_table, place_of}
use Rattle.rules.specs.Limits.{small}
use Rattle.chains.proofs.Mixes.{words_alike}
use Rattle.chains.specs.Chains.{stir, stir_words}
use Rattle.fields.specs.Places.{number}
use Rattle.laws.proofs.Tests.{no_bool, and_left, and_right}
use native.Mathlib.Omega.{arith}
use borrow.Author.Tests.{eqb-true, leb-true}
use lib.Dec.{leb, eqb}
use Prim.Native.Nat.{ℕ, ◌+◌, ◌^◌, ◌≤◌}
use mathlib.Core.Bool.{◌&&◌}
use mathlib.Core.Path.{◌≡◌, sym, ap, ◌∙◌}
use Rattle.backed.proofs.own_block.Goals as goal

pub returns-then-same : goal.returns-then-same
returns-then-same c =
    let a = c.args in
    let b = a.store.now in
    let bytes = c.type_inv.store in
    let key = c.own_key-key.result in
    let at = place_of statement_table small a.i + 8 in
    let far = leb (2 ^ 32) key in
    let one = eqb key a.after.key in
    let later : 2 ^ 32 ≤ key = leb-true _ _ (and_left far one (and_left (far && one) c.same.result c.if-same.true)) in
    let keys : key ≡ a.after.key = eqb-true _ _ (and_right far one (and_left (far && one) c.same.result c.if-same.true)) in
    let names : number b at 32 ≡ number b a.after.at 32 = eqb-true _ _ (sym c.same.ensures ∙ and_right (far && one) c.same.result c.if-same.true) in
    let keyed = own_keyed b bytes a.i key c.own_key-key.ensures in
    let found = c.requires.4 in
    let more : 2 ^ 32 ≤ a.after.key = omega (arith, later, keys) in
    record {
      keyed = keyed;
      mixes = found.mixes more ∙ ap (λ (k : ℕ). stir_words b (stir a.salt k) a.after.at 4) (sym keys) ∙ sym (words_alike b bytes at a.after.at (stir a.salt key) 4 names);
      has = λ e. found.has more _ (record { key_is = sym keys ∙ keyed.key_is; name_is = sym names ∙ keyed.name_is; small = keyed.small });
    }

pub returns : goal.returns
returns c =
    let a = c.args in
    let b = a.store.now in
    record {
      keyed = own_keyed b c.type_inv.store a.i _ c.own_key-key.ensures;
      mixes = c.with_words-mixed.ensures ∙ ap (λ (m : ℕ). stir_words b m (place_of statement_table small a.i + 8) 4) c.stirred.ensures;
      has = λ e. no_bool (sym e);
    }
