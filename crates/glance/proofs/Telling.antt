-- The block that the check told of at a height of the log. Assumes nothing.
use Prim.Native.Nat.{ℕ, suc, ◌+◌}
use mathlib.Core.Path.{◌≡◌, refl, sym, ap, ◌∙◌}
use mathlib.Core.Bool.{Bool, true, false}
use mathlib.Core.List.{List}
use native.Mathlib.Numerals.{add-one}
use lib.Dec.{eqb}
use borrow.Author.Tests.{eqb-true}
use Rattle.rules.specs.Inputs.{is_block}
use Rattle.laws.proofs.Searches.{first_any}
use Rattle.store.specs.Decode.{nth, statement_at, statements, name_at}
use Rattle.linked.specs.Told.{Told}
use Rattle.glance.specs.Looks.{Tells}
use Rattle.glance.proofs.Readers.{block_propose, block_height, block_name}

module _ {b t : List ℕ} (told : Told b t) (k p : ℕ) (e : nth t k ≡ suc p) where
  its_block : is_block (k + 1) (name_at b k) (statement_at b p) ≡ true
  its_block = (first_any (is_block (k + 1) (name_at b k)) (statements b) (statement_at b p) (told.settles k p e).is_first).1

  pub told_propose : (statement_at b p).is_new_view ≡ false
  told_propose = block_propose (k + 1) (name_at b k) (statement_at b p) its_block

  pub told_height : k + 1 ≡ (statement_at b p).height
  told_height = block_height (k + 1) (name_at b k) (statement_at b p) its_block

  pub told_name : name_at b k ≡ (statement_at b p).name
  told_name = block_name (k + 1) (name_at b k) (statement_at b p) its_block

-- ---- what is read of the table

pub tells_read : (t : List ℕ) (i : ℕ) {k k' p : ℕ} → k ≡ k' → p ≡ nth t k → Tells t k' i (eqb p (i + 1))
tells_read t i {k} {k'} {p} e q = go (eqb p (i + 1)) refl
  where
    go : (r : Bool) → eqb p (i + 1) ≡ r → Tells t k' i r
    go true z = sym (q ∙ ap (nth t) e) ∙ eqb-true p (i + 1) z ∙ add-one i
    go false z = tt
