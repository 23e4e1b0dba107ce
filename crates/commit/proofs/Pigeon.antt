-- A whole chain is no longer than the table of statements. Assumes nothing.
use Prim.Native.Nat.{ℕ, zero, suc, ◌+◌, ◌-◌, ◌<◌, ◌≤◌}
use mathlib.Core.Path.{◌≡◌, refl, sym, ap, ◌∙◌}
use mathlib.Core.Bool.{Bool, true, false, not, ◌&&◌}
use mathlib.Core.List.{List, [], ◌∷◌}
use mathlib.Core.Option.{Option, none, some}
use native.Mathlib.Omega.{arith}
use native.Mathlib.Decide.{dec_lt}
use lib.Dec.{eqb, leb}
use lib.ListN.{length}
use borrow.Author.Tests.{eqb-true, leb-true, leb-false, lt-leb}
use Rattle.rules.specs.Lists.{first}
use Rattle.rules.specs.Words.{Statement}
use Rattle.rules.specs.Inputs.{is_block, chain_to, chain}
use Rattle.laws.proofs.Tests.{by_option, no_some}
use Rattle.store.specs.Decode.{rows}
use Rattle.store.proofs.Rows.{rows_length}

one : Bool → ℕ
one true = 1
one false = 0

one_le : (b : Bool) → one b ≤ 1
unfolding one
one_le true = omega arith
one_le false = omega arith

grows : (h k : ℕ) (a b : Bool) → leb h k ≡ a → leb h (suc k) ≡ b → one a ≤ one b
unfolding one
grows h k false b e f = omega arith
grows h k true true e f = omega arith
grows h k true false e f = absurd (omega (arith, leb-true h k e, leb-false h (suc k) f))

jumps : (h k : ℕ) (a b : Bool) → leb h k ≡ a → leb h (suc k) ≡ b → suc k ≡ h → one a + 1 ≤ one b
unfolding one
jumps h k true b e f z = absurd (omega (arith, leb-true h k e))
jumps h k false true e f z = omega arith
jumps h k false false e f z = absurd (omega (arith, leb-false h (suc k) f))

-- how many statements are no higher than k
pub up_to : ℕ → List Statement → ℕ
up_to k [] = 0
up_to k (x ∷ xs) = one (leb x.height k) + up_to k xs

pub up_to_all : (k : ℕ) (xs : List Statement) → up_to k xs ≤ length xs
unfolding up_to
up_to_all k [] = omega arith
up_to_all k (x ∷ xs) = omega (arith, one_le (leb x.height k), up_to_all k xs)

up_to_mono : (k : ℕ) (xs : List Statement) → up_to k xs ≤ up_to (suc k) xs
unfolding up_to
up_to_mono k [] = omega arith
up_to_mono k (x ∷ xs) = omega (arith, grows x.height k (leb x.height k) (leb x.height (suc k)) refl refl, up_to_mono k xs)

middle : (a b c : Bool) → (a && b && c) ≡ true → b ≡ true
middle true true c e = refl
middle true false c e = e
middle false true c e = refl
middle false false c e = e

height_of_lem : (k b : ℕ) (x : Statement) → is_block k b x ≡ true → k ≡ x.height
unfolding is_block
height_of_lem k b x e = eqb-true k x.height (middle (not x.is_new_view) (eqb k x.height) (eqb b x.name) e)

found_up : (k b : ℕ) (xs : List Statement) (y : Statement) → first (is_block (suc k) b) xs ≡ some y → up_to k xs + 1 ≤ up_to (suc k) xs
unfolding first up_to
found_up k b [] y e = no_some e
found_up k b (x ∷ xs) y e = go (is_block (suc k) b x) refl (found_up k b xs y)
  where
    go : (t : Bool) → is_block (suc k) b x ≡ t → (first (is_block (suc k) b) xs ≡ some y → up_to k xs + 1 ≤ up_to (suc k) xs) → up_to k (x ∷ xs) + 1 ≤ up_to (suc k) (x ∷ xs)
    go true q ih = omega (arith, jumps x.height k (leb x.height k) (leb x.height (suc k)) refl refl (height_of_lem (suc k) b x q), up_to_mono k xs)
    go false q ih = omega (arith, grows x.height k (leb x.height k) (leb x.height (suc k)) refl refl, ih (sym (rw (q, first) refl) ∙ e))

pub chain_up : (xs : List Statement) (k b : ℕ) (d c : List ℕ) → chain_to xs k b d ≡ some c → k ≤ up_to k xs
unfolding chain_to
chain_up xs zero b d c e = omega arith
chain_up xs (suc k) b d c e = go (first (is_block (suc k) b) xs) refl (λ x. chain_up xs k x.link (b ∷ d) c)
  where
    go : (o : Option Statement) → first (is_block (suc k) b) xs ≡ o → ((x : Statement) → chain_to xs k x.link (b ∷ d) ≡ some c → k ≤ up_to k xs) → suc k ≤ up_to (suc k) xs
    go none q ih = no_some (sym (rw (q, chain_to) refl) ∙ e)
    go (some x) q ih = omega (arith, found_up k b xs x q, ih x (sym (rw (q, chain_to) refl) ∙ e))

-- a statement higher than k is not among them
not_counted : (f : ℕ → Statement) (k i j n : ℕ) → j ≤ i → i < j + n → k < (f i).height → up_to k (rows f j n) < n
unfolding rows up_to one
not_counted f k i j zero a b h = absurd (omega arith)
not_counted f k i j (suc n) a b h =
    elim (dec_lt j i) [
      | yes l ↦ omega (arith, one_le (leb (f j).height k), not_counted f k i (suc j) n l (omega arith) h)
      | no l ↦
          (let e : j ≡ i = omega arith in
          let z : one (leb (f j).height k) ≡ 0 = ap (λ (x : ℕ). one (leb (f x).height k)) e ∙ ap one (lt-leb _ _ h) in
          omega (arith, z, up_to_all k (rows f (suc j) n), rows_length f (suc j) n))
    ]

-- so a block higher than all of them are many has no whole chain
pub too_high : (f : ℕ → Statement) (n i : ℕ) → i < n → n < (f i).height → chain (rows f 0 n) (f i) ≡ none
unfolding chain
too_high f n i l h =
    by_option (chain (rows f 0 n) (f i)) (λ e. e)
    (λ c e.
    absurd (omega (arith, chain_up (rows f 0 n) ((f i).height - 1) (f i).link _ c e, not_counted f ((f i).height - 1) i 0 n (omega arith) (omega arith) (omega arith))))
