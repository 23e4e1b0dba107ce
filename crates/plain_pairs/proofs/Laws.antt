-- A pair that conflicts, as the loops meet it. Assumes nothing.
use Prim.Native.Nat.{ℕ, ◌+◌, ◌<◌, ◌≤◌}
use mathlib.Core.Path.{◌≡◌, refl, sym, ap, ◌∙◌}
use mathlib.Core.Bool.{Bool}
use mathlib.Core.List.{List, ◌∷◌}
use mathlib.Core.Option.{none, some}
use lib.ListN.{length, get_or, drop}
use Rattle.rules.specs.Lists.{first}
use Rattle.rules.specs.Words.{Statement, conflict, same_statement, against}
use Rattle.rules.specs.Inputs.{pair}
use Rattle.wire.specs.Meaning.{statement_of}
use Rattle.plain_words.specs.Places.{firsts}
use Rattle.plain_words.proofs.Firsts.{firsts_next, firsts_done}
use Rattle.plain_statements.specs.Meaning.{held_of}
use Rattle.plain_statements.specs.declared.Held.{Held}

-- no vote matters
conflict_own : (x : Held) → conflict (statement_of x.statement none) ≡ conflict (held_of x)
unfolding conflict same_statement against held_of statement_of
conflict_own x = refl

-- the pair, upward
two : (x y : Statement) (xs : List Statement) → first (conflict x) xs ≡ some y → pair (x ∷ xs) ≡ some (x, y)
unfolding pair
two x y xs e = rw (e, pair)

none_here : (x : Statement) (xs : List Statement) → first (conflict x) xs ≡ none → pair (x ∷ xs) ≡ pair xs
unfolding pair
none_here x xs e = rw (e, pair)

module _ (items : List Held) (n : ℕ) where
  pub pair_done : (i : ℕ) → n ≤ i → pair (drop i (firsts held_of items n)) ≡ none
  unfolding pair
  pair_done i h = rw (firsts_done held_of items n i h)

  module _ (d : Held) (i : ℕ) (l : n ≤ length items) (h : i < n) where
    pub pair_here : (y : Statement) → first (conflict (statement_of (get_or items i d).statement none)) (drop (i + 1) (firsts held_of items n)) ≡ some y
        → pair (drop i (firsts held_of items n)) ≡ some (held_of (get_or items i d), y)
    pair_here y e =
        ap pair (firsts_next held_of d items n i l h)
        ∙ two (held_of (get_or items i d)) y _ (ap (λ (p : Statement → Bool). first p (drop (i + 1) (firsts held_of items n))) (sym (conflict_own (get_or items i d))) ∙ e)

    pub pair_next : first (conflict (statement_of (get_or items i d).statement none)) (drop (i + 1) (firsts held_of items n)) ≡ none
        → pair (drop i (firsts held_of items n)) ≡ pair (drop (i + 1) (firsts held_of items n))
    pair_next e =
        ap pair (firsts_next held_of d items n i l h)
        ∙ none_here (held_of (get_or items i d)) _ (ap (λ (p : Statement → Bool). first p (drop (i + 1) (firsts held_of items n))) (sym (conflict_own (get_or items i d))) ∙ e)
