-- The tallies of a statement, test by test. Assumes nothing.
use mathlib.Core.Path.{◌≡◌, sym, ap, subst, ◌∙◌}
use lib.Dec.{eqb}
use mathlib.Core.Bool.{true, false}
use mathlib.Core.List.{List}
use borrow.Author.Tests.{ne_eqb}
use Rattle.rules.specs.Lists.{any}
use Rattle.rules.specs.Words as words
use Rattle.rules.specs.Words.{own_block, certificate, of_block}
use Rattle.rules.specs.WellFormed.{tallies_there}
use Rattle.laws.proofs.Tests.{and_left}

pub there_own : (ts : List words.Tally) (x : words.Statement) → tallies_there ts x ≡ true → any (of_block (own_block x 0)) ts ≡ true
unfolding tallies_there
there_own ts x e = and_left (any (of_block (own_block x 0)) ts) _ e

module _ (ts : List words.Tally) (x : words.Statement) (u : words.Certificate) (r : u ≡ own_block x 0) where
  pub there_missing : any (of_block u) ts ≡ false → tallies_there ts x ≡ false
  unfolding tallies_there
  there_missing e = let own : any (of_block (own_block x 0)) ts ≡ false = subst (λ (c : words.Certificate). any (of_block c) ts ≡ false) r e in rw own

  module _ (t : words.Certificate) (q : t ≡ certificate x) (e : any (of_block u) ts ≡ true) where
    pub there_genesis : t.view ≡ 0 → tallies_there ts x ≡ true
    unfolding tallies_there
    there_genesis z =
        let own : any (of_block (own_block x 0)) ts ≡ true = subst (λ (c : words.Certificate). any (of_block c) ts ≡ true) r e in
        let first : (certificate x).view ≡ 0 = ap (λ (c : words.Certificate). c.view) (sym q) ∙ z in
        rw (own, first)

    pub there_both : (t.view ≡ 0 → ⊥) → tallies_there ts x ≡ any (of_block t) ts
    unfolding tallies_there
    there_both d =
        let own : any (of_block (own_block x 0)) ts ≡ true = subst (λ (c : words.Certificate). any (of_block c) ts ≡ true) r e in
        let later : eqb (certificate x).view 0 ≡ false = ne_eqb _ _ (subst (λ (c : words.Certificate). c.view ≡ 0 → ⊥) q d) in
        rw (own, later, q)
