-- One commit from a chain, and the commits in turn. Assumes nothing.
use Prim.Native.Nat.{ℕ, ◌+◌, ◌<◌, ◌≤◌}
use mathlib.Core.Path.{◌≡◌, sym, ap, ◌∙◌}
use mathlib.Core.List.{List, ◌∷◌}
use mathlib.Core.Option.{Option, none, some}
use lib.ListN.{length, get_or, drop}
use Rattle.rules.specs.Words.{Statement}
use Rattle.rules.specs.Inputs.{chain, merge, commit, commits}
use Rattle.plain_words.specs.Places.{firsts, Within}
use Rattle.plain_words.proofs.Firsts.{firsts_next, firsts_done}
use Rattle.plain_statements.specs.Meaning.{held_of}
use Rattle.plain_statements.specs.declared.Held.{Held}
use Rattle.plain_tables.specs.Meaning.{names, room}
use Rattle.plain_chains.specs.Meaning.{maybe_of, Gives}
use Rattle.plain_tables.specs.declared.Names.{Names}
use Rattle.std.specs.Prelude as code
use Rattle.std.specs.Prelude.{Some, None}

pub gives_nothing : {m : code.Option Names} {o : Option (List ℕ)} → m ≡ None → none ≡ o → Gives m o
gives_nothing e q = record { within = rw e tt; is = ap maybe_of e ∙ q }

module _ {m : code.Option Names} {o : Option (List ℕ)} (g : Gives m o) where
  pub gives_none : m ≡ None → o ≡ none
  gives_none e = sym g.is ∙ ap maybe_of e

  module _ (t : Names) (e : m ≡ Some t) where
    pub gives_some : o ≡ some (names t)
    gives_some = sym g.is ∙ ap maybe_of e

    pub gives_within : Within room t.items t.count
    gives_within = rw e at g.within

module _ (xs : List Statement) where
  pub commit_passed : (x : Statement) (l : List ℕ) → chain xs x ≡ none → commit xs x l ≡ some l
  unfolding commit
  commit_passed x l e = rw (e, commit)

  pub commit_joins : (x : Statement) (a l : List ℕ) → chain xs x ≡ some a → commit xs x l ≡ merge a l
  unfolding commit
  commit_joins x a l e = rw (e, commit)

  none_next : (x : Statement) (ds : List Statement) (l : List ℕ) → commit xs x l ≡ none → commits xs (x ∷ ds) l ≡ none
  unfolding commits
  none_next x ds l e = rw (e, commits)

  some_next : (x : Statement) (ds : List Statement) (l l' : List ℕ) → commit xs x l ≡ some l' → commits xs (x ∷ ds) l ≡ commits xs ds l'
  unfolding commits
  some_next x ds l l' e = rw (e, commits)

  module _ (items : List Held) (n : ℕ) where
    pub commits_end : (i : ℕ) (l : List ℕ) → n ≤ i → commits xs (drop i (firsts held_of items n)) l ≡ some l
    unfolding commits
    commits_end i l h = rw (firsts_done held_of items n i h)

    module _ (d : Held) (i : ℕ) (l : List ℕ) (k : n ≤ length items) (h : i < n) where
      pub commits_differ : commit xs (held_of (get_or items i d)) l ≡ none → commits xs (drop i (firsts held_of items n)) l ≡ none
      commits_differ e = ap (λ (ds : List Statement). commits xs ds l) (firsts_next held_of d items n i k h) ∙ none_next _ _ l e

      pub commits_go : (l' : List ℕ) → commit xs (held_of (get_or items i d)) l ≡ some l' → commits xs (drop i (firsts held_of items n)) l ≡ commits xs (drop (i + 1) (firsts held_of items n)) l'
      commits_go l' e = ap (λ (ds : List Statement). commits xs ds l) (firsts_next held_of d items n i k h) ∙ some_next _ _ l l' e
