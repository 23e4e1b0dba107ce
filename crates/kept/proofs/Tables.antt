-- The rules that change the two tables keep a state formed: a certificate joined, a statement stored, a vote noted. Assumes nothing.
use mathlib.Core.Path.{◌≡◌, refl, ◌∙◌}
use Prim.Native.Nat.{ℕ, suc}
use mathlib.Core.Bool.{Bool, true, false, ◌&&◌, ◌||◌}
use mathlib.Core.Logic.{inl, inr}
use mathlib.Core.List.{List, [], ◌∷◌, ◌++◌}
use mathlib.Core.Option.{none}
use lib.Dec.{eqb}
use Rattle.rules.specs.Lists.{any, all, alter}
use Rattle.rules.specs.Sizes.{only}
use Rattle.rules.specs.Words.{Statement, message, same_statement, Certificate, Opener, Tally, Moment, of_block, own_block, certificate, join, join_certificate, State, moment}
use Rattle.rules.specs.Inputs.{with_tables, with_blames, with_log, noted, voted_for, certificate_joined, stored, is_block}
use Rattle.rules.specs.WellFormed.{statement_good, tallies_there, linked}
use Rattle.laws.proofs.Tests.{by_bool}
use Rattle.laws.proofs.Truths.{and_2, both, or_2, or_left, or_right}
use Rattle.laws.proofs.Searches.{any_alter}
use Rattle.laws.proofs.Statements.{same_sym}
use Rattle.laws.proofs.Allowed.{sizes, none_lt, only_lt}
use Rattle.kept.specs.Parts.{Tables, Formed}
use Rattle.kept.specs.Said.{Sendable}
use Rattle.kept.proofs.Lists.{all_last, all_weaken, all_alter, any_append, distinct_append, distinct_alter}
use Rattle.kept.proofs.Recorded.{recorded}
use Rattle.kept.proofs.Tallies.{Joinable, block_self, join_good, join_any, join_there, join_distinct, certificate_good, certificate_any, certificate_there, certificate_distinct}
use Rattle.kept.proofs.Openers.{MayOpen, nobody_may, join_few, certificate_few}
use Rattle.kept.proofs.Statements.{stated, own_good, new_good, noted_good, noted_left, noted_right, noted_there}

-- a block of that height and name above that parent
abbrev pub is_above : ℕ → ℕ → ℕ → Statement → Bool
is_above h b parent x = is_block h b x && eqb parent x.link

-- a log stays linked where every block found before is found now
linked_mono : (xs ys : List Statement) → ((h b parent : ℕ) → any (is_above h b parent) xs ≡ true → any (is_above h b parent) ys ≡ true) → (h parent : ℕ)
    (l : List ℕ) → linked xs h parent l ≡ true → linked ys h parent l ≡ true
unfolding linked
linked_mono xs ys f h parent [] e = refl
linked_mono xs ys f h parent (b ∷ l) e =
    let t = and_2 (any (is_above (suc h) b parent) xs) (linked xs (suc h) b l) e in
    both (f (suc h) b parent t.0) (linked_mono xs ys f (suc h) b l t.1)

noted_above : (c h b parent : ℕ) (x : Statement) → is_above h b parent (noted c x) ≡ is_above h b parent x
unfolding is_block noted
noted_above c h b parent x = refl

-- tallies that are there stay there
there_mono : (ts us : List Tally) → ((t : Certificate) → any (of_block t) ts ≡ true → any (of_block t) us ≡ true) → (x : Statement)
    → tallies_there ts x ≡ true → tallies_there us x ≡ true
unfolding tallies_there
there_mono ts us f x e =
    let o = eqb (certificate x).view 0 in
    let t = and_2 (any (of_block (own_block x 0)) ts) (o || any (of_block (certificate x)) ts) e in
    both (f (own_block x 0) t.0)
    (elim (or_2 o (any (of_block (certificate x)) ts) t.1) [ inl p ↦ or_left (any (of_block (certificate x)) us) p | inr p ↦ or_right o (f (certificate x) p) ])

opened_mono : (ts us : List Tally) → ((t : Certificate) → any (of_block t) ts ≡ true → any (of_block t) us ≡ true) → (xs : List Statement)
    → all (tallies_there ts) xs ≡ true → all (tallies_there us) xs ≡ true
opened_mono ts us f xs h = all_weaken (tallies_there ts) (tallies_there us) (there_mono ts us f) xs h

new_there : (k : Moment) (x : Statement) (us : List Tally) → tallies_there (join k (own_block x 0) (join_certificate k (certificate x) us)) x ≡ true
unfolding tallies_there
new_there k x us =
    let ts = join_certificate k (certificate x) us in
    both (join_there k (own_block x 0) (own_block x 0) ts (block_self (own_block x 0)))
    (by_bool (eqb (certificate x).view 0) (λ q. or_left (any (of_block (certificate x)) (join k (own_block x 0) ts)) q)
    (λ q. or_right (eqb (certificate x).view 0) (join_any k (own_block x 0) (certificate x) ts (certificate_there k (certificate x) us q))))

module _ {s : State} (f : Formed s) where
  tabled : (xs : List Statement) (ts : List Tally) → Tables (statement_good s) s.settings s.clock xs ts s.log → Formed (with_tables xs ts s)
  unfolding with_tables with_blames with_log
  tabled xs ts t = recorded f xs ts s.blames s.log t f.blames

  pub tallied_formed : (k : Opener) (t : Certificate) → Joinable (moment k s) t → MayOpen k t s.tallies
      → Formed (with_tables s.statements (join_certificate (moment k s) t s.tallies) s)
  tallied_formed k t j o =
      let old = f.tables in
      let at = moment k s in
      let ts = join_certificate at t s.tallies in
      tabled s.statements ts
      (record {
        statements = old.statements;
        statements_differ = old.statements_differ;
        tallies = certificate_good at t s.tallies j old.tallies;
        tallies_differ = certificate_distinct at t s.tallies old.tallies_differ;
        opened = opened_mono s.tallies ts (certificate_any at t s.tallies) s.statements old.opened;
        log = old.log;
        few_opened = certificate_few at t s.settings.n s.tallies o old.few_opened;
      })

  module _ (x : Statement) (m : Sendable s.settings (message x)) where
    pub certificate_joined_formed : Formed (certificate_joined x s)
    unfolding certificate_joined
    certificate_joined_formed = tallied_formed none (certificate x) ((stated s.settings x m).certified s.clock) (nobody_may (certificate x) s.tallies)

    module _ (v : x.voted ≡ none) (n : any (same_statement x) s.statements ≡ false) where
      pub stored_formed : Formed (stored x s)
      unfolding stored
      stored_formed =
          let old = f.tables in
          let at = moment none s in
          let us = join_certificate at (certificate x) s.tallies in
          let own = own_block x 0 in
          let ts = join at own us in
          let xs = s.statements ++ x ∷ [] in
          let good = certificate_good at (certificate x) s.tallies ((stated s.settings x m).certified s.clock) old.tallies in
          let still =
          opened_mono s.tallies ts (λ t h. join_any at own t us (certificate_any at (certificate x) s.tallies t h)) s.statements old.opened in
          tabled xs ts
          (record {
            statements = all_last (statement_good s) s.statements x old.statements (new_good s x m v);
            statements_differ = distinct_append same_statement same_sym s.statements x old.statements_differ n;
            tallies = join_good at own us (own_good s.settings x m s.clock 0 (none_lt s.settings)) good;
            tallies_differ = join_distinct at own us (certificate_distinct at (certificate x) s.tallies old.tallies_differ);
            opened = all_last (tallies_there ts) s.statements x still (new_there at x s.tallies);
            log = linked_mono s.statements xs (λ h b p. any_append (is_above h b p) s.statements (x ∷ [])) 0 0 s.log old.log;
            few_opened =
                join_few at own s.settings.n us (nobody_may own us)
                (certificate_few at (certificate x) s.settings.n s.tallies (nobody_may (certificate x) s.tallies) old.few_opened);
          })

    pub voted_for_formed : Formed (voted_for x s)
    unfolding voted_for
    voted_for_formed =
        let old = f.tables in
        let t = own_block x (only s.settings.own) in
        let at = moment none s in
        let ts = join at t s.tallies in
        let c = s.clock in
        let same = same_statement x in
        let xs = alter same (noted c) s.statements in
        let own = only_lt s.settings s.settings.own (sizes s.settings f.settings).own in
        let still = opened_mono s.tallies ts (λ u. join_any at t u s.tallies) s.statements old.opened in
        tabled xs ts
        (record {
          statements = all_alter (statement_good s) same (noted c) (noted_good s) s.statements old.statements;
          statements_differ = distinct_alter same_statement same (noted c) (noted_left c) (noted_right c) s.statements ∙ old.statements_differ;
          tallies = join_good at t s.tallies (own_good s.settings x m s.clock (only s.settings.own) own) old.tallies;
          tallies_differ = join_distinct at t s.tallies old.tallies_differ;
          opened = all_alter (tallies_there ts) same (noted c) (λ y h. noted_there c ts y ∙ h) s.statements still;
          log =
              linked_mono s.statements xs (λ h b p e. any_alter (is_above h b p) same (noted c) (noted_above c h b p) s.statements ∙ e) 0 0 s.log
              old.log;
          few_opened = join_few at t s.settings.n s.tallies (nobody_may t s.tallies) old.few_opened;
        })
