-- A statement's way through the rules: it is handled alike in both kinds; a new one is stored, then answered. Assumes nothing.
use mathlib.Core.Path.{◌≡◌, refl, sym, ap, ◌∙◌}
use mathlib.Core.Bool.{Bool, true, false}
use mathlib.Core.List.{List, [], ◌∷◌, ◌++◌}
use mathlib.Core.Option.{none, some}
use Rattle.rules.specs.Lists.{iff, first, any}
use Rattle.rules.specs.Messages.{to_all}
use Rattle.rules.specs.Words.{Statement, message, same_statement, conflict, own_block, certificate, of_block, join_certificate, State, moment}
use Rattle.rules.specs.Inputs.{Work, saying, with_phase, with_tables, is_in, quit, voting, stored, statement, handled}
use Rattle.rules.specs.Refusals.{has_room}
use Rattle.laws.proofs.Tests.{by_bool, by_option, eqb_self}
use Rattle.kept.proofs.Tallies.{block_self, join_there}
use Rattle.acts.specs.Answers.{answered}
use Rattle.acts.proofs.Rooms.{voting_room}

-- ---- a message that is a statement

module _ (x : Statement) where
  abbrev unvoted : Bool → Statement
  unvoted n = record { is_new_view = n; view = x.view; height = x.height; name = x.name; link = x.link; mask = x.mask; author = x.author; voted = none }

  handled_kind : (n : Bool) → handled (message (unvoted n)) ≡ statement (unvoted n)
  unfolding handled message
  handled_kind true = refl
  handled_kind false = refl

  pub handled_statement : x.voted ≡ none → handled (message x) ≡ statement x
  handled_statement v =
      let e : unvoted x.is_new_view ≡ x = λ i. record { is_new_view = x.is_new_view; view = x.view; height = x.height; name = x.name; link = x.link; mask = x.mask; author = x.author; voted = sym v i } in
      ap (λ (y : Statement). handled (message y)) (sym e) ∙ handled_kind x.is_new_view ∙ ap statement e

-- ---- what a stored statement makes a station do

module _ (x : Statement) (s : State) where
  pub answered_out : is_in x.view s ≡ false → answered x s ≡ saying s []
  unfolding answered
  answered_out i = rw (i, answered)

  pub answered_votes : is_in x.view s ≡ true → first (conflict x) s.statements ≡ none → answered x s ≡ voting x s
  unfolding answered
  answered_votes i o = rw (i, o, answered)

  pub answered_quits : (y : Statement) → is_in x.view s ≡ true → first (conflict x) s.statements ≡ some y
      → answered x s ≡ quit (to_all (message y) ∷ to_all (message x) ∷ []) s
  unfolding answered
  answered_quits y i o = rw (i, o, answered)

  -- no record is added
  pub answered_room : any (of_block (own_block x 0)) s.tallies ≡ true → has_room (answered x s).now ≡ has_room s
  unfolding quit saying with_phase has_room
  answered_room h =
      by_bool (is_in x.view s)
      (λ i.
      by_option (first (conflict x) s.statements) (λ o. rw (answered_votes i o) (voting_room x s h))
      (λ y o. rw (answered_quits y i o)))
      (λ i. rw (answered_out i))

-- ---- a new one

pub same_self : (x : Statement) → same_statement x x ≡ true
unfolding same_statement iff
same_self x =
    rw (eqb_self x.view, eqb_self x.height, eqb_self x.name, eqb_self x.link, eqb_self x.author)
    (by_bool x.is_new_view (λ k. rw k) (λ k. rw k))

conflict_self : (x : Statement) → conflict x x ≡ false
unfolding conflict
conflict_self x = rw (same_self x)

first_last : {A : Type 0} (p : A → Bool) (xs : List A) (y : A) → p y ≡ false → first p (xs ++ y ∷ []) ≡ first p xs
unfolding first
first_last p [] y h = rw (h, first)
first_last p (x ∷ xs) y h = by_bool (p x) (λ q. rw (q, first)) (λ q. rw (q, first) (first_last p xs y h))

module _ (x : Statement) (s : State) where
  stored_in : is_in x.view (stored x s) ≡ is_in x.view s
  unfolding is_in stored with_tables
  stored_in = refl

  stored_first : first (conflict x) (stored x s).statements ≡ first (conflict x) s.statements
  unfolding stored with_tables
  stored_first = first_last (conflict x) s.statements x (conflict_self x)

  stored_own : any (of_block (own_block x 0)) (stored x s).tallies ≡ true
  unfolding stored with_tables
  stored_own = join_there (moment none s) (own_block x 0) (own_block x 0) (join_certificate (moment none s) (certificate x) s.tallies) (block_self (own_block x 0))

  module _ (n : any (same_statement x) s.statements ≡ false) where
    pub statement_new : statement x s ≡ answered x (stored x s)
    unfolding statement
    statement_new =
        by_bool (is_in x.view s)
        (λ i.
        by_option (first (conflict x) s.statements) (λ o. rw (n, i, o, statement) (sym (answered_votes x (stored x s) (stored_in ∙ i) (stored_first ∙ o))))
        (λ y o. rw (n, i, o, statement) (sym (answered_quits x (stored x s) y (stored_in ∙ i) (stored_first ∙ o)))))
        (λ i. rw (n, i, statement) (sym (answered_out x (stored x s) (stored_in ∙ i))))

    pub new_room : has_room (statement x s).now ≡ has_room (stored x s)
    new_room = ap (λ (w : Work). has_room w.now) statement_new ∙ answered_room x (stored x s) stored_own
