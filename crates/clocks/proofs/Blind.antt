-- Each rule says the same to a station that keeps no clocks, and leaves it the same but for them. Assumes nothing.
use mathlib.Core.Path.{◌≡◌, refl, sym, ap, ◌∙◌}
use Prim.Native.Nat.{ℕ}
use mathlib.Core.Bool.{true, false, ◌&&◌}
use mathlib.Core.List.{List, [], ◌∷◌}
use mathlib.Core.Option.{none, some}
use Rattle.rules.specs.Lists.{first, any}
use Rattle.rules.specs.Sizes.{only}
use Rattle.rules.specs.Messages.{Message, new_view, propose, vote, blame, blame_set, status, Effect, to_all}
use Rattle.rules.specs.Words.{Statement, message, same_statement, conflict, Certificate, Opener, Tally, own_block, certificate, join, join_certificate, waiting, State, moment}
use Rattle.rules.specs.Inputs.{Work, saying, ◌▸◌, with_phase, with_tables, with_blames, is_in, quit, below_lock, voted_for, ballot, voting, certificate_joined, stored, statement, tallied, blames_of, blamed, blame_full, blaming, handled}
use Rattle.laws.proofs.Tests.{by_bool, by_option}
use Rattle.laws.proofs.Moves.{voting_low, voting_high}
use Rattle.clocks.specs.Forget.{forget, Alike}
use Rattle.clocks.proofs.Tables.{Same, twice, join_forgets, join_same, certificate_same}

pub forget_twice : (s : State) → forget (forget s) ≡ forget s
unfolding forget with_tables
forget_twice s = ap (λ ts. with_tables s.statements ts s) (twice s.tallies)

-- the same said, and what is left alike
abbrev pub Likewise : Work → Work → Type 0
Likewise v w = Alike v.now w.now × (v.out ≡ w.out)

-- a rule that does likewise without the clocks
abbrev pub Blind : (State → Work) → Type 0
Blind f = (s : State) → Likewise (f (forget s)) (f s)

pub blind_alike : (f : State → Work) → Blind f → (s t : State) → Alike s t → Likewise (f s) (f t)
blind_alike f b s t e =
    let p = b s in let q = b t in
    (sym p.0 ∙ ap (λ u. forget (f u).now) e ∙ q.0, sym p.1 ∙ ap (λ u. (f u).out) e ∙ q.1)

pub then_blind : (v w : Work) (f : State → Work) → Likewise v w → Blind f → Likewise (v ▸ f) (w ▸ f)
unfolding ◌▸◌
then_blind v w f (a, o) b = let (c, p) = blind_alike f b v.now w.now a in (c, rw (o, p))

-- ---- the tables

tables_alike : (xs : List Statement) (s : State) (us vs : List Tally) → Same us vs → Alike (with_tables xs us (forget s)) (with_tables xs vs s)
unfolding forget with_tables
tables_alike xs s us vs e = ap (λ ts. with_tables xs ts s) e

tallies_alike : (s : State) → Same (forget s).tallies s.tallies
unfolding forget with_tables
tallies_alike s = twice s.tallies

voted_alike : (x : Statement) (s : State) → Alike (voted_for x (forget s)) (voted_for x s)
unfolding voted_for with_tables forget
voted_alike x s =
    let k = moment none s in
    let t = own_block x (only s.settings.own) in
    tables_alike _ s (join k t (forget s).tallies) (join k t s.tallies) (join_forgets k t s.tallies)

stored_alike : (x : Statement) (s : State) → Alike (stored x (forget s)) (stored x s)
unfolding stored with_tables forget
stored_alike x s =
    let k = moment none s in
    let us = join_certificate k (certificate x) (forget s).tallies in
    let vs = join_certificate k (certificate x) s.tallies in
    tables_alike _ s (join k (own_block x 0) us) (join k (own_block x 0) vs)
    (join_same k (own_block x 0) us vs (certificate_same k (certificate x) (forget s).tallies s.tallies (tallies_alike s)))

joined_alike : (k : Opener) (t : Certificate) (s : State)
    → Alike (with_tables s.statements (join_certificate (moment k s) t (forget s).tallies) (forget s))
    (with_tables s.statements (join_certificate (moment k s) t s.tallies) s)
joined_alike k t s =
    tables_alike _ s (join_certificate (moment k s) t (forget s).tallies) (join_certificate (moment k s) t s.tallies)
    (certificate_same (moment k s) t (forget s).tallies s.tallies (tallies_alike s))

-- ---- the rules

pub voting_blind : (x : Statement) → Blind (voting x)
unfolding forget with_tables below_lock saying ballot
voting_blind x s =
    by_bool (below_lock x s) (λ l. rw (voting_low x s l, voting_low x (forget s) l) (forget_twice s, refl))
    (λ l. rw (voting_high x s l, voting_high x (forget s) l) (voted_alike x s, refl))

pub quit_blind : (o : List Effect) → Blind (quit o)
unfolding quit saying with_phase forget with_tables
quit_blind o s = (ap (with_phase (waiting s.clock)) (forget_twice s), refl)

statement_blind : (x : Statement) → Blind (statement x)
unfolding statement forget with_tables is_in saying certificate_joined
statement_blind x s =
    by_bool (any (same_statement x) s.statements) (λ q. rw (q, statement) (joined_alike none (certificate x) s, refl)) λ q.
    by_bool (is_in x.view s)
    (λ i.
    by_option (first (conflict x) s.statements)
    (λ o. rw (q, i, o, statement) (blind_alike (voting x) (voting_blind x) (stored x (forget s)) (stored x s) (stored_alike x s)))
    (λ y o.
    let said = to_all (message y) ∷ to_all (message x) ∷ [] in
    rw (q, i, o, statement) (blind_alike (quit said) (quit_blind said) (stored x (forget s)) (stored x s) (stored_alike x s))))
    (λ i. rw (q, i, statement) (stored_alike x s, refl))

tallied_blind : (k : Opener) (t : Certificate) → Blind (tallied k t)
unfolding tallied saying forget with_tables
tallied_blind k t s = (joined_alike k t s, refl)

blamed_alike : (v m : ℕ) (s : State) → Alike (blamed v m (forget s)) (blamed v m s)
unfolding blamed with_blames blames_of forget with_tables
blamed_alike v m s = ap (blamed v m) (forget_twice s)

pub blaming_blind : (v m : ℕ) → Blind (blaming v m)
unfolding blaming blamed blames_of with_blames is_in blame_full forget with_tables saying
blaming_blind v m s =
    let a = blamed_alike v m s in
    by_bool (is_in v (blamed v m s) && blame_full v (blamed v m s))
    (λ q.
    let said = to_all (blame_set v (blames_of v (blamed v m s))) ∷ [] in
    rw (q, blaming) (blind_alike (quit said) (quit_blind said) (blamed v m (forget s)) (blamed v m s) a))
    (λ q. rw (q, blaming) (a, refl))

pub handled_blind : (m : Message) → Blind (handled m)
unfolding handled
handled_blind (new_view v h b c m a) =
    statement_blind (record { is_new_view = true; view = v; height = h; name = b; link = c; mask = m; author = a; voted = none })
handled_blind (propose v h b p m a) =
    statement_blind (record { is_new_view = false; view = v; height = h; name = b; link = p; mask = m; author = a; voted = none })
handled_blind (vote v h b a) = tallied_blind (some a) (record { view = v; height = h; name = b; mask = only a })
handled_blind (blame v a) = blaming_blind v (only a)
handled_blind (blame_set v m) = blaming_blind v m
handled_blind (status h b c m) = tallied_blind none (record { view = c; height = h; name = b; mask = m })
