-- One rule after another, and the votes on stored statements. Assumes nothing.
use Prim.Native.Nat.{ℕ, suc, ◌+◌, ◌-◌, ◌*◌, ◌<◌, ◌≤◌}
use mathlib.Core.Path.{◌≡◌, refl, sym, ap, subst, ◌∙◌}
use mathlib.Core.Bool.{true}
use mathlib.Core.List.{List, [], ◌∷◌}
use mathlib.Core.Option.{none}
use native.Mathlib.Omega.{arith}
use lib.ListN.{length, get_or, drop}
use Rattle.rules.specs.Lists.{any}
use Rattle.rules.specs.Sizes.{only}
use Rattle.rules.specs.Messages.{vote, size, to_all, outgoing}
use Rattle.rules.specs.Words as words
use Rattle.rules.specs.Words.{Statement, Moment, Certificate, Tally, of_block, own_block, same_block, join, message, moment, State}
use Rattle.rules.specs.Inputs as inputs
use Rattle.rules.specs.Inputs.{◌▸◌, voting, voting_all}
use Rattle.laws.proofs.Tests.{by_bool, no_bool}
use Rattle.laws.proofs.Lengths.{weight, bytes, bytes_cons, bytes_none, size_most}
use Rattle.kept.proofs.Tallies.{join_any}
use Rattle.wire.specs.Meaning.{statement_of, Linked}
use Rattle.outgoing.proofs.Writing.{says_none, says_outgoing, says_length}
use Rattle.plain_words.specs.Meaning.{Certifies}
use Rattle.plain_words.specs.Places.{Within}
use Rattle.plain_words.proofs.Firsts.{firsts_next, firsts_done}
use Rattle.plain_statements.specs.declared.Held.{Held}
use Rattle.plain_statements.specs.declared.Statements.{Statements}
use Rattle.plain_statements.specs.Meaning.{held_of, statements, room}
use Rattle.plain_tallies.specs.Meaning as tally_room
use Rattle.plain_tallies.specs.Meaning.{tallies}
use Rattle.plain_tallies.proofs.Laws.{tally_count}
use Rattle.plain_tables.specs.declared.Engine.{Engine}
use Rattle.plain_tables.specs.Meaning.{state, Sized, Gives}
use Rattle.plain_acts.specs.declared.Work.{Work}
use Rattle.plain_acts.specs.Works.{Worked}
use Rattle.plain_arrivals.specs.Votable.{Votable, Votables}

-- ---- one rule after another

pub then_worked : (w : inputs.Work) (f : State → inputs.Work) {o o₁ left : List ℕ} {at : ℕ} {r q : Work} → Worked w o at r o₁ → Worked (f (state r.engine)) o₁ r.at q left
    → Worked (w ▸ f) o at q left
unfolding ◌▸◌
then_worked w f {o} {o₁} {left} {at} {r} {q} p d =
    let v : Worked (f w.now) o₁ r.at q left = subst (λ (s : State). Worked (f s) o₁ r.at q left) p.now.is d in
    record { now = v.now; says = says_outgoing o at w.out (f w.now).out o₁ left r.at q.at p.says v.says }

-- as many tallies as the state has
pub given_count : {r : Engine} {s : State} → Gives r s → r.tallies.count ≡ length s.tallies
unfolding state
given_count {r} g = sym (tally_count r.tallies g.sized.tallies) ∙ ap (λ (s : State). length s.tallies) g.is

-- ---- a vote opens no tally, and loses none

join_same : (k : Moment) (t : Certificate) (us : List Tally) → any (of_block t) us ≡ true → length (join k t us) ≡ length us
unfolding any join
join_same k t [] e = no_bool (sym e)
join_same k t (u ∷ us) e = by_bool (of_block t u) (λ q. rw (q, join)) (λ q. rw (q, join) (ap suc (join_same k t us (rw (q, any) at e))))

module _ (x : Statement) (s : State) where
  voting_any : (t : Certificate) → any (of_block t) s.tallies ≡ true → any (of_block t) (voting x s).now.tallies ≡ true
  unfolding voting inputs.saying inputs.voted_for inputs.with_tables
  voting_any t e = by_bool (inputs.below_lock x s) (λ q. rw (q, voting) e) (λ q. rw (q, voting) (join_any (moment none s) (own_block x (only s.settings.own)) t s.tallies e))

  pub voting_count : any (of_block (own_block x 0)) s.tallies ≡ true → length (voting x s).now.tallies ≡ length s.tallies
  unfolding voting inputs.saying inputs.voted_for inputs.with_tables same_block own_block
  voting_count e = by_bool (inputs.below_lock x s) (λ q. rw (q, voting)) (λ q. rw (q, voting) (join_same (moment none s) (own_block x (only s.settings.own)) s.tallies e))

  voting_votable : (xs : List Statement) → Votables s.tallies xs → Votables (voting x s).now.tallies xs
  voting_votable [] h = tt
  voting_votable (y ∷ ys) h = (record { certifies = h.0.certifies; there = voting_any (own_block y 0) h.0.there }, voting_votable ys h.1)

  -- a statement, and the vote for it
  voting_bytes : bytes (voting x s).out ≤ 160
  unfolding voting inputs.saying inputs.ballot weight size
  voting_bytes =
      by_bool (inputs.below_lock x s) (λ q. rw (q, voting) (omega (arith, bytes_none)))
      (λ q.
      let m = message x in
      let n = vote x.view x.height x.name s.settings.own in
      rw (q, voting) (omega (arith, bytes_cons (to_all m) (to_all n ∷ []), bytes_cons (to_all n) [], bytes_none, size_most m)))

-- no vote matters
voting_held : (h : Held) (s : State) → voting (statement_of h.statement none) s ≡ voting (held_of h) s
unfolding voting inputs.saying inputs.below_lock inputs.voted_for inputs.ballot words.certificate words.same_statement own_block message held_of statement_of
voting_held h s = refl

pub held_certifies : (h : Held) → Certifies (held_of h) → Certifies (statement_of h.statement none)
unfolding held_of statement_of
held_certifies h c = record { view = c.view; above = c.above }

pub held_linked : (h : Held) → Certifies (held_of h) → Linked h.statement
unfolding held_of statement_of
held_linked h c = c.view

-- ---- the votes

-- so far those below place i were voted on
pub record Voting (xs : Statements) (e : Engine) (o₀ : List ℕ) (at : ℕ) (o : List ℕ) (i : ℕ) (g : Engine) (next : ℕ) : Type 0 where
  pub up : i ≤ xs.count
  pub long : length o ≡ length o₀
  pub space : next + 160 * (xs.count - i) + 40 ≤ length o
  pub sized : Sized g
  pub free : g.tallies.count < tally_room.room
  pub votable : Votables (state g).tallies (drop i (statements xs))
  pub does : (o' : List ℕ) (r : Work) → Worked (voting_all (drop i (statements xs)) (state g)) o next r o' → Worked (voting_all (statements xs) (state e)) o₀ at r o'

pub votes_end : (xs : Statements) (g : Engine) (o : List ℕ) (i next : ℕ) → Sized g → xs.count ≤ i
    → Worked (voting_all (drop i (statements xs)) (state g)) o next (record { engine = g; at = next }) o
unfolding statements voting_all inputs.saying outgoing
votes_end xs g o i next k h =
    subst (λ (l : List Statement). Worked (voting_all l (state g)) o next (record { engine = g; at = next }) o) (sym (firsts_done held_of xs.items xs.count i h))
    (record { now = record { sized = k; is = refl }; says = says_none o next })

votes_on : (x : Statement) (xs : List Statement) (s : State) {o o₁ left : List ℕ} {at : ℕ} {r q : Work} → Worked (voting x s) o at r o₁
    → Worked (voting_all xs (state r.engine)) o₁ r.at q left → Worked (voting_all (x ∷ xs) s) o at q left
unfolding voting_all
votes_on x xs s p d = then_worked (voting x s) (voting_all xs) p d

module _ (xs : Statements) (w : Within room xs.items xs.count) (d : Held) (i : ℕ) (h : i < xs.count) where
  rest : drop i (statements xs) ≡ held_of (get_or xs.items i d) ∷ drop (i + 1) (statements xs)
  unfolding statements
  rest = firsts_next held_of d xs.items xs.count i (omega (arith, w.long, w.most)) h

  pub next_votable : (ts : List Tally) → Votables ts (drop i (statements xs)) → Votable ts (held_of (get_or xs.items i d))
  next_votable ts v = (subst (Votables ts) rest v).0

  module _ {e g : Engine} {o₀ o o₁ : List ℕ} {at next : ℕ} {r : Work} where
    pub votes_again : Voting xs e o₀ at o i g next → Worked (voting (statement_of (get_or xs.items i d).statement none) (state g)) o next r o₁
        → Voting xs e o₀ at o₁ (i + 1) r.engine r.at
    unfolding state
    votes_again v p =
        let x = held_of (get_or xs.items i d) in
        let ys = drop (i + 1) (statements xs) in
        let all = subst (Votables (tallies g.tallies)) rest v.votable in
        let p' : Worked (voting x (state g)) o next r o₁ = subst (λ (z : inputs.Work). Worked z o next r o₁) (voting_held (get_or xs.items i d) (state g)) p in
        let same : tallies r.engine.tallies ≡ (voting x (state g)).now.tallies = ap (λ (s : State). s.tallies) p'.now.is in
        record {
          up = omega arith;
          long = says_length p'.says ∙ v.long;
          space = omega (arith, v.space, p'.says.ends, says_length p'.says, voting_bytes x (state g));
          sized = p'.now.sized;
          free = omega (arith, v.free, given_count (record { sized = v.sized; is = refl }), given_count p'.now, voting_count x (state g) all.0.there);
          votable = subst (λ (ts : List Tally). Votables ts ys) (sym same) (voting_votable x (state g) ys all.1);
          does = λ o' q z. v.does o' q (subst (λ (l : List Statement). Worked (voting_all l (state g)) o next q o') (sym rest) (votes_on x ys (state g) p' z));
        }
