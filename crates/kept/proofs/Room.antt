-- How much one rule says at most: a message 200 bytes, a blame 37, the entry of a view 62 and 160 for each stored statement of it.
-- Assumes nothing.
use mathlib.Core.Path.{◌≡◌}
use Prim.Native.Nat.{ℕ, suc, ◌+◌, ◌*◌, ◌≤◌}
use native.Mathlib.Omega.{arith}
use mathlib.Core.Bool.{true, false, ◌&&◌}
use mathlib.Core.List.{List, [], ◌∷◌}
use mathlib.Core.Option.{none, some}
use lib.Dec.{eqb}
use lib.ListN.{length}
use Rattle.rules.specs.Lists.{first, any}
use Rattle.rules.specs.Sizes.{leader, only}
use Rattle.rules.specs.Messages.{Message, new_view, propose, vote, blame, blame_set, status, Effect, to_all, to_one, size}
use Rattle.rules.specs.Words.{Statement, message, same_statement, conflict, Certificate, Opener, State}
use Rattle.rules.specs.Inputs.{Work, saying, ◌▸◌, is_in, quit, below_lock, ballot, voting, stored, statement, tallied, blames_of, blamed, blame_full, blaming, handled, overdue, complain, leads_now, own_new_view, lead, next_lock, report, entering, entered, current, pair, in_order, voting_all, arrive, enters_now, enter}
use Rattle.laws.proofs.Tests.{by_bool, by_option}
use Rattle.kept.proofs.Lists.{keep_length, sorted_length}
use Rattle.laws.proofs.Lengths.{weight, bytes, bytes_cons, bytes_append, bytes_none, size_most}

pub then_bytes : (w : Work) (r : State → Work) → bytes (w ▸ r).out ≡ bytes w.out + bytes (r w.now).out
unfolding ◌▸◌
then_bytes w r = bytes_append w.out (r w.now).out

one_bytes : (e : Effect) → bytes (e ∷ []) ≡ weight e
one_bytes e = let a = bytes_cons e [] in let b = bytes_none in omega arith

two_bytes : (e d : Effect) → bytes (e ∷ d ∷ []) ≡ weight e + weight d
two_bytes e d = let a = bytes_cons e (d ∷ []) in let b = one_bytes d in omega arith

statement_weight : (x : Statement) → weight (to_all (message x)) ≤ 100
unfolding weight
statement_weight x = let h = size_most (message x) in omega arith

pair_bytes : (x y : Statement) → bytes (to_all (message x) ∷ to_all (message y) ∷ []) ≤ 200
pair_bytes x y = let a = two_bytes (to_all (message x)) (to_all (message y)) in let b = statement_weight x in let c = statement_weight y in omega arith

set_bytes : (v m : ℕ) → bytes (to_all (blame_set v m) ∷ []) ≡ 19
unfolding weight size
set_bytes v m = one_bytes (to_all (blame_set v m))

-- ---- a message

voting_bytes : (x : Statement) (s : State) → bytes (voting x s).out ≤ 160
unfolding voting saying ballot weight size
voting_bytes x s =
    by_bool (below_lock x s) (λ q. rw (q, voting) (let a = bytes_none in omega arith))
    (λ q.
    rw (q, voting)
    (let v = to_all (vote x.view x.height x.name s.settings.own) in
    let a = two_bytes (to_all (message x)) v in
    let b = statement_weight x in
    omega arith))

statement_bytes : (x : Statement) (s : State) → bytes (statement x s).out ≤ 200
unfolding statement saying quit
statement_bytes x s =
    let z = bytes_none in
    by_bool (any (same_statement x) s.statements) (λ q. rw (q, statement) (omega arith))
    (λ q.
    by_bool (is_in x.view s)
    (λ i.
    by_option (first (conflict x) s.statements) (λ o. let a = voting_bytes x (stored x s) in rw (q, i, o, statement) (omega arith))
    (λ y o. rw (q, i, o, statement) (pair_bytes y x)))
    (λ i. rw (q, i, statement) (omega arith)))

blaming_bytes : (v m : ℕ) (s : State) → bytes (blaming v m s).out ≤ 19
unfolding blaming saying quit
blaming_bytes v m s =
    by_bool (is_in v (blamed v m s) && blame_full v (blamed v m s))
    (λ q. rw (q, blaming) (let a = set_bytes v (blames_of v (blamed v m s)) in omega arith)) (λ q. rw (q, blaming) (let a = bytes_none in omega arith))

tallied_bytes : (k : Opener) (t : Certificate) (s : State) → bytes (tallied k t s).out ≡ 0
unfolding tallied saying
tallied_bytes k t s = bytes_none

pub handled_bytes : (m : Message) (s : State) → bytes (handled m s).out ≤ 200
unfolding handled
handled_bytes (new_view v h b c m a) s = statement_bytes (record { is_new_view = true; view = v; height = h; name = b; link = c; mask = m; author = a; voted = none }) s
handled_bytes (propose v h b p m a) s = statement_bytes (record { is_new_view = false; view = v; height = h; name = b; link = p; mask = m; author = a; voted = none }) s
handled_bytes (vote v h b a) s = let k = tallied_bytes (some a) (record { view = v; height = h; name = b; mask = only a }) s in omega arith
handled_bytes (blame v a) s = let k = blaming_bytes v (only a) s in omega arith
handled_bytes (blame_set v m) s = let k = blaming_bytes v m s in omega arith
handled_bytes (status h b c m) s = let k = tallied_bytes none (record { view = c; height = h; name = b; mask = m }) s in omega arith

-- ---- blame, new-view

pub complain_bytes : (s : State) → bytes (complain s).out ≤ 37
unfolding complain saying weight size
complain_bytes s =
    by_bool (overdue s)
    (λ q.
    let b = to_all (blame s.view s.settings.own) in
    let a = then_bytes (saying s (b ∷ [])) (blaming s.view (only s.settings.own)) in
    let c = one_bytes b in
    let d = blaming_bytes s.view (only s.settings.own) s in
    rw (q, complain) (omega arith))
    (λ q. rw (q, complain) (let a = bytes_none in omega arith))

pub lead_bytes : (s : State) → bytes (lead s).out ≤ 200
unfolding lead saying
lead_bytes s = by_bool (leads_now s) (λ q. rw (q, lead) (handled_bytes (own_new_view s) s)) (λ q. rw (q, lead) (let a = bytes_none in omega arith))

-- ---- entering a view

report_bytes_lem : (s : State) → bytes (report s) ≤ 62
unfolding report weight size
report_bytes_lem s =
    let to = leader s.settings (s.view + 1) in
    let t = next_lock s in
    by_bool (eqb to s.settings.own) (λ q. rw (q, report) (let a = bytes_none in omega arith))
    (λ q. rw (q, report) (let a = one_bytes (to_one to (status t.height t.name t.view t.mask)) in omega arith))

voting_all_bytes : (xs : List Statement) (s : State) → bytes (voting_all xs s).out ≤ 160 * length xs
unfolding voting_all saying
voting_all_bytes [] s = let a = bytes_none in omega arith
voting_all_bytes (x ∷ xs) s =
    let a = then_bytes (voting x s) (voting_all xs) in
    let b = voting_bytes x s in
    let c = voting_all_bytes xs (voting x s).now in
    omega arith

order_length : (s : State) → length (in_order (current s)) ≤ length s.statements
unfolding in_order current
order_length s =
    let a = sorted_length (λ x. elim x.is_new_view [ true ↦ 0 | false ↦ suc x.height ]) (current s) in
    let b = keep_length (λ x. eqb x.view s.view) s.statements in
    omega arith

-- with room for k statements, the pair of a conflict among them
module _ (k : ℕ) (two : 2 ≤ k) where
  arrive_bytes : (s : State) → length s.statements ≤ k → bytes (arrive s).out ≤ 160 * k
  unfolding arrive saying quit
  arrive_bytes s l =
      by_bool (blame_full s.view s) (λ q. rw (q, arrive) (let a = set_bytes s.view (blames_of s.view s) in omega arith))
      (λ q.
      by_option (pair (current s))
      (λ o. let a = voting_all_bytes (in_order (current s)) s in let b = order_length s in rw (q, o, arrive) (omega arith))
      (λ p o. let a = pair_bytes p.0 p.1 in rw (q, o, arrive) (omega arith)))

  pub enter_bytes : (s : State) → length s.statements ≤ k → bytes (enter s).out ≤ 62 + 160 * k
  unfolding enter entered saying entering
  enter_bytes s l =
      by_bool (enters_now s)
      (λ q.
      let a = then_bytes (entered s) arrive in
      let b = report_bytes_lem s in
      let c = arrive_bytes (entered s).now l in
      rw (q, enter) (omega arith))
      (λ q. rw (q, enter) (let a = bytes_none in omega arith))
