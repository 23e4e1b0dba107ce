-- Voting in an order of places: a vote changes nothing of a statement but its vote, so the order holds. Assumes nothing.
use Prim.Native.Nat.{ℕ, ◌+◌, ◌-◌, ◌*◌, ◌<◌, ◌≤◌}
use mathlib.Core.Path.{◌≡◌, refl, sym, ap, ◌∙◌, subst}
use mathlib.Core.Bool.{Bool}
use mathlib.Core.List.{List, [], ◌∷◌, map}
use mathlib.Core.Option.{none}
use native.Mathlib.Omega.{arith}
use native.Mathlib.Nat.{zero-add, sub-zero}
use lib.ListN.{length, get_or, length-map, get_or-map}
use Rattle.rules.specs.Lists.{alter}
use Rattle.rules.specs.Sizes.{Settings}
use Rattle.rules.specs.Messages.{outgoing}
use Rattle.rules.specs.Words.{Statement, message, same_statement, own_block, certificate, State}
use Rattle.rules.specs.Inputs.{Work, saying, ◌▸◌, with_tables, below_lock, noted, voted_for, ballot, voting, voting_all}
use Rattle.laws.proofs.Tests.{by_bool}
use Rattle.wire.specs.Meaning.{statement_of}
use Rattle.wire.specs.declared.Statement as code
use Rattle.outgoing.proofs.Writing.{says_length}
use Rattle.store.specs.Layout.{statement_table, size_in, count_of}
use Rattle.store.specs.Decode.{rows, statement_at, statements, state_from, state_of}
use Rattle.store.proofs.Rows.{rows_length, rows_at, rows_from}
use Rattle.orders.specs.Orders.{standing, place_at}
use Rattle.kept.proofs.Keeps.{voting_keeps}
use Rattle.laws.proofs.Lengths.{bytes_none}
use Rattle.acts.specs.Answers.{Stands}
use Rattle.acts.specs.Works.{Formed, Works}
use Rattle.acts.proofs.Places.{place_sendable}
use Rattle.acts.proofs.Votes.{voting_below, voting_cast}
use Rattle.acts.proofs.Works.{formed_parts, left_formed, ballot_bytes, works_none, works_is}
use Rattle.moments.proofs.Sizes.{left_size}
use Rattle.turns.proofs.Parts.{works_then, left_same}

-- ---- statements without their votes

abbrev unvoted : Statement → Statement
unvoted x = record { is_new_view = x.is_new_view; view = x.view; height = x.height; name = x.name; link = x.link; mask = x.mask; author = x.author; voted = none }

abbrev shapes : List ℕ → List Statement
shapes b = map unvoted (statements b)

alter_shape : (p : Statement → Bool) (c : ℕ) (xs : List Statement) → map unvoted (alter p (noted c) xs) ≡ map unvoted xs
unfolding alter noted
alter_shape p c [] = refl
alter_shape p c (x ∷ xs) = by_bool (p x) (λ q. rw (q, alter)) (λ q. rw (q, alter) (ap (unvoted x ∷◌) (alter_shape p c xs)))

voting_shape : (x : Statement) (s : State) → map unvoted (voting x s).now.statements ≡ map unvoted s.statements
unfolding voting saying voted_for with_tables
voting_shape x s = by_bool (below_lock x s) (λ q. rw (q, voting)) (λ q. rw (q, voting) (alter_shape (same_statement x) s.clock s.statements))

voting_unvoted : (x : Statement) (s : State) → voting (unvoted x) s ≡ voting x s
unfolding voting below_lock voted_for ballot message same_statement own_block certificate
voting_unvoted x s = refl

voting_bytes : (x : Statement) (s : State) → length (outgoing (voting x s).out) ≤ 160
unfolding saying ballot
voting_bytes x s =
    by_bool (below_lock x s) (λ q. rw (← voting_below x s q) (omega (arith, bytes_none)))
    (λ q. rw (← voting_cast x s q) (ballot_bytes x x.view x.height x.name s.settings.own))

module _ (b b' : List ℕ) (e : shapes b' ≡ shapes b) where
  same_count : count_of statement_table b' ≡ count_of statement_table b
  unfolding statements
  same_count =
      let n = count_of statement_table b in
      let n' = count_of statement_table b' in
      sym (length-map (statements b') unvoted ∙ rows_length (statement_at b') 0 n') ∙ ap length e ∙ length-map (statements b) unvoted ∙ rows_length (statement_at b) 0 n

  same_at : (i : ℕ) → i < count_of statement_table b → unvoted (statement_at b' i) ≡ unvoted (statement_at b i)
  unfolding statements
  same_at i l =
      let d = statement_at b 0 in
      let n = count_of statement_table b in
      let n' = count_of statement_table b' in
      let r : unvoted (statement_at b' i) ≡ get_or (shapes b') i (unvoted d) =
      sym (get_or-map unvoted (statements b') i d ∙ ap unvoted (rows_at (statement_at b') d 0 n' i (omega (arith, same_count)) ∙ ap (statement_at b') (zero-add i))) in
      r ∙ ap (λ (xs : List Statement). get_or xs i (unvoted d)) e
      ∙ get_or-map unvoted (statements b) i d ∙ ap unvoted (rows_at (statement_at b) d 0 n i l ∙ ap (statement_at b) (zero-add i))

-- ---- so far

-- the first j were voted on; whoever votes on the rest has voted on all
pub record Voted (b order o : List ℕ) (at count j : ℕ) (b' o' : List ℕ) (next : ℕ) : Type 0 where
  pub formed : Formed b'
  pub size : size_in b' ≡ size_in b
  pub same : shapes b' ≡ shapes b
  pub ends : next ≤ at + 160 * j
  pub long : length o' ≡ length o
  pub rest : (b'' o'' : List ℕ) (r : ℕ) → Works (voting_all (rows (standing b order) j (count - j)) (state_of b')) o' next b'' o'' r
      → Works (voting_all (rows (standing b order) 0 count) (state_of b)) o at b'' o'' r

module _ (b order o : List ℕ) (at count : ℕ) where
  abbrev x_at : ℕ → Statement
  x_at = standing b order

  pub voted_none : Formed b → Voted b order o at count 0 b o at
  voted_none k = record {
    formed = k;
    size = refl;
    same = refl;
    ends = omega arith;
    long = refl;
    rest = λ b'' o'' r w. subst (λ (n : ℕ). Works (voting_all (rows x_at 0 n) (state_of b)) o at b'' o'' r) (sub-zero count) w;
  }

  module _ {b' o' : List ℕ} {j next : ℕ} (g : Voted b order o at count j b' o' next) where
    pub voted_done : count ≤ j → Works (voting_all (rows x_at 0 count) (state_of b)) o at b' o' next
    unfolding rows voting_all
    voted_done l =
        let z : count - j ≡ 0 = omega arith in
        g.rest b' o' next
        (subst (λ (n : ℕ). Works (voting_all (rows x_at j n) (state_of b')) o' next b' o' next) (sym z) (works_none o' next (left_same g.formed.form)))

    module _ (l : place_at order j < count_of statement_table b) (x : code.Statement) (e : statement_of x (statement_at b' (place_at order j)).voted ≡ statement_at b' (place_at order j)) where
      pub voted_stands : Stands b' (place_at order j) x
      voted_stands = record { within = omega (arith, same_count b b' g.same); is = e }

      abbrev X : Statement
      X = statement_of x none

      same_vote : X ≡ unvoted (x_at j)
      unfolding statement_of
      same_vote = ap unvoted e ∙ same_at b b' g.same (place_at order j) l

      same_voting : voting (x_at j) (state_of b') ≡ voting X (state_of b')
      same_voting = sym (voting_unvoted (x_at j) (state_of b')) ∙ ap (λ (y : Statement). voting y (state_of b')) (sym same_vote)

      pub voted_next : {b'' o'' : List ℕ} {r : ℕ} → j < count → Works (voting X (state_of b')) o' next b'' o'' r → Voted b order o at count (j + 1) b'' o'' r
      unfolding state_of state_from voting_all
      voted_next {b''} {o''} {r} h w =
          let s = state_of b' in
          let keeps = voting_keeps (formed_parts g.formed).formed X (place_sendable g.formed voted_stands) in
          let more = rows x_at (j + 1) (count - (j + 1)) in
          record {
            formed = left_formed w.left keeps.formed;
            size = left_size w.left ∙ ap (λ (y : Settings). y.size) keeps.settings ∙ g.size;
            same = ap (λ (t : State). map unvoted t.statements) w.left.is ∙ voting_shape X s ∙ g.same;
            ends = omega (arith, w.says.ends, voting_bytes X s, g.ends);
            long = says_length w.says ∙ g.long;
            rest =
                λ b₃ o₃ r₃ v.
                g.rest b₃ o₃ r₃
                (subst (λ (xs : List Statement). Works (voting_all xs s) o' next b₃ o₃ r₃) (sym (rows_from x_at j count h))
                (works_is (ap (λ (u : Work). u ▸ voting_all more) (sym same_voting)) (works_then (voting_all more) w v)));
          }
