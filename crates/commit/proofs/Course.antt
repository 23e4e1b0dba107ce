-- The loop over the due statements, from the last place down. Assumes nothing.
use Prim.Native.Nat.{ℕ, zero, suc, ◌+◌, ◌-◌, ◌<◌, ◌≤◌}
use mathlib.Core.Path.{◌≡◌, refl, sym, ap, ◌∙◌, subst}
use mathlib.Core.Bool.{Bool, true, false, not, ◌&&◌}
use mathlib.Core.List.{List}
use mathlib.Core.Option.{Option, none, some}
use native.Mathlib.Omega.{arith}
use native.Mathlib.Nat.{sub-zero}
use lib.Dec.{eqb}
use lib.ListN.{length, get_or}
use borrow.Author.Tests.{not-true}
use Rattle.rules.specs.Limits.{most_statements_large}
use Rattle.rules.specs.Lists.{keep}
use Rattle.rules.specs.Words.{Statement}
use Rattle.rules.specs.Inputs.{chain, merge, commit, commits}
use Rattle.laws.proofs.Tests.{by_bool, and_left}
use Rattle.store.specs.Layout.{statement_table, log_table, count_of}
use Rattle.store.specs.Decode.{rows, statement_at, statements, name_at, names, Form}
use Rattle.store.proofs.Rows.{rows_same}
use Rattle.store.proofs.Forms.{form_log}
use Rattle.linked.specs.Told.{Told}
use Rattle.glance.specs.Votes.{is_ripe}
use Rattle.glance.specs.Looks.{Tells, ToldBelow}
use Rattle.glance.specs.Tables.{statement_in, name_in}
use Rattle.walks.specs.Chains.{lacking, Walked, WalkedFrom}
use Rattle.merging.specs.Joins.{name_so_far, WholeChain, Log, Has, JoinedWith}
use Rattle.commit.specs.Outcome.{Settled, Joined}
use Rattle.std.specs.Prelude.{Option as Maybe, None, Some}
use Rattle.commit.proofs.Order.{bind, first_last}
use Rattle.commit.proofs.Pigeon.{too_high}
use Rattle.merging.proofs.Places.{so_far_old}
use Rattle.glance.proofs.Voting.{keep_not, keep_so, keep_end}
use Rattle.merging.proofs.Joining.{merge_short, commit_none, commit_some}
use Rattle.commit.proofs.Telling.{told_commits}

-- the last chain walked, if whole, is in the log so far
pub record Chained (b gained table : List ℕ) (len height left : ℕ) : Type 0 where
  pub walked : Walked b table height left
  pub high : height ≤ most_statements_large
  pub long : length table ≡ most_statements_large
  pub has : left ≡ 0 → Has b gained table height len

-- the due statements from place i on have joined
pub record Course (b : List ℕ) (p : Statement → Bool) (count i len : ℕ) (gained table : List ℕ) (height left : ℕ) : Type 0 where
  pub up : i ≤ count
  pub log : Log (commits (statements b) (keep p (rows (statement_at b) i (count - i))) (names b)) b gained len
  pub long : length gained ≡ most_statements_large
  pub chained : Chained b gained table len height left

-- the chain of the due statement before place i was walked
pub record Turn (b : List ℕ) (p : Statement → Bool) (count i len : ℕ) (gained table : List ℕ) (left own : ℕ) : Type 0 where
  pub up : i ≤ count
  pub log : Log (commits (statements b) (keep p (rows (statement_at b) i (count - i))) (names b)) b gained len
  pub long : length gained ≡ most_statements_large
  pub pos : 0 < i
  pub due : p (statement_at b (i - 1)) ≡ true
  pub tall : own ≡ (statement_at b (i - 1)).height
  pub high : own ≤ most_statements_large
  pub walked : WalkedFrom b table (i - 1) left
  pub whole : length table ≡ most_statements_large

-- what was walked makes a turn of the course
pub turn_of : {b : List ℕ} {p : Statement → Bool} {count i len height left end own : ℕ} {gained chain table : List ℕ} → Course b p count i len gained chain height left → 0 < i → p (statement_at b (i - 1)) ≡ true → own ≡ (statement_at b (i - 1)).height → own ≤ most_statements_large → WalkedFrom b table (i - 1) end → length table ≡ length chain → Turn b p count i len gained table end own
turn_of c pos due tall high walked kept =
    record {
      up = c.up;
      log = c.log;
      long = c.long;
      pos = pos;
      due = due;
      tall = tall;
      high = high;
      walked = walked;
      whole = kept ∙ c.chained.long;
    }

-- a propose that is due is no new-view
pub ripe_propose : (view wait now : ℕ) (x : Statement) → is_ripe view wait now x ≡ true → x.is_new_view ≡ false
unfolding is_ripe
ripe_propose view wait now x e = not-true x.is_new_view (and_left (not x.is_new_view) _ (and_left (not x.is_new_view && eqb x.view view) _ e))

module _ (b : List ℕ) (p : Statement → Bool) (count : ℕ) (l : List ℕ) where
  -- the due statements from place i on
  abbrev from : ℕ → Option (List ℕ)
  from i = commits (statements b) (keep p (rows (statement_at b) i (count - i))) l

  abbrev at : ℕ → Statement
  at i = statement_at b (i - 1)

  pub from_not : (i : ℕ) → 0 < i → i ≤ count → p (at i) ≡ false → from (i - 1) ≡ from i
  from_not i pos up e = ap (λ (ys : List Statement). commits (statements b) ys l) (keep_not p (statement_at b) count i pos up e)

  pub from_so : (i : ℕ) → 0 < i → i ≤ count → p (at i) ≡ true → from (i - 1) ≡ bind (from i) (commit (statements b) (at i))
  from_so i pos up e =
      ap (λ (ys : List Statement). commits (statements b) ys l) (keep_so p (statement_at b) count i pos up e)
      ∙ first_last (statements b) (at i) (keep p (rows (statement_at b) i (count - i))) l

  -- what is none stays none
  none_below : (i : ℕ) → i ≤ count → from i ≡ none → commits (statements b) (keep p (rows (statement_at b) 0 count)) l ≡ none
  none_below zero h e = ap (λ (n : ℕ). commits (statements b) (keep p (rows (statement_at b) 0 n)) l) (sym (sub-zero count)) ∙ e
  none_below (suc i) h e =
      let z : suc i - 1 ≡ i = omega arith in
      none_below i (omega arith)
      (ap from (sym z)
      ∙ by_bool (p (at (suc i)))
      (λ t. from_so (suc i) (omega arith) h t ∙ ap (λ (o : Option (List ℕ)). bind o (commit (statements b) (at (suc i)))) e)
      (λ t. from_not (suc i) (omega arith) h t ∙ e))

-- ---- the course's begin and end, and the turns that walk no chain

pub course_start : {b : List ℕ} {logged : ℕ} {gained table : List ℕ} (p : Statement → Bool) (count : ℕ) → Form b → logged ≡ count_of log_table b
    → length gained ≡ most_statements_large → length table ≡ most_statements_large → Course b p count count logged gained table 0 0
unfolding commits names
course_start {b} {logged} {gained} p count f old long whole =
    let same : rows (name_at b) 0 (count_of log_table b) ≡ rows (name_so_far b gained) 0 logged =
    rows_same (name_at b) (name_so_far b gained) 0 (count_of log_table b) (λ k l m. sym (so_far_old b gained k (omega arith)))
    ∙ ap (rows (name_so_far b gained) 0) (sym old) in
    record {
      up = omega arith;
      log =
          record {
            is = ap (λ (ys : List Statement). commits (statements b) ys (names b)) (keep_end p (statement_at b) count) ∙ ap some same;
            more = omega (arith, old);
            fits = omega (arith, old, form_log b f);
            stored = λ k l m. absurd (omega (arith, old));
          };
      long = long;
      chained =
          record {
            walked = record { stored = λ k l m. absurd (omega arith); chains = λ k l m. absurd (omega arith) };
            high = omega arith;
            long = whole;
            has = λ z. record { up = omega arith; same = λ k l. absurd (omega arith) };
          };
    }

module _ {b : List ℕ} {p : Statement → Bool} {count i len : ℕ} {gained table : List ℕ} {height left : ℕ} (c : Course b p count i len gained table height left) where
  at_end : count ≡ count_of statement_table b → i ≡ 0 → Joined (commits (statements b) (keep p (statements b)) (names b)) b gained (Some len)
  unfolding statements
  at_end e z =
      let all : rows (statement_at b) i (count - i) ≡ statements b =
      ap (λ (k : ℕ). rows (statement_at b) k (count - k)) z ∙ ap (rows (statement_at b) 0) (sub-zero count ∙ e) in
      subst (λ (ys : List Statement). Log (commits (statements b) (keep p ys) (names b)) b gained len) all c.log

  module _ (pos : 0 < i) where
    abbrev x : Statement
    x = statement_at b (i - 1)

    abbrev so_far : List ℕ
    so_far = rows (name_so_far b gained) 0 len

    on : from b p count (names b) (i - 1) ≡ some so_far → Course b p count (i - 1) len gained table height left
    on e = record {
      up = omega (arith, c.up);
      log = record { is = e; more = c.log.more; fits = c.log.fits; stored = c.log.stored };
      long = c.long;
      chained = c.chained;
    }

    -- it is not due
    pub course_not : p x ≡ false → Course b p count (i - 1) len gained table height left
    course_not e = on (from_not b p count (names b) i pos c.up e ∙ c.log.is)

    module _ (due : p x ≡ true) where
      passed : commit (statements b) x so_far ≡ some so_far → Course b p count (i - 1) len gained table height left
      passed e = on (from_so b p count (names b) i pos c.up due ∙ ap (λ (o : Option (List ℕ)). bind o (commit (statements b) x)) c.log.is ∙ e)

      -- it is higher than a whole chain can be
      pub course_high : count ≡ count_of statement_table b → count < x.height → Course b p count (i - 1) len gained table height left
      unfolding statements
      course_high e l =
          let broken : chain (rows (statement_at b) 0 count) x ≡ none = too_high (statement_at b) count (i - 1) (omega (arith, c.up)) l in
          passed (commit_none (statements b) x so_far (ap (λ (n : ℕ). chain (rows (statement_at b) 0 n) x) (sym e) ∙ broken))

      -- the check told of it: the log has its whole chain
      pub course_told : {told : List ℕ} → Told b told → (r : Bool) → Tells told (x.height - 1) (i - 1) r → r ≡ true → Course b p count (i - 1) len gained table height left
      course_told {told} tells r s e =
          let q = subst (Tells told (x.height - 1) (i - 1)) e s in
          let l = (tells.settles (x.height - 1) (i - 1) q).logged in
          passed (told_commits tells (x.height - 1) (i - 1) q (name_so_far b gained) len (omega (arith, l, c.log.more)) (λ j m. so_far_old b gained j (omega (arith, l))))

      -- the last walk went through it
      pub course_settled : (own : ℕ) (r : Bool) → Settled table height left own (i - 1) r → r ≡ true → Course b p count (i - 1) len gained table height left
      unfolding statement_in
      course_settled own r s e =
          let q = subst (Settled table height left own (i - 1)) e s in
          let z : own - 1 + 1 ≡ own = omega (arith, q.0) in
          let k : chain (statements b) x ≡ lacking left (rows (name_in b table) 0 own) =
          ap (λ (j : ℕ). chain (statements b) (statement_at b j)) (sym q.2)
          ∙ c.chained.walked.chains (own - 1) (omega (arith, q.0)) (omega (arith, q.0, q.1))
          ∙ ap (λ (n : ℕ). lacking left (rows (name_in b table) 0 n)) z in
          passed (go left k c.chained.has q.1)
        where
          go : (left : ℕ) → chain (statements b) x ≡ lacking left (rows (name_in b table) 0 own) → (left ≡ 0 → Has b gained table height len) → own ≤ height
              → commit (statements b) x so_far ≡ some so_far
          go zero k has l =
              commit_some (statements b) x so_far _ k
              ∙ merge_short (name_in b table) (name_so_far b gained) 0 own len (omega (arith, (has refl).up)) (λ j u v. (has refl).same j (omega arith))
          go (suc n) k has l = commit_none (statements b) x so_far k

-- the check told of all that is due below a place, so the course may end there
module _ {b told : List ℕ} (tells : Told b told) (view wait now : ℕ) {count len height left : ℕ} {gained table : List ℕ} where
  course_rest : (i : ℕ) → ToldBelow b told view wait now i → Course b (is_ripe view wait now) count i len gained table height left
      → Course b (is_ripe view wait now) count 0 len gained table height left
  course_rest zero f c = c
  course_rest (suc i) f c =
      let z : suc i - 1 ≡ i = omega arith in
      course_rest i (λ j l m. f j l (omega arith))
      (subst (λ (n : ℕ). Course b (is_ripe view wait now) count n len gained table height left) z
      (by_bool (is_ripe view wait now (statement_at b (suc i - 1))) (λ r. course_told c (omega arith) r tells true (f (suc i - 1) (omega arith) (omega arith) r) refl)
      (λ r. course_not c (omega arith) r)))

  pub course_end : (i settled : ℕ) → ToldBelow b told view wait now settled → Course b (is_ripe view wait now) count i len gained table height left → count ≡ count_of statement_table b → i ≤ settled
      → Joined (commits (statements b) (keep (is_ripe view wait now) (statements b)) (names b)) b gained (Some len)
  course_end i settled f c e l = at_end (course_rest i (λ j u v. f j u (omega arith)) c) e refl

-- ---- a turn that walked a chain

module _ {b : List ℕ} {p : Statement → Bool} {count i len : ℕ} {gained table : List ℕ} {left own : ℕ} (t : Turn b p count i len gained table left own) where
  abbrev y : Statement
  y = statement_at b (i - 1)

  abbrev log : List ℕ
  log = rows (name_so_far b gained) 0 len

  joins : from b p count (names b) (i - 1) ≡ commit (statements b) y log
  joins = from_so b p count (names b) i t.pos t.up t.due ∙ ap (λ (o : Option (List ℕ)). bind o (commit (statements b) y)) t.log.is

  its_walk : Walked b table own left
  its_walk = subst (λ (h : ℕ). Walked b table h left) (sym t.tall) t.walked.walked

  its_chain : chain (statements b) y ≡ lacking left (rows (name_in b table) 0 own)
  unfolding statement_in
  its_chain =
      let below : left < own = omega (arith, t.walked.below, t.tall) in
      let z : own - 1 + 1 ≡ own = omega arith in
      let top : get_or table (own - 1) 0 ≡ i - 1 = ap (λ (h : ℕ). get_or table (h - 1) 0) t.tall ∙ t.walked.top in
      ap (λ (j : ℕ). chain (statements b) (statement_at b j)) (sym top) ∙ its_walk.chains (own - 1) (omega arith) (omega arith)
      ∙ ap (λ (n : ℕ). lacking left (rows (name_in b table) 0 n)) z

  -- an ancestor is not stored
  pub turn_broken : (left ≡ 0 → ⊥) → Course b p count (i - 1) len gained table own left
  turn_broken d =
      record {
        up = omega (arith, t.up);
        log =
            record {
              is = joins ∙ commit_none (statements b) y log (its_chain ∙ lacks left d _);
              more = t.log.more;
              fits = t.log.fits;
              stored = t.log.stored;
            };
        long = t.long;
        chained = record { walked = its_walk; high = t.high; long = t.whole; has = λ z. absurd (d z) };
      }
    where
      lacks : (k : ℕ) → (k ≡ 0 → ⊥) → (l : List ℕ) → lacking k l ≡ none
      lacks zero d l = absurd (d refl)
      lacks (suc k) d l = refl

  module _ (whole : left ≡ 0) where
    merges : from b p count (names b) (i - 1) ≡ merge (rows (name_in b table) 0 own) log
    merges = joins ∙ commit_some (statements b) y log _ (its_chain ∙ ap (λ (n : ℕ). lacking n (rows (name_in b table) 0 own)) whole)

    pub turn_whole : {logged : ℕ} → Form b → logged ≡ count_of log_table b → WholeChain b gained table logged len own
    turn_whole f old = record {
      form = f;
      old = old;
      more = omega (arith, t.log.more);
      fits = t.log.fits;
      long = t.long;
      gains = λ k l m. t.log.stored k (omega arith) m;
      high = t.high;
      whole = t.whole;
      blocks = λ k l m. its_walk.stored k (omega arith) m;
    }

    module _ (gained' : List ℕ) (r : Maybe ℕ) (j : JoinedWith b gained gained' table own len r) where
      pub turn_grown : length gained' ≡ most_statements_large → (m : ℕ) → r ≡ Some m → Course b p count (i - 1) m gained' table own left
      turn_grown n m q =
          let g = subst (JoinedWith b gained gained' table own len) q j in
          record {
            up = omega (arith, t.up);
            log = record { is = merges ∙ g.0.is; more = g.0.more; fits = g.0.fits; stored = g.0.stored };
            long = n;
            chained = record { walked = its_walk; high = t.high; long = t.whole; has = λ z. g.1 };
          }

      pub turn_differs : count ≡ count_of statement_table b → r ≡ None → commits (statements b) (keep p (statements b)) (names b) ≡ none
      unfolding statements
      turn_differs a q =
          ap (λ (n : ℕ). commits (statements b) (keep p (rows (statement_at b) 0 n)) (names b)) (sym a)
          ∙ none_below b p count (names b) (i - 1) (omega (arith, t.up)) (merges ∙ subst (JoinedWith b gained gained' table own len) q j)
