-- What was found before an act: the records that it needs, and whether they are free. Assumes nothing.
use Prim.Native.Nat.{ℕ, ◌+◌, ◌≤◌, ◌<◌}
use mathlib.Core.Path.{◌≡◌, refl, sym, ap, ◌∙◌, subst}
use mathlib.Core.Bool.{true, false}
use mathlib.Core.List.{List}
use native.Mathlib.Omega.{arith}
use lib.Dec.{leb, eqb}
use lib.ListN.{length}
use borrow.Author.Tests.{eqb-true, eqb-false, eq-eqb, ne_eqb, le-leb, lt-leb}
use Rattle.rules.specs.Limits.{most_tallies}
use Rattle.rules.specs.Words.{Certificate, Opener, Tally, Moment, same_block, join, join_certificate, moment}
use Rattle.rules.specs.Inputs.{saying, tallied}
use Rattle.rules.specs.Refusals.{has_room}
use Rattle.laws.proofs.Tests.{by_bool}
use Rattle.store.specs.Layout.{statement_table, tally_table, size_in, count_of}
use Rattle.store.specs.Decode.{statement_at, tally_at, statements, tallies, state_from, state_of, Form, Left}
use Rattle.store.specs.Searches.{block_at}
use Rattle.tallies.specs.Meaning.{with_voters}
use Rattle.joining.specs.Changes.{certifying}
use Rattle.std.specs.Prelude.{Option, Some, None}
use Rattle.joining.proofs.Joining.{certificate_joins}
use Rattle.store.proofs.Rows.{rows_length}
use Rattle.store.proofs.Forms.{form_statements}
use Rattle.storing.specs.Records.{certified_at, needed, fitting, Tried}
use Rattle.storing.proofs.Rooms.{Adds, adds, tallied_room}

-- ---- the tables

pub count_statements : (b : List ℕ) → length (state_of b).statements ≡ count_of statement_table b
unfolding state_of state_from statements
count_statements b = rows_length (statement_at b) 0 (count_of statement_table b)

pub count_tallies : (b : List ℕ) → length (state_of b).tallies ≡ count_of tally_table b
unfolding state_of state_from tallies
count_tallies b = rows_length (tally_at b) 0 (count_of tally_table b)

-- ---- a tally

module _ (t : Certificate) where
  pub certified_genesis : (us : List Tally) → t.view ≡ 0 → None ≡ certified_at t us
  unfolding certified_at
  certified_genesis us q = rw (eq-eqb t.view 0 q, certified_at)

  pub certified_block : (us : List Tally) → (t.view ≡ 0 → ⊥) → certified_at t us ≡ block_at t us
  unfolding certified_at
  certified_block us d = rw (ne_eqb t.view 0 d, certified_at)

  pub needed_genesis : (r : Option ℕ) → t.view ≡ 0 → 0 ≡ needed t r
  unfolding needed
  needed_genesis r q = rw (eq-eqb t.view 0 q, needed)

  pub needed_none : (r : Option ℕ) → (t.view ≡ 0 → ⊥) → (j : ℕ) → r ≡ Some j → 0 ≡ needed t r
  unfolding needed
  needed_none r d j e = sym (ap (needed t) e ∙ rw (ne_eqb t.view 0 d, needed))

  pub needed_one : (r : Option ℕ) → (t.view ≡ 0 → ⊥) → r ≡ None → 1 ≡ needed t r
  unfolding needed
  needed_one r d e = sym (ap (needed t) e ∙ rw (ne_eqb t.view 0 d, needed))

  pub needed_few : (r : Option ℕ) → needed t r ≤ 1
  unfolding needed
  needed_few None = by_bool (eqb t.view 0) (λ q. rw (q, needed) (omega arith)) (λ q. rw (q, needed) (omega arith))
  needed_few (Some j) = by_bool (eqb t.view 0) (λ q. rw (q, needed) (omega arith)) (λ q. rw (q, needed) (omega arith))

  -- a block that is joined adds what it needs
  module _ (k : Moment) (us : List Tally) (r : Option ℕ) where
    pub block_adds : (t.view ≡ 0 → ⊥) → r ≡ block_at t us → length us + needed t r ≡ length (join k t us)
    block_adds d e = go r refl
      where
        go : (p : Option ℕ) → r ≡ p → length us + needed t r ≡ length (join k t us)
        go None q = omega (arith, needed_one r d q, subst (Adds k t us) (sym e ∙ q) (adds k t 0 us))
        go (Some j) q = omega (arith, needed_none r d j q, subst (Adds k t us) (sym e ∙ q) (adds k t 0 us))

    pub certificate_adds : r ≡ certified_at t us → length us + needed t r ≡ length (join_certificate k t us)
    unfolding join_certificate
    certificate_adds e =
        by_bool (eqb t.view 0) (λ q. rw (q, join_certificate) (omega (arith, needed_genesis r (eqb-true t.view 0 q))))
        (λ q. let d = eqb-false t.view 0 q in block_adds d (e ∙ certified_block us d) ∙ sym (ap length (certificate_joins k t us d)))

-- ---- a vote or a status, where k tallies would be in use

-- whoever votes, the tally is found by the block, and needs a record or not
certified_apart : (m : ℕ) (t : Certificate) (us : List Tally) → certified_at t us ≡ certified_at (with_voters m t) us
unfolding certified_at same_block
certified_apart m t us = refl

needed_apart : (m : ℕ) (t : Certificate) (r : Option ℕ) → needed (with_voters m t) r ≡ needed t r
unfolding needed
needed_apart m t r = refl

module _ {b : List ℕ} (f : Form b) (o : Opener) (u : Certificate) (m : ℕ) (r : Option ℕ) (e : r ≡ certified_at u (tallies b)) (k : ℕ) (d : k ≡ count_of tally_table b + needed u r) where
  abbrev t : Certificate
  t = with_voters m u

  k_is : k ≡ length (join_certificate (moment o (state_of b)) t (tallies b))
  unfolding state_of state_from
  k_is = omega (arith, d, needed_apart m u r, count_tallies b, certificate_adds t (moment o (state_of b)) (tallies b) r (e ∙ certified_apart m u (tallies b)))

  room_by : leb k (most_tallies (size_in b)) ≡ has_room (tallied o t (state_of b)).now
  unfolding state_of state_from
  room_by = tallied_room (state_of b) o t (omega (arith, count_statements b, form_statements b f)) k k_is

  pub tallied_full : most_tallies (size_in b) < k → Tried (tallied o t (state_of b)).now (state_of b) b false
  unfolding fitting
  tallied_full l =
      let q : has_room (tallied o t (state_of b)).now ≡ false = sym room_by ∙ lt-leb k (most_tallies (size_in b)) l in
      record { room = sym q; left = rw (q, fitting) (record { form = f; is = refl }) }

  module _ (l : k ≤ most_tallies (size_in b)) where
    pub tallied_fits : length (join_certificate (moment o (state_of b)) t (tallies b)) ≤ most_tallies (size_in b)
    tallied_fits = omega (arith, k_is)

    pub tallied_done : {b' : List ℕ} → Left b' (certifying o t (state_of b)) → Tried (tallied o t (state_of b)).now (state_of b) b' true
    unfolding fitting certifying tallied saying
    tallied_done h =
        let q : has_room (tallied o t (state_of b)).now ≡ true = sym room_by ∙ le-leb k (most_tallies (size_in b)) l in
        record { room = sym q; left = rw (q, fitting) h }
