-- Joining by the place found: the tally there grows, or one is opened; genesis in view 0 is left out. Assumes nothing.
use Prim.Native.Nat.{ℕ, ◌^◌, ◌<◌, ◌≤◌}
use mathlib.Core.Path.{◌≡◌, refl, sym, ap, ◌∙◌}
use mathlib.Core.List.{List, [], ◌∷◌}
use mathlib.Core.Option.{none}
use native.Mathlib.Omega.{arith}
use lib.Bits.{or_zero_l}
use lib.ListN.{length, length-append}
use borrow.Author.Tests.{eq-eqb, ne_eqb}
use Rattle.rules.specs.Limits.{most_tallies, last_clock}
use Rattle.rules.specs.Words.{Certificate, Opener, Tally, Moment, opened, same_block, of_block, grown, join, join_certificate, State, moment}
use Rattle.rules.specs.Sizes.{joined}
use Rattle.rules.specs.Inputs.{with_tables}
use Rattle.store.specs.Layout.{tally_table, size_in, count_of}
use Rattle.store.specs.Decode.{tally_at, tallies, state_from, state_of, Left}
use Rattle.store.specs.Searches.{first_from}
use Rattle.tallies.specs.Values.{told, opener_number, reached_number}
use Rattle.tallies.specs.Meaning.{tally_of, author_of, Numbered, with_voters}
use Rattle.tallies.specs.declared.Tally as code
use Rattle.tallies.specs.declared.Voters.{Voters}
use Rattle.tallies.specs.declared.Voters.TheVariants.{One, Mask}
use Rattle.tallies.proofs.Values.{reached_fits}
use Rattle.joining.specs.Changes.{changing, growing, Fits, opening, joining, Joined, certifying}
use Rattle.std.specs.Prelude.{Option, Some, None}
use Rattle.tallies.proofs.OneByOne.{reached_again}
use Rattle.store.proofs.Rows.{rows_length}
use Rattle.store.proofs.Searches.{found_within}
use Rattle.joining.proofs.Places.{join_found, join_missing, joined_found, joined_missing}

module _ (b : List ℕ) (k : Opener) (t : Certificate) (r : Option ℕ) (e : r ≡ first_from (of_block t) 0 (tallies b)) where
  -- what the store's station tells it
  abbrev at : Moment
  at = moment k (state_of b)

  pub place_within : (j : ℕ) → r ≡ Some j → j < count_of tally_table b
  unfolding tallies
  place_within j q = found_within (of_block t) (tally_at b) (count_of tally_table b) r e j q

  pub room_left : r ≡ None → length (join at t (tallies b)) ≤ most_tallies (size_in b) → count_of tally_table b < most_tallies (size_in b)
  unfolding tallies
  room_left q l =
      let n = ap length (join_missing at t (tallies b) (sym e ∙ q)) in
      omega (arith, length-append (tallies b) (opened at t ∷ []), rows_length (tally_at b) 0 (count_of tally_table b))

  grown_joins : (j : ℕ) → r ≡ Some j → {b' : List ℕ} → Left b' (growing at j t.mask (state_of b)) → Left b' (joining k t (state_of b))
  unfolding growing changing joining state_of state_from
  grown_joins j q h = rw (join_found at t (tallies b) j (sym e ∙ q)) h

  opened_joins : r ≡ None → {b' : List ℕ} → Left b' (opening (opened at t) (state_of b)) → Left b' (joining k t (state_of b))
  unfolding opening joining state_of state_from
  opened_joins q h = rw (join_missing at t (tallies b) (sym e ∙ q)) h

  -- so it stands there now
  pub joined_there : (j : ℕ) → r ≡ Some j → {b' : List ℕ} → Left b' (growing at j t.mask (state_of b)) → Joined k t (state_of b) b' j
  unfolding joining state_of state_from with_tables
  joined_there j q {b'} h =
      let l = grown_joins j q h in
      let e' : tallies b' ≡ join at t (tallies b) = ap (λ (s : State). s.tallies) l.is in
      record { left = l; place = sym (ap (first_from (of_block t) 0) e' ∙ joined_found at t (tallies b) j (sym e ∙ q)) }

  pub joined_new : r ≡ None → {b' : List ℕ} {i : ℕ} → i ≡ count_of tally_table b → Left b' (opening (opened at t) (state_of b)) → Joined k t (state_of b) b' i
  unfolding joining state_of state_from with_tables tallies
  joined_new q {b'} {i} d h =
      let l = opened_joins q h in
      let e' : tallies b' ≡ join at t (tallies b) = ap (λ (s : State). s.tallies) l.is in
      let n : i ≡ length (tallies b) = d ∙ sym (rows_length (tally_at b) 0 (count_of tally_table b)) in
      record { left = l; place = ap Some n ∙ sym (ap (first_from (of_block t) 0) e' ∙ joined_missing at t (tallies b) (sym e ∙ q)) }

-- whoever votes, the search is for the block
pub voters_apart : (m : ℕ) (t : Certificate) (us : List Tally) → first_from (of_block t) 0 us ≡ first_from (of_block (with_voters m t)) 0 us
unfolding same_block
voters_apart m t us = refl

-- who joins an empty tally first are all its voters
pub empty_grown : (k : Moment) (t : Certificate) (m : ℕ) {u v : Tally} → u ≡ opened k (with_voters 0 t) → v ≡ grown k u m → v ≡ opened k (with_voters m t)
unfolding grown joined
empty_grown k t m e f =
    f ∙ ap (λ (w : Tally). grown k w m) e ∙ (λ i. record { view = t.view; height = t.height; name = t.name; mask = joined 0 m; opener = k.opener; reached = reached_again k none 0 m i })
    ∙ ap (λ (n : ℕ). opened k (with_voters n t)) (or_zero_l m)

-- an author's number has its field's width
author_fits : (who : Voters) → Numbered who → opener_number (author_of who) < 256 ^ 1
author_fits (One i) h = omega arith
author_fits (Mask m) h = omega arith

-- what it keeps of whoever opened it fits its record
pub opened_fits : (k : Moment) (t : Certificate) (who : Voters) (u : code.Tally) → tally_of u ≡ opened k t → k.clock ≤ last_clock → Numbered who → k.opener ≡ author_of who → Fits u
unfolding tally_of
opened_fits k t who u e l n o = record {
  opener = rw (ap (λ (w : Tally). w.opener) e, o) (author_fits who n);
  reached = rw (ap (λ (w : Tally). w.reached) e) (reached_fits k t.mask none (omega arith) l);
}

pub certificate_joins : (k : Moment) (t : Certificate) (us : List Tally) → (t.view ≡ 0 → ⊥) → join_certificate k t us ≡ join k t us
unfolding join_certificate
certificate_joins k t us d = rw (ne_eqb t.view 0 d, join_certificate)

pub certified_some : (k : Opener) (t : Certificate) (s : State) → (t.view ≡ 0 → ⊥) → certifying k t s ≡ joining k t s
unfolding certifying joining
certified_some k t s d = ap (λ (us : List Tally). with_tables s.statements us s) (certificate_joins (moment k s) t s.tallies d)

pub certified_none : (k : Opener) (t : Certificate) (s : State) → t.view ≡ 0 → s ≡ certifying k t s
unfolding certifying with_tables join_certificate
certified_none k t s d = rw (eq-eqb t.view 0 d, join_certificate)
