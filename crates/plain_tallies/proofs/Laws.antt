-- What the place of a block's tally says of joining and of its voters, and the steps of the two counts. Assumes nothing.
use Prim.Native.Nat.{ℕ, suc, ◌+◌, ◌<◌, ◌≤◌}
use mathlib.Core.Path.{◌≡◌, refl, sym, ap, ◌∙◌}
use mathlib.Core.Bool.{Bool, true, false, ◌&&◌}
use mathlib.Core.List.{List, [], ◌∷◌, ◌++◌}
use mathlib.Core.Option.{none, some}
use native.Mathlib.Omega.{arith}
use native.Mathlib.Nat.{le_of_suc-le-suc}
use native.Mathlib.Numerals.{add-one}
use lib.ListN.{length, get_or, set}
use lib.Dec.{ltb, eqb}
use borrow.Author.Tests.{eq-eqb, ne_eqb}
use Rattle.rules.specs.Lists.{keep}
use Rattle.rules.specs.Sizes.{Settings, quorum}
use Rattle.rules.specs.Words as words
use Rattle.rules.specs.Words.{Certificate, Moment, reached_at, certificate_of, of_block, same_block, opened, grown, join, join_certificate, voters, is_author, opened_by, certified, higher, highest}
use Rattle.laws.proofs.Tests.{by_bool}
use Rattle.plain_words.specs.Places.{firsts, Within, place}
use Rattle.plain_words.proofs.Firsts.{firsts_more}
use Rattle.plain_words.proofs.Tables.{counted, inside, outside, item, changed}
use Rattle.plain_tallies.specs.declared.Tally.{Tally}
use Rattle.plain_tallies.specs.declared.Tallies.{Tallies}
use Rattle.std.specs.Prelude as code
use Rattle.std.specs.Prelude.{Some, None, position}
use Rattle.std.specs.Option.{option_eq}
use Rattle.std.specs.Bool.{then_some}
use Rattle.plain_words.specs.Meaning.{noted_of}
use Rattle.plain_tallies.specs.Meaning.{opener_of, tally_of, blank, tallies, room, Holds, best_of}

-- ---- over lists

module _ (t : Certificate) where
  join_at : (k : Moment) (d : words.Tally) (us : List words.Tally) → place (of_block t) us < length us
      → join k t us ≡ set us (place (of_block t) us) (grown k (get_or us (place (of_block t) us) d) t.mask)
  unfolding place join
  join_at k d [] h = absurd (omega arith)
  join_at k d (u ∷ us) h =
      by_bool (same_block t (certificate_of u)) (λ q. rw (q, join, place))
      (λ q. rw (q, join, place) (ap (u ∷◌) (join_at k d us (le_of_suc-le-suc (rw (q, place) at h)))))

  join_nowhere : (k : Moment) (us : List words.Tally) → length us ≤ place (of_block t) us → join k t us ≡ us ++ opened k t ∷ []
  unfolding place join
  join_nowhere k [] h = refl
  join_nowhere k (u ∷ us) h =
      by_bool (same_block t (certificate_of u)) (λ q. let z : suc (length us) ≤ 0 = rw (q, place) at h in absurd (omega arith))
      (λ q. rw (q, join) (ap (u ∷◌) (join_nowhere k us (le_of_suc-le-suc (rw (q, place) at h)))))

  voters_at : (d : words.Tally) (us : List words.Tally) → place (of_block t) us < length us → voters t us ≡ (get_or us (place (of_block t) us) d).mask
  unfolding place voters
  voters_at d [] h = absurd (omega arith)
  voters_at d (u ∷ us) h =
      by_bool (same_block t (certificate_of u)) (λ q. rw (q, voters, place)) (λ q. rw (q, voters, place) (voters_at d us (le_of_suc-le-suc (rw (q, place) at h))))

  voters_nowhere : (us : List words.Tally) → length us ≤ place (of_block t) us → voters t us ≡ 0
  unfolding place voters
  voters_nowhere [] h = refl
  voters_nowhere (u ∷ us) h =
      by_bool (same_block t (certificate_of u)) (λ q. let z : suc (length us) ≤ 0 = rw (q, place) at h in absurd (omega arith))
      (λ q. rw (q, voters) (voters_nowhere us (le_of_suc-le-suc (rw (q, place) at h))))

-- ---- over the table

module _ (t : Certificate) (u : Tallies) (w : Within room u.items u.count) where
  -- where the block has a tally
  module _ (i : ℕ) (e : position (of_block t) (tallies u) ≡ Some i) where
    pub joined_here : (k : Moment) (x : Tally) → tally_of x ≡ grown k (tally_of (get_or u.items i blank)) t.mask
        → firsts tally_of (set u.items i x) u.count ≡ join k t (tallies u)
    unfolding tallies
    joined_here k x q =
        changed tally_of blank room u.items u.count w (of_block t) i e x (grown k (get_or (tallies u) (place (of_block t) (tallies u)) (tally_of blank)) t.mask)
        (q ∙ ap (λ (z : words.Tally). grown k z t.mask) (sym (item tally_of blank room u.items u.count w (of_block t) i e)))
        ∙ sym (join_at t k (tally_of blank) (tallies u) (inside tally_of blank room u.items u.count w (of_block t) i e))

    pub voters_here : (tally_of (get_or u.items i blank)).mask ≡ voters t (tallies u)
    unfolding tallies
    voters_here =
        ap (λ (z : words.Tally). z.mask) (sym (item tally_of blank room u.items u.count w (of_block t) i e))
        ∙ sym (voters_at t (tally_of blank) (tallies u) (inside tally_of blank room u.items u.count w (of_block t) i e))

  -- where it has none
  module _ (e : position (of_block t) (tallies u) ≡ None) where
    pub joined_new : (k : Moment) (x : Tally) → u.count < room → tally_of x ≡ opened k t
        → firsts tally_of (set u.items u.count x) (u.count + 1) ≡ join k t (tallies u)
    unfolding tallies
    joined_new k x r q =
        firsts_more tally_of u.items u.count x (omega (arith, w.long)) ∙ ap (λ (z : words.Tally). tallies u ++ z ∷ []) q
        ∙ sym (join_nowhere t k (tallies u) (outside tally_of blank room u.items u.count w (of_block t) e))

    pub voters_none : 0 ≡ voters t (tallies u)
    unfolding tallies
    voters_none = sym (voters_nowhere t (tallies u) (outside tally_of blank room u.items u.count w (of_block t) e))

-- ---- who opened a tally

pub author_is : (a : ℕ) (o : code.Option ℕ) → option_eq eqb (Some a) o ≡ is_author a (opener_of o)
unfolding is_author
author_is a None = refl
author_is a (Some b) = refl

-- ---- the highest, as a fold from the end on meets it

pub highest_none : (g : Settings) (v : ℕ) → words.genesis ≡ highest g v []
unfolding highest
highest_none g v = refl

pub highest_best : (g : Settings) (v : ℕ) (x : words.Tally) (us : List words.Tally) → highest g v (x ∷ us) ≡ best_of g v x (highest g v us)
unfolding highest best_of
highest_best g v x us = refl

-- ---- the clock that a tally keeps

module _ (k : Moment) (m : ℕ) where
  reached_now : quorum k.settings m ≡ true → some k.clock ≡ reached_at k none m
  unfolding reached_at
  reached_now q = rw (q, reached_at)

  reached_not : quorum k.settings m ≡ false → none ≡ reached_at k none m
  unfolding reached_at
  reached_not q = rw (q, reached_at)

  pub reached_some : (o : code.Option ℕ) (c : ℕ) → o ≡ Some c → noted_of o ≡ reached_at k (noted_of o) m
  unfolding reached_at
  reached_some None c e = absurd cc
  reached_some (Some b) c e = refl

  pub reached_none : (o : code.Option ℕ) → o ≡ None → (b : Bool) → b ≡ quorum k.settings m → noted_of (then_some b k.clock) ≡ reached_at k (noted_of o) m
  reached_none None e true q = reached_now (sym q)
  reached_none None e false q = reached_not (sym q)
  reached_none (Some c) e b q = absurd cc

-- ---- the better of a tally and a certificate

module _ (g : Settings) (v : ℕ) (t : words.Tally) (best own : Certificate) (a h : Bool) (e : own ≡ certificate_of t) (ea : a ≡ certified g t) (eh : h ≡ higher own best) where
  test : (ltb t.view v && certified g t && higher (certificate_of t) best) ≡ (ltb t.view v && a && h)
  test = rw (ea, eh, e)

  pub best_own : (ltb t.view v && a && h) ≡ true → own ≡ best_of g v t best
  unfolding best_of
  best_own q = e ∙ rw (test ∙ q, best_of)

  pub best_other : (ltb t.view v && a && h) ≡ false → best ≡ best_of g v t best
  unfolding best_of
  best_other q = rw (test ∙ q, best_of)

-- ---- a certificate of view 0 joins no tally

module _ (k : Moment) (t : Certificate) (us : List words.Tally) where
  pub join_none : t.view ≡ 0 → us ≡ join_certificate k t us
  unfolding join_certificate
  join_none e = rw (eq-eqb t.view 0 e, join_certificate)

  pub join_other : (t.view ≡ 0 → ⊥) → join k t us ≡ join_certificate k t us
  unfolding join_certificate
  join_other d = rw (ne_eqb t.view 0 d, join_certificate)

-- ---- a joining adds one tally at most

pub join_long : (k : Moment) (t : Certificate) (us : List words.Tally) → length (join k t us) ≤ length us + 1
unfolding join
join_long k t [] = omega arith
join_long k t (u ∷ us) =
    let h = join_long k t us in
    by_bool (same_block t (certificate_of u)) (λ q. rw (q, join) (omega arith)) (λ q. rw (q, join) (omega arith))

pub certificate_long : (k : Moment) (t : Certificate) (us : List words.Tally) → length (join_certificate k t us) ≤ length us + 1
unfolding join_certificate
certificate_long k t us =
    let h = join_long k t us in
    by_bool (eqb t.view 0) (λ q. rw (q, join_certificate) (omega arith)) (λ q. rw (q, join_certificate) h)

pub tally_count : (u : Tallies) → Within room u.items u.count → length (tallies u) ≡ u.count
unfolding tallies
tally_count u w = counted tally_of blank room u.items u.count w

pub certificate_count : (u : Tallies) → Within room u.items u.count → (k : Moment) (t : Certificate) (r : Tallies) → Holds r (join_certificate k t (tallies u)) → r.count ≤ u.count + 1
certificate_count u w k t r h =
    omega (arith, tally_count u w, tally_count r h.within, ap length h.is, certificate_long k t (tallies u))
