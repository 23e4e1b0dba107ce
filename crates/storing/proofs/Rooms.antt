-- How many records a statement adds: one for itself and one for each block without a tally. Assumes nothing.
use Prim.Native.Nat.{ℕ, suc, ◌+◌, ◌-◌, ◌≤◌}
use mathlib.Core.Path.{◌≡◌, refl, sym, ap, ap₂, ◌∙◌}
use mathlib.Core.Bool.{Bool, true, false, ◌&&◌, ◌||◌}
use mathlib.Core.List.{List, [], ◌∷◌}
use mathlib.Core.Option.{Option, none, some}
use native.Mathlib.Omega.{arith}
use lib.Dec.{leb, ltb, eqb}
use lib.ListN.{length, length-append}
use borrow.Author.Tests.{eqb-true, leb-true, ltb-true, ltb-false, ne_eqb, le-leb, lt-leb}
use Rattle.rules.specs.Limits.{most_statements, most_tallies}
use Rattle.rules.specs.Lists.{iff, any}
use Rattle.rules.specs.Sizes.{Settings, joined}
use Rattle.rules.specs.Messages.{new_view}
use Rattle.rules.specs.Words.{Statement, message, same_statement, Certificate, Opener, Tally, Moment, reached_at, own_block, certificate, same_block, of_block, grown, join, join_certificate, State, moment}
use Rattle.rules.specs.Inputs.{saying, with_tables, stored, tallied}
use Rattle.rules.specs.Refusals.{has_room}
use Rattle.rules.specs.WellFormed.{tallies_there}
use Rattle.laws.proofs.Tests.{by_bool, no_bool, eqb_self}
use Rattle.laws.proofs.Truths.{and_2, and_6}
use Rattle.laws.proofs.Allowed.{allowed_rights}
use Rattle.store.specs.Searches.{pick, first_from, block_at}
use Rattle.std.specs.Prelude.{Option as Maybe, Some, None}
use Rattle.kept.specs.Parts.{Formed}
use Rattle.kept.specs.Said.{Sendable}
use Rattle.kept.proofs.Lists.{all_mem, any_find, any_cong}
use Rattle.kept.proofs.Statements.{stated}

-- ---- one tally

block_grown : (k : Moment) (t : Certificate) (u : Tally) (m : ℕ) → of_block t (grown k u m) ≡ of_block t u
unfolding same_block grown
block_grown k t u m = refl

-- who opens is nothing to a tally that is there
reached_anyhow : (s : State) (o p : Opener) (r : Option ℕ) (m : ℕ) → reached_at (moment o s) r m ≡ reached_at (moment p s) r m
unfolding reached_at
reached_anyhow s o p none m = refl
reached_anyhow s o p (some c) m = refl

grown_anyhow : (s : State) (o p : Opener) (u : Tally) (m : ℕ) → grown (moment o s) u m ≡ grown (moment p s) u m
unfolding grown
grown_anyhow s o p u m =
    λ i. record { view = u.view; height = u.height; name = u.name; mask = joined u.mask m; opener = u.opener; reached = reached_anyhow s o p u.reached (joined u.mask m) i }

pub there_same : (s : State) (o p : Opener) (t : Certificate) (us : List Tally) → any (of_block t) us ≡ true → join (moment o s) t us ≡ join (moment p s) t us
unfolding any join
there_same s o p t [] h = no_bool (sym h)
there_same s o p t (u ∷ us) h =
    by_bool (of_block t u) (λ q. rw (q, join) (ap (◌∷ us) (grown_anyhow s o p u t.mask))) (λ q. rw (q, join) (ap (u ∷◌) (there_same s o p t us (rw (q, any) at h))))

module _ (k : Moment) (t : Certificate) where
  pub there_length : (us : List Tally) → any (of_block t) us ≡ true → length (join k t us) ≡ length us
  unfolding any join
  there_length [] h = no_bool (sym h)
  there_length (u ∷ us) h = by_bool (of_block t u) (λ q. rw (q, join)) (λ q. rw (q, join) (ap suc (there_length us (rw (q, any) at h))))

  -- by its place: none is added where it is there, else one
  abbrev pub Adds : List Tally → Maybe ℕ → Type 0
  Adds us None = length (join k t us) ≡ suc (length us)
  Adds us (Some j) = length (join k t us) ≡ length us

  pub adds : (i : ℕ) (us : List Tally) → Adds us (first_from (of_block t) i us)
  unfolding first_from join
  adds i [] = refl
  adds i (u ∷ us) = go (of_block t u) (first_from (of_block t) (suc i) us) refl (adds (suc i) us)
    where
      go : (b : Bool) (r : Maybe ℕ) → of_block t u ≡ b → Adds us r → Adds (u ∷ us) (pick b (Some i) r)
      go true r e h = rw (e, join)
      go false None e h = rw (e, join) (ap suc h)
      go false (Some j) e h = rw (e, join) (ap suc h)

  pub join_grows : (us : List Tally) → length us ≤ length (join k t us)
  join_grows us = go (block_at t us) (adds 0 us)
    where
      go : (r : Maybe ℕ) → Adds us r → length us ≤ length (join k t us)
      go None h = omega arith
      go (Some j) h = omega arith

  -- other blocks stay where they are
  join_others : (x : Certificate) (i : ℕ) (us : List Tally) → same_block x t ≡ false → first_from (of_block x) i (join k t us) ≡ first_from (of_block x) i us
  unfolding first_from join
  join_others x i [] n = rw n
  join_others x i (u ∷ us) n =
      by_bool (of_block t u) (λ q. rw (q, join, block_grown k x u t.mask))
      (λ q. by_bool (of_block x u) (λ r. rw (q, join, r)) (λ r. rw (q, join, r) (join_others x (suc i) us n)))

module _ (k : Moment) (t : Certificate) (us : List Tally) where
  pub certificate_there : (eqb t.view 0 || any (of_block t) us) ≡ true → length (join_certificate k t us) ≡ length us
  unfolding join_certificate
  certificate_there h = by_bool (eqb t.view 0) (λ q. rw (q, join_certificate)) (λ q. rw (q, join_certificate) (there_length k t us (rw q at h)))

  pub certificate_others : (x : Certificate) → same_block x t ≡ false → block_at x (join_certificate k t us) ≡ block_at x us
  unfolding join_certificate
  certificate_others x n = by_bool (eqb t.view 0) (λ q. rw (q, join_certificate)) (λ q. rw (q, join_certificate) (join_others k t x 0 us n))

-- ---- a statement's two blocks

-- the same statements carry certificates of one block
module _ (x y : Statement) (e : same_statement x y ≡ true) where
  kinds_agree : (a b : Bool) → iff a b ≡ true → a ≡ b
  unfolding iff
  kinds_agree true true q = refl
  kinds_agree true false q = sym q
  kinds_agree false true q = q
  kinds_agree false false q = refl

  agree : (x.is_new_view ≡ y.is_new_view) × (x.view ≡ y.view) × (x.height ≡ y.height) × (x.name ≡ y.name) × (x.link ≡ y.link) × (x.author ≡ y.author)
  unfolding same_statement
  agree =
      let t = and_6 (iff x.is_new_view y.is_new_view) (eqb x.view y.view) (eqb x.height y.height) (eqb x.name y.name) (eqb x.link y.link) (eqb x.author y.author) e in
      (kinds_agree x.is_new_view y.is_new_view t.0, eqb-true _ _ t.1, eqb-true _ _ t.2, eqb-true _ _ t.3, eqb-true _ _ t.4, eqb-true _ _ t.5)

  pub same_cong : (z : Statement) → same_statement x z ≡ same_statement y z
  unfolding same_statement
  same_cong z = let (k, v, h, n, l, a) = agree in rw (k, v, h, n, l, a)

  same_certificate : ((certificate x).view ≡ (certificate y).view) × ((certificate x).height ≡ (certificate y).height) × ((certificate x).name ≡ (certificate y).name)
  unfolding certificate
  same_certificate =
      let (k, v, h, n, l, a) = agree in
      by_bool y.is_new_view (λ q. rw (k, q, certificate) (l, h, n)) (λ q. rw (k, q, certificate) (v, ap (◌- 1) h, l))

  certificate_cong : (u : Tally) → of_block (certificate x) u ≡ of_block (certificate y) u
  unfolding same_block
  certificate_cong u = let (v, h, n) = same_certificate in rw (v, h, n)

  certificate_held : (ts : List Tally) → (eqb (certificate x).view 0 || any (of_block (certificate x)) ts) ≡ (eqb (certificate y).view 0 || any (of_block (certificate y)) ts)
  certificate_held ts =
      ap₂ (λ (v : ℕ) (a : Bool). eqb v 0 || a) same_certificate.0 (any_cong (of_block (certificate x)) (of_block (certificate y)) certificate_cong ts)

-- a stored statement's tallies are there
module _ {s : State} (f : Formed s) (x : Statement) (e : any (same_statement x) s.statements ≡ true) where
  pub repeat_length : length (join_certificate (moment none s) (certificate x) s.tallies) ≡ length s.tallies
  unfolding tallies_there
  repeat_length =
      let (y, m, q) = any_find (same_statement x) s.statements e in
      let t = and_2 (any (of_block (own_block y 0)) s.tallies) _ (all_mem (tallies_there s.tallies) f.tables.opened m) in
      certificate_there (moment none s) (certificate x) s.tallies (certificate_held x y q s.tallies ∙ t.1)

module _ (g : Settings) (x : Statement) (m : Sendable g (message x)) where
  -- its own block is another than its certified one
  pub own_differs : same_block (own_block x 0) (certificate x) ≡ false
  unfolding same_block own_block certificate message
  own_differs =
      by_bool x.is_new_view
      (λ k.
      let l = (allowed_rights g (new_view x.view x.height x.name x.link x.mask x.author) (rw (k, message) at m.is_allowed)).2 in
      rw (k, certificate, ne_eqb x.view x.link (λ e. omega arith)))
      (λ k.
      let l = ((stated g x m).parent k).0 in
      rw (k, certificate, eqb_self x.view, ne_eqb x.height (x.height - 1) (λ e. omega arith)))

pub own_any : (x : Statement) (m : ℕ) (ts : List Tally) → any (of_block (own_block x m)) ts ≡ any (of_block (own_block x 0)) ts
unfolding same_block own_block
own_any x m ts = any_cong (of_block (own_block x m)) (of_block (own_block x 0)) (λ u. refl) ts

-- ---- room for what is added

pub room_parts : (s : State) → has_room s ≡ true → (length s.statements ≤ most_statements s.settings.size) × (length s.tallies ≤ most_tallies s.settings.size)
unfolding has_room
room_parts s e =
    let t = and_2 (leb (length s.statements) (most_statements s.settings.size)) (leb (length s.tallies) (most_tallies s.settings.size)) e in
    (leb-true _ _ t.0, leb-true _ _ t.1)

pub tallied_room : (s : State) (k : Opener) (t : Certificate) → length s.statements ≤ most_statements s.settings.size → (n : ℕ) → n ≡ length (join_certificate (moment k s) t s.tallies)
    → leb n (most_tallies s.settings.size) ≡ has_room (tallied k t s).now
unfolding has_room tallied saying with_tables
tallied_room s k t l n e = rw (le-leb _ _ l, e)

next_below : (a b : ℕ) → ltb a b ≡ leb (a + 1) b
next_below a b = by_bool (ltb a b) (λ q. rw (q, le-leb (a + 1) b (omega (arith, ltb-true a b q)))) (λ q. rw (q, lt-leb (a + 1) b (omega (arith, ltb-false a b q))))

pub stored_room : (s : State) (x : Statement) (n : ℕ) → n ≡ length (join (moment none s) (own_block x 0) (join_certificate (moment none s) (certificate x) s.tallies))
    → (ltb (length s.statements) (most_statements s.settings.size) && leb n (most_tallies s.settings.size)) ≡ has_room (stored x s)
unfolding has_room stored with_tables
stored_room s x n e =
    let z = s.settings.size in
    ap₂ ◌&&◌ (next_below (length s.statements) (most_statements z) ∙ ap (λ (k : ℕ). leb k (most_statements z)) (sym (length-append s.statements (x ∷ [])))) (ap (λ (k : ℕ). leb k (most_tallies z)) e)
