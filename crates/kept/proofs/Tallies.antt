-- The table of tallies: joining keeps it good and distinct and loses no block; the highest certificate is a certificate. Assumes nothing.
use mathlib.Core.Path.{◌≡◌, refl, sym, ◌∙◌}
use mathlib.Core.Logic.{inl, inr}
use Prim.Native.Nat.{ℕ, ◌^◌, ◌≤◌, ◌<◌}
use native.Mathlib.Omega.{arith}
use mathlib.Core.Bool.{Bool, true, false, not}
use mathlib.Core.List.{List, [], ◌∷◌}
use lib.Dec.{leb, ltb, eqb, lit≤}
use mathlib.Core.Option.{Option, none, some, some-injective}
use borrow.Author.Tests.{not-true, eqb-true, eqb-false, eq-eqb, ltb-true, lt-ltb, leb-true, le-leb}
use Rattle.rules.specs.Lists.{any, all, distinct}
use Rattle.rules.specs.Sizes.{Settings, only, bit, holds, joined, quorum}
use Rattle.rules.specs.Messages.{view_allowed, block_allowed, certificate_allowed}
use Rattle.rules.specs.Words.{Certificate, Opener, Tally, Moment, reached_at, certificate_of, opened, of_block, same_block, grown, join, join_certificate, voters, highest, State}
use Rattle.rules.specs.WellFormed.{is_name, is_mask, lock_good, opener_good, reached_good, tally_good, same_tally}
use Rattle.laws.proofs.Tests.{by_bool, no_bool, no_some, eqb_self}
use Rattle.laws.proofs.Masks.{joined_lt, joined_left, quorum_joined}
use Rattle.laws.proofs.Truths.{and_2, and_4, and_6, both, eqb_sym}
use Rattle.laws.proofs.Tallies.{only_bit, count_quorum, block_cong, voters_tally, highest_tally}
use Rattle.laws.proofs.Allowed.{view_within, name_lt, lt_name, mask_lt, lt_mask, none_lt, mask_parts, mask_made, certificate_cases, certificate_made, within_view}
use Rattle.kept.proofs.Lists.{all_mem}

-- ---- one tally

pub record TallyGood (g : Settings) (now : ℕ) (t : Tally) : Type 0 where
  pub view : view_allowed g t.view ≡ true
  pub block : block_allowed t.height t.name ≡ true
  pub name : t.name < 256 ^ 32
  pub mask : t.mask < 2 ^ g.n
  pub opener : opener_good g t.mask t.opener ≡ true
  pub reached : reached_good g now t.mask t.reached ≡ true

pub tally_parts : (g : Settings) (now : ℕ) (t : Tally) → tally_good g now t ≡ true → TallyGood g now t
unfolding tally_good
tally_parts g now t e =
    let o = opener_good g t.mask t.opener in
    let r = reached_good g now t.mask t.reached in
    let h = and_6 (view_allowed g t.view) (block_allowed t.height t.name) (is_name t.name) (is_mask g t.mask) o r e in
    record { view = h.0; block = h.1; name = name_lt t.name h.2; mask = mask_lt g t.mask h.3; opener = h.4; reached = h.5 }

pub tally_made : {g : Settings} {now : ℕ} {t : Tally} → TallyGood g now t → tally_good g now t ≡ true
unfolding tally_good
tally_made {g} {now} {t} k = rw (k.view, k.block, lt_name t.name k.name, lt_mask g t.mask k.mask, k.opener) k.reached

-- an opener stays among the voters
opener_grown : (g : Settings) (m l : ℕ) (k : Opener) → opener_good g m k ≡ true → opener_good g (joined m l) k ≡ true
unfolding opener_good holds
opener_grown g m l none e = refl
opener_grown g m l (some a) e =
    let p = and_2 (ltb a g.n) (holds m a) e in both p.0 (eq-eqb (bit (joined m l) a) 1 (joined_left m l a (eqb-true (bit m a) 1 p.1)))

pub opener_lt : (g : Settings) (m : ℕ) (k : Opener) (a : ℕ) → opener_good g m k ≡ true → k ≡ some a → a < g.n
unfolding opener_good
opener_lt g m none a e q = no_some q
opener_lt g m (some b) a e q = rw (← some-injective b a q) (ltb-true b g.n (and_2 (ltb b g.n) (holds m b) e).0)

-- who opens a tally by a vote is its voter
pub opener_only : (g : Settings) (a : ℕ) → a < g.n → opener_good g (only a) (some a) ≡ true
unfolding opener_good holds
opener_only g a l = both (lt-ltb a g.n l) (eq-eqb (bit (only a) a) 1 (only_bit a))

-- ---- the clock of the first quorum

-- a tally opened at a clock keeps it as it should
pub reached_new : (k : Moment) (m : ℕ) → reached_good k.settings k.clock m (reached_at k none m) ≡ true
unfolding reached_good reached_at
reached_new k m =
    by_bool (quorum k.settings m) (λ q. rw (q, reached_at) (rw (q, reached_good) (le-leb k.clock k.clock (omega arith)))) (λ q. rw (q, reached_at) (rw (q, reached_good)))

-- so does one that grows, since a quorum stays one
reached_grown : (k : Moment) (m l : ℕ) (r : Option ℕ) → reached_good k.settings k.clock m r ≡ true
    → reached_good k.settings k.clock (joined m l) (reached_at k r (joined m l)) ≡ true
unfolding reached_good reached_at
reached_grown k m l none e = reached_new k (joined m l)
reached_grown k m l (some c) e =
    let p = and_2 (quorum k.settings m) (leb c k.clock) e in
    both (count_quorum k.settings (joined m l) (quorum_joined k.settings m l p.0)) p.1

-- and it is good at any later clock
reached_later : (g : Settings) (now then m : ℕ) (r : Option ℕ) → now ≤ then → reached_good g now m r ≡ true → reached_good g then m r ≡ true
unfolding reached_good
reached_later g now then m none l e = e
reached_later g now then m (some c) l e =
    let p = and_2 (quorum g m) (leb c now) e in let h = leb-true c now p.1 in both p.0 (le-leb c then (omega arith))

pub tally_later : (g : Settings) (now then : ℕ) (t : Tally) → now ≤ then → tally_good g now t ≡ true → tally_good g then t ≡ true
tally_later g now then t l e =
    let k = tally_parts g now t e in
    tally_made (record { view = k.view; block = k.block; name = k.name; mask = k.mask; opener = k.opener; reached = reached_later g now then t.mask t.reached l k.reached })

-- the clock that is there, is not after the present one
pub reached_le : (g : Settings) (now m : ℕ) (r : Option ℕ) (c : ℕ) → reached_good g now m r ≡ true → r ≡ some c → c ≤ now
unfolding reached_good
reached_le g now m none c e q = no_some q
reached_le g now m (some b) c e q = rw (← some-injective b c q) (leb-true b now (and_2 (quorum g m) (leb b now) e).1)

grown_good : (k : Moment) (t : Tally) (m : ℕ) → tally_good k.settings k.clock t ≡ true → m < 2 ^ k.settings.n
    → tally_good k.settings k.clock (grown k t m) ≡ true
unfolding grown
grown_good k t m e h =
    let g = k.settings in
    let p = tally_parts g k.clock t e in
    tally_made
    (record {
      view = p.view;
      block = p.block;
      name = p.name;
      mask = joined_lt g.n t.mask m p.mask h;
      opener = opener_grown g t.mask m t.opener p.opener;
      reached = reached_grown k t.mask m t.reached p.reached;
    })

pub block_self : (t : Certificate) → same_block t t ≡ true
unfolding same_block
block_self t = rw (eqb_self t.view, eqb_self t.height, eqb_self t.name)

block_sym : (t u : Certificate) → same_block t u ≡ same_block u t
unfolding same_block
block_sym t u = rw (eqb_sym t.view u.view, eqb_sym t.height u.height, eqb_sym t.name u.name)

block_grown : (k : Moment) (t : Certificate) (u : Tally) (m : ℕ) → of_block t (grown k u m) ≡ of_block t u
unfolding same_block grown
block_grown k t u m = refl

-- ---- joining

-- good when they join
abbrev good : Moment → Tally → Bool
good k u = tally_good k.settings k.clock u

module _ (k : Moment) (t : Certificate) where
  pub join_good : (us : List Tally) → good k (opened k t) ≡ true → all (good k) us ≡ true → all (good k) (join k t us) ≡ true
  unfolding all join
  join_good [] j h = both j refl
  join_good (u ∷ us) j h =
      let p = and_2 (good k u) (all (good k) us) h in
      by_bool (of_block t u) (λ q. rw (q, join) (both (grown_good k u t.mask p.0 (tally_parts k.settings k.clock (opened k t) j).mask) p.1))
      (λ q. rw (q, join) (both p.0 (join_good us j p.1)))

  -- no block is lost, and the joined one is there
  pub join_any : (x : Certificate) (us : List Tally) → any (of_block x) us ≡ true → any (of_block x) (join k t us) ≡ true
  unfolding any join
  join_any x [] h = no_bool (sym h)
  join_any x (u ∷ us) h =
      by_bool (of_block t u) (λ q. rw (q, join, any, block_grown k x u t.mask) h)
      (λ q. by_bool (of_block x u) (λ r. rw (q, join, r, any)) (λ r. rw (q, join, r, any) (join_any x us (rw (r, any) at h))))

  pub join_there : (x : Certificate) (us : List Tally) → same_block x t ≡ true → any (of_block x) (join k t us) ≡ true
  unfolding any join
  join_there x [] e = rw (e, any)
  join_there x (u ∷ us) e =
      by_bool (of_block t u) (λ q. rw (q, join, any, block_grown k x u t.mask, block_cong x t (certificate_of u) e, q))
      (λ q. rw (q, join, block_cong x t (certificate_of u) e, q, any) (join_there x us e))

  -- another block than the joined one is not added
  join_other : (x : Certificate) (us : List Tally) → same_block x t ≡ false → any (of_block x) us ≡ false → any (of_block x) (join k t us) ≡ false
  unfolding any join
  join_other x [] n h = rw (n, any)
  join_other x (u ∷ us) n h =
      by_bool (of_block t u) (λ q. rw (q, join, any, block_grown k x u t.mask) h)
      (λ q. by_bool (of_block x u) (λ r. no_bool (rw (r, any) at h)) (λ r. rw (q, join, r, any) (join_other x us n (rw (r, any) at h))))

  pub join_distinct : (us : List Tally) → distinct same_tally us ≡ true → distinct same_tally (join k t us) ≡ true
  unfolding distinct same_tally join
  join_distinct [] h = refl
  join_distinct (u ∷ us) h =
      by_bool (of_block t u) (λ q. rw (q, join) h)
      (λ q.
      let p = and_2 (not (any (same_tally u) us)) (distinct same_tally us) h in
      let n = join_other (certificate_of u) us (block_sym (certificate_of u) t ∙ q) (not-true (any (same_tally u) us) p.0) in
      rw (q, join, n) (join_distinct us p.1))

-- "genesis .. has no tally" in view 0: a certificate is joined where it is not of view 0
abbrev pub Joinable : Moment → Certificate → Type 0
Joinable k t = eqb t.view 0 ≡ false → good k (opened k t) ≡ true

-- nobody opens it, with these settings, at this clock
abbrev pub by_none : Settings → ℕ → Moment
by_none g now = record { settings = g; clock = now; opener = none }

pub joinable : (g : Settings) (now : ℕ) (t : Certificate) → block_allowed t.height t.name ≡ true → t.name < 256 ^ 32
    → certificate_allowed g t.height t.view t.mask ≡ true → Joinable (by_none g now) t
unfolding opener_good
joinable g now t b n a q =
    elim (certificate_cases g t.mask t.height t.view a) [
      | inl k ↦ absurd (eqb-false t.view 0 q k.0)
      | inr k ↦
          tally_made
          (record { view = within_view g t.view k.0 k.1; block = b; name = n; mask = (mask_parts g t.mask k.2).0; opener = refl; reached = reached_new (by_none g now) t.mask })
    ]

module _ (k : Moment) (t : Certificate) (us : List Tally) where
  pub certificate_good : Joinable k t → all (good k) us ≡ true → all (good k) (join_certificate k t us) ≡ true
  unfolding join_certificate
  certificate_good j h = by_bool (eqb t.view 0) (λ q. rw (q, join_certificate) h) (λ q. rw (q, join_certificate) (join_good k t us (j q) h))

  pub certificate_any : (x : Certificate) → any (of_block x) us ≡ true → any (of_block x) (join_certificate k t us) ≡ true
  unfolding join_certificate
  certificate_any x h = by_bool (eqb t.view 0) (λ q. rw (q, join_certificate) h) (λ q. rw (q, join_certificate) (join_any k t x us h))

  pub certificate_there : eqb t.view 0 ≡ false → any (of_block t) (join_certificate k t us) ≡ true
  unfolding join_certificate
  certificate_there q = rw (q, join_certificate) (join_there k t t us (block_self t))

  pub certificate_distinct : distinct same_tally us ≡ true → distinct same_tally (join_certificate k t us) ≡ true
  unfolding join_certificate
  certificate_distinct h = by_bool (eqb t.view 0) (λ q. rw (q, join_certificate) h) (λ q. rw (q, join_certificate) (join_distinct k t us h))

-- ---- reading the table

pub voters_mask : (g : Settings) (now : ℕ) (t : Certificate) (us : List Tally) → all (tally_good g now) us ≡ true → voters t us < 2 ^ g.n
voters_mask g now t us h =
    elim (voters_tally t us) [
      | inl e ↦ rw e (none_lt g)
      | inr (u, m, _, e) ↦ rw e (tally_parts g now u (all_mem (tally_good g now) h m)).mask
    ]

-- a certificate of a view before v: part (4) of a well-formed state
pub record CertificateGood (g : Settings) (v : ℕ) (t : Certificate) : Type 0 where
  pub earlier : t.view < v
  pub block : block_allowed t.height t.name ≡ true
  pub name : t.name < 256 ^ 32
  pub is_allowed : certificate_allowed g t.height t.view t.mask ≡ true

pub lock_parts : (s : State) → lock_good s ≡ true → CertificateGood s.settings s.view s.lock
unfolding lock_good
lock_parts s e =
    let t = s.lock in
    let h = and_4 (ltb t.view s.view) (block_allowed t.height t.name) (is_name t.name) (certificate_allowed s.settings t.height t.view t.mask) e in
    record { earlier = ltb-true t.view s.view h.0; block = h.1; name = name_lt t.name h.2; is_allowed = h.3 }

pub lock_made : (s : State) → CertificateGood s.settings s.view s.lock → lock_good s ≡ true
unfolding lock_good
lock_made s k = let t = s.lock in rw (lt-ltb t.view s.view k.earlier, k.block, lt_name t.name k.name) k.is_allowed

pub highest_good : (g : Settings) (now v : ℕ) (ts : List Tally) → 1 ≤ v → all (tally_good g now) ts ≡ true → CertificateGood g v (highest g v ts)
unfolding block_allowed certificate_allowed
highest_good g now v ts l h =
    elim (highest_tally g v ts) [
      | inl e ↦ rw e (record { earlier = omega arith; block = refl; name = lit≤ tt; is_allowed = refl })
      | inr (t, e, m, b, q) ↦ (
          let k = tally_parts g now t (all_mem (tally_good g now) h m) in
          let (x, y, _) = view_within g t.view k.view in
          rw (← e) (record { earlier = rw (← e) at b; block = k.block; name = k.name; is_allowed = certificate_made g t.mask t.height t.view x y (mask_made g t.mask k.mask (rw (← e) at q)) }))
    ]
