-- Tallies, seen by the voters that a search finds; rank; the highest certificate ranks at or above each; who has every sound
-- vote has a quorum. Assumes nothing.
use mathlib.Core.Path.{◌≡◌, refl, sym, ap, ◌∙◌}
use Prim.Native.Nat.{ℕ, zero, suc, ◌+◌, ◌*◌, ◌/◌, ◌%◌, ◌≤◌, ◌<◌, ◌^◌}
use native.Mathlib.Omega.{arith}
use native.Mathlib.Nat.{pow-suc, zero-div, div_self, one-le-pow, mul_comm, div-div-eq-div-mul, mul-div_cancel}
use native.Mathlib.Decide.{dec_lt}
use mathlib.Core.Bool.{Bool, true, false, not, ◌&&◌, ◌||◌}
use mathlib.Core.List.{List, [], ◌∷◌, Memᴰ}
use mathlib.Core.Logic.{◌⊎◌, inl, inr}
use lib.Dec.{eqb, ltb}
use lib.Count.{ones_in}
use borrow.Author.Tests.{eqb-true, eq-eqb, lt-ltb, ltb-true, not-true}
use Rattle.rules.specs.Limits.{mask_bits}
use Rattle.rules.specs.Sizes.{Settings, faults, only, bit, joined, count, quorum}
use Rattle.rules.specs.Words.{Certificate, Moment, Tally, certificate_of, same_block, grown, join, join_certificate, voters, certified, below, higher, genesis, highest}
use Rattle.laws.proofs.Tests.{by_bool, no_bool}
use Rattle.laws.proofs.Truths.{and_2, both, or_2, or_right, or_not}
use Rattle.laws.proofs.Masks.{joined_bit, joined_left, joined_right, count_joined, count_more, count_none, bit_below, quorum_count}

-- ---- masks of one station, and of all sound ones

pub only_bit : (a : ℕ) → bit (only a) a ≡ 1
unfolding only
only_bit a = let e : 2 ^ a / 2 ^ a ≡ 1 = div_self (one-le-pow a 2 (omega arith)) in rw e refl

bit_suc : (m i : ℕ) → bit m (suc i) ≡ bit (m / 2) i
bit_suc m i = rw (pow-suc, mul_comm (2 ^ i) 2, div-div-eq-div-mul)

pow_half : (a : ℕ) → 2 ^ suc a / 2 ≡ 2 ^ a
pow_half a = rw pow-suc (mul-div_cancel (2 ^ a) (omega arith))

one_bit : (a i : ℕ) → bit (2 ^ a) i ≡ 1 → i ≡ a
one_bit zero zero e = refl
one_bit zero (suc i) e = let z = zero-div (2 ^ i) in let k : bit 0 i ≡ 1 = sym (bit_suc 1 i) ∙ e in absurd (omega arith)
one_bit (suc a) zero e = absurd (odd (2 ^ a) (rw pow-suc at e))
  where
    odd : (n : ℕ) → n * 2 / 1 % 2 ≡ 1 → ⊥
    odd n h = omega arith
one_bit (suc a) (suc i) e = ap suc (one_bit a i (rw (pow_half a) at (sym (bit_suc (2 ^ suc a) i) ∙ e)))

pub bit_only : (a i : ℕ) → bit (only a) i ≡ 1 → i ≡ a
unfolding only
bit_only a i e = one_bit a i e

pub no_bit {ℓ} : {P : Type ℓ} (i : ℕ) → bit 0 i ≡ 1 → P
no_bit i e = let z = zero-div (2 ^ i) in absurd (omega arith)

-- the mask of stations 0 to n-1
everyone : ℕ → ℕ
everyone zero = 0
everyone (suc n) = everyone n * 2 + 1

ones_everyone : (d n : ℕ) → n ≤ d → ones_in d (everyone n) ≡ n
unfolding ones_in everyone
ones_everyone zero n h = omega arith
ones_everyone (suc d) zero h = let ih = ones_everyone d zero (omega arith) in omega arith
ones_everyone (suc d) (suc n) h =
    let ih = ones_everyone d n (omega arith) in let e : (everyone n * 2 + 1) / 2 ≡ everyone n = omega arith in rw e (omega arith)

everyone_lt : (n : ℕ) → everyone n < 2 ^ n
unfolding everyone
everyone_lt zero = omega arith
everyone_lt (suc n) = let h = everyone_lt n in rw pow-suc (omega arith)

count_everyone : (n : ℕ) → n ≤ mask_bits → count (everyone n) ≡ n
unfolding count
count_everyone n h = ones_everyone mask_bits n h

-- a mask that has every sound station is a quorum
pub sound_quorum : (n m faulty : ℕ) → n ≤ mask_bits → n % 2 ≡ 1 → count faulty ≤ n / 2
    → ((i : ℕ) → i < n → bit faulty i ≡ 0 → bit m i ≡ 1) → n / 2 < count m
sound_quorum n m faulty l o f h =
    let c = count_joined m faulty in
    let d = count_everyone n l in
    elim (dec_lt (count (joined m faulty)) (count (everyone n))) [
      | yes y ↦ (
          let (i, a, b, z) = count_more (everyone n) (joined m faulty) y in
          let w = joined_bit m faulty i in
          let u : bit faulty i ≡ 0 = omega arith in
          let k = h i (bit_below n (everyone n) i (everyone_lt n) b) u in
          absurd (omega arith))
      | no y ↦ omega arith
    ]

pub count_quorum : (g : Settings) (m : ℕ) → faults g < count m → quorum g m ≡ true
unfolding quorum
count_quorum g m e = lt-ltb (faults g) (count m) e

pub no_quorum : (g : Settings) → quorum g 0 ≡ false
no_quorum g = by_bool (quorum g 0) (λ q. let h = quorum_count g 0 q in let z = count_none in absurd (omega arith)) (λ q. q)

-- ---- the voters of a block

pub block_eq : (q t : Certificate) → same_block q t ≡ true → (q.view ≡ t.view) × (q.height ≡ t.height) × (q.name ≡ t.name)
unfolding same_block
block_eq q t e =
    let a = and_2 (eqb q.view t.view && eqb q.height t.height) _ e in
    let b = and_2 (eqb q.view t.view) _ a.0 in
    (eqb-true _ _ b.0, eqb-true _ _ b.1, eqb-true _ _ a.1)

pub same_block_lem : (q t : Certificate) → q.view ≡ t.view → q.height ≡ t.height → q.name ≡ t.name → same_block q t ≡ true
unfolding same_block
same_block_lem q t a b c = rw (eq-eqb q.view t.view a, eq-eqb q.height t.height b, eq-eqb q.name t.name c)

pub block_cong : (q t u : Certificate) → same_block q t ≡ true → same_block q u ≡ same_block t u
unfolding same_block
block_cong q t u e = let (a, b, c) = block_eq q t e in rw (a, b, c)

-- joining loses no voter of any block
pub voters_join : (k : Moment) (q t : Certificate) (us : List Tally) (i : ℕ) → bit (voters q us) i ≡ 1 → bit (voters q (join k t us)) i ≡ 1
unfolding voters join grown
voters_join k q t [] i h = no_bit i h
voters_join k q t (u ∷ us) i h =
    by_bool (same_block t (certificate_of u))
    (λ e.
    by_bool (same_block q (certificate_of u)) (λ f. rw (e, join) (rw (f, voters) (joined_left u.mask t.mask i (rw (f, voters) at h))))
    (λ f. rw (e, join) (rw (f, voters) (rw (f, voters) at h))))
    (λ e.
    by_bool (same_block q (certificate_of u)) (λ f. rw (e, join) (rw (f, voters) (rw (f, voters) at h)))
    (λ f. rw (e, join) (rw (f, voters) (voters_join k q t us i (rw (f, voters) at h)))))

pub voters_certificate : (k : Moment) (q t : Certificate) (us : List Tally) (i : ℕ) → bit (voters q us) i ≡ 1 → bit (voters q (join_certificate k t us)) i ≡ 1
unfolding join_certificate
voters_certificate k q t us i h =
    by_bool (eqb t.view 0) (λ e. rw (e, join_certificate) h) (λ e. rw (e, join_certificate) (voters_join k q t us i h))

-- who joins is there
pub voters_joined : (k : Moment) (q t : Certificate) (us : List Tally) (i : ℕ) → same_block q t ≡ true → bit t.mask i ≡ 1 → bit (voters q (join k t us)) i ≡ 1
unfolding voters join grown
voters_joined k q t [] i e h = rw (e, voters) h
voters_joined k q t (u ∷ us) i e h =
    by_bool (same_block t (certificate_of u))
    (λ f. rw (f, join) (rw (block_cong q t (certificate_of u) e ∙ f, voters) (joined_right u.mask t.mask i h)))
    (λ f. rw (f, join) (rw (block_cong q t (certificate_of u) e ∙ f, voters) (voters_joined k q t us i e h)))

-- voters are those of a tally of the block, if there are any
pub voters_tally : (q : Certificate) (us : List Tally) → (voters q us ≡ 0) ⊎ ((u : Tally) × Memᴰ u us × (same_block q (certificate_of u) ≡ true) × (voters q us ≡ u.mask))
unfolding voters
voters_tally q [] = inl refl
voters_tally q (u ∷ us) =
    by_bool (same_block q (certificate_of u)) (λ e. rw (e, voters) (inr (u, Memᴰ.head refl, e, refl))) (λ e. rw (e, voters) (go (voters_tally q us)))
  where
    go : (voters q us ≡ 0) ⊎ ((t : Tally) × Memᴰ t us × (same_block q (certificate_of t) ≡ true) × (voters q us ≡ t.mask))
        → (voters q us ≡ 0) ⊎ ((t : Tally) × Memᴰ t (u ∷ us) × (same_block q (certificate_of t) ≡ true) × (voters q us ≡ t.mask))
    go (inl e) = inl e
    go (inr (t, m, e, f)) = inr (t, Memᴰ.tail m, e, f)

-- ---- rank: view, then height

abbrev pub AtLeast : (v h v' h' : ℕ) → Type 0
AtLeast v h v' h' = (v' < v) ⊎ ((v ≡ v') × (h' ≤ h))

pub at_least_trans : (a b c d e f : ℕ) → AtLeast a b c d → AtLeast c d e f → AtLeast a b e f
at_least_trans a b c d e f (inl p) (inl q) = inl (omega arith)
at_least_trans a b c d e f (inl p) (inr q) = inl (omega arith)
at_least_trans a b c d e f (inr p) (inl q) = inl (omega arith)
at_least_trans a b c d e f (inr p) (inr q) = inr (omega arith)

-- one of two ranks is at least the other
pub at_least_either : (a b c d : ℕ) → AtLeast a b c d ⊎ AtLeast c d a b
at_least_either a b c d =
    elim (dec_lt c a) [
      | yes p ↦ inl (inl p)
      | no p ↦ elim (dec_lt a c) [
        | yes q ↦ inr (inl q)
        | no q ↦ elim (dec_lt b d) [ yes r ↦ inr (inr (omega arith, omega arith)) | no r ↦ inl (inr (omega arith, omega arith)) ]
      ]
    ]

abbrev pub Above : Certificate → Certificate → Type 0
Above t u = AtLeast t.view t.height u.view u.height

pub not_below : (t u : Certificate) → below t u ≡ false → Above t u
unfolding below
not_below t u e =
    elim (dec_lt u.view t.view) [
      | yes d ↦ inl d
      | no d ↦ elim (dec_lt t.view u.view) [
        | yes f ↦ no_bool (sym (ap (◌|| (eqb t.view u.view && ltb t.height u.height)) (lt-ltb t.view u.view f)) ∙ e)
        | no f ↦ (
            let v : t.view ≡ u.view = omega arith in
            elim (dec_lt t.height u.height) [
              | yes g ↦ no_bool (sym (or_right (ltb t.view u.view) (both (eq-eqb t.view u.view v) (lt-ltb t.height u.height g))) ∙ e)
              | no g ↦ inr (v, omega arith)
            ])
      ]
    ]

below_true : (t u : Certificate) → below t u ≡ true → Above u t
unfolding below
below_true t u e = go (or_2 (ltb t.view u.view) _ e)
  where
    go : (ltb t.view u.view ≡ true) ⊎ ((eqb t.view u.view && ltb t.height u.height) ≡ true) → Above u t
    go (inl p) = inl (ltb-true t.view u.view p)
    go (inr p) =
        let a = and_2 (eqb t.view u.view) _ p in
        let v = eqb-true t.view u.view a.0 in
        let h = ltb-true t.height u.height a.1 in
        inr (sym v, omega arith)

pub higher_true : (t b : Certificate) → higher t b ≡ true → Above t b
unfolding higher
higher_true t b e = go (or_2 (below b t) _ e)
  where
    go : (below b t ≡ true) ⊎ ((not (below t b) && ltb t.name b.name) ≡ true) → Above t b
    go (inl p) = below_true b t p
    go (inr p) = not_below t b (not-true (below t b) (and_2 (not (below t b)) _ p).0)

pub higher_false : (t b : Certificate) → higher t b ≡ false → Above b t
unfolding higher
higher_false t b e = not_below b t (or_not (below b t) _ e).0

-- ---- the highest certificate

abbrev takes : Settings → ℕ → Tally → List Tally → Bool
takes g v t ts = ltb t.view v && certified g t && higher (certificate_of t) (highest g v ts)

-- it ranks at or above each
pub highest_above : (g : Settings) (v : ℕ) (q : Certificate) (ts : List Tally) → q.view < v → quorum g (voters q ts) ≡ true → Above (highest g v ts) q
unfolding highest voters certified
highest_above g v q [] l c = no_bool (sym c ∙ no_quorum g)
highest_above g v q (t ∷ ts) l c =
    let b = highest g v ts in
    by_bool (same_block q (certificate_of t))
    (λ e.
    let (x, y, z) = block_eq q (certificate_of t) e in
    let tq : Above (certificate_of t) q = inr (sym x, omega arith) in
    by_bool (takes g v t ts) (λ k. rw (k, highest) tq) λ k.
    rw (k, highest)
    (by_bool (higher (certificate_of t) b)
    (λ h. no_bool (sym (rw (h, lt-ltb t.view v (omega arith), rw (e, voters) at c) refl) ∙ k))
    (λ h. at_least_trans _ _ _ _ _ _ (higher_false (certificate_of t) b h) tq)))
    (λ e.
    let ih = highest_above g v q ts l (rw (e, voters) at c) in
    by_bool (takes g v t ts)
    (λ k. rw (k, highest) (at_least_trans _ _ _ _ _ _ (higher_true (certificate_of t) b (and_2 (ltb t.view v && certified g t) _ k).1) ih))
    (λ k. rw (k, highest) ih))

-- it is genesis in view 0, or a certified tally of an earlier view
pub highest_tally : (g : Settings) (v : ℕ) (ts : List Tally)
    → (highest g v ts ≡ genesis) ⊎ ((u : Tally) × (certificate_of u ≡ highest g v ts) × Memᴰ u ts × ((highest g v ts).view < v) × (quorum g (highest g v ts).mask ≡ true))
unfolding highest certified
highest_tally g v [] = inl refl
highest_tally g v (t ∷ ts) =
    by_bool (takes g v t ts)
    (λ k.
    let a = and_2 (ltb t.view v && certified g t) _ k in
    let b = and_2 (ltb t.view v) _ a.0 in
    rw (k, highest) (inr (t, refl, Memᴰ.head refl, ltb-true t.view v b.0, b.1)))
    (λ k. rw (k, highest) (go (highest_tally g v ts)))
  where
    go : (highest g v ts ≡ genesis) ⊎ ((u : Tally) × (certificate_of u ≡ highest g v ts) × Memᴰ u ts × ((highest g v ts).view < v) × (quorum g (highest g v ts).mask ≡ true))
        → (highest g v ts ≡ genesis) ⊎ ((u : Tally) × (certificate_of u ≡ highest g v ts) × Memᴰ u (t ∷ ts) × ((highest g v ts).view < v) × (quorum g (highest g v ts).mask ≡ true))
    go (inl e) = inl e
    go (inr (u, e, m, l, c)) = inr (u, e, Memᴰ.tail m, l, c)
