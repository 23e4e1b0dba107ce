-- What is allowed, as facts on numbers: settings, views, blocks, masks, certificates, and each kind of message. Assumes nothing.
use mathlib.Core.Path.{◌≡◌}
use mathlib.Core.Logic.{◌⊎◌, inl, inr}
use Prim.Native.Nat.{ℕ, suc, ◌-◌, ◌%◌, ◌^◌, ◌≤◌, ◌<◌}
use native.Mathlib.Nat.{pow-le-pow_right, lt_of_lt_of_le, one-le-pow, mod-lt}
use native.Mathlib.Omega.{arith}
use mathlib.Core.Bool.{true}
use lib.Dec.{leb, ltb, eqb, lit≤}
use lib.Pow.{pow-lt}
use borrow.Author.Tests.{ltb-true, leb-true, eqb-true, eqb-false, lt-ltb, le-leb, ne_eqb}
use Rattle.rules.specs.Limits.{Size, least_stations, most_stations, least_delay, most_delay, first_view, last_view, last_height, last_view_large}
use Rattle.rules.specs.Lists.{iff, within}
use Rattle.rules.specs.Sizes.{Settings, good_settings, leader, only, quorum}
use Rattle.rules.specs.Messages.{Message, new_view, propose, vote, blame, blame_set, status, view_allowed, block_allowed, mask_allowed, certificate_allowed, allowed}
use Rattle.rules.specs.WellFormed.{is_name, is_mask}
use Rattle.laws.proofs.Bounds.{views_most}
use Rattle.laws.proofs.Tests.{by_bool}
use Rattle.laws.proofs.Truths.{and_2, and_3, and_4, and_5, and_6, both}

pub within_le : (a b x : ℕ) → within a b x ≡ true → (a ≤ x) × (x ≤ b)
unfolding within
within_le a b x e = let h = and_2 (leb a x) (leb x b) e in (leb-true a x h.0, leb-true x b h.1)

pub le_within : (a b x : ℕ) → a ≤ x → x ≤ b → within a b x ≡ true
unfolding within
le_within a b x h k = both (le-leb a x h) (le-leb x b k)

-- ---- settings

pub record Sizes (g : Settings) : Type 0 where
  pub odd : g.n % 2 ≡ 1
  pub least : least_stations ≤ g.n
  pub most : g.n ≤ most_stations
  pub leastD : least_delay ≤ g.D
  pub mostD : g.D ≤ most_delay
  pub own : g.own < g.n

pub sizes : (g : Settings) → good_settings g ≡ true → Sizes g
unfolding good_settings
sizes g e =
    let h = and_4 (eqb (g.n % 2) 1) (within least_stations most_stations g.n) (within least_delay most_delay g.D) (ltb g.own g.n) e in
    let n = within_le least_stations most_stations g.n h.1 in
    let d = within_le least_delay most_delay g.D h.2 in
    record { odd = eqb-true (g.n % 2) 1 h.0; least = n.0; most = n.1; leastD = d.0; mostD = d.1; own = ltb-true g.own g.n h.3 }

pub leader_lt : {g : Settings} (v : ℕ) → Sizes g → leader g v < g.n
unfolding leader
leader_lt {g} v s = mod-lt v (omega arith)

-- ---- masks

pub mask_lt : (g : Settings) (m : ℕ) → is_mask g m ≡ true → m < 2 ^ g.n
unfolding is_mask
mask_lt g m e = ltb-true m (2 ^ g.n) e

pub lt_mask : (g : Settings) (m : ℕ) → m < 2 ^ g.n → is_mask g m ≡ true
unfolding is_mask
lt_mask g m h = lt-ltb m (2 ^ g.n) h

-- a mask has at most fifteen bits
pub mask_small : {g : Settings} {m : ℕ} → Sizes g → m < 2 ^ g.n → m < 2 ^ most_stations
mask_small s h = lt_of_lt_of_le h (pow-le-pow_right {n = 2} (omega arith) s.most)

pub none_lt : (g : Settings) → 0 < 2 ^ g.n
none_lt g = one-le-pow g.n 2 (omega arith)

pub only_lt : (g : Settings) (i : ℕ) → i < g.n → only i < 2 ^ g.n
unfolding only
only_lt g i h = pow-lt h

-- ---- views, blocks, certificates

pub view_within : (g : Settings) (v : ℕ) → view_allowed g v ≡ true → (first_view ≤ v) × (v ≤ last_view g.size) × (v ≤ last_view_large)
unfolding view_allowed
view_within g v e = let t = within_le first_view (last_view g.size) v e in (t.0, t.1, omega (arith, views_most g.size))

pub within_view : (g : Settings) (v : ℕ) → first_view ≤ v → v ≤ last_view g.size → view_allowed g v ≡ true
unfolding view_allowed
within_view g v h k = le_within first_view (last_view g.size) v h k

pub name_lt : (b : ℕ) → is_name b ≡ true → b < 256 ^ 32
unfolding is_name
name_lt b e = ltb-true b (256 ^ 32) e

pub lt_name : (b : ℕ) → b < 256 ^ 32 → is_name b ≡ true
unfolding is_name
lt_name b h = lt-ltb b (256 ^ 32) h

-- a view's number is below every name's limit
pub view_name : (z : Size) {v : ℕ} → v ≤ last_view z → v < 256 ^ 32
view_name z h = lt_of_lt_of_le {m = suc last_view_large} (omega (arith, views_most z)) (lit≤ tt)

pub height_le : (h b : ℕ) → block_allowed h b ≡ true → h ≤ last_height
unfolding block_allowed
height_le h b e = leb-true h last_height (and_2 (leb h last_height) (iff (eqb h 0) (eqb b 0)) e).0

-- at height 0 stands genesis
pub genesis_zero : (b : ℕ) → block_allowed 0 b ≡ true → b ≡ 0
unfolding block_allowed iff
genesis_zero b e = eqb-true b 0 e

pub block_made : (h b : ℕ) → 1 ≤ h → h ≤ last_height → (b ≡ 0 → ⊥) → block_allowed h b ≡ true
unfolding block_allowed iff
block_made h b l k n = rw (le-leb h last_height k, ne_eqb h 0 (λ e. omega arith), ne_eqb b 0 n)

module _ (g : Settings) (m : ℕ) where
  pub mask_parts : mask_allowed g m ≡ true → (m < 2 ^ g.n) × (quorum g m ≡ true)
  unfolding mask_allowed
  mask_parts e = let h = and_2 (ltb m (2 ^ g.n)) (quorum g m) e in (ltb-true m (2 ^ g.n) h.0, h.1)

  pub mask_made : m < 2 ^ g.n → quorum g m ≡ true → mask_allowed g m ≡ true
  unfolding mask_allowed
  mask_made h q = both (lt-ltb m (2 ^ g.n) h) q

  -- a certificate is genesis in view 0, or of a view with a quorum
  pub certificate_cases : (h c : ℕ) → certificate_allowed g h c m ≡ true
      → ((c ≡ 0) × (h ≡ 0) × (m ≡ 0)) ⊎ ((first_view ≤ c) × (c ≤ last_view g.size) × (mask_allowed g m ≡ true))
  unfolding certificate_allowed
  certificate_cases h c e =
      by_bool (eqb c 0)
      (λ q. let t = and_2 (eqb h 0) (eqb m 0) (rw (q, certificate_allowed) at e) in inl (eqb-true c 0 q, eqb-true h 0 t.0, eqb-true m 0 t.1))
      (λ q.
      let t = and_2 (leb c (last_view g.size)) (mask_allowed g m) (rw (q, certificate_allowed) at e) in
      let n = eqb-false c 0 q in
      inr (omega arith, leb-true c (last_view g.size) t.0, t.1))

  pub certificate_made : (h c : ℕ) → first_view ≤ c → c ≤ last_view g.size → mask_allowed g m ≡ true → certificate_allowed g h c m ≡ true
  unfolding certificate_allowed
  certificate_made h c l k a = rw (ne_eqb c 0 (λ e. omega arith), certificate_allowed, le-leb c (last_view g.size) k) a

  pub certificate_mask : (h c : ℕ) → certificate_allowed g h c m ≡ true → m < 2 ^ g.n
  certificate_mask h c e = elim (certificate_cases h c e) [ inl t ↦ rw t.2 (none_lt g) | inr t ↦ (mask_parts t.2).0 ]

  pub certificate_view : (h c : ℕ) → certificate_allowed g h c m ≡ true → (c ≤ last_view g.size) × (c ≤ last_view_large)
  certificate_view h c e =
      let w = views_most g.size in
      elim (certificate_cases h c e) [ inl t ↦ (omega arith, omega arith) | inr t ↦ (t.1, omega arith) ]

-- ---- messages

abbrev pub Rights : Settings → Message → Type 0
Rights g (new_view v h b c m a) = (view_allowed g v ≡ true) × (block_allowed h b ≡ true) × (c < v) × (certificate_allowed g h c m ≡ true) × (a ≡ leader g v)
Rights g (propose v h b p m a) =
    (view_allowed g v ≡ true) × (1 ≤ h) × (block_allowed h b ≡ true) × (block_allowed (h - 1) p ≡ true) × (mask_allowed g m ≡ true) × (a ≡ leader g v)
Rights g (vote v h b a) = (view_allowed g v ≡ true) × (block_allowed h b ≡ true) × (a < g.n)
Rights g (blame v a) = (view_allowed g v ≡ true) × (a < g.n)
Rights g (blame_set v m) = (view_allowed g v ≡ true) × (mask_allowed g m ≡ true)
Rights g (status h b c m) = (block_allowed h b ≡ true) × (certificate_allowed g h c m ≡ true)

pub allowed_rights : (g : Settings) (m : Message) → allowed g m ≡ true → Rights g m
unfolding allowed
allowed_rights g (new_view v h b c m a) e =
    let t = and_5 (view_allowed g v) (block_allowed h b) (ltb c v) (certificate_allowed g h c m) (eqb a (leader g v)) e in
    (t.0, t.1, ltb-true c v t.2, t.3, eqb-true a (leader g v) t.4)
allowed_rights g (propose v h b p m a) e =
    let t = and_6 (view_allowed g v) (leb 1 h) (block_allowed h b) (block_allowed (h - 1) p) (mask_allowed g m) (eqb a (leader g v)) e in
    (t.0, leb-true 1 h t.1, t.2, t.3, t.4, eqb-true a (leader g v) t.5)
allowed_rights g (vote v h b a) e = let t = and_3 (view_allowed g v) (block_allowed h b) (ltb a g.n) e in (t.0, t.1, ltb-true a g.n t.2)
allowed_rights g (blame v a) e = let t = and_2 (view_allowed g v) (ltb a g.n) e in (t.0, ltb-true a g.n t.1)
allowed_rights g (blame_set v m) e = and_2 (view_allowed g v) (mask_allowed g m) e
allowed_rights g (status h b c m) e = and_2 (block_allowed h b) (certificate_allowed g h c m) e
