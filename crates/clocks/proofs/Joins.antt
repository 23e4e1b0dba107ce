-- Joining a mask: a kept clock stays, a new one is the present one, and one is there exactly when f+1 bits are. Assumes nothing.
use mathlib.Core.Path.{◌≡◌, refl, sym, ◌∙◌}
use mathlib.Core.Logic.{◌⊎◌, inl, inr}
use Prim.Native.Nat.{ℕ}
use mathlib.Core.Bool.{true, false}
use mathlib.Core.List.{List, [], ◌∷◌}
use mathlib.Core.Option.{Option, none, some}
use lib.Dec.{eqb}
use Rattle.rules.specs.Sizes.{Settings, joined, quorum}
use Rattle.rules.specs.Words.{Certificate, Tally, Moment, reached_at, certificate_of, opened, of_block, same_block, grown, join, join_certificate, voters, reached_of}
use Rattle.laws.proofs.Tests.{by_bool, no_some, no_bool}
use Rattle.laws.proofs.Tallies.{no_quorum}
use Rattle.laws.proofs.Kept.{quorum_left}
use Rattle.clocks.specs.Runs.{is_there}

-- a clock is as it was, or there was none and it is the present one
abbrev pub Goes : ℕ → Option ℕ → Option ℕ → Type 0
Goes c r r' = (r' ≡ r) ⊎ ((r ≡ none) × (r' ≡ some c))

goes_trans : (c : ℕ) (p q r : Option ℕ) → Goes c p q → Goes c q r → Goes c p r
goes_trans c p q r (inl a) (inl b) = inl (b ∙ a)
goes_trans c p q r (inl a) (inr (n, b)) = inr (sym a ∙ n, b)
goes_trans c p q r (inr (n, a)) (inl b) = inr (n, b ∙ a)
goes_trans c p q r (inr (n, a)) (inr (m, b)) = no_some (sym m ∙ a)

pub goes_some : {c d : ℕ} {r r' : Option ℕ} → Goes c r r' → r ≡ some d → r' ≡ some d
goes_some (inl a) e = a ∙ e
goes_some (inr (n, a)) e = no_some (sym n ∙ e)

-- a block's clock is there exactly when its voters are a quorum
abbrev pub Marked : Settings → Certificate → List Tally → Type 0
Marked g q us = is_there (reached_of q us) ≡ quorum g (voters q us)

-- what a change of the table at clock c does to the block: how its clock goes, and that it stays there exactly so
abbrev pub Law : Settings → ℕ → Certificate → List Tally → List Tally → Type 0
Law g c q us vs = Goes c (reached_of q us) (reached_of q vs) × (Marked g q us → Marked g q vs)

pub law_refl : (g : Settings) (c : ℕ) (q : Certificate) (us : List Tally) → Law g c q us us
law_refl g c q us = (inl refl, λ m. m)

pub law_trans : (g : Settings) (c : ℕ) (q : Certificate) (us vs ws : List Tally) → Law g c q us vs → Law g c q vs ws → Law g c q us ws
law_trans g c q us vs ws (a, m) (b, n) = (goes_trans c (reached_of q us) (reached_of q vs) (reached_of q ws) a b, λ e. n (m e))

-- ---- one tally

reached_goes : (k : Moment) (r : Option ℕ) (m : ℕ) → Goes k.clock r (reached_at k r m)
unfolding reached_at
reached_goes k (some c) m = inl refl
reached_goes k none m = by_bool (quorum k.settings m) (λ q. rw (q, reached_at) (inr (refl, refl))) (λ q. rw (q, reached_at) (inl refl))

reached_there : (k : Moment) (r : Option ℕ) (m : ℕ) → (is_there r ≡ true → quorum k.settings m ≡ true) → is_there (reached_at k r m) ≡ quorum k.settings m
unfolding reached_at is_there
reached_there k (some c) m f = sym (f refl)
reached_there k none m f = by_bool (quorum k.settings m) (λ q. rw (q, reached_at)) (λ q. rw (q, reached_at))

-- ---- the table

reached_here : (q : Certificate) (u : Tally) (us : List Tally) → of_block q u ≡ true → reached_of q (u ∷ us) ≡ u.reached
unfolding reached_of
reached_here q u us e = rw (e, reached_of)

reached_next : (q : Certificate) (u : Tally) (us : List Tally) → of_block q u ≡ false → reached_of q (u ∷ us) ≡ reached_of q us
unfolding reached_of
reached_next q u us e = rw (e, reached_of)

voters_here : (q : Certificate) (u : Tally) (us : List Tally) → of_block q u ≡ true → voters q (u ∷ us) ≡ u.mask
unfolding voters
voters_here q u us e = rw (e, voters)

voters_next : (q : Certificate) (u : Tally) (us : List Tally) → of_block q u ≡ false → voters q (u ∷ us) ≡ voters q us
unfolding voters
voters_next q u us e = rw (e, voters)

block_grown : (k : Moment) (q : Certificate) (u : Tally) (m : ℕ) → of_block q (grown k u m) ≡ of_block q u
unfolding same_block grown
block_grown k q u m = refl

module _ (k : Moment) (t q : Certificate) where
  -- a tally that is opened
  opened_law : Law k.settings k.clock q [] (opened k t ∷ [])
  opened_law =
      by_bool (same_block q t)
      (λ e.
      rw (reached_here q (opened k t) [] e, voters_here q (opened k t) [] e)
      (unfold reached_of in reached_goes k none t.mask, λ _. reached_there k none t.mask (λ f. no_bool (sym (unfold is_there in f)))))
      (λ e. rw (reached_next q (opened k t) [] e, voters_next q (opened k t) [] e) (inl refl, λ m. m))

  -- one that grows
  grown_law : (u : Tally) (us : List Tally) → Law k.settings k.clock q (u ∷ us) (grown k u t.mask ∷ us)
  unfolding grown
  grown_law u us =
      let v = grown k u t.mask in
      let j = joined u.mask t.mask in
      by_bool (of_block q u)
      (λ e.
      let f = block_grown k q u t.mask ∙ e in
      rw (reached_here q u us e, voters_here q u us e, reached_here q v us f, voters_here q v us f)
      (reached_goes k u.reached j, λ m. reached_there k u.reached j (λ h. quorum_left k.settings u.mask t.mask (sym m ∙ h))))
      (λ e.
      let f = block_grown k q u t.mask ∙ e in
      rw (reached_next q u us e, voters_next q u us e, reached_next q v us f, voters_next q v us f) (inl refl, λ m. m))

  -- one before those that change
  behind_law : (u : Tally) (us vs : List Tally) → Law k.settings k.clock q us vs → Law k.settings k.clock q (u ∷ us) (u ∷ vs)
  behind_law u us vs l =
      by_bool (of_block q u)
      (λ e. rw (reached_here q u us e, voters_here q u us e, reached_here q u vs e, voters_here q u vs e) (inl refl, λ m. m))
      (λ e. rw (reached_next q u us e, voters_next q u us e, reached_next q u vs e, voters_next q u vs e) l)

  pub join_law : (us : List Tally) → Law k.settings k.clock q us (join k t us)
  unfolding join
  join_law [] = opened_law
  join_law (u ∷ us) =
      by_bool (same_block t (certificate_of u)) (λ e. rw (e, join) (grown_law u us)) (λ e. rw (e, join) (behind_law u us (join k t us) (join_law us)))

  pub certificate_law : (us : List Tally) → Law k.settings k.clock q us (join_certificate k t us)
  unfolding join_certificate
  certificate_law us =
      by_bool (eqb t.view 0) (λ e. rw (e, join_certificate) (law_refl k.settings k.clock q us)) (λ e. rw (e, join_certificate) (join_law us))

-- no tally, no clock and no quorum
pub none_marked : (g : Settings) (q : Certificate) → Marked g q []
unfolding reached_of voters is_there
none_marked g q = sym (no_quorum g)
