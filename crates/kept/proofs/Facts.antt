-- What code may take from a well-formed state: its numbers are within their limits, and a whole chain is no longer than the table. Assumes nothing.
use mathlib.Core.Path.{◌≡◌, ap}
use Prim.Native.Nat.{ℕ, zero, suc, ◌+◌, ◌-◌, ◌^◌, ◌≤◌, ◌<◌}
use native.Mathlib.Omega.{arith}
use mathlib.Core.Bool.{false}
use mathlib.Core.List.{List, [], ◌∷◌, Memᴰ as Mem}
use mathlib.Core.Option.{some, some-injective}
use lib.ListN.{length}
use Rattle.rules.specs.Limits.{first_view, last_view, last_height, most_stations, most_statements, last_view_large}
use Rattle.rules.specs.Lists.{first}
use Rattle.rules.specs.Words.{Statement, Tally, State}
use Rattle.rules.specs.Inputs.{is_block, chain_to, chain}
use Rattle.rules.specs.WellFormed.{statement_good, tally_good}
use Rattle.laws.proofs.Tests.{by_option, no_some}
use Rattle.laws.proofs.Allowed.{Sizes, sizes, view_within, height_le, leader_lt, mask_small, certificate_mask}
use Rattle.kept.specs.Parts.{Formed, WellFormed}
use Rattle.kept.proofs.Lists.{all_mem}
use Rattle.kept.proofs.Tallies.{TallyGood, tally_parts, opener_lt, reached_le, CertificateGood, lock_parts}
use Rattle.kept.proofs.Statements.{Stated, voted_le, stored_stated}
use Rattle.kept.proofs.Phases.{Clocks, clocks_parts}
use Rattle.kept.proofs.Logs.{proposes, proposes_length, linked_length, chain_linked}

module _ {s : State} (f : Formed s) where
  -- n odd, 3 to 15; D; own
  pub sizes_of : Sizes s.settings
  sizes_of = sizes s.settings f.settings

  -- entry ≤ quit ≤ clock ≤ its end
  pub clocks_of : Clocks s
  clocks_of = clocks_parts s f.clocks

  pub view_of : (first_view ≤ s.view) × (s.view ≤ last_view s.settings.size) × (s.view ≤ last_view_large)
  view_of = view_within s.settings s.view f.view

  pub lock_of : CertificateGood s.settings s.view s.lock
  lock_of = lock_parts s f.lock

  -- ---- a stored statement

  module _ (x : Statement) (m : Mem x s.statements) where
    pub statement_of_lem : Stated s.settings x
    statement_of_lem = stored_stated f x m

    pub statement_limits : (first_view ≤ x.view) × (x.view ≤ last_view s.settings.size) × (x.height ≤ last_height) × (x.author < s.settings.n) × (x.mask < 2 ^ most_stations) × (x.view ≤ last_view_large)
    statement_limits =
        let d = statement_of_lem in
        let v = view_within s.settings x.view d.view in
        let a = leader_lt x.view sizes_of in
        (v.0, v.1, height_le x.height x.name d.block, rw d.author a, mask_small sizes_of d.mask, v.2)

    pub vote_clock : (c : ℕ) → x.voted ≡ some c → c ≤ s.clock
    vote_clock c v = voted_le s x c (all_mem (statement_good s) f.tables.statements m) v

  -- ---- a tally

  module _ (t : Tally) (m : Mem t s.tallies) where
    pub tally_of_lem : TallyGood s.settings s.clock t
    tally_of_lem = tally_parts s.settings s.clock t (all_mem (tally_good s.settings s.clock) f.tables.tallies m)

    pub tally_limits : (first_view ≤ t.view) × (t.view ≤ last_view s.settings.size) × (t.height ≤ last_height) × (t.mask < 2 ^ most_stations) × (t.view ≤ last_view_large)
    tally_limits =
        let d = tally_of_lem in
        let v = view_within s.settings t.view d.view in
        (v.0, v.1, height_le t.height t.name d.block, mask_small sizes_of d.mask, v.2)

    pub opener_below : (a : ℕ) → t.opener ≡ some a → a < s.settings.n
    opener_below a e = opener_lt s.settings t.mask t.opener a tally_of_lem.opener e

    pub reached_clock : (c : ℕ) → t.reached ≡ some c → c ≤ s.clock
    reached_clock c e = reached_le s.settings s.clock t.mask t.reached c tally_of_lem.reached e

  -- ---- the lock, the blame masks

  pub lock_limits : (s.lock.view < s.view) × (s.lock.height ≤ last_height) × (s.lock.mask < 2 ^ most_stations)
  lock_limits =
      let t = s.lock in
      let c = lock_of in
      (c.earlier, height_le t.height t.name c.block, mask_small sizes_of (certificate_mask s.settings t.mask t.height t.view c.is_allowed))

-- ---- the log and chains

chain_to_length : (xs : List Statement) (h b : ℕ) (above l : List ℕ) → chain_to xs h b above ≡ some l → length l ≡ h + length above
unfolding chain_to
chain_to_length xs zero b above l e = let k = ap length (some-injective above l e) in omega arith
chain_to_length xs (suc h) b above l e =
    by_option (first (is_block (suc h) b) xs) (λ q. no_some (rw (q, chain_to) at e))
    (λ x q. let k = chain_to_length xs h x.link (b ∷ above) l (rw (q, chain_to) at e) in omega arith)

module _ {s : State} (w : WellFormed s) where
  pub log_length : length s.log ≤ most_statements s.settings.size
  log_length =
      let h = linked_length s.statements s.log w.formed.tables.log in
      let k = proposes_length s.statements in
      let l = w.few_statements in
      omega arith

  module _ (x : Statement) (m : Mem x s.statements) (n : x.is_new_view ≡ false) where
    -- a whole chain has a name for each height, and each is of a stored propose
    pub chain_length : (l : List ℕ) → chain s.statements x ≡ some l → (length l ≡ x.height) × (length l ≤ length (proposes s.statements))
    unfolding chain
    chain_length l e =
        let h = chain_to_length s.statements (x.height - 1) x.link (x.name ∷ []) l e in
        let p = ((stored_stated w.formed x m).parent n).0 in
        (omega arith, linked_length s.statements l (chain_linked w.formed x l m n e))
