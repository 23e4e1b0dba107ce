-- The rules of a tick keep what a rule keeps: commit, blame, the leader's new-view, entering a view. Assumes nothing.
use mathlib.Core.Path.{◌≡◌, refl, sym, ◌∙◌}
use Prim.Native.Nat.{ℕ, ◌+◌, ◌*◌, ◌<◌}
use native.Mathlib.Omega.{arith}
use mathlib.Core.Bool.{true}
use mathlib.Core.List.{List, [], ◌∷◌, Memᴰ as Mem}
use mathlib.Core.Option.{some, map-eq-some_iff}
use lib.Dec.{eqb}
use lib.ListN.{length}
use borrow.Author.Tests.{eqb-true, eq-eqb, lt-ltb}
use Rattle.rules.specs.Limits.{last_clock}
use Rattle.rules.specs.Sizes.{Settings, leader, only}
use Rattle.rules.specs.Messages.{new_view, blame, blame_set, status, allowed, to_all}
use Rattle.rules.specs.Words.{Statement, message, highest, State}
use Rattle.rules.specs.Inputs.{Work, saying, ◌▸◌, with_clock, with_log, is_in, blames_of, blame_full, leads, due, commits, logging, overdue, complain, leads_now, own_new_view, lead, enters_now, next_lock, report, entering, entered, current, pair, in_order, voting_all, arrive, enter, ticked}
use Rattle.rules.specs.Refusals.{used_up}
use Rattle.rules.specs.WellFormed.{linked}
use Rattle.laws.proofs.Tests.{by_bool, by_option}
use Rattle.laws.proofs.Truths.{and_2, both}
use Rattle.laws.proofs.Searches.{mem_keep}
use Rattle.laws.proofs.Statements.{pair_some, mem_order}
use Rattle.laws.proofs.Allowed.{sizes, leader_lt, only_lt, view_within}
use Rattle.laws.proofs.Kept.{enters_at}
use Rattle.kept.specs.Parts.{Formed}
use Rattle.kept.specs.Said.{Each, Sendable, Sayable}
use Rattle.kept.proofs.Lists.{mem_each}
use Rattle.kept.proofs.Sendable.{sendable}
use Rattle.kept.proofs.Tallies.{CertificateGood, highest_good}
use Rattle.kept.proofs.Statements.{stored_said}
use Rattle.kept.proofs.Phases.{clock_formed, entering_formed}
use Rattle.kept.proofs.Logs.{commits_linked}
use Rattle.kept.proofs.Reports.{due_stored, gained_said, logged_formed}
use Rattle.kept.proofs.Keeps.{Keeps, silent, onward, then_keeps, quit_keeps, voting_keeps, full_sendable, blaming_keeps, handled_keeps}

-- "leads it"
pub leads_own : (s : State) → leads s ≡ true → s.settings.own ≡ leader s.settings s.view
unfolding leads
leads_own s e =
    sym
    (eqb-true (leader s.settings s.view) s.settings.own
    (and_2 (is_in s.view s) (eqb (leader s.settings s.view) s.settings.own) e).1)

module _ {s : State} (f : Formed s) where
  -- ---- commit

  pub logging_keeps : (l : List ℕ) → linked s.statements 0 0 l ≡ true → Keeps s (logging l s)
  unfolding logging saying with_log
  logging_keeps l e = record { settings = refl; formed = logged_formed f l e; said = gained_said f (length s.log) l e }

  -- ---- blame

  own_blame : Sendable s.settings (blame s.view s.settings.own)
  unfolding allowed
  own_blame =
      let z = sizes s.settings f.settings in
      sendable (blame s.view s.settings.own) z (both f.view (lt-ltb s.settings.own s.settings.n z.own)) tt

  pub complain_keeps : Keeps s (complain s)
  unfolding complain saying ◌▸◌
  complain_keeps =
      by_bool (overdue s)
      (λ q.
      let own = only_lt s.settings s.settings.own (sizes s.settings f.settings).own in
      let k = blaming_keeps f s.view (only s.settings.own) f.view own in
      rw (q, complain) (record { settings = k.settings; formed = k.formed; said = (own_blame, k.said) }))
      (λ q. rw (q, complain) (silent f))

  -- ---- the leader's new-view

  own_new_view_sendable : leads s ≡ true → Sendable s.settings (own_new_view s)
  unfolding own_new_view allowed
  own_new_view_sendable e =
      let t = highest s.settings s.view s.tallies in
      let c = highest_good s.settings s.clock s.view s.tallies (view_within s.settings s.view f.view).0 f.tables.tallies in
      let o = eq-eqb s.settings.own (leader s.settings s.view) (leads_own s e) in
      sendable (new_view s.view t.height t.name t.view t.mask s.settings.own) (sizes s.settings f.settings)
      (both (both (both (both f.view c.block) (lt-ltb t.view s.view c.earlier)) c.is_allowed) o) c.name

  pub lead_keeps : Keeps s (lead s)
  unfolding lead leads_now own_new_view used_up
  lead_keeps =
      by_bool (leads_now s)
      (λ q.
      let t = and_2 (leads s) (eqb s.clock (s.entry + 2 * s.settings.D + 1)) q in
      rw (q, lead) (handled_keeps f (own_new_view s) (own_new_view_sendable t.0) refl))
      (λ q. rw (q, lead) (silent f))

-- ---- entering a view

-- only a waiting station below the last view enters
module _ {s : State} (f : Formed s) where
  next_lock_good : CertificateGood s.settings (s.view + 1) (next_lock s)
  unfolding next_lock
  next_lock_good = highest_good s.settings s.clock (s.view + 1) s.tallies (omega arith) f.tables.tallies

  report_said : Each (Sayable s.settings) (report s)
  unfolding report allowed
  report_said =
      let to = leader s.settings (s.view + 1) in
      let z = sizes s.settings f.settings in
      let t = next_lock s in
      let c = next_lock_good in
      by_bool (eqb to s.settings.own) (λ q. rw (q, report) tt)
      (λ q. rw (q, report) ((leader_lt (s.view + 1) z, sendable (status t.height t.name t.view t.mask) z (both c.block c.is_allowed) c.name), tt))

  entered_keeps : enters_now s ≡ true → Keeps s (entered s)
  unfolding entered saying entering
  entered_keeps e =
      let l = (enters_at s e).2 in
      record { settings = refl; formed = entering_formed f (s.view + 1) (next_lock s) (omega arith) (omega arith) next_lock_good; said = report_said }

pub voting_all_keeps : (g : Settings) (xs : List Statement) {s : State} → s.settings ≡ g → Formed s → Each (λ x. Sendable g (message x)) xs → Keeps s (voting_all xs s)
unfolding voting_all
voting_all_keeps g [] e f h = silent f
voting_all_keeps g (x ∷ xs) {s} e f h =
    then_keeps (voting_all xs) (voting_keeps f x (rw e h.0)) (λ t k l. voting_all_keeps g xs (k ∙ e) l h.1)

current_mem : (s : State) (x : Statement) → Mem x (current s) → Mem x s.statements
unfolding current
current_mem s x m = (mem_keep (λ (y : Statement). eqb y.view s.view) s.statements x m).0

module _ {s : State} (f : Formed s) where
  pub arrive_keeps : Keeps s (arrive s)
  unfolding arrive
  arrive_keeps =
      by_bool (blame_full s.view s)
      (λ q. rw (q, arrive) (quit_keeps f (to_all (blame_set s.view (blames_of s.view s)) ∷ []) (full_sendable f s.view f.view q, tt)))
      (λ q.
      by_option (pair (current s))
      (λ o.
      rw (q, o, arrive)
      (voting_all_keeps s.settings (in_order (current s)) refl f
      (mem_each (λ x. Sendable s.settings (message x)) (in_order (current s)) (λ x m. stored_said f x (mem_order s x m).0))))
      (λ p o.
      let (c, i, j) = pair_some (current s) p o in
      rw (q, o, arrive)
      (quit_keeps f (to_all (message p.0) ∷ to_all (message p.1) ∷ [])
      (stored_said f p.0 (current_mem s p.0 i), (stored_said f p.1 (current_mem s p.1 j), tt)))))

pub enter_keeps : {s : State} → Formed s → Keeps s (enter s)
unfolding enter
enter_keeps {s} f =
    by_bool (enters_now s) (λ q. rw (q, enter) (then_keeps arrive (entered_keeps f q) (λ t _ k. arrive_keeps k))) (λ q. rw (q, enter) (silent f))

-- ---- a tick

pub ticked_keeps : {s : State} {w : Work} → Formed s → s.clock < last_clock → ticked s ≡ some w → Keeps s w
unfolding ticked with_clock
ticked_keeps {s} {w} f l e =
    let now = with_clock (s.clock + 1) s in
    let k = clock_formed f l in
    let (j, c, i) = (map-eq-some_iff (λ l. logging l now ▸ complain ▸ lead ▸ enter) (commits now.statements (due now) now.log)).0 e in
    let a = logging_keeps k j (commits_linked k (due now) now.log j (due_stored now) c k.tables.log) in
    let b = then_keeps complain a (λ t _ k. complain_keeps k) in
    let d = then_keeps lead b (λ t _ k. lead_keeps k) in
    rw (← i) (onward s refl (then_keeps enter d (λ t _ k. enter_keeps k)))
