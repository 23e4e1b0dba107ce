-- What can be looked at in a well-formed store, and what was seen of its votes. Assumes nothing.
use Prim.Native.Nat.{ℕ, ◌+◌, ◌*◌, ◌^◌, ◌<◌, ◌≤◌}
use mathlib.Core.Path.{◌≡◌, ap, ◌∙◌}
use mathlib.Core.Bool.{Bool, true, false, ◌&&◌}
use mathlib.Core.List.{List}
use native.Mathlib.Omega.{arith}
use lib.Dec.{leb}
use lib.ListN.{length}
use Rattle.rules.specs.Limits.{most_statements, most_tallies}
use Rattle.rules.specs.Lists.{all, distinct}
use Rattle.rules.specs.Sizes.{Settings, good_settings}
use Rattle.rules.specs.Messages.{view_allowed, allowed}
use Rattle.rules.specs.Words.{Statement, message, State, same_statement}
use Rattle.rules.specs.Inputs.{votes}
use Rattle.rules.specs.WellFormed.{is_name, well_formed, clocks_in_order, lock_good, statement_good, tally_good, same_tally, tallies_there, blames_good, linked, few_opened}
use Rattle.laws.proofs.Tests.{by_bool, and_left}
use Rattle.laws.proofs.Truths.{and_2, and_4, and_6}
use Rattle.laws.proofs.Allowed.{view_within, Rights, allowed_rights}
use Rattle.fields.specs.Places.{Bytes}
use Rattle.fields.proofs.Laws.{number_lt}
use Rattle.store.specs.Layout.{statement_table, count_of}
use Rattle.store.specs.Meaning.{header_of, Loads}
use Rattle.store.specs.declared.Station.{Station}
use Rattle.store.proofs.Loaded.{loaded_settings, loaded_view, loaded_statements}
use Rattle.store.specs.Decode.{nth, statement_at, statements, state_from, state_of, Form}
use Rattle.store.proofs.Rows.{rows_all}
use Rattle.linked.specs.Told.{Told}
use Rattle.glance.specs.Looks.{Begun, IsView, Views, Seen}
use Rattle.glance.specs.declared.Glance.{Glance}
use Rattle.glance.proofs.Voting.{votes_are}

-- ---- a loaded delay

module _ (s : Station) (b : List ℕ) (e : Loads s b) where
  pub delay_is : 2 * s.settings.delay ≡ 2 * (state_of b).settings.D
  delay_is = ap (λ (g : Settings). 2 * g.D) (loaded_settings s b e)

  pub delay_short : Bytes b → s.settings.delay < 256 ^ 2
  unfolding header_of
  delay_short k = omega (arith, ap (λ (vs : List ℕ). nth vs 2) e.header, number_lt b k (0 + 5) 2)

-- ---- what was seen

pub seen_votes : (b told : List ℕ) (s : Station) → Loads s b → (r : Glance) → Seen b told s r → r.votes ≡ votes (state_of b)
seen_votes b told s e r k = k.counted ∙ votes_are b s.view (loaded_view s b e)

-- ---- a propose has height at least 1, and views are within the limits

up_to_seventh : (a x b c d e f g h : Bool) → (a && x && b && c && d && e && f && g && h) ≡ true → (a ≡ true) × (x ≡ true)
up_to_seventh a x b c d e f g h q =
    and_2 a x (and_left (a && x) b (and_left (a && x && b) c (and_left (a && x && b && c) d (and_left (a && x && b && c && d) e
    (and_left (a && x && b && c && d && e) f (and_left (a && x && b && c && d && e && f) g (and_left (a && x && b && c && d && e && f && g) h q)))))))

module _ (s : State) (w : well_formed s ≡ true) where
  abbrev few : Bool
  few = leb (length s.statements) (most_statements s.settings.size)

  abbrev few_tallies : Bool
  few_tallies = leb (length s.tallies) (most_tallies s.settings.size)

  good : (view_allowed s.settings s.view ≡ true) × (all (statement_good s) s.statements ≡ true)
  unfolding well_formed
  good =
      let t =
      up_to_seventh (good_settings s.settings && view_allowed s.settings s.view && clocks_in_order s && lock_good s && few && few_tallies)
      (all (statement_good s) s.statements) (distinct same_statement s.statements) (all (tally_good s.settings s.clock) s.tallies) (distinct same_tally s.tallies)
      (all (tallies_there s.tallies) s.statements) (blames_good s.settings s.blames) (linked s.statements 0 0 s.log) (few_opened s.settings.n s.tallies) w in
      ((and_6 (good_settings s.settings) (view_allowed s.settings s.view) (clocks_in_order s) (lock_good s) few few_tallies t.0).1, t.1)

module _ (s : State) (x : Statement) (e : statement_good s x ≡ true) where
  rights : Rights s.settings (message x)
  unfolding statement_good
  rights = allowed_rights s.settings (message x) (and_4 (allowed s.settings (message x)) (is_name x.name) (is_name x.link) _ e).0

  propose_high : x.is_new_view ≡ false → 1 ≤ x.height
  unfolding message
  propose_high q = (rw (q, message) at rights).1

  view_good : view_allowed s.settings x.view ≡ true
  unfolding message
  view_good = by_bool x.is_new_view (λ q. (rw (q, message) at rights).0) (λ q. (rw (q, message) at rights).0)

module _ (b : List ℕ) (w : well_formed (state_of b) ≡ true) where
  stated_good : (i : ℕ) → i < count_of statement_table b → statement_good (state_of b) (statement_at b i) ≡ true
  unfolding state_of state_from statements
  stated_good i l = rows_all (statement_good (state_of b)) (statement_at b) 0 (count_of statement_table b) (good (state_of b) w).1 i (omega arith) (omega arith)

  is_view : (v : ℕ) → view_allowed (state_of b).settings v ≡ true → IsView v
  is_view v a = let t = view_within (state_of b).settings v a in (t.0, t.2)

  -- so a tick can pass over the statements of other views
  pub views : (s : Station) → Loads s b → Form b → Views b s.view
  views s e f = record {
    form = f;
    stated = λ i l. is_view (statement_at b i).view (view_good (state_of b) (statement_at b i) (stated_good i l));
    own = is_view s.view (ap (view_allowed (state_of b).settings) (loaded_view s b e) ∙ (good (state_of b) w).0);
  }

-- so the due statements can be looked at
pub begun : (b told : List ℕ) (s : Station) → Loads s b → Form b → well_formed (state_of b) ≡ true → Told b told → Begun b told s.statements (2 * s.settings.delay)
begun b told s e f w t =
    let count = loaded_statements s b e in
    record { form = f; tells = t; all = count; heights = λ i l. propose_high (state_of b) (statement_at b i) (stated_good b w i (omega arith)); short = omega (arith, delay_short s b e f.bytes) }
