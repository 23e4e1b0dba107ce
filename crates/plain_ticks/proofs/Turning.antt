-- What each rule of a tick leaves to the next: a whole station, and room in the out buffer. Assumes nothing.
use Prim.Native.Nat.{ℕ, suc, ◌+◌, ◌≤◌}
use mathlib.Core.Path.{◌≡◌, refl, sym, subst}
use mathlib.Core.Bool.{true, ◌&&◌}
use mathlib.Core.List.{List}
use mathlib.Core.Option.{none}
use native.Mathlib.Omega.{arith}
use lib.ListN.{length, drop, length-drop}
use Rattle.rules.specs.Limits.{last_view_small, least_out_small}
use Rattle.rules.specs.Lists.{first, any}
use Rattle.rules.specs.Sizes.{only}
use Rattle.rules.specs.Words as words
use Rattle.rules.specs.Words.{Statement, of_block, own_block, certificate, same_statement, conflict, join_certificate, moment, State}
use Rattle.rules.specs.Inputs as inputs
use Rattle.rules.specs.Inputs.{◌▸◌, logging, complain, lead, enter}
use Rattle.laws.proofs.Tests.{by_bool, by_option}
use Rattle.kept.specs.Parts.{Formed, WellFormed}
use Rattle.kept.proofs.WellFormed.{parts, whole}
use Rattle.laws.proofs.Lengths.{reports_bytes}
use Rattle.kept.proofs.Tallies.{block_self, join_there}
use Rattle.kept.proofs.Ticks.{logging_keeps, complain_keeps, lead_keeps}
use Rattle.kept.proofs.Room.{complain_bytes, lead_bytes}
use Rattle.outgoing.proofs.Writing.{says_length}
use Rattle.plain_tallies.proofs.Laws.{join_long, certificate_long}
use Rattle.plain_tables.specs.declared.Names.{Names}
use Rattle.plain_tables.specs.declared.Engine.{Engine}
use Rattle.plain_tables.specs.Meaning.{names, state, Gives}
use Rattle.plain_acts.specs.declared.Work.{Work}
use Rattle.plain_acts.specs.Works.{Worked}
use Rattle.plain_messages.specs.Whole.{Whole}
use Rattle.plain_messages.proofs.Laws.{view_small, few_tallies_lem}
use Rattle.plain_logs.proofs.Saying.{counted}
use Rattle.plain_arrivals.specs.Votable.{votes_long, OneFree}
use Rattle.plain_arrivals.proofs.Laws.{then_worked, given_count, voting_count}
use Rattle.plain_ticks.specs.Ticks.{Keepable, turning}

-- ---- the tables

-- a blame leaves them as they are
complain_tables : (s : State) → ((complain s).now.statements ≡ s.statements) × ((complain s).now.tallies ≡ s.tallies)
unfolding complain ◌▸◌ inputs.saying inputs.blaming inputs.quit inputs.with_phase inputs.blamed inputs.with_blames
complain_tables s =
    let v = s.view in
    let kept = inputs.blamed v (only s.settings.own) s in
    by_bool (inputs.overdue s)
    (λ q.
    by_bool (inputs.is_in v kept && inputs.blame_full v kept) (λ z. rw (q, complain, z, inputs.blaming) (refl, refl))
    (λ z. rw (q, complain, z, inputs.blaming) (refl, refl)))
    (λ q. rw (q, complain) (refl, refl))

module _ (x : Statement) (s : State) where
  stored_few : length (inputs.stored x s).tallies ≤ length s.tallies + 2
  unfolding inputs.stored inputs.with_tables
  stored_few =
      let us = join_certificate (moment none s) (certificate x) s.tallies in
      omega (arith, join_long (moment none s) (own_block x 0) us, certificate_long (moment none s) (certificate x) s.tallies)

  stored_there : any (of_block (own_block x 0)) (inputs.stored x s).tallies ≡ true
  unfolding inputs.stored inputs.with_tables
  stored_there =
      join_there (moment none s) (own_block x 0) (own_block x 0) (join_certificate (moment none s) (certificate x) s.tallies) (block_self (own_block x 0))

  statement_few : length (inputs.statement x s).now.tallies ≤ length s.tallies + 2
  unfolding inputs.statement inputs.saying inputs.certificate_joined inputs.with_tables inputs.quit inputs.with_phase
  statement_few =
      by_bool (any (same_statement x) s.statements)
      (λ q. rw (q, inputs.statement) (omega (arith, certificate_long (moment none s) (certificate x) s.tallies)))
      (λ q.
      by_bool (inputs.is_in x.view s)
      (λ i.
      by_option (first (conflict x) s.statements) (λ o. rw (q, i, o, inputs.statement) (omega (arith, voting_count x (inputs.stored x s) stored_there, stored_few)))
      (λ y o. rw (q, i, o, inputs.statement) stored_few))
      (λ i. rw (q, i, inputs.statement) stored_few))

lead_few : (s : State) → length (lead s).now.tallies ≤ length s.tallies + 2
unfolding lead inputs.saying inputs.handled inputs.own_new_view
lead_few s =
    let t = words.highest s.settings s.view s.tallies in
    by_bool (inputs.leads_now s)
    (λ q.
    rw (q, lead)
    (statement_few
    (record { is_new_view = true; view = s.view; height = t.height; name = t.name; link = t.view; mask = t.mask; author = s.settings.own; voted = none }) s))
    (λ q. rw (q, lead) (omega arith))

-- a station in a state that is formed, with no more in its tables than a well-formed one had
same_whole : {s : State} (e : Engine) {t : State} → WellFormed s → Gives e t → Formed t → t.settings ≡ s.settings → t.statements ≡ s.statements
    → t.tallies ≡ s.tallies → Whole e
same_whole {s} e {t} w g f c x y =
    record {
      sized = g.sized;
      formed =
          whole
          (subst WellFormed (sym g.is)
          (record { formed = f; few_statements = rw (c, x) w.few_statements; few_tallies = rw (c, y) w.few_tallies }));
    }

-- ---- the new log

module _ (e : Engine) (log : Names) (k : Keepable e log) (o : List ℕ) where
  module _ {w : Work} {o₁ : List ℕ} (d : Worked (logging (names log) (state e)) o 0 w o₁) where
    pub logged_whole : Whole w.engine
    unfolding logging inputs.saying inputs.with_log
    logged_whole =
        let f = parts (state e) k.whole.formed in
        same_whole w.engine f d.now (logging_keeps f.formed (names log) k.linked).formed refl refl refl

    pub logged_space : least_out_small ≤ length o → w.at + 37 + 200 + 200 + votes_long ≤ length o₁
    unfolding logging inputs.saying
    logged_space h =
        let n = length (state e).log in
        omega
        (arith, d.says.ends, says_length d.says, reports_bytes (suc n) (drop n (names log)), length-drop n (names log), counted log k.within, k.within.most)

-- ---- blame, the leader's new-view

pub whole_view : (e : Engine) → Whole e → e.view ≤ last_view_small
unfolding state
whole_view e k = view_small e k e.view (parts (state e) k.formed).formed.view

module _ (e : Engine) (k : Whole e) (o : List ℕ) (at : ℕ) {w : Work} {o₁ : List ℕ} where
  pub complained_whole : Worked (complain (state e)) o at w o₁ → Whole w.engine
  complained_whole d =
      let f = parts (state e) k.formed in
      let c = complain_keeps f.formed in
      let t = complain_tables (state e) in
      same_whole w.engine f d.now c.formed c.settings t.0 t.1

  pub complained_space : Worked (complain (state e)) o at w o₁ → at + 37 + 200 + 200 + votes_long ≤ length o → w.at + 200 + 200 + votes_long ≤ length o₁
  complained_space d h = omega (arith, d.says.ends, says_length d.says, complain_bytes (state e))

  pub led_ready : Worked (lead (state e)) o at w o₁ → OneFree w.engine
  unfolding state
  led_ready d =
      record {
        sized = d.now.sized;
        formed = subst Formed (sym d.now.is) (lead_keeps (parts (state e) k.formed).formed).formed;
        free =
            omega (arith, lead_few (state e), few_tallies_lem e k, given_count {r = e} (record { sized = k.sized; is = refl }), given_count d.now);
      }

  pub led_space : Worked (lead (state e)) o at w o₁ → at + 200 + 200 + votes_long ≤ length o → w.at + 200 + votes_long ≤ length o₁
  led_space d h = omega (arith, d.says.ends, says_length d.says, lead_bytes (state e))

-- ---- all of them

pub turned_worked : (l : List ℕ) (s : State) {o o₁ o₂ o₃ left : List ℕ} {a b c r : Work} → Worked (logging l s) o 0 a o₁ → Worked (complain (state a.engine)) o₁ a.at b o₂
    → Worked (lead (state b.engine)) o₂ b.at c o₃ → Worked (enter (state c.engine)) o₃ c.at r left → Worked (turning l s) o 0 r left
unfolding turning
turned_worked l s x y z u = then_worked (logging l s ▸ complain ▸ lead) enter (then_worked (logging l s ▸ complain) lead (then_worked (logging l s) complain x y) z) u
