-- What a station does in the view that it has entered, and that it may. Assumes nothing.
use Prim.Native.Nat.{ℕ, ◌+◌, ◌≤◌}
use mathlib.Core.Path.{◌≡◌, refl, sym, ap, subst, ◌∙◌}
use mathlib.Core.Bool.{true, false}
use mathlib.Core.List.{List, [], ◌∷◌, Memᴰ as Mem}
use mathlib.Core.Option.{none, some}
use native.Mathlib.Omega.{arith}
use lib.Dec.{eqb}
use lib.ListN.{length}
use Rattle.rules.specs.Limits.{last_view, last_view_small}
use Rattle.rules.specs.Lists.{any, keep}
use Rattle.rules.specs.Sizes.{leader}
use Rattle.rules.specs.Messages.{allowed, to_all, to_one, blame_set, status, effect, outgoing}
use Rattle.rules.specs.Words.{Statement, message, of_block, own_block, State}
use Rattle.rules.specs.Inputs as inputs
use Rattle.rules.specs.Inputs.{pair, in_order, voting_all, arrive, enters_now, next_lock, report, entered, enter}
use Rattle.rules.specs.WellFormed.{is_name, statement_good, tallies_there}
use Rattle.laws.proofs.Tests.{by_bool}
use Rattle.laws.proofs.Truths.{and_2, and_4}
use Rattle.laws.proofs.Searches.{mem_keep}
use Rattle.laws.proofs.Statements.{pair_some, mem_order}
use Rattle.laws.proofs.Allowed.{view_within}
use Rattle.laws.proofs.Kept.{enters_at}
use Rattle.kept.specs.Parts.{Formed}
use Rattle.kept.proofs.Lists.{all_mem, mem_each}
use Rattle.laws.proofs.Lengths.{bytes, bytes_cons, bytes_none, length_effect}
use Rattle.kept.proofs.Tallies.{highest_good}
use Rattle.kept.proofs.Phases.{entering_formed}
use Rattle.settings.specs.Made.{settings_of}
use Rattle.wire.specs.Meaning.{Linked}
use Rattle.outgoing.specs.Wrote.{Says}
use Rattle.outgoing.proofs.Writing.{says_none, says_one, says_length, length_to_one, length_write_most}
use Rattle.plain_statements.specs.declared.Held.{Held}
use Rattle.plain_statements.specs.declared.Statements.{Statements}
use Rattle.plain_statements.specs.Meaning.{held_of, statements}
use Rattle.plain_tables.specs.declared.Engine.{Engine}
use Rattle.plain_tables.specs.Meaning.{state, Gives}
use Rattle.plain_acts.specs.declared.Work.{Work}
use Rattle.plain_acts.specs.Works.{Worked}
use Rattle.plain_messages.proofs.Laws.{certifies}
use Rattle.plain_orders.specs.Picks.{is_of}
use Rattle.plain_arrivals.specs.Votable.{Votable, Votables, votes_long, OneFree}
use Rattle.plain_arrivals.proofs.Laws.{then_worked, given_count, held_linked}

-- ---- a stored statement may be voted on

stored_votable : {s : State} → Formed s → (x : Statement) → Mem x s.statements → Votable s.tallies x
unfolding statement_good tallies_there
stored_votable {s} f x m =
    let good : statement_good s x ≡ true = all_mem (statement_good s) f.tables.statements m in
    let there : tallies_there s.tallies x ≡ true = all_mem (tallies_there s.tallies) f.tables.opened m in
    record {
      certifies = certifies s.settings x (and_4 (allowed s.settings (message x)) (is_name x.name) (is_name x.link) _ good).0;
      there = (and_2 (any (of_block (own_block x 0)) s.tallies) _ there).0;
    }

module _ (e : Engine) (k : OneFree e) where
  pub ready_view : e.view ≤ last_view_small
  unfolding state last_view
  ready_view =
      let w : e.view ≤ last_view (settings_of e.settings).size = (view_within (settings_of e.settings) e.view k.formed.view).1 in
      rw k.sized.small at w

  module _ (now : Statements) (c : statements now ≡ keep (is_of e.view) (statements e.statements)) where
    pub current_is : statements now ≡ inputs.current (state e)
    unfolding is_of inputs.current state
    current_is = c

    -- the two of a conflict may be sent
    pub two_linked : (x y : Held) → some (held_of x, held_of y) ≡ pair (statements now) → Linked x.statement × Linked y.statement
    unfolding state
    two_linked x y p =
        let (_, i, j) = pair_some (statements now) (held_of x, held_of y) (sym p) in
        let stored : (z : Statement) → Mem z (statements now) → Mem z (statements e.statements) =
        λ z m. (mem_keep (is_of e.view) (statements e.statements) z (subst (λ (l : List Statement). Mem z l) c m)).0 in
        let linked : (z : Held) → Mem (held_of z) (statements now) → Linked z.statement =
        λ z m. held_linked z (stored_votable k.formed (held_of z) (stored (held_of z) m)).certifies in
        (linked x i, linked y j)

    pub order_votable : (order : Statements) → statements order ≡ in_order (statements now) → Votables (state e).tallies (statements order)
    order_votable order o =
        subst (Votables (state e).tallies) (sym (o ∙ ap in_order current_is))
        (mem_each (Votable (state e).tallies) (in_order (inputs.current (state e))) (λ x m. stored_votable k.formed x (mem_order (state e) x m).0))

-- ---- what is done there

module _ (e : Engine) (o : List ℕ) (at : ℕ) where
  pub arrives_full : {r : Engine} {next m : ℕ} {left : List ℕ} → inputs.blame_full e.view (state e) ≡ true → m ≡ inputs.blames_of e.view (state e)
      → Says o at (effect (to_all (blame_set e.view m))) left next → Gives r (inputs.quit [] (state e)).now
      → Worked (arrive (state e)) o at (record { engine = r; at = next }) left
  unfolding arrive inputs.quit inputs.saying state
  arrives_full {r} {next} {m} {left} q b y g =
      rw (q, arrive)
      (record {
        now = g;
        says = says_one o at (to_all (blame_set e.view (inputs.blames_of e.view (state e)))) left next
            (subst (λ (j : ℕ). Says o at (effect (to_all (blame_set e.view j))) left next) b y);
      })

  module _ (q : inputs.blame_full e.view (state e) ≡ false) (now : Statements) (c : statements now ≡ inputs.current (state e)) where
    pub arrives_two : {r : Engine} {next : ℕ} {left : List ℕ} (x y : Statement) → some (x, y) ≡ pair (statements now)
        → Says o at (outgoing (to_all (message x) ∷ to_all (message y) ∷ [])) left next → Gives r (inputs.quit [] (state e)).now
        → Worked (arrive (state e)) o at (record { engine = r; at = next }) left
    unfolding arrive inputs.quit inputs.saying state
    arrives_two x y p s g = rw (q, sym (ap pair c) ∙ sym p, arrive) (record { now = g; says = s })

    pub arrives_votes : {r : Work} {left : List ℕ} (order : Statements) → statements order ≡ in_order (statements now) → none ≡ pair (statements now)
        → Worked (voting_all (statements order) (state e)) o at r left → Worked (arrive (state e)) o at r left
    unfolding arrive state
    arrives_votes {r} {left} order i p w =
        rw (q, sym (ap pair c) ∙ sym p, arrive)
        (subst (λ (l : List Statement). Worked (voting_all l (state e)) o at r left) (i ∙ ap in_order c) w)

-- ---- the entry

report_bytes_lem : (s : State) → bytes (report s) ≤ 200
unfolding report
report_bytes_lem s =
    let to = leader s.settings (s.view + 1) in
    let t = next_lock s in
    let m = status t.height t.name t.view t.mask in
    by_bool (eqb to s.settings.own) (λ q. rw (q, report) (omega (arith, bytes_none)))
    (λ q. rw (q, report) (omega (arith, bytes_cons (to_one to m) [], bytes_none, length_effect (to_one to m), length_to_one to m, length_write_most m)))

entered_formed : {s : State} → Formed s → enters_now s ≡ true → Formed (entered s).now
unfolding entered inputs.saying next_lock
entered_formed {s} f e =
    let l = (enters_at s e).2 in
    entering_formed f (s.view + 1) (next_lock s) (omega arith) (omega arith)
    (highest_good s.settings s.clock (s.view + 1) s.tallies (omega arith) f.tables.tallies)

module _ (e : Engine) (k : OneFree e) (o : List ℕ) (at : ℕ) where
  pub stays : enters_now (state e) ≡ false → Worked (enter (state e)) o at (record { engine = e; at = at }) o
  unfolding enter inputs.saying outgoing
  stays q = rw (q, enter) (record { now = record { sized = k.sized; is = refl }; says = says_none o at })

  module _ (q : enters_now (state e) ≡ true) {w : Work} {o₁ : List ℕ} (d : Worked (entered (state e)) o at w o₁) where
    pub entered_ready : OneFree w.engine
    unfolding entered inputs.saying inputs.entering state
    entered_ready =
        record {
          sized = d.now.sized;
          formed = subst Formed (sym d.now.is) (entered_formed k.formed q);
          free = omega (arith, k.free, given_count {r = e} (record { sized = k.sized; is = refl }), given_count d.now);
        }

    pub entered_space : at + 200 + votes_long ≤ length o → w.at + votes_long ≤ length o₁
    unfolding entered inputs.saying
    entered_space h = omega (arith, d.says.ends, says_length d.says, report_bytes_lem (state e))

    pub enters : {r : Work} {left : List ℕ} → Worked (arrive (state w.engine)) o₁ w.at r left → Worked (enter (state e)) o at r left
    unfolding enter
    enters z = rw (q, enter) (then_worked (entered (state e)) arrive d z)
