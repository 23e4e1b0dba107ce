-- The second half of demand 3: who says a propose and its vote, and stays in that view, has the block and all its ancestors in its log
-- after the tick 2D+1 later. Assumes nothing.
use mathlib.Core.Path.{◌≡◌, subst, subst₂, refl, sym, ap, ◌∙◌}
use Prim.Native.Nat.{ℕ, zero, suc, ◌+◌, ◌-◌, ◌*◌, ◌≤◌, ◌<◌}
use native.Mathlib.Omega.{arith}
use native.Mathlib.Decide.{dec_le}
use mathlib.Core.Bool.{true, false}
use mathlib.Core.List.{List, IsPrefix, Memᴰ}
use mathlib.Core.Option.{none, some}
use borrow.Author.Tests.{eq-eqb}
use Rattle.rules.specs.Lists.{first, any}
use Rattle.rules.specs.Sizes.{Settings}
use Rattle.rules.specs.Messages.{propose, vote, to_all}
use Rattle.rules.specs.Words.{Statement, message, same_statement, State, in_view}
use Rattle.rules.specs.Inputs.{is_block, due, chain}
use Rattle.laws.proofs.Tests.{by_bool, by_option, no_bool}
use Rattle.laws.proofs.Searches.{any_mem, first_any, first_mem, first_none}
use Rattle.laws.proofs.Statements.{In, same_like, no_conflict_new_view}
use Rattle.laws.proofs.Allowed.{sizes}
use Rattle.laws.proofs.Moves.{counted, log_after}
use Rattle.laws.proofs.Kept.{true_in, moves_fixed, moves_kept, VoteKept, moves_vote}
use Rattle.laws.proofs.Orderly.{propose_high}
use Rattle.laws.proofs.Held.{held_stored}
use Rattle.laws.proofs.Votes.{Cast}
use Rattle.laws.proofs.Commits.{commits_some, Due, facts_due}
use Rattle.agreement.specs.Schedule.{Event, common_tick, ticks, run, IsSaid, lineage}
use Rattle.agreement.proofs.Lineage.{up, propose_facts, chain_whole}
use Rattle.agreement.proofs.Events.{Brings, begun, begun_same}
use Rattle.agreement.proofs.Clock.{clock_suc, clock_before}
use Rattle.agreement.proofs.Group.{Group, st, ck, Ok, G, SaidAt, begun_at, moves_of, at_settings, at_clock, kept_run, orderly_run, cast_run}
use Rattle.agreement.proofs.Follow.{reach}
use Rattle.agreement.proofs.Ancestors.{Shown, ancestors}
use Rattle.agreement.proofs.Logs.{tick_log_lem, counted_same, stored_placed, all_placed, stored_lineage}

-- ---- stored statements

pub found : (x : Statement) (xs : List Statement) → In xs x → (z : Statement) × (first (same_statement x) xs ≡ some z) × Memᴰ z xs
found x xs h =
    by_option (first (same_statement x) xs) (λ f. no_bool (sym h ∙ first_none (same_statement x) xs f)) (λ z f. (z, f, first_mem (same_statement x) xs z f))

-- what a search for a statement finds has its kind, view, height and name
pub same_fields : (x : Statement) (xs : List Statement) (z : Statement) → first (same_statement x) xs ≡ some z
    → (z.is_new_view ≡ x.is_new_view) × (z.view ≡ x.view) × (z.height ≡ x.height) × (z.name ≡ x.name)
same_fields x xs z f =
    let a = same_like x z (first_any (same_statement x) xs z f).1 in
    (ap (λ (y : Statement). y.is_new_view) a, ap (λ (y : Statement). y.view) a, ap (λ (y : Statement). y.height) a, ap (λ (y : Statement). y.name) a)

-- x is stored, and its vote noted, at a clock no later than c
pub record Noted (x : Statement) (c : ℕ) (xs : List Statement) : Type 0 where
  pub what : Statement
  pub finds : first (same_statement x) xs ≡ some what
  pub clock : ℕ
  pub voted : what.voted ≡ some clock
  pub early : clock ≤ c

-- it stays so while the station is in the view
noted_on : (x : Statement) (c : ℕ) (s t : State) → VoteKept s t → t.view ≡ s.view → Noted x c s.statements → Noted x c t.statements
noted_on x c s t keeps v m = let (y, f, e) = keeps x m.what m.clock m.finds m.voted v in record { what = y; finds = f; clock = m.clock; voted = e; early = m.early }

module _ (X : Group) where
  open X use {size, n, D, faulty, event, next, parent_of}

  -- ---- a vote stays noted, what was shown is stored

  vote_one : (i : ℕ) → Ok X i → (k : ℕ) → VoteKept (st X i k) (st X i (suc k))
  vote_one i ok k x z c f e v =
      let (o, q, w) = moves_of X i ok k in
      let b = begun_same (event k) (st X i k) in
      moves_vote (begun (event k) (st X i k)) (st X i (suc k)) o w x z c
      (subst (λ (l : List Statement). first (same_statement x) l ≡ some z) (sym b.3) f) e (v ∙ sym b.2)

  vote_run : (i : ℕ) → Ok X i → (k l : ℕ) → k ≤ l → VoteKept (st X i k) (st X i l)
  vote_run i ok k zero c x z a f e v =
      let q : k ≡ 0 = omega arith in (z, subst (λ (m : ℕ). first (same_statement x) (st X i m).statements ≡ some z) q f, e)
  vote_run i ok k (suc l) c x z a f e v =
      elim (dec_le k l) [
        | yes d ↦ (
            let p = (kept_run X i ok k l d).view in
            let q = (kept_run X i ok l (suc l) (omega arith)).view in
            let u : (st X i l).view ≡ (st X i k).view = omega arith in
            let (y, g, b) = vote_run i ok k l d x z a f e u in
            vote_one i ok l x y a g b (v ∙ sym u))
        | no d ↦ (let q : k ≡ suc l = omega arith in (z, subst (λ (m : ℕ). first (same_statement x) (st X i m).statements ≡ some z) q f, e))
      ]

  pub shown_stored : (r : ℕ) → Ok X r → (k t h b : ℕ) → t + D + 1 ≤ next k → Shown X t h b → any (is_block h b) (st X r k).statements ≡ true
  unfolding is_block
  shown_stored r ok k t h b d (j, hj, c, l, (y, e, p, q, s)) =
      let xs = (st X r k).statements in
      let (z, f, m) = found y xs (held_stored (G X r) (st X r k) y (reach X j r hj ok (message y) c k s (omega arith))) in
      let (i, iv, ih, ib) = same_fields y xs z f in
      any_mem (is_block h b) xs z m (rw (i ∙ e, eq-eqb h z.height (sym (ih ∙ p)), eq-eqb b z.name (sym (ib ∙ q))))

  -- r says a propose and the vote for it at event j, at clock t, and is in that view as the tick to t + 2D + 1 begins
  pub record Stays (r j k v h b p m a : ℕ) : Type 0 where
    pub ok : Ok X r
    pub statement : IsSaid (run size n D event) r j (to_all (propose v h b p m a))
    pub ballot : IsSaid (run size n D event) r j (to_all (vote v h b r))
    pub tick : event k ≡ common_tick
    pub due : ck X k ≡ ck X (suc j) + 2 * D
    pub phase : (st X r k).phase ≡ in_view
    pub view : (st X r k).view ≡ v

  module _ (r j k v h b p m a : ℕ) (S : Stays r j k v h b p m a) where
    abbrev stored : List Statement
    stored = (st X r k).statements

    -- the vote, where it is cast, and the statement it is for
    abbrev cast : Cast (SaidAt X r) (Brings r (event j) (st X r j)) (begun (event j) (st X r j)) (st X r (suc j)) v h b
    cast = cast_run X r S.ok j v h b r S.ballot

    abbrev w : Statement
    w = cast.stands.what

    -- ---- moments

    later : suc j < k
    later =
        let delay = (sizes (G X 0) X.settings).leastD in
        let d = S.due in
        clock_before event (suc j) k (omega arith)

    -- what was said at event j is there as the tick begins
    reached : ck X (suc j) + D + 1 ≤ next k
    reached =
        let tick : ck X (suc k) ≡ ck X k + 1 = clock_suc event k ∙ ap (λ (y : Event). ck X k + ticks 0 y) S.tick ∙ (unfold ticks in refl) in
        let d = S.due in
        let s = X.soon k in
        omega arith

    -- the view stays from the vote on
    views : ((st X r (suc j)).view ≡ cast.at.view) × ((st X r k).view ≡ (st X r (suc j)).view)
    views =
        let a = (moves_kept cast.after).view in
        let l = later in
        let b = (kept_run X r S.ok (suc j) k (omega arith)).view in
        let c = cast.stands.current in
        let d = S.view in
        (omega arith, omega arith)

    -- ---- the statement that was voted for

    -- it is still stored as the tick begins
    has : In stored w
    has = let l = later in (kept_run X r S.ok (suc j) k (omega arith)).has w ((moves_kept cast.after).has w cast.stands.has)

    -- it is a propose: the one that was said is stored too, and nothing in the view conflicts with it
    kind : w.is_new_view ≡ false
    kind =
        let x : Statement = record { is_new_view = false; view = v; height = h; name = b; link = p; mask = m; author = a; voted = none } in
        let there : In stored x = reach X r r S.ok S.ok (propose v h b p m a) (ck X (suc j)) k (j, refl, S.statement) reached in
        let calm = (orderly_run X r S.ok k).clean S.phase x w there has (sym S.view) in
        let e = cast.stands.height in
        by_bool w.is_new_view (λ q. let z = no_conflict_new_view x w calm cast.stands.view refl q in absurd (omega arith)) (λ q. q)

    noted_there : Noted w (ck X (suc j)) cast.at.statements
    noted_there =
        let y = cast.stands in
        let (z, f, i) = found w cast.at.statements y.has in
        let (c, q, lo, hi, vt) = cast.orderly.votes y.phase w z f (propose_high w cast.at kind) (y.view ∙ sym y.current) in
        let now : cast.at.clock ≡ ck X (suc j) = (moves_fixed cast.before).1 ∙ begun_at X r S.ok j in
        record { what = z; finds = f; clock = c; voted = q; early = omega arith }

    -- its vote is still noted as the tick begins
    noted : Noted w (ck X (suc j)) stored
    noted =
        let l = later in
        noted_on w (ck X (suc j)) (st X r (suc j)) (st X r k) (vote_run r S.ok (suc j) k (omega arith)) views.1
        (noted_on w (ck X (suc j)) cast.at (st X r (suc j)) (moves_vote cast.at (st X r (suc j)) cast.later cast.after) views.0 noted_there)

    -- ---- the record of it, due at the tick

    abbrev z : Statement
    z = noted.what

    member : Memᴰ z stored
    member = first_mem (same_statement w) stored z noted.finds

    fields : (z.is_new_view ≡ false) × (z.view ≡ v) × (z.height ≡ h) × (z.name ≡ b)
    fields =
        let (i, e, f, g) = same_fields w stored z noted.finds in
        (i ∙ kind, e ∙ cast.stands.view, f ∙ cast.stands.height, g ∙ cast.stands.name)

    -- its chain is whole at that tick
    whole : (l : List ℕ) × (chain stored z ≡ some l)
    unfolding up
    whole =
        let placed = stored_placed X r S.ok k z member in
        let (parent, positive, _, _) = propose_facts parent_of (G X r) z placed fields.0 in
        let shown = ancestors X (ck X (suc j)) v h b (r, j, S.ok, omega arith, S.ballot) in
        let link : parent_of b ≡ z.link = ap parent_of (sym fields.3) ∙ parent in
        let height = fields.2 in
        chain_whole parent_of (G X r) stored z (all_placed X r S.ok k) placed fields.0
        (λ e l.
        let q : h - suc e ≡ z.height - 1 - e = omega arith in
        subst₂ (λ (x y : ℕ). any (is_block x (up parent_of e y)) stored ≡ true) q link
        (shown_stored r S.ok k (ck X (suc j)) (h - suc e) (up parent_of e (parent_of b)) reached (shown (suc e) (omega arith))))

    ripe : Due (counted (st X r k)) z
    ripe =
        let (es, _, eg, ep, ev, ec) = counted_same (st X r k) in
        let delay : (counted (st X r k)).settings.D ≡ D = ap (λ (g : Settings). g.D) (eg ∙ at_settings X r S.ok k) in
        let now = at_clock X r S.ok k in
        let d = S.due in
        let early = noted.early in (
          subst (Memᴰ z) (sym es) member,
          fields.0,
          true_in z.view (counted (st X r k)) (ep ∙ S.phase) (fields.1 ∙ sym (ev ∙ S.view)),
          (noted.clock, noted.voted, rw delay (omega arith)),
        )

    -- after the tick the log begins with the block and all its ancestors
    pub commits_lineage : IsPrefix (lineage parent_of h b) (st X r (suc k)).log
    commits_lineage =
        let u = counted (st X r k) in
        let same = (counted_same (st X r k)).0 in
        let (log, done) = tick_log_lem X r S.ok k S.tick in
        let chained = subst (λ (y : List Statement). chain y z ≡ some whole.0) (sym same) whole.1 in
        let begins = (commits_some u.statements (due u) u.log (log_after (st X r k)) done).has z whole.0 (facts_due u z ripe) chained in
        let line = (stored_lineage X r S.ok k z whole.0 member fields.0 whole.1).0 in
        subst₂ IsPrefix (line ∙ ap (λ (x : ℕ). lineage parent_of x z.name) fields.2 ∙ ap (lineage parent_of h) fields.3) (sym log) begins
