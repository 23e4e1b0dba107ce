-- L7 along the run and G5: a sound station's log is the lineage of a ripe propose, and of two such lineages one begins the other;
-- what was reported is the log. Assumes nothing.
use mathlib.Core.Path.{◌≡◌, subst, refl, sym, ap, ◌∙◌}
use Prim.Native.Nat.{ℕ, zero, suc, ◌+◌, ◌*◌, ◌≤◌}
use native.Mathlib.Omega.{arith}
use mathlib.Core.Bool.{true, false}
use mathlib.Core.List.{List, [], ◌∷◌, ◌++◌, append-nil, IsPrefix, Memᴰ}
use mathlib.Core.Logic.{◌⊎◌, inl, inr}
use mathlib.Core.Option.{none, some, some-injective}
use lib.ListN.{length, drop}
use lib.Seq.{drop-append_seam}
use Rattle.rules.specs.Sizes.{Settings}
use Rattle.rules.specs.Messages.{Effect, to_all, to_one, committed}
use Rattle.rules.specs.Words.{Statement, State, in_view, fresh}
use Rattle.rules.specs.Inputs.{with_clock, with_log, due, chain, reports}
use Rattle.rules.specs.Refusals.{running}
use Rattle.laws.proofs.Searches.{All, to_all_lem}
use Rattle.laws.proofs.Statements.{once_first}
use Rattle.laws.proofs.Tallies.{AtLeast, at_least_either}
use Rattle.laws.proofs.Moves.{counted, log_after, news, tick_moves}
use Rattle.laws.proofs.Kept.{in_true, moves_fixed}
use Rattle.laws.proofs.Orderly.{propose_high, Voted}
use Rattle.laws.proofs.Commits.{begins_merge, commits_some, commits_none, Due, due_facts, reports_append, moves_messages}
use Rattle.laws.proofs.Splits.{due_commits}
use Rattle.agreement.specs.Schedule.{Event, idle, common_tick, tick_of, given, offered_to, happens, ticks, IsCommon, at, out, Linked, lineage, reports_in, reported, Run, run, OneBegins}
use Rattle.agreement.proofs.Lineage.{Placed, up, lineage_up, lineage_linked, chain_lineage}
use Rattle.agreement.proofs.Events.{Brings, begun, before}
use Rattle.agreement.proofs.Clock.{clock_suc}
use Rattle.agreement.proofs.Group.{Group, st, ck, Ok, G, SaidAt, moves_of, at_settings, at_clock, orderly_run, once_run, sure_run}
use Rattle.agreement.proofs.Ripe.{Ripe}
use Rattle.agreement.proofs.Behind.{SoundVote}
use Rattle.agreement.proofs.Extends.{Extends, extends}

-- ---- a tick, seen from the event

pub event_log : (i : ℕ) (e : Event) (s : State) → IsCommon e → running (happens i e s).next ≡ true
    → ((begun e s).log ≡ s.log)
    ⊎ ((e ≡ common_tick) × ((begun e s).log ≡ log_after s) × (due_commits s ≡ some (log_after s)))
unfolding happens begun with_log
event_log i idle s c r = inl refl
event_log i common_tick s c r = inr (refl, refl, (tick_moves (Brings i common_tick s) s r).0)
event_log i (tick_of j) s c r = absurd c
event_log i (given j bs) s c r = inl refl
event_log i (offered_to j b) s c r = inl refl

event_tick : (i : ℕ) (e : Event) (s : State) → e ≡ common_tick → running (happens i e s).next ≡ true
    → ((begun e s).log ≡ log_after s) × (due_commits s ≡ some (log_after s))
event_tick i e s q =
    subst (λ (y : Event). running (happens i y s).next ≡ true → ((begun y s).log ≡ log_after s) × (due_commits s ≡ some (log_after s))) (sym q)
    (λ r. unfold happens begun with_log in (refl, (tick_moves (Brings i common_tick s) s r).0))

-- a tick changes no statement and no log by counting
pub counted_same : (s : State) → ((counted s).statements ≡ s.statements) × ((counted s).log ≡ s.log) × ((counted s).settings ≡ s.settings)
    × ((counted s).phase ≡ s.phase) × ((counted s).view ≡ s.view) × ((counted s).clock ≡ s.clock + 1)
unfolding counted with_clock
counted_same s = (refl, refl, refl, refl, refl, refl)

-- ---- reports

pub reports_in_append : (a b : List Effect) → reports_in (a ++ b) ≡ reports_in a ++ reports_in b
unfolding reports_in
reports_in_append [] b = refl
reports_in_append (to_all m ∷ a) b = reports_in_append a b
reports_in_append (to_one i m ∷ a) b = reports_in_append a b
reports_in_append (committed h x ∷ a) b = ap (committed h x ∷◌) (reports_in_append a b)

reports_in_reports : (h : ℕ) (bs : List ℕ) → reports_in (reports h bs) ≡ reports h bs
unfolding reports_in reports
reports_in_reports h [] = refl
reports_in_reports h (b ∷ bs) = ap (committed h b ∷◌) (reports_in_reports (suc h) bs)

none_reported : (o : List Effect) → All (λ e. reports_in (e ∷ []) ≡ []) o → reports_in o ≡ []
none_reported [] a = unfold reports_in in refl
none_reported (e ∷ o) a = reports_in_append (e ∷ []) o ∙ ap (◌++ reports_in o) a.0 ∙ none_reported o a.1

-- what the begin of an event reports is what the log gains
event_reported : (i : ℕ) (e : Event) (s : State) → IsCommon e → running (happens i e s).next ≡ true
    → reports 1 s.log ++ reports_in (before e s) ≡ reports 1 (begun e s).log
unfolding happens begun before with_log reports_in news
event_reported i idle s c r = append-nil _
event_reported i common_tick s c r =
    let (new, e) = (commits_some (counted s).statements (due (counted s)) (counted s).log (log_after s) (tick_moves (Brings i common_tick s) s r).0).begins in
    let f : log_after s ≡ s.log ++ new = sym e ∙ ap (◌++ new) (counted_same s).1 in
    let above = suc (length s.log) in
    let g : news s ≡ reports above new =
    ap (λ (l : List ℕ). reports above (drop (length s.log) l)) f ∙ ap (reports above) (drop-append_seam s.log new) in
    let z : 1 + length s.log ≡ suc (length s.log) = omega arith in
    ap (λ (x : List Effect). reports 1 s.log ++ reports_in x) g ∙ ap (reports 1 s.log ++◌) (reports_in_reports (suc (length s.log)) new)
    ∙ sym (ap (reports 1) f ∙ reports_append 1 s.log new ∙ ap (λ (y : ℕ). reports 1 s.log ++ reports y new) z)
event_reported i (tick_of j) s c r = absurd c
event_reported i (given j bs) s c r = append-nil _
event_reported i (offered_to j b) s c r = append-nil _

module _ (X : Group) where
  open X use {size, n, D, faulty, event, next, parent_of}

  abbrev R : Run
  R = run size n D event

  -- what is due is ripe
  pub due_ripe : (i : ℕ) → Ok X i → (k : ℕ) → ck X k + 1 ≤ next k → (x : Statement) → Due (counted (st X i k)) x → (c : ℕ) × Ripe X i k c x
  due_ripe i ok k nx x (m, n, v, (c, q, l)) =
      let s = st X i k in
      let (es, el, eg, ep, ev, ec) = counted_same s in
      let (p, w) = in_true x.view (counted s) v in
      let ph : s.phase ≡ in_view = sym ep ∙ p in
      let vw : x.view ≡ s.view = w ∙ ev in
      let f = once_first s.statements x (once_run X i ok k) (subst (Memᴰ x) es m) in
      let (c', q', lo, hi, vt) = (orderly_run X i ok k).votes ph x x f (propose_high x (st X i k) n) vw in
      let e : c' ≡ c = some-injective c' c (sym q' ∙ q) in
      let cl = at_clock X i ok k in
      let d : (counted s).settings.D ≡ D = ap (λ (g : Settings). g.D) (eg ∙ at_settings X i ok k) in
      let l' : c + 2 * D + 1 ≤ (counted s).clock = rw d at l in (
        c,
        record {
          ok = ok;
          phase = ph;
          view = vw;
          kind = n;
          entry = subst (λ (y : ℕ). s.entry ≤ y) e lo;
          due = omega arith;
          sent = subst (λ (g : Settings). Voted (SaidAt X i) c g.own x) (at_settings X i ok k) (subst (λ (y : ℕ). Voted (SaidAt X i) y s.settings.own x) e vt);
        },
      )

  -- a stored statement is allowed, with its name's parent
  pub stored_placed : (i : ℕ) → Ok X i → (k : ℕ) (x : Statement) → Memᴰ x (st X i k).statements → Placed parent_of (G X i) x
  stored_placed i ok k x m = let (a, r) = sure_run X i ok k x m in (a, r.parent)

  pub all_placed : (i : ℕ) → Ok X i → (k : ℕ) → All (Placed parent_of (G X i)) (st X i k).statements
  all_placed i ok k = to_all_lem (Placed parent_of (G X i)) (st X i k).statements (stored_placed i ok k)

  -- the chain of a stored propose is its lineage
  pub stored_lineage : (i : ℕ) → Ok X i → (k : ℕ) (x : Statement) (l : List ℕ) → Memᴰ x (st X i k).statements → x.is_new_view ≡ false
      → chain (st X i k).statements x ≡ some l → (l ≡ lineage parent_of x.height x.name) × (up parent_of x.height x.name ≡ 0)
  stored_lineage i ok k x l m n e =
      chain_lineage parent_of (G X i) (st X i k).statements x l (all_placed i ok k) (stored_placed i ok k x m) n e

  -- a common tick leaves the log that its commits make
  pub tick_log_lem : (i : ℕ) → Ok X i → (k : ℕ) → event k ≡ common_tick
      → ((st X i (suc k)).log ≡ log_after (st X i k)) × (due_commits (st X i k) ≡ some (log_after (st X i k)))
  unfolding at
  tick_log_lem i ok k e =
      let same = (moves_fixed (moves_of X i ok k).2).2 in
      let (l, c) = event_tick i (event k) (st X i k) e (X.runs i ok (suc k)) in
      (same ∙ l, c)

  -- the log is empty, or the lineage of a propose that was ripe, down to genesis
  abbrev pub RipeLog : ℕ → List ℕ → Type 0
  RipeLog i l =
      (k0 : ℕ) × (c : ℕ) × (x : Statement) × Ripe X i k0 c x × (l ≡ lineage parent_of x.height x.name) × (up parent_of x.height x.name ≡ 0)

  pub log_run : (i : ℕ) → Ok X i → (k : ℕ) → ((st X i k).log ≡ []) ⊎ RipeLog i (st X i k).log
  unfolding at fresh
  log_run i ok zero = inl refl
  log_run i ok (suc k) =
      let same = (moves_fixed (moves_of X i ok k).2).2 in
      go same (log_run i ok k) (event_log i (event k) (st X i k) (X.common k) (X.runs i ok (suc k)))
    where
      keeps : (l m : List ℕ) → m ≡ l → (l ≡ []) ⊎ RipeLog i l → (m ≡ []) ⊎ RipeLog i m
      keeps l m e h = subst (λ (y : List ℕ). (y ≡ []) ⊎ RipeLog i y) (sym e) h

      now : (st X i (suc k)).log ≡ log_after (st X i k) → event k ≡ common_tick → ((st X i k).log ≡ []) ⊎ RipeLog i (st X i k).log
          → (log_after (st X i k) ≡ (counted (st X i k)).log) ⊎ ((x : Statement) × Memᴰ x (due (counted (st X i k))) × (chain (counted (st X i k)).statements x ≡ some (log_after (st X i k))))
          → ((st X i (suc k)).log ≡ []) ⊎ RipeLog i (st X i (suc k)).log
      now e f h (inl q) = keeps (st X i k).log _ (e ∙ q ∙ (counted_same (st X i k)).1) h
      now e f h (inr (x, m, q)) =
          let s = st X i k in
          let d = due_facts (counted s) x m in
          let es = (counted_same s).0 in
          let t : ck X k + 1 ≡ ck X (suc k) = sym (clock_suc event k ∙ ap (λ (y : Event). ck X k + ticks 0 y) f ∙ (unfold ticks in refl)) in
          let sn = X.soon k in
          let (c, r) = due_ripe i ok k (omega arith) x d in
          let (l, u) = stored_lineage i ok k x (log_after s) (subst (Memᴰ x) es d.0) d.1 (subst (λ (y : List Statement). chain y x ≡ some (log_after s)) es q) in
          inr (k, c, x, r, e ∙ l, u)

      go : (st X i (suc k)).log ≡ (begun (event k) (st X i k)).log → ((st X i k).log ≡ []) ⊎ RipeLog i (st X i k).log
          → ((begun (event k) (st X i k)).log ≡ (st X i k).log)
          ⊎ ((event k ≡ common_tick) × ((begun (event k) (st X i k)).log ≡ log_after (st X i k)) × (due_commits (st X i k) ≡ some (log_after (st X i k))))
          → ((st X i (suc k)).log ≡ []) ⊎ RipeLog i (st X i (suc k)).log
      go e h (inl q) = keeps (st X i k).log _ (e ∙ q) h
      go e h (inr (f, q, c)) = now (e ∙ q) f h (commits_some (counted (st X i k)).statements (due (counted (st X i k))) (counted (st X i k)).log (log_after (st X i k)) c).from

  -- ---- G5

  ripe_vote : (r k0 t : ℕ) (x : Statement) → Ripe X r k0 t x → SoundVote X t x.view x.height x.name
  ripe_vote r k0 t x R = let (k, e, s) = R.sent.3 in (r, k, R.ok, omega arith, s)

  extends_lineage : (r k0 t : ℕ) (x : Statement) (R : Ripe X r k0 t x) (y : Statement) → Extends X r k0 t x R y.height y.name
      → IsPrefix (lineage parent_of x.height x.name) (lineage parent_of y.height y.name)
  extends_lineage r k0 t x R y (d, e, u) =
      subst (λ (b : ℕ). IsPrefix (lineage parent_of x.height b) (lineage parent_of y.height y.name)) u
      (subst (λ (h : ℕ). IsPrefix (lineage parent_of x.height (up parent_of d y.name)) (lineage parent_of h y.name)) (sym e)
      (lineage_up parent_of d x.height y.name))

  -- of the lineages of two ripe proposes one begins the other
  pub ripe_begins : (r k0 t : ℕ) (x : Statement) → Ripe X r k0 t x → (s k1 u : ℕ) (y : Statement) → Ripe X s k1 u y
      → OneBegins (lineage parent_of x.height x.name) (lineage parent_of y.height y.name)
  ripe_begins r k0 t x R s k1 u y S = go (at_least_either y.view y.height x.view x.height)
    where
      go : AtLeast y.view y.height x.view x.height ⊎ AtLeast x.view x.height y.view y.height
          → OneBegins (lineage parent_of x.height x.name) (lineage parent_of y.height y.name)
      go (inl a) = inl (extends_lineage r k0 t x R y (extends X r k0 t x R u y.view y.height y.name (ripe_vote s k1 u y S) a))
      go (inr a) = inr (extends_lineage s k1 u y S x (extends X s k1 u y S t x.view x.height x.name (ripe_vote r k0 t x R) a))

  -- of two sound logs, at whatever moments, one begins the other
  pub logs_begin : (i j : ℕ) → Ok X i → Ok X j → (k l : ℕ) → OneBegins (st X i k).log (st X j l).log
  logs_begin i j hi hj k l = go (log_run i hi k) (log_run j hj l)
    where
      go : ((st X i k).log ≡ []) ⊎ RipeLog i (st X i k).log → ((st X j l).log ≡ []) ⊎ RipeLog j (st X j l).log
          → OneBegins (st X i k).log (st X j l).log
      go (inl e) (inl f) = inl ((st X j l).log, ap (◌++ (st X j l).log) e)
      go (inl e) (inr b) = inl ((st X j l).log, ap (◌++ (st X j l).log) e)
      go (inr a) (inl e) = inr ((st X i k).log, ap (◌++ (st X i k).log) e)
      go (inr (k0, t, x, R, e, o)) (inr (k1, u, y, S, f, p)) = rw (e, f) (ripe_begins i k0 t x R j k1 u y S)

  -- a sound log is linked by parent to genesis
  pub log_linked : (i : ℕ) → Ok X i → (k : ℕ) → Linked parent_of 0 (st X i k).log
  log_linked i ok k = go (log_run i ok k)
    where
      go : ((st X i k).log ≡ []) ⊎ RipeLog i (st X i k).log → Linked parent_of 0 (st X i k).log
      go (inl e) = subst (Linked parent_of 0) (sym e) tt
      go (inr (k0, t, x, R, e, o)) = subst (Linked parent_of 0) (sym e) (lineage_linked parent_of x.height x.name o)

  -- ---- each name is reported once, in order, with its height

  pub log_reported : (i : ℕ) → Ok X i → (k : ℕ) → reported R i k ≡ reports 1 (st X i k).log
  unfolding reported at fresh reports
  log_reported i ok zero = refl
  log_reported i ok (suc k) =
      let (o, q, w) = moves_of X i ok k in
      let same = (moves_fixed w).2 in
      let s = st X i k in
      let quiet = none_reported o (moves_messages (λ e. reports_in (e ∷ []) ≡ []) (λ m. unfold reports_in in refl) (λ j m. unfold reports_in in refl) (begun (event k) s) (st X i (suc k)) o w) in
      let e : reports_in (out size n D event i k) ≡ reports_in (before (event k) s) = ap reports_in q ∙ reports_in_append (before (event k) s) o ∙ ap (reports_in (before (event k) s) ++◌) quiet ∙ append-nil _ in
      ap (◌++ reports_in (out size n D event i k)) (log_reported i ok k) ∙ ap (reports 1 s.log ++◌) e ∙ event_reported i (event k) s (X.common k) (X.runs i ok (suc k)) ∙ ap (reports 1) (sym same)

  -- ---- no due commit differs from the log

  pub commits_agree : (i : ℕ) → Ok X i → (k : ℕ) → ck X k + 1 ≤ next k → ¬ (due_commits (st X i k) ≡ none)
  commits_agree i ok k nx e =
      let s = st X i k in
      let (x, bs, j, m, c, f, o) = commits_none (counted s).statements (due (counted s)) (counted s).log e in
      let (t, R, l) = due_lineage x bs m c in
      begins_merge bs j (rw l (go j t x R o (log_run i ok k))) f
    where
      due_lineage : (x : Statement) (l : List ℕ) → Memᴰ x (due (counted (st X i k))) → chain (counted (st X i k)).statements x ≡ some l
          → (t : ℕ) × Ripe X i k t x × (l ≡ lineage parent_of x.height x.name)
      due_lineage x l m c =
          let d = due_facts (counted (st X i k)) x m in
          let es = (counted_same (st X i k)).0 in
          let (t, R) = due_ripe i ok k nx x d in
          (t, R, (stored_lineage i ok k x l (subst (Memᴰ x) es d.0) d.1 (subst (λ (y : List Statement). chain y x ≡ some l) es c)).0)

      go : (j : List ℕ) (t : ℕ) (x : Statement) → Ripe X i k t x
          → (j ≡ (counted (st X i k)).log) ⊎ ((y : Statement) × Memᴰ y (due (counted (st X i k))) × (chain (counted (st X i k)).statements y ≡ some j))
          → ((st X i k).log ≡ []) ⊎ RipeLog i (st X i k).log
          → OneBegins (lineage parent_of x.height x.name) j
      go j t x R (inr (y, m, c)) h = let (u, S, l) = due_lineage y j m c in rw l (ripe_begins i k t x R i k u y S)
      go j t x R (inl e) (inl z) = rw (e ∙ (counted_same (st X i k)).1 ∙ z) (inr (lineage parent_of x.height x.name, refl))
      go j t x R (inl e) (inr (k0, u, y, S, z, w)) = rw (e ∙ (counted_same (st X i k)).1 ∙ z) (ripe_begins i k t x R i k0 u y S)
