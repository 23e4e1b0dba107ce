-- What the proof needs of a schedule, and what then holds of each sound station at every moment. `next k` is the clock to which a
-- tick at moment k would go: the clock after event k where the schedule goes on. Assumes nothing.
use mathlib.Core.Path.{◌≡◌, subst, subst₂, refl, sym, ap, ◌∙◌}
use Prim.Native.Nat.{ℕ, zero, suc, ◌+◌, ◌/◌, ◌≤◌, ◌<◌}
use native.Mathlib.Omega.{arith}
use native.Mathlib.Decide.{dec_le, ℕ_discrete}
use mathlib.Core.Bool.{true}
use mathlib.Core.List.{List, ◌++◌, Memᴰ}
use mathlib.Core.Logic.{◌⊎◌, inl, inr}
use mathlib.Core.Option.{some}
use lib.ListN.{length, length-replicate}
use Rattle.rules.specs.Limits.{Size, first_view, last_view}
use Rattle.rules.specs.Lists.{distinct}
use Rattle.rules.specs.Sizes.{Settings, good_settings, bit, count}
use Rattle.rules.specs.Messages.{Message, new_view, propose, vote, blame, blame_set, status, view_of, read, write, allowed, Effect, to_all, to_one, committed}
use Rattle.rules.specs.Words.{Statement, message, same_statement, Certificate, State, waiting, fresh}
use Rattle.rules.specs.Inputs.{offered}
use Rattle.rules.specs.Refusals.{Outcome, running, step}
use Rattle.laws.proofs.Searches.{All, all_append, all_map, all_of, to_all_lem}
use Rattle.laws.proofs.Allowed.{sizes}
use Rattle.laws.proofs.Moves.{carried, Moves}
use Rattle.laws.proofs.Kept.{no_phase, moves_fixed, Kept, kept_refl, kept_trans, moves_kept, moves_late, settled_waits}
use Rattle.laws.proofs.Orderly.{Orderly, fresh_orderly, moves_orderly, past_range}
use Rattle.laws.proofs.Held.{Held, held_kept, step_held, HeldSaid, moves_said}
use Rattle.laws.proofs.Views.{ViewSaid, moves_views}
use Rattle.laws.proofs.Votes.{Cast, CastSaid, moves_cast}
use Rattle.laws.proofs.Proper.{Right, Proper, Known, Parented, fresh_proper, proper_map, moves_proper}
use Rattle.kept.specs.Parts.{WellFormed}
use Rattle.kept.proofs.Statements.{stored_said}
use Rattle.agreement.specs.Schedule.{Event, idle, common_tick, tick_of, given, offered_to, happens, ticks, IsCommon, settings_of, at, out, clock, IsSaid, Sound, IsLent, Sends, Speaks, Hands, Offers, Run, run}
use Rattle.agreement.proofs.Whole.{settings_alike, formed_at, sent_allowed}
use Rattle.agreement.proofs.Clock.{clock_suc, clock_mono, clock_before}
use Rattle.agreement.proofs.Events.{GivenBy, OfferedBy, Brings, begun, before, event_moves, begun_clock, begun_same, begun_kept, begun_orderly, begun_proper, before_all, mem_after, event_settled, ticks_two, happens_given}

module _ (R : Run) (faulty : ℕ) where
  -- what a sound station sent a sound one is handed over after that, and before the tick D + 1 later
  abbrev pub Reaches : (next : ℕ → ℕ) → Type 0
  Reaches next =
      (i j : ℕ) → Sound R faulty i → Sound R faulty j → (l k : ℕ) (m : Message) → Sends R i j l m
      → clock R.event 0 (suc l) + R.D + 1 ≤ next k → (h : ℕ) × (l < h) × (h < k) × (R.event h ≡ given j (write m))

  -- a message of a sound station that is at most one view ahead of a sound one is taken by it: the answer is no refusal
  abbrev pub Takes : Type 0
  Takes =
      (i j : ℕ) → Sound R faulty i → Sound R faulty j → (l h : ℕ) (m : Message) → Speaks R i l m → l < h → R.event h ≡ given j (write m)
      → view_of m ≤ (R.state j h).view + 1 → (happens j (R.event h) (R.state j h)).number ≡ 0

pub record Group : Type 0 where
  pub size : Size
  pub n : ℕ
  pub D : ℕ
  pub faulty : ℕ
  pub event : ℕ → Event
  pub next : ℕ → ℕ
  pub parent_of : ℕ → ℕ
  pub settings : good_settings (settings_of size n D 0) ≡ true
  pub few : count faulty ≤ n / 2
  pub common : (k : ℕ) → IsCommon (event k)
  pub runs : (i : ℕ) → Sound (run size n D event) faulty i → (k : ℕ) → running (at size n D event i k) ≡ true
  pub soon : (k : ℕ) → clock event 0 (suc k) ≤ next k
  pub late : (k : ℕ) → next k ≤ clock event 0 k + 1
  pub lent : (k : ℕ) → IsLent (event k)
  pub reaches : Reaches (run size n D event) faulty next
  pub takes : Takes (run size n D event) faulty
  pub voters : (k j : ℕ) (m : Message) → Hands (run size n D event) faulty k j m → (t : Certificate) → carried m ≡ some t → (i : ℕ) → Sound (run size n D event) faulty i → bit t.mask i ≡ 1
      → (l : ℕ) × (l < k) × IsSaid (run size n D event) i l (to_all (vote t.view t.height t.name i))
  pub parents : (k j : ℕ) (m : Message) → Hands (run size n D event) faulty k j m ⊎ Offers (run size n D event) faulty k j m → Parented parent_of m

module _ (X : Group) where
  open X use {size, n, D, faulty, event, next, parent_of}

  abbrev R : Run
  R = run size n D event

  abbrev pub st : ℕ → ℕ → State
  st i k = at size n D event i k

  abbrev pub ck : ℕ → ℕ
  ck k = clock event 0 k

  abbrev pub Ok : ℕ → Type 0
  Ok i = Sound R faulty i

  -- i said e at clock c
  abbrev pub SaidAt : ℕ → ℕ → Effect → Type 0
  SaidAt i c e = (k : ℕ) × (ck (suc k) ≡ c) × IsSaid R i k e

  -- if i is sound, it voted so by clock c
  abbrev pub VotedBy : (c v h b i : ℕ) → Type 0
  VotedBy c v h b i = Ok i → (l : ℕ) × (ck (suc l) ≤ c) × IsSaid R i l (to_all (vote v h b i))

  abbrev pub G : ℕ → Settings
  G i = settings_of size n D i

  -- ---- one event of the run

  pub moves_of : (i : ℕ) → Ok i → (k : ℕ)
      → (o : List Effect) × (out size n D event i k ≡ before (event k) (st i k) ++ o) × Moves (Brings i (event k) (st i k)) (begun (event k) (st i k)) (st i (suc k)) o
  unfolding at out
  moves_of i h k = event_moves i (event k) (st i k) (X.common k) (X.runs i h (suc k))

  -- what the moves of event k say, station i says at the clock after it
  pub said_here : (i : ℕ) (k : ℕ) (o : List Effect) → out size n D event i k ≡ before (event k) (st i k) ++ o → (c : ℕ) → ck (suc k) ≡ c → All (SaidAt i c) o
  said_here i k o e c q = to_all_lem (SaidAt i c) o (λ f m. (k, q, subst (Memᴰ f) (sym e) (mem_after (before (event k) (st i k)) o f m)))

  -- what holds of the reports and of what the moves say holds of all that is said
  pub out_all : (P : Effect → Type 0) (i : ℕ) (h : Ok i) (k : ℕ) → ((a b : ℕ) → P (committed a b)) → All P (moves_of i h k).0 → (e : Effect) → IsSaid R i k e → P e
  out_all P i h k f a e m =
      let (o, q, w) = moves_of i h k in
      all_of P (before (event k) (st i k) ++ o) (all_append P (before (event k) (st i k)) o (before_all P (event k) (st i k) f) a) e (subst (Memᴰ e) q m)

  pub at_settings : (i : ℕ) → Ok i → (k : ℕ) → (st i k).settings ≡ G i
  unfolding at fresh
  at_settings i h zero = refl
  at_settings i h (suc k) = (moves_fixed (moves_of i h k).2).0 ∙ (begun_same (event k) (st i k)).0 ∙ at_settings i h k

  pub at_clock : (i : ℕ) → Ok i → (k : ℕ) → (st i k).clock ≡ ck k
  unfolding at fresh clock
  at_clock i h zero = refl
  at_clock i h (suc k) = (moves_fixed (moves_of i h k).2).1 ∙ begun_clock (event k) (st i k) (X.common k) ∙ ap (◌+ ticks 0 (event k)) (at_clock i h k)

  pub begun_at : (i : ℕ) → Ok i → (k : ℕ) → (begun (event k) (st i k)).clock ≡ ck (suc k)
  begun_at i h k = begun_clock (event k) (st i k) (X.common k) ∙ ap (◌+ ticks 0 (event k)) (at_clock i h k) ∙ sym (clock_suc event k)

  -- ---- L1 to L5 along the run

  kept_one : (i : ℕ) → Ok i → (k : ℕ) → Kept (st i k) (st i (suc k))
  kept_one i h k = kept_trans (begun_kept (event k) (st i k)) (moves_kept (moves_of i h k).2)

  pub kept_run : (i : ℕ) → Ok i → (k l : ℕ) → k ≤ l → Kept (st i k) (st i l)
  kept_run i h k zero c = let e : k ≡ 0 = omega arith in rw e (kept_refl (st i 0))
  kept_run i h k (suc l) c =
      elim (dec_le k l) [
        | yes d ↦ kept_trans (kept_run i h k l d) (kept_one i h l)
        | no d ↦ (let e : k ≡ suc l = omega arith in rw e (kept_refl (st i (suc l))))
      ]

  pub orderly_run : (i : ℕ) → Ok i → (k : ℕ) → Orderly (SaidAt i) (st i k)
  unfolding at
  orderly_run i h zero = fresh_orderly (SaidAt i) (G i)
  orderly_run i h (suc k) =
      let (o, q, w) = moves_of i h k in
      let b = begun (event k) (st i k) in
      moves_orderly (SaidAt i) b (st i (suc k)) o w (said_here i k o q b.clock (sym (begun_at i h k)))
      (begun_orderly (SaidAt i) (event k) (st i k) (orderly_run i h k))

  views_run : (i : ℕ) → Ok i → (k : ℕ) → last_view size ≡ last_view (st i k).settings.size
  views_run i h k = ap (λ (g : Settings). last_view g.size) (sym (at_settings i h k))

  pub view_run : (i : ℕ) → Ok i → (k : ℕ) → (first_view ≤ (st i k).view) × ((st i k).view ≤ last_view size)
  view_run i h k = let t = past_range (SaidAt i) (orderly_run i h k).past in let e = views_run i h k in (t.0, omega arith)

  blames_length : (i : ℕ) → Ok i → (k : ℕ) → length (st i k).blames ≡ suc (last_view size)
  unfolding at fresh
  blames_length i h k = (kept_run i h 0 k (omega arith)).length ∙ length-replicate (suc (last_view size)) 0

  -- nobody waits past the tick of entry
  pub prompt : (i : ℕ) → Ok i → (k q : ℕ) → (st i k).phase ≡ waiting q → (st i k).view < last_view size → ck k ≤ q + D
  unfolding at fresh
  prompt i h zero q p l = no_phase (sym p)
  prompt i h (suc k) q p l =
      go (clock_suc event k) (at_clock i h (suc k)) (prompt i h k q)
      (moves_late (begun (event k) (st i k)) (st i (suc k)) (moves_of i h k).0 (moves_of i h k).2 q p) (ticks_two (event k) (X.common k))
    where
      go : ck (suc k) ≡ ck k + ticks 0 (event k) → (st i (suc k)).clock ≡ ck (suc k) → ((st i k).phase ≡ waiting q → (st i k).view < last_view size → ck k ≤ q + D)
          → ((begun (event k) (st i k)).phase ≡ waiting q) ⊎ (q ≡ (st i (suc k)).clock) → (ticks 0 (event k) ≡ 0) ⊎ ((ticks 0 (event k) ≡ 1) × (event k ≡ common_tick)) → ck (suc k) ≤ q + D
      go c1 c2 f (inr e) t = omega arith
      go c1 c2 f (inl e) (inl t) =
          let v = (kept_one i h k).view in let b = f (sym (begun_same (event k) (st i k)).1 ∙ e) (omega arith) in omega arith
      go c1 c2 f (inl e) (inr (t, _)) =
          let v = (kept_one i h k).view in
          let b = f (sym (begun_same (event k) (st i k)).1 ∙ e) (omega arith) in
          let settled = event_settled i (event k) (st i k) (X.common k) t (X.runs i h (suc k)) in
          let below = subst (λ (g : Settings). (st i (suc k)).view < last_view g.size) (sym (at_settings i h (suc k))) l in
          let w = settled_waits (st i (suc k)) q settled p below in
          let d : (st i (suc k)).settings.D ≡ D = ap (λ (g : Settings). g.D) (at_settings i h (suc k)) in
          let u : ¬ (ck (suc k) ≡ q + D + 1) = λ z. w (rw d (c2 ∙ z)) in
          omega arith

  -- ---- L6 along the run

  given_of : (i : ℕ) (e : Event) (m : Message) → GivenBy i e m → (bs : List ℕ) × (e ≡ given i bs) × (read bs ≡ some m)
  given_of i idle m r = absurd r
  given_of i common_tick m r = absurd r
  given_of i (tick_of j) m r = absurd r
  given_of i (given j bs) m (q, r) = (bs, ap (λ (x : ℕ). given x bs) (sym q), r)
  given_of i (offered_to j b) m r = absurd r

  offered_of : (i : ℕ) (e : Event) (s : State) (b : ℕ) (m : Message) → OfferedBy i e s b m → (e ≡ offered_to i b) × (offered b s ≡ some m)
  offered_of i idle s b m r = absurd r
  offered_of i common_tick s b m r = absurd r
  offered_of i (tick_of j) s b m r = absurd r
  offered_of i (given j bs) s b m r = absurd r
  offered_of i (offered_to j c) s b m (q, p, r) = (ap (λ (x : ℕ). offered_to x c) (sym q) ∙ ap (offered_to i) (sym p), r)

  given_right : (i : ℕ) → Ok i → (k : ℕ) (m : Message) → GivenBy i (event k) m → allowed (G i) m ≡ true → Right (VotedBy (ck (suc k))) parent_of m
  given_right i ok k m r a =
      let hands : Hands R faulty k i m = (ok, given_of i (event k) m r, a) in
      record {
        backed = λ t c j b s.
            let (l, u, w) = X.voters k i m hands t c j s b in
            let o = clock_mono event (suc l) (suc k) (omega arith) in
            (l, o, w);
        parent = X.parents k i m (inl hands);
      }

  offers_parent : (i : ℕ) → Ok i → (k b : ℕ) (m : Message) → OfferedBy i (event k) (st i k) b m → Parented parent_of m
  offers_parent i ok k b m r = let (e, q) = offered_of i (event k) (st i k) b m r in X.parents k i m (inr (ok, (b, e, q)))

  known_here : (i k : ℕ) (e : Effect) → SaidAt i (ck (suc k)) e → Known (VotedBy (ck (suc k))) parent_of (G i) e
  known_here i k (to_all (new_view v h b c m a)) s = tt
  known_here i k (to_all (propose v h b p m a)) s = tt
  known_here i k (to_all (vote v h b a)) (l, c, s) = λ q ok. (l, omega arith, subst (λ (x : ℕ). IsSaid R x l (to_all (vote v h b a))) (sym q) s)
  known_here i k (to_all (blame v a)) s = tt
  known_here i k (to_all (blame_set v m)) s = tt
  known_here i k (to_all (status h b c m)) s = tt
  known_here i k (to_one j m) s = tt
  known_here i k (committed h b) s = tt

  proper_run : (i : ℕ) → Ok i → (k : ℕ) → Proper (VotedBy (ck k)) parent_of (G i) (st i k)
  unfolding at
  proper_run i ok zero = fresh_proper (VotedBy (ck 0)) parent_of (G i)
  proper_run i ok (suc k) =
      let (o, q, w) = moves_of i ok k in
      let c = clock_mono event k (suc k) (omega arith) in
      let later : (v h b j : ℕ) → VotedBy (ck k) v h b j → VotedBy (ck (suc k)) v h b j = λ v h b j f y. let (x, u, z) = f y in (x, omega arith, z) in
      moves_proper (VotedBy (ck (suc k))) parent_of (G i) (Brings i (event k) (st i k)) (given_right i ok k) (offers_parent i ok k)
      (begun (event k) (st i k)) (st i (suc k)) o w
      (all_map (SaidAt i (ck (suc k))) (Known (VotedBy (ck (suc k))) parent_of (G i)) (known_here i k) o (said_here i k o q (ck (suc k)) refl))
      (begun_proper (VotedBy (ck (suc k))) parent_of (G i) (event k) (st i k) (proper_map (VotedBy (ck k)) (VotedBy (ck (suc k))) parent_of later (G i) (st i k) (proper_run i ok k)))

  -- ---- L8 along the run: what is stored and said is allowed

  pub good : (i : ℕ) → Ok i → good_settings (G i) ≡ true
  good i ok = settings_alike size n D i X.settings ok.0

  pub formed_run : (i : ℕ) → Ok i → (k : ℕ) → WellFormed (st i k)
  formed_run i ok k = formed_at size n D event X.lent i (good i ok) k

  -- no statement is stored twice
  pub once_run : (i : ℕ) → Ok i → (k : ℕ) → distinct same_statement (st i k).statements ≡ true
  once_run i ok k = (formed_run i ok k).formed.tables.statements_differ

  -- a stored statement is allowed, its voters voted, its parent is the name's
  abbrev pub Sure : ℕ → ℕ → Statement → Type 0
  Sure i k x = (allowed (G i) (message x) ≡ true) × Right (VotedBy (ck k)) parent_of (message x)

  pub sure_run : (i : ℕ) → Ok i → (k : ℕ) (x : Statement) → Memᴰ x (st i k).statements → Sure i k x
  sure_run i ok k x m = (
    subst (λ (g : Settings). allowed g (message x) ≡ true) (at_settings i ok k) (stored_said (formed_run i ok k).formed x m).is_allowed,
    all_of (λ (y : Statement). Right (VotedBy (ck k)) parent_of (message y)) (st i k).statements (proper_run i ok k).statements x m,
  )

  -- ---- what is said to all is held by all, the sender too, before the tick D + 1 later

  taken_held : (i j : ℕ) → Ok i → Ok j → (l h : ℕ) (m : Message) → Speaks R i l m → l < h → event h ≡ given j (write m)
      → view_of m ≤ (st j h).view + 1 → Held (G j) (st j (suc h)) m
  unfolding at
  taken_held i j hi hj l h m s o e v =
      let u = st j h in
      let z : happens j (event h) u ≡ step (write m) u = ap (λ (y : Event). happens j y u) e ∙ happens_given j (write m) u in
      subst₂ (λ (y : Settings) (t : State). Held y t m) (at_settings j hj h) (sym (ap (λ (x : Outcome). x.next) z))
      (step_held (write m) m u (sent_allowed size n D event X.lent i (good i hi) j l m s).0 (blames_length j hj h ∙ ap suc (views_run j hj h))
      (sym (ap (λ (x : Outcome). x.number) z) ∙ X.takes i j hi hj l h m s o e v))

  pub said_held : (i : ℕ) → Ok i → (l : ℕ) (m : Message) → IsSaid R i l (to_all m) → Held (G i) (st i (suc l)) m
  said_held i ok l m s =
      let (o, q, w) = moves_of i ok l in
      let b = begun (event l) (st i l) in
      let t = st i (suc l) in
      let g = (begun_same (event l) (st i l)).0 ∙ at_settings i ok l in
      let z : last_view size ≡ last_view b.settings.size = ap (λ (y : Settings). last_view y.size) (sym g) in
      let a = moves_said b t o w ((begun_kept (event l) (st i l)).length ∙ blames_length i ok l ∙ ap suc z) (rw (← z) (view_run i ok (suc l)).1) in
      subst (λ (y : Settings). Held y t m) g (out_all (HeldSaid b.settings t) i ok l (λ h c. tt) a (to_all m) s)

  -- what i says at event l is of no later view than the one it is then in
  pub says_views : (i : ℕ) → Ok i → (l : ℕ) (e : Effect) → IsSaid R i l e → ViewSaid (st i (suc l)).view e
  says_views i ok l e s =
      let (o, q, w) = moves_of i ok l in
      out_all (ViewSaid (st i (suc l)).view) i ok l (λ h b. tt) (moves_views (begun (event l) (st i l)) (st i (suc l)) o w) e s

  -- from clock c on j is at most one view behind v
  abbrev pub NearFrom : (j c v : ℕ) → Type 0
  NearFrom j c v = (h : ℕ) → c ≤ ck h → v ≤ (st j h).view + 1

  pub reach_near : (i j : ℕ) → Ok i → Ok j → (m : Message) (c k : ℕ) → SaidAt i c (to_all m) → NearFrom j c (view_of m) → c + D + 1 ≤ next k
      → Held (G j) (st j k) m
  reach_near i j hi hj m c k (l, e, s) near d =
      let u = X.late k in
      let delay = (sizes (G 0) X.settings).leastD in
      elim (ℕ_discrete i j) [
        | yes q ↦ (
            let b = clock_before event (suc l) k (omega arith) in
            subst (λ (a : ℕ). Held (G a) (st a k) m) q
            (held_kept (G i) (kept_run i hi (suc l) k (omega arith)) m (said_held i hi l m s)))
        | no q ↦ (
            let (h, lo, lh, ev) = X.reaches i j hi hj l k m (inl (s, q)) (omega arith) in
            let o = clock_mono event (suc l) h (omega arith) in
            held_kept (G j) (kept_run j hj (suc h) k (omega arith)) m (taken_held i j hi hj l h m (inl s) lo ev (near h (omega arith))))
      ]

  -- ---- L4 in the run: a vote at event k

  pub cast_run : (i : ℕ) → Ok i → (k v h b a : ℕ) → IsSaid R i k (to_all (vote v h b a))
      → Cast (SaidAt i) (Brings i (event k) (st i k)) (begun (event k) (st i k)) (st i (suc k)) v h b
  cast_run i ok k v h b a m =
      let (o, q, w) = moves_of i ok k in
      let s = begun (event k) (st i k) in
      let r = moves_cast (SaidAt i) s (st i (suc k)) o w (said_here i k o q s.clock (sym (begun_at i ok k)))
      (begun_orderly (SaidAt i) (event k) (st i k) (orderly_run i ok k)) in
      out_all (CastSaid (SaidAt i) (Brings i (event k) (st i k)) s (st i (suc k))) i ok k (λ h b. tt) r (to_all (vote v h b a)) m
