-- Who blames: a blame is said at a tick alone, by who is overdue then; a bit of a blame mask was handed over, or is the own and was said.
-- Assumes nothing.
use mathlib.Core.Path.{◌≡◌, subst, refl, sym, ap, ◌∙◌}
use Prim.Native.Nat.{ℕ, ◌+◌}
use native.Mathlib.Omega.{arith}
use native.Mathlib.Decide.{ℕ_discrete}
use mathlib.Core.Bool.{Bool, true, false}
use mathlib.Core.List.{List, [], ◌∷◌, ◌++◌, Memᴰ}
use mathlib.Core.Logic.{◌⊎◌, inl, inr}
use mathlib.Core.Option.{some}
use lib.Dec.{eqb}
use lib.ListN.{get_or}
use borrow.Author.Tests.{eqb-true}
use Rattle.rules.specs.Lists.{first, any}
use Rattle.rules.specs.Sizes.{Settings, only, bit, joined}
use Rattle.rules.specs.Messages.{Message, new_view, propose, vote, blame, blame_set, status, read, allowed, Effect, to_all, to_one, committed}
use Rattle.rules.specs.Words.{Statement, message, same_statement, conflict, highest, State}
use Rattle.rules.specs.Inputs.{Work, saying, ◌▸◌, with_phase, with_tables, entering, is_in, quit, below_lock, voted_for, ballot, voting, certificate_joined, stored, statement, tallied, blames_of, blamed, blame_full, blaming, handled, above, offered, overdue, complain, leads_now, own_new_view, lead, enters_now, report, entered, current, pair, in_order, voting_all, enter}
use Rattle.rules.specs.Refusals.{done, refused, stopping, has_room, if_room, running, step, offer, tick}
use Rattle.laws.proofs.Tests.{by_bool, by_option}
use Rattle.laws.proofs.Searches.{All, all_append}
use Rattle.laws.proofs.Masks.{joined_bit}
use Rattle.laws.proofs.Tallies.{bit_only}
use Rattle.laws.proofs.Offers.{offer_made}
use Rattle.laws.proofs.Answers.{by_step, by_offer}
use Rattle.laws.proofs.Moves.{arrived, fills_now, news, voting_low, voting_high, arrive_full, arrive_pair, arrive_clean}
use Rattle.laws.proofs.Kept.{blamed_cases}
use Rattle.laws.proofs.Held.{report_all, reports_all}
use Rattle.agreement.specs.Schedule.{Event, idle, common_tick, tick_of, given, offered_to, happens, IsCommon}
use Rattle.agreement.proofs.Events.{begun, begun_same, mem_after}
use Rattle.progress.proofs.Tick.{stated, tick_whole}
use Rattle.progress.proofs.New.{room_left}

-- ---- who says a blame

-- a blame of v by a is as it should be; all else that is said is free
abbrev SaidIn : (ℕ → ℕ → Type 0) → Message → Type 0
SaidIn B (new_view v h b c m a) = Unit {0}
SaidIn B (propose v h b p m a) = Unit {0}
SaidIn B (vote v h b a) = Unit {0}
SaidIn B (blame v a) = B v a
SaidIn B (blame_set v m) = Unit {0}
SaidIn B (status h b c m) = Unit {0}

abbrev pub Blaming : (ℕ → ℕ → Type 0) → Effect → Type 0
Blaming B (to_all m) = SaidIn B m
Blaming B (to_one i m) = Unit {0}
Blaming B (committed h b) = Unit {0}

module _ (B : ℕ → ℕ → Type 0) where
  message_mute : (x : Statement) → SaidIn B (message x)
  unfolding message
  message_mute x = go x.is_new_view refl
    where
      go : (k : Bool) → x.is_new_view ≡ k → SaidIn B (message x)
      go true e = rw (e, message) tt
      go false e = rw (e, message) tt

  statement_mute : (x : Statement) (s : State) → All (Blaming B) (statement x s).out
  unfolding statement saying quit ballot
  statement_mute x s =
      by_bool (any (same_statement x) s.statements) (λ q. rw (q, statement) tt) λ q.
      by_bool (is_in x.view s)
      (λ i.
      by_option (first (conflict x) s.statements)
      (λ o.
      by_bool (below_lock x (stored x s)) (λ l. rw (q, i, o, statement, voting_low x (stored x s) l) tt)
      (λ l. rw (q, i, o, statement, voting_high x (stored x s) l) (message_mute x, (tt, tt))))
      (λ y o. rw (q, i, o, statement) (message_mute y, (message_mute x, tt))))
      (λ i. rw (q, i, statement) tt)

  blaming_mute : (v m : ℕ) (s : State) → All (Blaming B) (blaming v m s).out
  unfolding blaming saying quit
  blaming_mute v m s = by_bool (fills_now v m s) (λ q. rw (q, blaming) (tt, tt)) (λ q. rw (q, blaming) tt)

  handled_mute : (m : Message) (s : State) → All (Blaming B) (handled m s).out
  unfolding handled tallied saying
  handled_mute (new_view v h b c m a) s = statement_mute (stated true v h b c m a) s
  handled_mute (propose v h b p m a) s = statement_mute (stated false v h b p m a) s
  handled_mute (vote v h b a) s = tt
  handled_mute (blame v a) s = blaming_mute v (only a) s
  handled_mute (blame_set v m) s = blaming_mute v m s
  handled_mute (status h b c m) s = tt

  lead_mute : (s : State) → All (Blaming B) (lead s).out
  unfolding lead saying
  lead_mute s = by_bool (leads_now s) (λ q. rw (q, lead) (handled_mute (own_new_view s) s)) (λ q. rw (q, lead) tt)

  voting_all_mute : (ys : List Statement) (s : State) → All (Blaming B) (voting_all ys s).out
  unfolding voting_all saying ◌▸◌ ballot
  voting_all_mute [] s = tt
  voting_all_mute (y ∷ ys) s =
      by_bool (below_lock y s) (λ l. rw (voting_low y s l) (voting_all_mute ys s))
      (λ l. rw (voting_high y s l) (message_mute y, (tt, voting_all_mute ys (voted_for y s))))

  enter_mute : (s : State) → All (Blaming B) (enter s).out
  unfolding enter quit entered saying ◌▸◌ entering blame_full
  enter_mute s =
      let e = arrived s in
      let r = report_all (Blaming B) s (λ i m. tt) in
      by_bool (enters_now s)
      (λ q.
      by_bool (blame_full (s.view + 1) s) (λ c. rw (q, enter, arrive_full e c) (all_append (Blaming B) (report s) _ r (tt, tt))) λ c.
      by_option (pair (current e)) (λ p. rw (q, enter, arrive_clean e c p) (all_append (Blaming B) (report s) _ r (voting_all_mute (in_order (current e)) e)))
      (λ a p. rw (q, enter, arrive_pair e a c p) (all_append (Blaming B) (report s) _ r (message_mute a.0, (message_mute a.1, tt)))))
      (λ q. rw (q, enter) tt)

  complain_says : (s : State) → (overdue s ≡ true → B s.view s.settings.own) → All (Blaming B) (complain s).out
  unfolding complain saying ◌▸◌
  complain_says s f =
      by_bool (overdue s) (λ q. rw (q, complain) (f q, blaming_mute s.view (only s.settings.own) s)) (λ q. rw (q, complain) tt)

  tick_says : (s : State) → running (tick s).next ≡ true → (let u = begun common_tick s in overdue u ≡ true → B u.view u.settings.own) → All (Blaming B) (tick s).out
  unfolding news
  tick_says s r f =
      let (_, o) = tick_whole s r in
      let u = begun common_tick s in
      let c = complain u in
      let l = lead c.now in
      let e = enter l.now in
      subst (All (Blaming B)) (sym o)
      (all_append (Blaming B) (news s ++ c.out ++ l.out) e.out
      (all_append (Blaming B) (news s ++ c.out) l.out
      (all_append (Blaming B) (news s) c.out (reports_all (Blaming B) _ _ (λ h b. tt)) (complain_says u f)) (lead_mute c.now)) (enter_mute l.now))

  room_mute : (s : State) (w : Work) → All (Blaming B) w.out → All (Blaming B) (if_room s w).out
  unfolding if_room done stopping refused
  room_mute s w a = by_bool (has_room w.now) (λ q. rw (q, if_room) a) (λ q. rw (q, if_room) tt)

-- a blame is said at a tick, of the own view and by oneself, by who is overdue after counting
abbrev pub Overdue : Event → State → (v a : ℕ) → Type 0
Overdue e s v a = (e ≡ common_tick) × (overdue (begun common_tick s) ≡ true) × (s.view ≡ v) × (s.settings.own ≡ a)

pub event_says : (i : ℕ) (e : Event) (s : State) → IsCommon e → running (happens i e s).next ≡ true → All (Blaming (Overdue e s)) (happens i e s).out
unfolding happens done saying refused
event_says i idle s c = λ r. tt
event_says i common_tick s c = λ r. let b = begun_same common_tick s in tick_says (Overdue common_tick s) s r (λ q. (refl, q, sym b.2, ap (λ g. g.own) (sym b.0)))
event_says i (tick_of j) s c = absurd c
event_says i (given j bs) s c =
    let B = Overdue (given j bs) s in
    by_bool (eqb i j)
    (λ q. rw (q, happens) (λ r. by_step (λ o. All (Blaming B) o.out) s (λ k. tt) bs (λ m f a u. room_mute B s (handled m s) (handled_mute B m s))))
    (λ q. rw (q, happens) (λ r. tt))
event_says i (offered_to j b) s c =
    let B = Overdue (offered_to j b) s in
    by_bool (eqb i j)
    (λ q. rw (q, happens) (λ r. by_offer (λ o. All (Blaming B) o.out) s (λ k. tt) b (λ m f. room_mute B s (handled m s) (handled_mute B m s))))
    (λ q. rw (q, happens) (λ r. tt))

-- ---- whose bits are in a blame mask

-- a message brings the blame of v by a
abbrev pub Names : Message → (v a : ℕ) → Type 0
Names (new_view w h b c m i) v a = ⊥
Names (propose w h b p m i) v a = ⊥
Names (vote w h b i) v a = ⊥
Names (blame w i) v a = (w ≡ v) × (a ≡ i)
Names (blame_set w m) v a = (w ≡ v) × (bit m a ≡ 1)
Names (status h b c m) v a = ⊥

abbrev Gains : State → State → (ℕ → ℕ → Type 0) → Type 0
Gains s t P = (v a : ℕ) → bit (blames_of v t) a ≡ 1 → (bit (blames_of v s) a ≡ 1) ⊎ P v a

-- where the masks stay
alike : (s t : State) (P : ℕ → ℕ → Type 0) → t.blames ≡ s.blames → Gains s t P
unfolding blames_of
alike s t P e v a h = inl (rw e at h)

statement_blames : (x : Statement) (s : State) → (statement x s).now.blames ≡ s.blames
unfolding statement voting saying quit with_phase stored with_tables certificate_joined voted_for
statement_blames x s =
    by_bool (any (same_statement x) s.statements) (λ q. rw (q, statement) refl) λ q.
    by_bool (is_in x.view s)
    (λ i.
    by_option (first (conflict x) s.statements)
    (λ o.
    by_bool (below_lock x (stored x s)) (λ l. rw (q, i, o, statement, voting_low x (stored x s) l) refl)
    (λ l. rw (q, i, o, statement, voting_high x (stored x s) l) refl))
    (λ y o. rw (q, i, o, statement) refl))
    (λ i. rw (q, i, statement) refl)

blaming_blames : (w m : ℕ) (s : State) → Gains s (blaming w m s).now (λ v a. (w ≡ v) × (bit m a ≡ 1))
unfolding blaming saying quit with_phase blames_of
blaming_blames w m s v a h = go (blamed_cases w m v s) (sym masks ∙ h)
  where
    masks : bit (blames_of v (blaming w m s).now) a ≡ bit (blames_of v (blamed w m s)) a
    masks = by_bool (fills_now w m s) (λ q. rw (q, blaming)) (λ q. rw (q, blaming))

    go : (blames_of v (blamed w m s) ≡ blames_of v s) ⊎ ((w ≡ v) × (blames_of v (blamed w m s) ≡ joined (blames_of w s) m)) → bit (blames_of v (blamed w m s)) a ≡ 1
        → (bit (blames_of v s) a ≡ 1) ⊎ ((w ≡ v) × (bit m a ≡ 1))
    go (inl e) k = inl (rw e at k)
    go (inr (e, f)) k =
        elim (ℕ_discrete (bit (blames_of w s) a) 1) [
          | yes p ↦ inl (subst (λ (y : ℕ). bit (blames_of y s) a ≡ 1) e p)
          | no p ↦ (let j = joined_bit (blames_of w s) m a in let k' = rw f at k in inr (e, omega arith))
        ]

handled_blames : (m : Message) (s : State) → Gains s (handled m s).now (Names m)
unfolding handled tallied saying with_tables
handled_blames (new_view w h b c m i) s v a e = alike s (statement (stated true w h b c m i) s).now (Names (new_view w h b c m i)) (statement_blames (stated true w h b c m i) s) v a e
handled_blames (propose w h b p m i) s v a e = alike s (statement (stated false w h b p m i) s).now (Names (propose w h b p m i)) (statement_blames (stated false w h b p m i) s) v a e
handled_blames (vote w h b i) s v a e = inl (unfold blames_of in e)
handled_blames (blame w i) s v a e = go (blaming_blames w (only i) s v a e)
  where
    go : (bit (blames_of v s) a ≡ 1) ⊎ ((w ≡ v) × (bit (only i) a ≡ 1)) → (bit (blames_of v s) a ≡ 1) ⊎ ((w ≡ v) × (a ≡ i))
    go (inl e) = inl e
    go (inr (e, f)) = inr (e, bit_only i a f)
handled_blames (blame_set w m) s v a e = blaming_blames w m s v a e
handled_blames (status h b c m) s v a e = inl (unfold blames_of in e)

-- who blames says so
complain_blames : (s : State) → Gains s (complain s).now (λ v a. (a ≡ s.settings.own) × Memᴰ (to_all (blame v a)) (complain s).out)
unfolding complain saying ◌▸◌
complain_blames s v a =
    by_bool (overdue s) (λ q. rw (q, complain) (λ h. go (blaming_blames s.view (only s.settings.own) s v a h))) (λ q. rw (q, complain) (λ h. inl h))
  where
    me : ℕ
    me = s.settings.own

    rest : List Effect
    rest = (blaming s.view (only me) s).out

    go : (bit (blames_of v s) a ≡ 1) ⊎ ((s.view ≡ v) × (bit (only me) a ≡ 1))
        → (bit (blames_of v s) a ≡ 1) ⊎ ((a ≡ me) × Memᴰ (to_all (blame v a)) (to_all (blame s.view me) ∷ rest))
    go (inl e) = inl e
    go (inr (e, f)) = let g = bit_only me a f in inr (g, Memᴰ.head (ap (λ (x : ℕ). to_all (blame x a)) (sym e) ∙ ap (λ (x : ℕ). to_all (blame s.view x)) g))

lead_blames : (s : State) → (lead s).now.blames ≡ s.blames
unfolding lead saying handled own_new_view
lead_blames s =
    let t = highest s.settings s.view s.tallies in
    by_bool (leads_now s) (λ q. rw (q, lead) (statement_blames (stated true s.view t.height t.name t.view t.mask s.settings.own) s))
    (λ q. rw (q, lead) refl)

voting_all_blames : (ys : List Statement) (s : State) → (voting_all ys s).now.blames ≡ s.blames
unfolding voting_all saying voted_for with_tables ◌▸◌
voting_all_blames [] s = refl
voting_all_blames (y ∷ ys) s =
    by_bool (below_lock y s) (λ l. rw (voting_low y s l) (voting_all_blames ys s)) (λ l. rw (voting_high y s l) (voting_all_blames ys (voted_for y s)))

enter_blames : (s : State) → (enter s).now.blames ≡ s.blames
unfolding enter quit entered saying ◌▸◌ entering blame_full with_phase
enter_blames s =
    let e = arrived s in
    by_bool (enters_now s)
    (λ q.
    by_bool (blame_full (s.view + 1) s) (λ c. rw (q, enter, arrive_full e c) refl) λ c.
    by_option (pair (current e)) (λ p. rw (q, enter, arrive_clean e c p) (voting_all_blames (in_order (current e)) e)) (λ a p. rw (q, enter, arrive_pair e a c p) refl))
    (λ q. rw (q, enter) refl)

pub mem_left : (a b : List Effect) (e : Effect) → Memᴰ e a → Memᴰ e (a ++ b)
mem_left [] b e m = elim m [ ]
mem_left (x ∷ a) b e (Memᴰ.head q) = Memᴰ.head q
mem_left (x ∷ a) b e (Memᴰ.tail m) = Memᴰ.tail (mem_left a b e m)

-- where a bit comes from that event e brings station i, which holds s and says o
pub data Accused (i : ℕ) (e : Event) (s : State) (o : List Effect) (v a : ℕ) : Type 0 where
  heard : (bs : List ℕ) (m : Message) → e ≡ given i bs → read bs ≡ some m → allowed s.settings m ≡ true → Names m v a → Accused i e s o v a
  own : a ≡ s.settings.own → Memᴰ (to_all (blame v a)) o → Accused i e s o v a

tick_blames : (i : ℕ) (s : State) → running (tick s).next ≡ true → Gains s (tick s).next (Accused i common_tick s (tick s).out)
unfolding blames_of
tick_blames i s r v a h =
    let (n, o) = tick_whole s r in
    let u = begun common_tick s in
    let c = complain u in
    let l = lead c.now in
    let e = enter l.now in
    let b = begun_same common_tick s in
    let k : bit (blames_of v c.now) a ≡ 1 = ap (λ (ms : List ℕ). bit (get_or ms v 0) a) (sym (ap (λ (t : State). t.blames) n ∙ enter_blames l.now ∙ lead_blames c.now)) ∙ h in
    go (news s) l.out e.out o b (complain_blames u v a k)
  where
    u : State
    u = begun common_tick s

    go : (x y z : List Effect) → (tick s).out ≡ x ++ (complain u).out ++ y ++ z → (u.settings ≡ s.settings) × (u.phase ≡ s.phase) × (u.view ≡ s.view) × (u.statements ≡ s.statements) × (u.tallies ≡ s.tallies) × (u.blames ≡ s.blames) × (u.lock ≡ s.lock)
        → (bit (blames_of v u) a ≡ 1) ⊎ ((a ≡ u.settings.own) × Memᴰ (to_all (blame v a)) (complain u).out)
        → (bit (blames_of v s) a ≡ 1) ⊎ Accused i common_tick s (tick s).out v a
    go x y z o b (inl f) = inl (ap (λ (ms : List ℕ). bit (get_or ms v 0) a) (sym b.5) ∙ f)
    go x y z o b (inr (f, m)) =
        inr (own (f ∙ ap (λ (g : Settings). g.own) b.0)
        (subst (Memᴰ (to_all (blame v a))) (sym o) (mem_left (x ++ (complain u).out ++ y) z _ (mem_left (x ++ (complain u).out) y _ (mem_after x (complain u).out _ m)))))

pub event_blames : (i : ℕ) (e : Event) (s : State) → IsCommon e → running (happens i e s).next ≡ true
    → (v a : ℕ) → bit (blames_of v (happens i e s).next) a ≡ 1 → (bit (blames_of v s) a ≡ 1) ⊎ Accused i e s (happens i e s).out v a
unfolding happens done saying refused above
event_blames i idle s c = λ r v a h. inl h
event_blames i common_tick s c = λ r v a h. tick_blames i s r v a h
event_blames i (tick_of j) s c = absurd c
event_blames i (given j bs) s c =
    by_bool (eqb i j)
    (λ q. rw (q, happens) (λ r v a h. by_step (λ o. running o.next ≡ true → bit (blames_of v o.next) a ≡ 1 → (bit (blames_of v s) a ≡ 1) ⊎ Accused i (given j bs) s (step bs s).out v a) s (λ k r h. inl h) bs
    (λ m f w u. room_left (λ t. bit (blames_of v t) a ≡ 1 → (bit (blames_of v s) a ≡ 1) ⊎ Accused i (given j bs) s (step bs s).out v a) s (handled m s) (λ h. go (eqb-true i j q) m f w v a (handled_blames m s v a h))) r h))
    (λ q. rw (q, happens) (λ r v a h. inl h))
  where
    go : i ≡ j → (m : Message) → read bs ≡ some m → allowed s.settings m ≡ true → (v a : ℕ) → (bit (blames_of v s) a ≡ 1) ⊎ Names m v a
        → (bit (blames_of v s) a ≡ 1) ⊎ Accused i (given j bs) s (step bs s).out v a
    go p m f w v a (inl h) = inl h
    go p m f w v a (inr n) = inr (heard bs m (ap (λ (x : ℕ). given x bs) (sym p)) f w n)
event_blames i (offered_to j b) s c =
    by_bool (eqb i j)
    (λ q. rw (q, happens) (λ r v a h. by_offer (λ o. running o.next ≡ true → bit (blames_of v o.next) a ≡ 1 → (bit (blames_of v s) a ≡ 1) ⊎ Accused i (offered_to j b) s (offer b s).out v a) s (λ k r h. inl h) b
    (λ m f. room_left (λ t. bit (blames_of v t) a ≡ 1 → (bit (blames_of v s) a ≡ 1) ⊎ Accused i (offered_to j b) s (offer b s).out v a) s (handled m s) (λ h. inl (propose_blames m f v a (handled_blames m s v a h)))) r h))
    (λ q. rw (q, happens) (λ r v a h. inl h))
  where
    -- an offer makes a propose, which names nobody
    propose_blames : (m : Message) → offered b s ≡ some m → (v a : ℕ) → (bit (blames_of v s) a ≡ 1) ⊎ Names m v a → bit (blames_of v s) a ≡ 1
    propose_blames m f v a (inl h) = h
    propose_blames m f v a (inr n) = let (x, t, l, o, z, k, g) = offer_made b s m f in absurd (subst (λ (y : Message). Names y v a) (sym g) n)
