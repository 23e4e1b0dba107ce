-- What an event adds to the statements of a station: nothing, or one, which was handed over, is its own new-view, or was made of an
-- offer. Assumes nothing.
use mathlib.Core.Path.{◌≡◌, subst, refl, sym, ap, ◌∙◌}
use Prim.Native.Nat.{ℕ}
use mathlib.Core.Bool.{true}
use mathlib.Core.List.{List, [], ◌∷◌, ◌++◌}
use mathlib.Core.Logic.{◌⊎◌, inl, inr}
use mathlib.Core.Option.{some}
use lib.Dec.{eqb}
use borrow.Author.Tests.{eqb-true}
use Rattle.rules.specs.Messages.{Message, read, allowed}
use Rattle.rules.specs.Words.{Statement, message, State}
use Rattle.rules.specs.Inputs.{Work, saying, handled, offered, complain, leads_now, own_new_view, lead, enter}
use Rattle.rules.specs.Refusals.{done, refused, has_room, if_room, running, tick}
use Rattle.laws.proofs.Tests.{by_bool, no_bool}
use Rattle.laws.proofs.Statements.{In}
use Rattle.laws.proofs.Answers.{by_step, by_offer}
use Rattle.agreement.specs.Schedule.{Event, idle, common_tick, tick_of, given, offered_to, happens, IsCommon}
use Rattle.agreement.proofs.Events.{begun, begun_same}
use Rattle.progress.proofs.Tick.{tick_whole, Same, complain_same, NoMore, Adds, handled_adds, lead_adds, enter_adds}

-- where a statement comes from that event e brings station i, which holds s
pub data Newly (i : ℕ) (e : Event) (s : State) (w : Statement) : Type 0 where
  handed : (bs : List ℕ) → e ≡ given i bs → read bs ≡ some (message w) → allowed s.settings (message w) ≡ true → Newly i e s w
  led : (u : State) → e ≡ common_tick → leads_now u ≡ true → Same (begun common_tick s) u → message w ≡ own_new_view u → Newly i e s w
  made : (b : ℕ) → e ≡ offered_to i b → offered b s ≡ some (message w) → Newly i e s w

abbrev pub Change : (i : ℕ) (e : Event) (s t : State) → Type 0
Change i e s t = NoMore s.statements t.statements ⊎ ((w : Statement) × Newly i e s w × NoMore (s.statements ++ w ∷ []) t.statements)

-- who still runs did what the rule does
pub room_left : (P : State → Type 0) (s : State) (w : Work) → P w.now → running (if_room s w).next ≡ true → P (if_room s w).next
unfolding if_room running done
room_left P s w p = by_bool (has_room w.now) (λ q. rw (q, if_room) (λ _. p)) (λ q. rw (q, if_room) (λ e. no_bool (sym e)))

tick_change : (i : ℕ) (s : State) → running (tick s).next ≡ true → Change i common_tick s (tick s).next
tick_change i s r =
    let (e, _) = tick_whole s r in
    let u = begun common_tick s in
    let c = (complain u).now in
    let p = complain_same u in
    let back : c.statements ≡ s.statements = p.statements ∙ (begun_same common_tick s).3 in
    subst (Change i common_tick s) (sym e) (go c p back (lead_adds c))
  where
    go : (c : State) → Same (begun common_tick s) c → c.statements ≡ s.statements
        → NoMore c.statements (lead c).now.statements
        ⊎ ((leads_now c ≡ true) × ((w : Statement) × (message w ≡ own_new_view c) × NoMore (c.statements ++ w ∷ []) (lead c).now.statements))
        → Change i common_tick s (enter (lead c).now).now
    go c p b (inl n) = inl (λ x h. subst (λ (xs : List Statement). In xs x) b (n x (enter_adds (lead c).now x h)))
    go c p b (inr (l, (w, m, n))) = inr (w, led c refl l p m, λ x h. subst (λ (xs : List Statement). In (xs ++ w ∷ []) x) b (n x (enter_adds (lead c).now x h)))

pub event_change : (i : ℕ) (e : Event) (s : State) → IsCommon e → running (happens i e s).next ≡ true → Change i e s (happens i e s).next
unfolding happens done saying refused
event_change i idle s c = λ r. inl (λ x h. h)
event_change i common_tick s c = λ r. tick_change i s r
event_change i (tick_of j) s c = absurd c
event_change i (given j bs) s c =
    by_bool (eqb i j)
    (λ q. rw (q, happens)
    (by_step (λ o. running o.next ≡ true → Change i (given j bs) s o.next) s (λ k r. inl (λ x h. h)) bs
    (λ m f a u. room_left (Change i (given j bs) s) s (handled m s) (go (eqb-true i j q) m f a (handled_adds m s)))))
    (λ q. rw (q, happens) (λ r. inl (λ x h. h)))
  where
    go : i ≡ j → (m : Message) → read bs ≡ some m → allowed s.settings m ≡ true → Adds m s.statements (handled m s).now.statements
        → Change i (given j bs) s (handled m s).now
    go p m f a (inl n) = inl n
    go p m f a (inr (w, g, n)) =
        inr (w, handed bs (ap (λ (x : ℕ). given x bs) (sym p)) (f ∙ ap some (sym g)) (subst (λ (y : Message). allowed s.settings y ≡ true) (sym g) a), n)
event_change i (offered_to j b) s c =
    by_bool (eqb i j)
    (λ q. rw (q, happens)
    (by_offer (λ o. running o.next ≡ true → Change i (offered_to j b) s o.next) s (λ k r. inl (λ x h. h)) b
    (λ m f. room_left (Change i (offered_to j b) s) s (handled m s) (go (eqb-true i j q) m f (handled_adds m s)))))
    (λ q. rw (q, happens) (λ r. inl (λ x h. h)))
  where
    go : i ≡ j → (m : Message) → offered b s ≡ some m → Adds m s.statements (handled m s).now.statements → Change i (offered_to j b) s (handled m s).now
    go p m f (inl n) = inl n
    go p m f (inr (w, g, n)) = inr (w, made b (ap (λ (x : ℕ). offered_to x b) (sym p)) (f ∙ ap some (sym g)), n)
