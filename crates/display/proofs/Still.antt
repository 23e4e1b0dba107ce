-- What a tick does after its commits leaves the display as it is, while the station stays in its view: blames and tallies are not shown,
-- and all that is stored then is the leader's own new-view. Assumes nothing.
use mathlib.Core.Path.{◌≡◌, refl, sym, ap, ◌∙◌}
use Prim.Native.Nat.{ℕ, ◌+◌}
use native.Mathlib.Omega.{arith}
use mathlib.Core.Bool.{true}
use mathlib.Core.List.{List, [], ◌∷◌, ◌++◌, append-nil}
use mathlib.Core.Logic.{◌⊎◌, inl, inr}
use mathlib.Core.Option.{none}
use Rattle.rules.specs.Lists.{alter}
use Rattle.rules.specs.Messages.{Message, kind, Effect}
use Rattle.rules.specs.Words.{Statement, message, same_statement, in_view, waiting, State}
use Rattle.rules.specs.Inputs.{with_phase, with_clock, with_tables, with_blames, with_log, entering, is_in, noted, voted_for, stored, blamed, own_new_view}
use Rattle.rules.specs.Refusals.{running, tick}
use Rattle.rules.specs.Display.{Shown, is_shown, due_clock, shown, showing, showing_all, display}
use Rattle.laws.proofs.Tests.{by_bool}
use Rattle.laws.proofs.Statements.{same_like}
use Rattle.laws.proofs.Moves.{Outside, Origin, handed, led, made, Move, joins, stores, passes, casts, clashes, accuses, fills, complains, enters_full, enters_pair, enters, Moves, here, more, counted, log_after, tick_moves}
use Rattle.laws.proofs.Kept.{no_phase, waiting_clock, enters_at}
use Rattle.display.proofs.Shown.{not_voted, new_view_none, shown_append, shown_one}

-- nothing comes from outside in a tick
abbrev pub nobody : Outside
nobody = record { given = λ m. ⊥; offers = λ b m. ⊥ }

led_only : (s : State) (m : Message) → Origin nobody s m → m ≡ own_new_view s
led_only s m (handed g a) = absurd g
led_only s m (led q) = refl
led_only s m (made b g q) = absurd g

own_new_view_lem : (s : State) (x : Statement) → Origin nobody s (message x) → x.is_new_view ≡ true
unfolding message kind own_new_view
own_new_view_lem s x g =
    by_bool x.is_new_view (λ q. q)
    (λ q.
    let e : kind (message x) ≡ kind (own_new_view s) = ap kind (led_only s (message x) g) in
    let two : kind (message x) ≡ 2 = rw (q, message) in
    absurd (omega (arith, sym two ∙ e)))

-- ---- the display looks at the settings, the phase, the view, the clock, the statements and the log alone

same_one : (s t : State) → t.phase ≡ s.phase → t.view ≡ s.view → t.clock ≡ s.clock → t.settings ≡ s.settings → t.log ≡ s.log → (x : Statement) → showing t x ≡ showing s x
unfolding showing is_shown shown due_clock is_in
same_one s t p v c g l x = rw (p, v, c, g, l)

same_shown : (s t : State) → t.phase ≡ s.phase → t.view ≡ s.view → t.clock ≡ s.clock → t.settings ≡ s.settings → t.log ≡ s.log → (xs : List Statement) → showing_all t xs ≡ showing_all s xs
unfolding showing_all
same_shown s t p v c g l [] = refl
same_shown s t p v c g l (x ∷ xs) = rw (same_one s t p v c g l x, same_shown s t p v c g l xs)

-- a statement that was not voted for is stored
pub stored_shown : (s : State) (x : Statement) → x.voted ≡ none → display (stored x s) ≡ display s
unfolding display stored with_tables
stored_shown s x n =
    shown_append (stored x s) s.statements (x ∷ []) ∙ ap (showing_all (stored x s) s.statements ++◌) (shown_one (stored x s) x ∙ not_voted (stored x s) x n)
    ∙ append-nil (showing_all (stored x s) s.statements) ∙ same_shown s (stored x s) refl refl refl refl refl s.statements

-- a new-view is voted for
noted_shown : (s : State) (x : Statement) (c : ℕ) → x.is_new_view ≡ true → (xs : List Statement) → showing_all s (alter (same_statement x) (noted c) xs) ≡ showing_all s xs
unfolding showing_all alter noted
noted_shown s x c n [] = refl
noted_shown s x c n (y ∷ ys) =
    by_bool (same_statement x y)
    (λ q.
    let k : y.is_new_view ≡ true = ap (λ (w : Statement). w.is_new_view) (same_like x y q) ∙ n in
    rw (q, alter) (ap (◌++ showing_all s ys) (new_view_none s (noted c y) k ∙ sym (new_view_none s y k))))
    (λ q. rw (q, alter) (ap (showing s y ++◌) (noted_shown s x c n ys)))

voted_shown : (s : State) (x : Statement) → x.is_new_view ≡ true → display (voted_for x s) ≡ display s
unfolding display voted_for with_tables
voted_shown s x n = noted_shown (voted_for x s) x s.clock n s.statements ∙ same_shown s (voted_for x s) refl refl refl refl refl s.statements

pub blamed_shown : (s : State) (v m : ℕ) → display (blamed v m s) ≡ display s
unfolding display blamed with_blames
blamed_shown s v m = same_shown s (blamed v m s) refl refl refl refl refl s.statements

pub joined_shown : (s : State) (ts : _) → display (with_tables s.statements ts s) ≡ display s
unfolding display with_tables
joined_shown s ts = same_shown s (with_tables s.statements ts s) refl refl refl refl refl s.statements

-- ---- move by move

-- the station is in its view and shows the same, or it quit at this clock
abbrev Stays : List Shown → State → Type 0
Stays d t = ((t.phase ≡ in_view) × (display t ≡ d)) ⊎ (t.phase ≡ waiting t.clock)

stays_on : {d : List Shown} (s t : State) → t.phase ≡ s.phase → t.clock ≡ s.clock → display t ≡ display s → Stays d s → Stays d t
stays_on s t p c e (inl (q, f)) = inl (p ∙ q, e ∙ f)
stays_on s t p c e (inr w) = inr (p ∙ w ∙ ap waiting (sym c))

move_stays : {d : List Shown} (s t : State) (o : List Effect) → Move nobody s t o → Stays d s → Stays d t
unfolding with_tables with_phase with_blames entering stored voted_for blamed
move_stays s t o (joins j m u g c) k = stays_on s t refl refl (joined_shown s _) k
move_stays s t o (stores x g f) k = stays_on s t refl refl (stored_shown s x g.1) k
move_stays s t o (passes x g f c l) k = stays_on s t refl refl (stored_shown s x g.1) k
move_stays s t o (casts x g f c l) k = stays_on s t refl refl (voted_shown (stored x s) x (own_new_view_lem s x g.0) ∙ stored_shown s x g.1) k
move_stays s t o (clashes x y g f c) k = inr refl
move_stays s t o (accuses v m a f) k = stays_on s t refl refl (blamed_shown s v m) k
move_stays s t o (fills v m a f) k = inr refl
move_stays s t o (complains f) k = k
move_stays s t o (enters_full e c) k = inr refl
move_stays s t o (enters_pair p e c f) k = inr refl
move_stays {d} s t o (enters e c f) k = go k
  where
    go : {P : Type 0} → Stays d s → P
    go (inl (p, _)) = let (q, w, l, a) = enters_at s e in no_phase (sym w ∙ p)
    go (inr p) = let (q, w, l, a) = enters_at s e in let z : s.clock ≡ q = waiting_clock (sym p ∙ w) in absurd (omega arith)

moves_stays : {d : List Shown} (s t : State) (o : List Effect) → Moves nobody s t o → Stays d s → Stays d t
moves_stays s t o here k = k
moves_stays s t o (more {t = u} {o = p} {p = q} a b) k = move_stays u t q b (moves_stays s u p a k)

-- a tick that leaves the station in its view: the clock and the log moved on, no more
pub tick_still : (s : State) → s.phase ≡ in_view → (tick s).next.phase ≡ in_view → display (tick s).next ≡ display (with_log (log_after s) (counted s))
unfolding running with_log counted with_clock
tick_still s p e =
    let (c, (o, d, m)) = tick_moves nobody s (rw (e, running)) in
    let u = with_log (log_after s) (counted s) in
    go (moves_stays u (tick s).next o m (inl (p, refl)))
  where
    go : Stays (display (with_log (log_after s) (counted s))) (tick s).next → display (tick s).next ≡ display (with_log (log_after s) (counted s))
    go (inl (q, d)) = d
    go (inr w) = no_phase (sym w ∙ e)
