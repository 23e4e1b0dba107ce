-- What a station says is of no later view than the one that it then holds or last quit. Assumes nothing.
use mathlib.Core.Path.{◌≡◌, refl, sym, ◌∙◌}
use Prim.Native.Nat.{ℕ, ◌+◌, ◌≤◌}
use native.Mathlib.Omega.{arith}
use mathlib.Core.Bool.{false}
use mathlib.Core.List.{List, [], ◌∷◌, Memᴰ}
use lib.Dec.{ltb, eqb}
use borrow.Author.Tests.{eqb-true, ltb-true}
use Rattle.rules.specs.Lists.{keep}
use Rattle.rules.specs.Sizes.{leader}
use Rattle.rules.specs.Messages.{Message, view_of, Effect, to_all, to_one, committed}
use Rattle.rules.specs.Words.{Statement, message, conflict, State}
use Rattle.rules.specs.Inputs.{saying, ◌▸◌, with_phase, with_tables, with_blames, with_log, entering, is_in, below_lock, voted_for, ballot, stored, blamed, blame_full, report, current, in_order, voting_all}
use Rattle.rules.specs.Refusals.{ahead}
use Rattle.laws.proofs.Tests.{by_bool}
use Rattle.laws.proofs.Truths.{and_2}
use Rattle.laws.proofs.Searches.{first_any, All, all_append, all_map, to_all_lem, mem_keep}
use Rattle.laws.proofs.Statements.{conflict_view, pair_some, mem_order}
use Rattle.laws.proofs.Moves.{Outside, arrived, Move, joins, stores, passes, casts, clashes, accuses, fills, complains, enters_full, enters_pair, enters, Moves, here, more, voting_low, voting_high}
use Rattle.laws.proofs.Kept.{in_true, move_kept, voting_all_fixed}

-- a message to all or to one is of view v or earlier
abbrev pub ViewSaid : ℕ → Effect → Type 0
ViewSaid v (to_all m) = view_of m ≤ v
ViewSaid v (to_one i m) = view_of m ≤ v
ViewSaid v (committed h b) = Unit {0}

said_later : (v w : ℕ) → v ≤ w → (e : Effect) → ViewSaid v e → ViewSaid w e
said_later v w l (to_all m) h = omega arith
said_later v w l (to_one i m) h = omega arith
said_later v w l (committed b c) h = tt

pub view_message : (x : Statement) → view_of (message x) ≡ x.view
unfolding view_of message
view_message x = by_bool x.is_new_view (λ e. rw e refl) (λ e. rw e refl)

message_view : (x : Statement) (v : ℕ) → x.view ≡ v → view_of (message x) ≤ v
message_view x v e = let q = view_message x in omega arith

ballot_views : (x : Statement) (s : State) (v : ℕ) → x.view ≡ v → All (ViewSaid v) (ballot x s)
unfolding ballot view_of
ballot_views x s v e = (message_view x v e, (omega arith, tt))

report_views : (s : State) (v : ℕ) → All (ViewSaid v) (report s)
unfolding report view_of
report_views s v = by_bool (eqb (leader s.settings (s.view + 1)) s.settings.own) (λ q. rw (q, All) tt) (λ q. rw (q, All) (omega arith, tt))

voting_all_views : (v : ℕ) (ys : List Statement) (s : State) → All (λ x. x.view ≡ v) ys → All (ViewSaid v) (voting_all ys s).out
unfolding voting_all saying ◌▸◌
voting_all_views v [] s a = tt
voting_all_views v (y ∷ ys) s a =
    by_bool (below_lock y s) (λ l. rw (voting_low y s l) (voting_all_views v ys s a.1))
    (λ l. rw (voting_high y s l) (all_append (ViewSaid v) (ballot y s) (voting_all ys (voted_for y s)).out (ballot_views y s v a.0) (voting_all_views v ys (voted_for y s) a.1)))

current_view : (v : ℕ) (xs : List Statement) (x : Statement) → Memᴰ x (keep (λ y. eqb y.view v) xs) → x.view ≡ v
current_view v xs x m = eqb-true x.view v (mem_keep (λ (y : Statement). eqb y.view v) xs x m).1

move_views : {R : Outside} (s t : State) (o : List Effect) → Move R s t o → All (ViewSaid t.view) o
unfolding with_tables with_phase with_blames with_log entering stored voted_for blamed view_of current
move_views s t o (joins j m u g c) = tt
move_views s t o (stores x g f) = tt
move_views s t o (passes x g f c k) = tt
move_views s t o (casts x g f c k) = ballot_views x s s.view (in_true x.view s f).1
move_views s t o (clashes x y g f c) =
    let w = (in_true x.view s f).1 in
    (message_view y s.view (sym (conflict_view x y (first_any (conflict x) s.statements y c).1) ∙ w), (message_view x s.view w, tt))
move_views s t o (accuses v m a f) = tt
move_views s t o (fills v m a f) =
    let w = (in_true v (blamed v m s) (and_2 (is_in v (blamed v m s)) (blame_full v (blamed v m s)) f).0).1 in (omega arith, tt)
move_views s t o (complains f) = (omega arith, tt)
move_views s t o (enters_full e c) = all_append (ViewSaid (s.view + 1)) (report s) _ (report_views s (s.view + 1)) (omega arith, tt)
move_views s t o (enters_pair p e c f) =
    let r = pair_some _ p f in
    let v = s.view + 1 in
    all_append (ViewSaid v) (report s) _ (report_views s v)
    (message_view p.0 v (current_view v s.statements p.0 r.1), (message_view p.1 v (current_view v s.statements p.1 r.2), tt))
move_views s t o (enters e c f) =
    let a = arrived s in
    let ys = in_order (current a) in
    let v = s.view + 1 in
    rw (voting_all_fixed ys a).2
    (all_append (ViewSaid v) (report s) _ (report_views s v) (voting_all_views v ys a (to_all_lem (λ (x : Statement). x.view ≡ v) ys (λ x m. (mem_order a x m).1))))

pub moves_views : {R : Outside} (s t : State) (o : List Effect) → Moves R s t o → All (ViewSaid t.view) o
moves_views s t o here = tt
moves_views s t o (more {t = u} {o = p} {p = q} a b) =
    all_append (ViewSaid t.view) p q
    (all_map (ViewSaid u.view) (ViewSaid t.view) (said_later u.view t.view (move_kept u t q b).view) p (moves_views s u p a))
    (move_views u t q b)

-- what is at most one view ahead is not refused as too far ahead
pub not_ahead : (m : Message) (s : State) → view_of m ≤ s.view + 1 → ahead m s ≡ false
unfolding ahead
not_ahead m s l = by_bool (ltb (s.view + 1) (view_of m)) (λ q. let h = ltb-true (s.view + 1) (view_of m) q in absurd (omega arith)) (λ q. q)
