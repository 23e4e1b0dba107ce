-- Request 3's laws along a tick. The number falls by one, what the tick commits is shown no more, and a number below 1 is shown only
-- where an ancestor was not stored at that tick. Assumes nothing.
use mathlib.Core.Path.{◌≡◌, refl, sym, ap, ap₂, subst, ◌∙◌}
use Prim.Native.Nat.{ℕ, zero, suc, ◌+◌, ◌-◌, ◌*◌, ◌≤◌, ◌<◌}
use native.Mathlib.Omega.{arith}
use native.Mathlib.Nat.{zero-add, suc-add}
use mathlib.Core.Bool.{true, false}
use mathlib.Core.List.Memᴰ
use mathlib.Core.List.{List, [], ◌∷◌, ◌++◌, append_assoc, IsPrefix, Memᴰ as Mem}
use mathlib.Core.Logic.{◌⊎◌, inl, inr}
use mathlib.Core.Option.{none, some, some-injective}
use lib.Dec.{leb, eqb}
use lib.IntN.{ℤ, pos, pred_ℤ}
use lib.Signed.{le_z}
use lib.ListN.{length, get_or, drop, length-append, get_or-append}
use lib.Seq.{get_or-append_seam}
use borrow.Author.Tests.{leb-true, le-leb, lt-leb, eqb-true, eq-eqb}
use Rattle.rules.specs.Lists.{first, within}
use Rattle.rules.specs.Messages.{Effect, committed}
use Rattle.rules.specs.Words.{Statement, Phase, in_view, waiting, stopped, State}
use Rattle.rules.specs.Inputs.{with_clock, with_log, is_in, is_block, chain_to, chain, due, reports}
use Rattle.rules.specs.Refusals.{refused, running, tick}
use Rattle.rules.specs.WellFormed.{well_formed}
use Rattle.rules.specs.Display.{Shown, is_logged, is_shown, due_clock, shown, showing, showing_all, display}
use Rattle.laws.proofs.Tests.{by_bool, by_option, no_bool, no_some}
use Rattle.laws.proofs.Truths.{and_3}
use Rattle.laws.proofs.Searches.{by_mem, all_of}
use Rattle.laws.proofs.Moves.{Moves, counted, log_after, news, tick_moves}
use Rattle.laws.proofs.Kept.{by_phase, in_true, moves_fixed}
use Rattle.laws.proofs.Commits.{commits_some, facts_due, moves_messages}
use Rattle.kept.proofs.WellFormed.{parts}
use Rattle.kept.proofs.Facts.{statement_of_lem}
use Rattle.display.proofs.Shown.{not_voted, not_shown, is_shown_lem, shown_parts, shows, waiting_shows_none, stopped_shows_none}
use Rattle.display.proofs.Numbers.{left_falls, due_come}
use Rattle.display.proofs.Still.{nobody, tick_still}
use Rattle.display.proofs.Entered.{entered_left}

-- ---- in the log

logged_parts : (l : List ℕ) (h b : ℕ) → is_logged l h b ≡ true → (1 ≤ h) × (h ≤ length l) × (b ≡ get_or l (h - 1) 0)
unfolding is_logged within
logged_parts l h b e =
    let t = and_3 (leb 1 h) (leb h (length l)) (eqb b (get_or l (h - 1) 0)) e in
    (leb-true 1 h t.0, leb-true h (length l) t.1, eqb-true b (get_or l (h - 1) 0) t.2)

parts_logged : (l : List ℕ) (h b : ℕ) → 1 ≤ h → h ≤ length l → b ≡ get_or l (h - 1) 0 → is_logged l h b ≡ true
unfolding is_logged within
parts_logged l h b p q e = rw (le-leb 1 h p, le-leb h (length l) q) (eq-eqb b (get_or l (h - 1) 0) e)

-- what is in a log is in every log that it begins
logged_on : (a l : List ℕ) (h b : ℕ) → IsPrefix a l → is_logged a h b ≡ true → is_logged l h b ≡ true
logged_on a l h b (r, e) k =
    let (p, q, f) = logged_parts a h b k in
    subst (λ (m : List ℕ). is_logged m h b ≡ true) e
    (parts_logged (a ++ r) h b p (omega (arith, length-append a r)) (f ∙ sym (get_or-append a r 0 (h - 1) (omega arith))))

-- ---- the number falls by one, and what is in the log now is shown no more

-- the display one tick later, with this log
abbrev pub fallen : Shown → Shown
fallen z = record { height = z.height; name = z.name; ticks_left = pred_ℤ z.ticks_left }

unfoldable pub later : List ℕ → List Shown → List Shown
later l [] = []
later l (z ∷ zs) =
    elim (is_logged l z.height z.name) [ true ↦ later l zs | false ↦ fallen z ∷ later l zs ]

later_append : (l : List ℕ) (xs ys : List Shown) → later l (xs ++ ys) ≡ later l xs ++ later l ys
unfolding later
later_append l [] ys = refl
later_append l (x ∷ xs) ys =
    by_bool (is_logged l x.height x.name) (λ q. rw (q, later) (later_append l xs ys)) (λ q. rw (q, later) (ap (fallen x ∷◌) (later_append l xs ys)))

module _ (s : State) (l : List ℕ) (g : IsPrefix s.log l) where
  abbrev next : State
  next = with_log l (counted s)

  still_not : (x : Statement) → is_shown s x ≡ false → is_shown next x ≡ false
  unfolding with_log counted with_clock is_shown is_in
  still_not x e =
      by_bool (is_shown next x)
      (λ f.
      let (n, i, o) = shown_parts next x f in
      let k : is_logged s.log x.height x.name ≡ false = by_bool (is_logged s.log x.height x.name) (λ q. no_bool (sym (logged_on s.log l x.height x.name g q) ∙ o)) (λ q. q) in
      let t : is_shown s x ≡ true = rw (n, i, k) in
      no_bool (sym t ∙ e))
      (λ f. f)

  later_one : (x : Statement) → showing next x ≡ later l (showing s x)
  unfolding with_log counted with_clock is_shown is_in shown due_clock later
  later_one x =
      by_option x.voted (λ q. not_voted next x q ∙ sym (ap (later l) (not_voted s x q))) λ c q.
      by_bool (is_shown s x)
      (λ e.
      let (n, i, o) = shown_parts s x e in
      by_bool (is_logged l x.height x.name)
      (λ k. not_shown next x (rw (n, i, k)) ∙ sym (ap (later l) (is_shown_lem s x c q e) ∙ rw (k, later)))
      (λ k.
      is_shown_lem next x c q (rw (n, i, k))
      ∙ ap (λ (v : ℤ). record { height = x.height; name = x.name; ticks_left = v } ∷ []) (left_falls (c + 2 * s.settings.D + 1) s.clock)
      ∙ sym (ap (later l) (is_shown_lem s x c q e) ∙ rw (k, later))))
      (λ e. not_shown next x (still_not x e) ∙ sym (ap (later l) (not_shown s x e)))

  later_all : (xs : List Statement) → showing_all next xs ≡ later l (showing_all s xs)
  unfolding showing_all later
  later_all [] = refl
  later_all (x ∷ xs) = ap₂ ◌++◌ (later_one x) (later_all xs) ∙ sym (later_append l (showing s x) (showing_all s xs))

-- "due clock minus present clock": with each tick that leaves the station in its view it falls by one, and what is now logged is shown no more
pub tick_falls : (s : State) → s.phase ≡ in_view → (tick s).next.phase ≡ in_view → display (tick s).next ≡ later (tick s).next.log (display s)
unfolding running display with_log counted with_clock
tick_falls s p e =
    let (c, (o, d, m)) = tick_moves nobody s (rw (e, running)) in
    let k = commits_some s.statements (due (counted s)) s.log (log_after s) c in
    tick_still s p e ∙ later_all s (log_after s) k.begins s.statements ∙ ap (λ (l : List ℕ). later l (display s)) (sym (moves_fixed m).2)

-- ---- a number below 1

-- a whole chain ends with its block, at its height
chain_to_ends : (xs : List Statement) (h b : ℕ) (above bs : List ℕ) → chain_to xs h b above ≡ some bs → (low : List ℕ) × (length low ≡ h) × (low ++ above ≡ bs)
unfolding chain_to
chain_to_ends xs zero b above bs e = ([], refl, some-injective above bs e)
chain_to_ends xs (suc h) b above bs e =
    by_option (first (is_block (suc h) b) xs) (λ q. no_some (rw (q, chain_to) at e)) λ x q.
    let (low, n, f) = chain_to_ends xs h x.link (b ∷ above) bs (rw (q, chain_to) at e) in
    (low ++ b ∷ [], omega (arith, length-append low (b ∷ [])), append_assoc low (b ∷ []) above ∙ f)

chain_logged : (xs : List Statement) (x : Statement) (bs : List ℕ) → 1 ≤ x.height → chain xs x ≡ some bs → is_logged bs x.height x.name ≡ true
unfolding chain
chain_logged xs x bs p e =
    let (low, n, f) = chain_to_ends xs (x.height - 1) x.link (x.name ∷ []) bs e in
    subst (λ (l : List ℕ). is_logged l x.height x.name ≡ true) f
    (parts_logged (low ++ x.name ∷ []) x.height x.name p (omega (arith, length-append low (x.name ∷ [])))
    (sym (get_or-append_seam low x.name [] 0) ∙ ap (λ (k : ℕ). get_or (low ++ x.name ∷ []) k 0) n))

-- of these statements a propose of this height and name has "an ancestor not stored"
pub record Lacks (xs : List Statement) (z : Shown) : Type 0 where
  pub what : Statement
  pub stored : Mem what xs
  pub height : z.height ≡ what.height
  pub name : z.name ≡ what.name
  pub lacks : chain xs what ≡ none

-- what a tick that stays in the view passes over
overdue_lacks : (s : State) → well_formed s ≡ true → s.phase ≡ in_view → (tick s).next.phase ≡ in_view → (z : Shown) → Mem z (display (tick s).next)
    → le_z z.ticks_left (pos 0) ≡ true → Lacks s.statements z
unfolding running display shown due_clock with_log counted with_clock is_in
overdue_lacks s w p e z m b =
    let t = with_log (log_after s) (counted s) in
    let k = shows t s.statements z (subst (Mem z) (tick_still s p e) m) in
    let x = k.what in
    let (n, i, o) = shown_parts t x k.may in
    let (c, _) = tick_moves nobody s (rw (e, running)) in
    let d = due_come (k.vote + 2 * s.settings.D + 1) (s.clock + 1) (rw k.is at b) in
    let f = facts_due (counted s) x (k.stored, n, i, (k.vote, k.voted, d)) in
    let h = ((statement_of_lem (parts s w).formed x k.stored).parent n).0 in
    by_option (chain s.statements x)
    (λ q. record { what = x; stored = k.stored; height = ap (λ (y : Shown). y.height) k.is; name = ap (λ (y : Shown). y.name) k.is; lacks = q })
    (λ bs q.
    let g = (commits_some s.statements (due (counted s)) s.log (log_after s) c).has x bs f q in
    no_bool (sym (logged_on bs (log_after s) x.height x.name g (chain_logged s.statements x bs h q)) ∙ o))

tick_ran : (s : State) → (tick s).next.phase ≡ in_view → running s ≡ true
unfolding tick refused running
tick_ran s e =
    by_bool (running s) (λ r. r) (λ r. let p : s.phase ≡ in_view = rw (r, tick) at e in rw (p, running))

-- "both happen only where an ancestor was not stored at the last tick"
pub below_one_lacks : (s : State) → well_formed s ≡ true → (z : Shown) → Mem z (display (tick s).next) → le_z z.ticks_left (pos 0) ≡ true → Lacks s.statements z
unfolding running
below_one_lacks s w z m b = go (tick s).next.phase refl
  where
    entered : (tick s).next.phase ≡ in_view → (q : ℕ) → s.phase ≡ waiting q → Lacks s.statements z
    entered e q p =
        let o = (parts s w).formed.tables.statements_differ in
        no_bool (sym b ∙ ap (λ (v : ℤ). le_z v (pos 0)) (entered_left s q p e o z m) ∙ lt-leb (2 * s.settings.D + 1) 0 (omega arith))

    go : (p : Phase) → (tick s).next.phase ≡ p → Lacks s.statements z
    go in_view e = by_phase s (tick_ran s e) (λ p. overdue_lacks s w p e z m b) (λ q p. entered e q p)
    go (waiting q) e = absurd (Memᴰ.not-nil (rw (waiting_shows_none (tick s).next q e) at m))
    go (stopped c) e = absurd (Memᴰ.not-nil (rw (stopped_shows_none (tick s).next c e) at m))

-- ---- what the tick commits

reports_at : (k : ℕ) (bs : List ℕ) (h b : ℕ) → Mem (committed h b) (reports k bs) → (k ≤ h) × (h < k + length bs) × (b ≡ get_or bs (h - k) 0)
unfolding reports
reports_at k [] h b m = absurd (Memᴰ.not-nil m)
reports_at k (c ∷ bs) h b m =
    by_mem m
    (λ e.
    let p : h ≡ k = cc in
    let q : b ≡ c = cc in
    let z : h - k ≡ 0 = omega arith in
    (omega arith, omega arith, q ∙ sym (ap (λ (j : ℕ). get_or (c ∷ bs) j 0) z)))
    (λ t.
    let (p, q, f) = reports_at (suc k) bs h b t in
    let z : h - k ≡ suc (h - suc k) = omega arith in
    (omega arith, omega arith, f ∙ sym (ap (λ (j : ℕ). get_or (c ∷ bs) j 0) z)))

drop_behind : (a r : List ℕ) → drop (length a) (a ++ r) ≡ r
drop_behind [] r = refl
drop_behind (x ∷ a) r = drop_behind a r

getD_behind : (a r : List ℕ) (i : ℕ) → get_or (a ++ r) (length a + i) 0 ≡ get_or r i 0
getD_behind [] r i = ap (λ (k : ℕ). get_or r k 0) (zero-add i)
getD_behind (x ∷ a) r i = ap (λ (k : ℕ). get_or (x ∷ a ++ r) k 0) (suc-add (length a) i) ∙ getD_behind a r i

mem_either : {A : Type 0} (xs ys : List A) (z : A) → Mem z (xs ++ ys) → Mem z xs ⊎ Mem z ys
mem_either [] ys z m = inr m
mem_either (x ∷ xs) ys z m = by_mem m (λ e. inl (Mem.head e)) (λ t. go (mem_either xs ys z t))
  where
    go : Mem z xs ⊎ Mem z ys → Mem z (x ∷ xs) ⊎ Mem z ys
    go (inl t) = inl (Mem.tail t)
    go (inr t) = inr t

-- what a tick reports is in its log
reported_logged : (a l : List ℕ) (h b : ℕ) → IsPrefix a l → Mem (committed h b) (reports (suc (length a)) (drop (length a) l)) → is_logged l h b ≡ true
reported_logged a l h b (r, e) m =
    let (p, q, f) = reports_at (suc (length a)) r h b (rw (← e, drop_behind a r) at m) in
    let z : length a + (h - suc (length a)) ≡ h - 1 = omega arith in
    subst (λ (k : List ℕ). is_logged k h b ≡ true) e
    (parts_logged (a ++ r) h b (omega arith) (omega (arith, length-append a r))
    (f ∙ sym (getD_behind a r (h - suc (length a))) ∙ ap (λ (k : ℕ). get_or (a ++ r) k 0) z))

tick_reports : (s : State) → running (tick s).next ≡ true → (h b : ℕ) → Mem (committed h b) (tick s).out → is_logged (tick s).next.log h b ≡ true
unfolding news counted with_clock with_log
tick_reports s run h b m =
    let (c, (o, d, v)) = tick_moves nobody s run in
    let k = (commits_some s.statements (due (counted s)) s.log (log_after s) c).begins in
    rw (moves_fixed v).2 (go o v k (mem_either (news s) o (committed h b) (rw d at m)))
  where
    go : (o : List Effect) → Moves nobody (with_log (log_after s) (counted s)) (tick s).next o → IsPrefix s.log (log_after s) → Mem (committed h b) (news s) ⊎ Mem (committed h b) o
        → is_logged (log_after s) h b ≡ true
    go o v k (inl n) = reported_logged s.log (log_after s) h b k n
    go o v k (inr n) =
        absurd
        (all_of (λ (e : Effect). e ≡ committed h b → ⊥) o
        (moves_messages (λ (e : Effect). e ≡ committed h b → ⊥) (λ m e. let z : ◌≡◌ {A = ℕ} 0 1 = cc in omega arith) (λ i m e. let z : ◌≡◌ {A = ℕ} 0 1 = cc in omega arith) (with_log (log_after s) (counted s)) (tick s).next o v)
        (committed h b) n refl)

-- a propose that a tick commits is shown no more
pub committed_shown_no_more : (s : State) (h b : ℕ) → Mem (committed h b) (tick s).out → (z : Shown) → Mem z (display (tick s).next) → z.height ≡ h → z.name ≡ b → ⊥
unfolding display running shown
committed_shown_no_more s h b m z n p q =
    let t = (tick s).next in
    let k = shows t t.statements z n in
    let (v, i, o) = shown_parts t k.what k.may in
    let r : running t ≡ true = rw ((in_true k.what.view t i).0, running) in
    let l = tick_reports s r h b m in
    let a : k.what.height ≡ h = sym (ap (λ (y : Shown). y.height) k.is) ∙ p in
    let c : k.what.name ≡ b = sym (ap (λ (y : Shown). y.name) k.is) ∙ q in
    no_bool (sym l ∙ (rw (a, c) at o))
