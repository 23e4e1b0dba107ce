-- Who is shown: by the statement's own vote and the log; one list after another; nothing of a station that is in no view. Assumes nothing.
use mathlib.Core.Path.{◌≡◌, refl, sym, ap, ◌∙◌}
use Prim.Native.Nat.{ℕ, ◌+◌, ◌-◌}
use mathlib.Core.Bool.{Bool, true, false, not, ◌&&◌}
use mathlib.Core.List.Memᴰ
use mathlib.Core.List.{List, [], ◌∷◌, ◌++◌, append_assoc, append-nil, Memᴰ as Mem}
use mathlib.Core.Option.{none, some}
use borrow.Author.Tests.{not-true}
use Rattle.rules.specs.Words.{Statement, Phase, Cause, in_view, waiting, stopped, State}
use Rattle.rules.specs.Inputs.{is_in}
use Rattle.rules.specs.Display.{Shown, is_logged, is_shown, shown, showing, showing_all, display}
use Rattle.laws.proofs.Tests.{by_bool, by_option}
use Rattle.laws.proofs.Truths.{and_3}
use Rattle.laws.proofs.Searches.{by_mem}

-- ---- one statement

module _ (s : State) (x : Statement) where
  pub not_voted : x.voted ≡ none → showing s x ≡ []
  unfolding showing
  not_voted e = rw (e, showing)

  pub not_shown : is_shown s x ≡ false → showing s x ≡ []
  unfolding showing
  not_shown e = by_option x.voted (λ q. rw (q, showing)) (λ c q. rw (q, showing, e))

  pub is_shown_lem : (c : ℕ) → x.voted ≡ some c → is_shown s x ≡ true → showing s x ≡ shown s x c ∷ []
  unfolding showing
  is_shown_lem c q e = rw (q, showing, e)

  pub shown_parts : is_shown s x ≡ true → (x.is_new_view ≡ false) × (is_in x.view s ≡ true) × (is_logged s.log x.height x.name ≡ false)
  unfolding is_shown
  shown_parts e =
      let t = and_3 (not x.is_new_view) (is_in x.view s) (not (is_logged s.log x.height x.name)) e in
      (not-true x.is_new_view t.0, t.1, not-true _ t.2)

  pub out_of_view : is_in x.view s ≡ false → is_shown s x ≡ false
  unfolding is_shown
  out_of_view e = rw e (middle (not x.is_new_view) _)
    where
      middle : (a c : Bool) → (a && false && c) ≡ false
      middle true c = refl
      middle false c = refl

  pub new_view_none : x.is_new_view ≡ true → showing s x ≡ []
  unfolding is_shown
  new_view_none e = not_shown (rw e)

-- ---- lists

pub shown_append : (s : State) (xs ys : List Statement) → showing_all s (xs ++ ys) ≡ showing_all s xs ++ showing_all s ys
unfolding showing_all
shown_append s [] ys = refl
shown_append s (x ∷ xs) ys = ap (showing s x ++◌) (shown_append s xs ys) ∙ sym (append_assoc (showing s x) (showing_all s xs) (showing_all s ys))

pub shown_one : (s : State) (x : Statement) → showing_all s (x ∷ []) ≡ showing s x
unfolding showing_all
shown_one s x = append-nil (showing s x)

-- what is shown is a stored statement that was voted for, with the clock of its vote
pub record Shows (s : State) (xs : List Statement) (z : Shown) : Type 0 where
  pub what : Statement
  pub vote : ℕ
  pub stored : Mem what xs
  pub voted : what.voted ≡ some vote
  pub may : is_shown s what ≡ true
  pub is : z ≡ shown s what vote

pub shows : (s : State) (xs : List Statement) (z : Shown) → Mem z (showing_all s xs) → Shows s xs z
unfolding showing_all
shows s [] z m = absurd (Memᴰ.not-nil m)
shows s (x ∷ xs) z m =
    by_option x.voted (λ q. later (shows s xs z (rw (not_voted s x q) at m))) λ c q.
    by_bool (is_shown s x)
    (λ e. by_mem (rw (is_shown_lem s x c q e) at m) (λ h. record { what = x; vote = c; stored = Mem.head refl; voted = q; may = e; is = h }) (λ n. later (shows s xs z n)))
    (λ e. later (shows s xs z (rw (not_shown s x e) at m)))
  where
    later : Shows s xs z → Shows s (x ∷ xs) z
    later k = record { what = k.what; vote = k.vote; stored = Mem.tail k.stored; voted = k.voted; may = k.may; is = k.is }

pub shown_mem : (s : State) (xs : List Statement) (x : Statement) (c : ℕ) → Mem x xs → x.voted ≡ some c → is_shown s x ≡ true → Mem (shown s x c) (showing_all s xs)
unfolding showing_all
shown_mem s [] x c m v e = elim m [ ]
shown_mem s (y ∷ ys) x c m v e =
    by_mem m (λ q. rw (← q, is_shown_lem s x c v e) (Mem.head refl))
    (λ t. behind (showing s y) (shown_mem s ys x c t v e))
  where
    behind : {z : Shown} {zs : List Shown} (ws : List Shown) → Mem z zs → Mem z (ws ++ zs)
    behind [] n = n
    behind (w ∷ ws) n = Mem.tail (behind ws n)

-- ---- "a waiting or stopped station shows none"

pub outside_none : (s : State) → ((v : ℕ) → is_in v s ≡ false) → (xs : List Statement) → showing_all s xs ≡ []
unfolding showing_all
outside_none s n [] = refl
outside_none s n (x ∷ xs) = rw (not_shown s x (out_of_view s x (n x.view))) (outside_none s n xs)

pub waiting_shows_none : (s : State) (q : ℕ) → s.phase ≡ waiting q → display s ≡ []
unfolding display is_in
waiting_shows_none s q e = outside_none s (λ v. rw (e, is_in)) s.statements

pub stopped_shows_none : (s : State) (c : Cause) → s.phase ≡ stopped c → display s ≡ []
unfolding display is_in
stopped_shows_none s c e = outside_none s (λ v. rw (e, is_in)) s.statements

pub not_in_shows_none : (s : State) → (s.phase ≡ in_view → ⊥) → display s ≡ []
not_in_shows_none s n = go s.phase refl
  where
    go : (p : Phase) → s.phase ≡ p → display s ≡ []
    go in_view e = absurd (n e)
    go (waiting q) e = waiting_shows_none s q e
    go (stopped c) e = stopped_shows_none s c e
