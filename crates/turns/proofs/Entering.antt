-- A view is entered: its lock, and the status to its leader. Assumes nothing.
use Prim.Native.Nat.{ℕ, ◌+◌, ◌^◌, ◌<◌, ◌≤◌}
use mathlib.Core.Path.{◌≡◌, refl, sym, ap, ◌∙◌, subst}
use mathlib.Core.List.{List, [], ◌∷◌}
use native.Mathlib.Omega.{arith}
use lib.Dec.{eqb}
use lib.ListN.{length}
use borrow.Author.Tests.{eq-eqb, ne_eqb}
use Rattle.rules.specs.Sizes.{Settings, leader}
use Rattle.rules.specs.Messages.{Effect, to_one, status, effect, outgoing, size}
use Rattle.rules.specs.Words.{Certificate, highest, State}
use Rattle.rules.specs.Inputs.{saying, entering, next_lock, report, entered}
use Rattle.laws.proofs.Tests.{by_bool}
use Rattle.laws.proofs.Allowed.{leader_lt}
use Rattle.outgoing.specs.Wrote.{Says}
use Rattle.outgoing.proofs.Writing.{says_none, says_one}
use Rattle.fields.specs.Names.{name_of}
use Rattle.settings.specs.Made.{settings_of}
use Rattle.store.specs.Decode.{tallies, state_from, state_of, Left}
use Rattle.store.specs.Meaning.{Loads}
use Rattle.store.specs.declared.Station.{Station}
use Rattle.words.specs.declared.Certificate as code
use Rattle.store.proofs.Loaded.{loaded_settings, loaded_view}
use Rattle.kept.proofs.Facts.{sizes_of}
use Rattle.laws.proofs.Lengths.{weight, length_effect, bytes_cons, bytes_none}
use Rattle.words.specs.Meaning.{block_of}
use Rattle.acts.specs.Works.{Formed, Works}
use Rattle.acts.proofs.Votes.{loaded_own}
use Rattle.acts.proofs.Works.{formed_parts, works_saying}

status_weight : (i h b c m : ℕ) → weight (to_one i (status h b c m)) ≡ 62
unfolding weight size
status_weight i h b c m = refl

pub status_bytes : (i h b c m : ℕ) → length (effect (to_one i (status h b c m))) ≡ 62
unfolding weight size
status_bytes i h b c m = length_effect (to_one i (status h b c m))

module _ (s : State) (v : ℕ) (t : Certificate) (l : ℕ) (ev : v ≡ s.view + 1) (et : t ≡ highest s.settings v s.tallies) (el : l ≡ leader s.settings v) where
  lock_is : t ≡ next_lock s
  unfolding next_lock
  lock_is = et ∙ ap (λ (w : ℕ). highest s.settings w s.tallies) ev

  leader_is : leader s.settings (s.view + 1) ≡ l
  leader_is = sym (el ∙ ap (leader s.settings) ev)

  report_none : l ≡ s.settings.own → report s ≡ []
  unfolding report
  report_none q = rw (eq-eqb (leader s.settings (s.view + 1)) s.settings.own (leader_is ∙ q), report)

  report_one : (l ≡ s.settings.own → ⊥) → report s ≡ to_one l (status t.height t.name t.view t.mask) ∷ []
  unfolding report
  report_one d =
      let n = next_lock s in
      let e : ◌≡◌ {A = List Effect} (report s) (to_one (leader s.settings (s.view + 1)) (status n.height n.name n.view n.mask) ∷ []) =
      rw (ne_eqb (leader s.settings (s.view + 1)) s.settings.own (λ q. d (sym leader_is ∙ q)), report) in
      e ∙ (λ i. to_one (leader_is i) (status (sym lock_is i).height (sym lock_is i).name (sym lock_is i).view (sym lock_is i).mask) ∷ [])

  module _ {b' : List ℕ} (k : Left b' (entering v t s)) where
    left_entered : Left b' (entering (s.view + 1) (next_lock s) s)
    left_entered = record { form = k.form; is = k.is ∙ (λ i. entering (ev i) (lock_is i) s) }

    entered_as_leader : (o : List ℕ) (at : ℕ) → l ≡ s.settings.own → Works (entered s) o at b' o at
    unfolding entered outgoing
    entered_as_leader o at q = works_saying (report s) left_entered (subst (λ (es : List Effect). Says o at (outgoing es) o at) (sym (report_none q)) (says_none o at))

    entered_with_status : {o o' : List ℕ} {at r : ℕ} → (l ≡ s.settings.own → ⊥) → Says o at (effect (to_one l (status t.height t.name t.view t.mask))) o' r
        → Works (entered s) o at b' o' r
    unfolding entered
    entered_with_status {o} {o'} {at} {r} d p =
        works_saying (report s) left_entered
        (subst (λ (es : List Effect). Says o at (outgoing es) o' r) (sym (report_one d)) (says_one o at (to_one l (status t.height t.name t.view t.mask)) o' r p))

-- ---- by the loaded numbers

module _ {b : List ℕ} (k : Formed b) (s : Station) (e : Loads s b) (t : code.Certificate) (h : block_of t ≡ highest (state_of b).settings (s.view + 1) (tallies b))
    (l : ℕ) (el : l ≡ leader (settings_of s.settings) (s.view + 1)) where
  leader_loaded : l ≡ leader (state_of b).settings (s.view + 1)
  leader_loaded = el ∙ ap (λ (g : Settings). leader g (s.view + 1)) (loaded_settings s b e)

  view_next : s.view + 1 ≡ (state_of b).view + 1
  view_next = ap (◌+ 1) (loaded_view s b e)

  pub leader_small : l < 2 ^ 8
  leader_small = let z = sizes_of (formed_parts k).formed in omega (arith, leader_loaded, leader_lt (s.view + 1) z)

  module _ {b' : List ℕ} (left : Left b' (entering (s.view + 1) (block_of t) (state_of b))) where
    pub goes_as_leader : (o : List ℕ) (at : ℕ) → l ≡ s.settings.own → Works (entered (state_of b)) o at b' o at
    unfolding state_of state_from
    goes_as_leader o at q = entered_as_leader (state_of b) (s.view + 1) (block_of t) l view_next h leader_loaded left o at (q ∙ loaded_own k s e)

    pub goes_with_status : {o o' : List ℕ} {at r : ℕ} → (l ≡ s.settings.own → ⊥) → Says o at (effect (to_one l (status t.height (name_of t.name) t.view t.mask))) o' r
        → Works (entered (state_of b)) o at b' o' r
    unfolding state_of state_from block_of
    goes_with_status d p = entered_with_status (state_of b) (s.view + 1) (block_of t) l view_next h leader_loaded left (λ q. d (q ∙ sym (loaded_own k s e))) p

-- how far the status goes
pub report_ends : {b' o o' : List ℕ} {at r : ℕ} (s : State) → Works (entered s) o at b' o' r → r ≤ at + 62
unfolding entered saying report outgoing
report_ends s w =
    let to = leader s.settings (s.view + 1) in
    let t = next_lock s in
    let h : length (outgoing (report s)) ≤ 62 =
    by_bool (eqb to s.settings.own) (λ q. rw (q, report) (omega (arith, bytes_none)))
    (λ q. rw (q, report) (omega (arith, bytes_cons (to_one to (status t.height t.name t.view t.mask)) [], bytes_none, status_weight to t.height t.name t.view t.mask))) in
    omega (arith, w.says.ends)
