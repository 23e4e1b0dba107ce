-- A sound leader never contradicts itself, where nobody forges statements under its number: what any sound station stores of the view it
-- stores itself, nothing of it before the clock of its new-view, and at no moment two that conflict. It uses no delivery. Assumes nothing.
use mathlib.Core.Path.{◌≡◌, subst, refl, sym, ap, ◌∙◌}
use Prim.Native.Nat.{ℕ, zero, suc, ◌+◌, ◌*◌, ◌≤◌, ◌<◌}
use native.Mathlib.Omega.{arith}
use mathlib.Core.Bool.{Bool, true, false}
use mathlib.Core.List.{List, [], ◌∷◌, ◌++◌}
use mathlib.Core.Logic.{◌⊎◌, inl, inr}
use mathlib.Core.Option.{none, some}
use lib.ListN.{get_or}
use borrow.Author.Tests.{eqb-true}
use Rattle.rules.specs.Lists.{first, any}
use Rattle.rules.specs.Sizes.{Settings, leader}
use Rattle.rules.specs.Messages.{Message, kind, values, read, allowed}
use Rattle.rules.specs.Words.{Statement, message, same_statement, against, conflict, State, fresh}
use Rattle.rules.specs.Inputs.{is_in, leads, top, above, offered, leads_now, own_new_view}
use Rattle.laws.proofs.Tests.{by_bool, by_option, no_bool}
use Rattle.laws.proofs.Truths.{and_2, or_2}
use Rattle.laws.proofs.Searches.{any_append, first_any, first_mem}
use Rattle.laws.proofs.Statements.{like, same_like, same_refl, In, mem_in, in_cong, Clean, clean_append, no_conflict_against}
use Rattle.laws.proofs.Allowed.{allowed_rights}
use Rattle.laws.proofs.Offers.{top_mem, offer_made}
use Rattle.laws.proofs.Made.{made_clean, led_clean}
use Rattle.laws.proofs.Leads.{leads_at}
use Rattle.agreement.specs.Schedule.{Event, common_tick, given, ticks, at, run, Genuine, NoForgery}
use Rattle.agreement.proofs.Events.{begun, begun_same}
use Rattle.agreement.proofs.Clock.{clock_suc, clock_mono}
use Rattle.agreement.proofs.Group.{Group, st, ck, Ok, G, at_settings, begun_at, kept_run, said_held}
use Rattle.progress.proofs.Tick.{Same, stated}
use Rattle.progress.proofs.New.{Newly, handed, led, made, Change, event_change}
use Rattle.progress.proofs.Entries.{begun_entry, Remains, entry_run}

-- a statement is stored when the same is with another mask
stored_like : (xs : List Statement) (w : Statement) (k : Bool) → w.is_new_view ≡ k → (m : ℕ) → In xs (stated k w.view w.height w.name w.link m w.author) → In xs w
stored_like xs w k e m h =
    in_cong w (like w m none) (same_refl w m none) xs ∙ subst (λ (b : Bool). In xs (stated b w.view w.height w.name w.link m w.author)) (sym e) h

-- what is in a table with one more is in it, or is that one
in_more : (xs : List Statement) (w x : Statement) → In (xs ++ w ∷ []) x → In xs x ⊎ (same_statement x w ≡ true)
in_more xs w x h = or_2 (any (same_statement x) xs) (same_statement x w) (sym (any_append (same_statement x) xs w) ∙ h)

-- what an offer makes: a propose of the view, one above the top
above_fields : (x w : Statement) (b : ℕ) (s : State) → above x b s ≡ message w → (w.is_new_view ≡ false) × (w.view ≡ s.view) × (w.height ≡ x.height + 1)
unfolding above message kind values
above_fields x w b s e =
    by_bool w.is_new_view
    (λ q. let n : 2 ≡ 1 = ap kind (rw (q, message) at e) in absurd (omega arith))
    (λ q. let f = rw (q, message) at e in (q, sym (ap (λ (m : Message). get_or (values m) 0 0) f), sym (ap (λ (m : Message). get_or (values m) 1 0) f)))

own_fields : (w : Statement) (u : State) → message w ≡ own_new_view u → (w.is_new_view ≡ true) × (w.view ≡ u.view)
unfolding own_new_view message kind values
own_fields w u e =
    by_bool w.is_new_view
    (λ q. let f = rw (q, message) at e in (q, ap (λ (m : Message). get_or (values m) 0 0) f))
    (λ q. let n : 2 ≡ 1 = ap kind (rw (q, message) at e) in absurd (omega arith))

-- two new-views of a view that don't conflict are the same
pub one_new_view : (x y : Statement) → conflict x y ≡ false → y.view ≡ x.view → x.is_new_view ≡ true → y.is_new_view ≡ true → same_statement x y ≡ true
unfolding against
one_new_view x y c v p q =
    by_bool (same_statement x y) (λ s. s) (λ s. no_bool (rw (p, q) at (no_conflict_against x y c v s).0))

-- the leader of a view, the same at every station
abbrev pub L : Group → ℕ → ℕ
L X v = leader (G X 0) v

module _ (X : Group) (genuine : NoForgery (run X.size X.n X.D X.event) X.faulty) (v : ℕ) (ok : Ok X (L X v)) where
  open X use {size, n, D, faulty, event, next, parent_of}

  pub tick_clock : (k : ℕ) → event k ≡ common_tick → ck X (suc k) ≡ ck X k + 1
  tick_clock k e = clock_suc event k ∙ ap (λ (y : Event). ck X k + ticks 0 y) e ∙ (unfold ticks in refl)

  -- who leads v is L
  leads_chief : (i : ℕ) (s : State) → s.settings ≡ G X i → leads s ≡ true → s.view ≡ v → i ≡ (L X v)
  unfolding leads leader
  leads_chief i s g l w =
      let e = eqb-true (leader s.settings s.view) s.settings.own (and_2 (is_in s.view s) _ l).1 in
      sym (sym (ap (λ (y : ℕ). leader (G X i) y) w) ∙ (rw g at e))

  -- ---- what is handed over of v, L said before

  handed_said : (i : ℕ) → Ok X i → (k : ℕ) (bs : List ℕ) (w : Statement) → event k ≡ given i bs → read bs ≡ some (message w)
      → allowed (st X i k).settings (message w) ≡ true → w.view ≡ v → In (st X (L X v) k).statements w
  unfolding message leader
  handed_said i hi k bs w e r a q =
      let al = subst (λ (g : Settings). allowed g (message w) ≡ true) (at_settings X i hi k) a in
      go w.is_new_view refl al (genuine k i (message w) (hi, (bs, e, r), al))
    where
      go : (b : Bool) → w.is_new_view ≡ b → allowed (G X i) (message w) ≡ true → Genuine (run size n D event) faulty k (message w) → In (st X (L X v) k).statements w
      go true p al g =
          let by : w.author ≡ (L X v) = (allowed_rights (G X i) _ (rw (p, message) at al)).4 ∙ ap (λ (y : ℕ). leader (G X 0) y) q in
          let (l, u, (m, s)) = (rw (p, message) at g).1 (subst (Ok X) (sym by) ok) in
          let ha = subst (Ok X) (sym by) ok in
          subst (λ (y : ℕ). In (st X y k).statements w) by
          (stored_like (st X w.author k).statements w true p m ((kept_run X w.author ha (suc l) k u).has _ (said_held X w.author ha l _ s)))
      go false p al g =
          let by : w.author ≡ (L X v) = (allowed_rights (G X i) _ (rw (p, message) at al)).5 ∙ ap (λ (y : ℕ). leader (G X 0) y) q in
          let (l, u, (m, s)) = (rw (p, message) at g).1 (subst (Ok X) (sym by) ok) in
          let ha = subst (Ok X) (sym by) ok in
          subst (λ (y : ℕ). In (st X y k).statements w) by
          (stored_like (st X w.author k).statements w false p m ((kept_run X w.author ha (suc l) k u).has _ (said_held X w.author ha l _ s)))

  -- ---- one event

  change : (i : ℕ) → Ok X i → (k : ℕ) → Change i (event k) (st X i k) (st X i (suc k))
  unfolding at
  change i hi k = event_change i (event k) (st X i k) (X.common k) (X.runs i hi (suc k))

  has_on : (i : ℕ) → Ok X i → (k : ℕ) (x : Statement) → In (st X i k).statements x → In (st X i (suc k)).statements x
  has_on i hi k = (kept_run X i hi k (suc k) (omega arith)).has

  same_view : (x w : Statement) → same_statement x w ≡ true → w.view ≡ x.view
  same_view x w s = ap (λ (y : Statement). y.view) (same_like x w s)

  -- an own new-view of v: at the clock 2D+1 after the entry
  led_facts : (i : ℕ) → Ok X i → (k : ℕ) (u : State) (w : Statement) → event k ≡ common_tick → leads_now u ≡ true → Same (begun common_tick (st X i k)) u → message w ≡ own_new_view u → w.view ≡ v
      → (i ≡ (L X v)) × ((st X i k).view ≡ v) × (ck X (suc k) ≡ (st X i k).entry + 2 * D + 1)
  led_facts i hi k u w e l m f q =
      let b = begun_same common_tick (st X i k) in
      let g : u.settings ≡ G X i = m.settings ∙ b.0 ∙ at_settings X i hi k in
      let uv : u.view ≡ v = sym (own_fields w u f).1 ∙ q in
      let (ld, c) = leads_at u l in
      let d : u.settings.D ≡ D = ap (λ (y : Settings). y.D) g in
      let en : u.entry ≡ (st X i k).entry = m.entry ∙ begun_entry common_tick (st X i k) in
      let now : u.clock ≡ ck X (suc k) = m.clock ∙ ap (λ (y : Event). (begun y (st X i k)).clock) (sym e) ∙ begun_at X i hi k in
      (leads_chief i u g ld uv, sym b.2 ∙ sym m.view ∙ uv, sym now ∙ c ∙ ap (λ (y : ℕ). y + 2 * u.settings.D + 1) en ∙ ap (λ (y : ℕ). (st X i k).entry + 2 * y + 1) d)

  -- an offer of v: above one that is stored
  made_facts : (i : ℕ) → Ok X i → (k b : ℕ) (w : Statement) → offered b (st X i k) ≡ some (message w) → w.view ≡ v
      → (i ≡ (L X v)) × ((st X i k).view ≡ v) × (w.is_new_view ≡ false) × ((y : Statement) × In (st X i k).statements y × (y.view ≡ v) × (w.height ≡ y.height + 1))
  made_facts i hi k b w e q =
      let s = st X i k in
      let (x, t, l, o, z, p, f) = offer_made b s (message w) e in
      let (n, wv, h) = above_fields x w b s f in
      let sv : s.view ≡ v = sym wv ∙ q in
      let (m, xv) = top_mem s.view s.statements x t in
      (leads_chief i s (at_settings X i hi k) l sv, sv, n, (x, mem_in s.statements x m, xv ∙ sv, h))

  -- ---- what a sound station stores of v, L stores

  abbrev Source : (i k : ℕ) → Type 0
  Source i k = (x : Statement) → In (st X i k).statements x → x.view ≡ v → In (st X (L X v) k).statements x

  source_on : (i : ℕ) → Ok X i → (k : ℕ) → Source i k → Source i (suc k)
  source_on i hi k before x h q = go (change i hi k)
    where
      old : In (st X i k).statements x → In (st X (L X v) (suc k)).statements x
      old a = has_on (L X v) ok k x (before x a q)

      mine : i ≡ (L X v) → In (st X (L X v) (suc k)).statements x
      mine e = subst (λ (y : ℕ). In (st X y (suc k)).statements x) e h

      fresh_one : (w : Statement) → same_statement x w ≡ true → Newly i (event k) (st X i k) w → In (st X (L X v) (suc k)).statements x
      fresh_one w s (handed bs e r a) =
          in_cong x w s (st X (L X v) (suc k)).statements ∙ has_on (L X v) ok k w (handed_said i hi k bs w e r a (same_view x w s ∙ q))
      fresh_one w s (led u e l m f) = mine (led_facts i hi k u w e l m f (same_view x w s ∙ q)).0
      fresh_one w s (made b e f) = mine (made_facts i hi k b w f (same_view x w s ∙ q)).0

      new : (w : Statement) → Newly i (event k) (st X i k) w → In (st X i k).statements x ⊎ (same_statement x w ≡ true) → In (st X (L X v) (suc k)).statements x
      new w f (inl a) = old a
      new w f (inr s) = fresh_one w s f

      go : Change i (event k) (st X i k) (st X i (suc k)) → In (st X (L X v) (suc k)).statements x
      go (inl f) = old (f x h)
      go (inr (w, f, g)) = new w f (in_more (st X i k).statements w x (g x h))

  pub source : (i : ℕ) → Ok X i → (k : ℕ) → Source i k
  unfolding at fresh any
  source i hi zero = λ x h q. no_bool (sym h)
  source i hi (suc k) = source_on i hi k (source i hi k)

  -- ---- L stores nothing of v before the clock of its new-view

  abbrev Late : ℕ → Type 0
  Late k = (v ≤ (st X (L X v) k).view) × ((st X (L X v) k).view ≡ v → (st X (L X v) k).entry + 2 * D + 1 ≤ ck X k)

  late_on : (k : ℕ) → Late k → Late (suc k)
  late_on k (a, b) = go (entry_run X (L X v) ok k (suc k) (omega arith))
    where
      go : Remains (st X (L X v) k) (st X (L X v) (suc k)) ⊎ (((st X (L X v) k).view < (st X (L X v) (suc k)).view) × (ck X (suc k) ≤ (st X (L X v) (suc k)).entry)) → Late (suc k)
      go (inl (w, e, _)) = (omega arith, λ q. let c = b (sym w ∙ q) in let m = clock_mono event k (suc k) (omega arith) in omega arith)
      go (inr (w, e)) = (omega arith, λ q. absurd (omega arith))

  abbrev Early : ℕ → Type 0
  Early k = (x : Statement) → In (st X (L X v) k).statements x → x.view ≡ v → Late k

  early_on : (k : ℕ) → Early k → Early (suc k)
  early_on k before x h q = go (change (L X v) ok k)
    where
      led_late : (st X (L X v) k).view ≡ v → ck X (suc k) ≡ (st X (L X v) k).entry + 2 * D + 1
          → Remains (st X (L X v) k) (st X (L X v) (suc k)) ⊎ (((st X (L X v) k).view < (st X (L X v) (suc k)).view) × (ck X (suc k) ≤ (st X (L X v) (suc k)).entry)) → Late (suc k)
      led_late a c (inl (w, e, _)) = (omega arith, λ p. omega arith)
      led_late a c (inr (w, e)) = (omega arith, λ p. absurd (omega arith))

      fresh_one : (w : Statement) → w.view ≡ v → Newly (L X v) (event k) (st X (L X v) k) w → Late (suc k)
      fresh_one w p (handed bs e r a) = late_on k (before w (handed_said (L X v) ok k bs w e r a p) p)
      fresh_one w p (led u e l m f) = let (_, a, c) = led_facts (L X v) ok k u w e l m f p in led_late a c (entry_run X (L X v) ok k (suc k) (omega arith))
      fresh_one w p (made b e f) = let (_, _, _, (y, a, yv, _)) = made_facts (L X v) ok k b w f p in late_on k (before y a yv)

      new : (w : Statement) → Newly (L X v) (event k) (st X (L X v) k) w → In (st X (L X v) k).statements x ⊎ (same_statement x w ≡ true) → Late (suc k)
      new w f (inl a) = late_on k (before x a q)
      new w f (inr s) = fresh_one w (same_view x w s ∙ q) f

      go : Change (L X v) (event k) (st X (L X v) k) (st X (L X v) (suc k)) → Late (suc k)
      go (inl f) = late_on k (before x (f x h) q)
      go (inr (w, f, g)) = new w f (in_more (st X (L X v) k).statements w x (g x h))

  pub early : (k : ℕ) → Early k
  unfolding at fresh any
  early zero = λ x h q. no_bool (sym h)
  early (suc k) = early_on k (early k)

  -- ---- no two that L stores of v conflict, at any moment and in any phase

  -- what is stored conflicts with nothing stored
  stored_clean : (xs : List Statement) → Clean v xs → (w : Statement) → In xs w → w.view ≡ v → first (conflict w) xs ≡ none
  stored_clean xs c w a q =
      by_option (first (conflict w) xs) (λ e. e)
      (λ z e. no_bool (sym (first_any (conflict w) xs z e).1 ∙ c w z a (mem_in xs z (first_mem (conflict w) xs z e)) q))

  clean_on : (k : ℕ) → Clean v (st X (L X v) k).statements → Clean v (st X (L X v) (suc k)).statements
  clean_on k before x y a b h = go (change (L X v) ok k)
    where
      xs : List Statement
      xs = (st X (L X v) k).statements

      clash : (w : Statement) → Newly (L X v) (event k) (st X (L X v) k) w → w.view ≡ v → first (conflict w) xs ≡ none
      clash w (handed bs e r al) q = stored_clean xs before w (handed_said (L X v) ok k bs w e r al q) q
      clash w (led u e l m f) q =
          let (_, sv, c) = led_facts (L X v) ok k u w e l m f q in
          let t = tick_clock k e in
          led_clean (st X (L X v) k) w (q ∙ sym sv)
          (by_option (top (st X (L X v) k).view xs) (λ p. p) (λ y p.
          let (i, yv) = top_mem (st X (L X v) k).view xs y p in
          let late = (early k y (mem_in xs y i) (yv ∙ sv)).1 sv in
          absurd (omega arith)))
      clash w (made d e f) q =
          let (_, sv, _, _) = made_facts (L X v) ok k d w f q in
          made_clean d (st X (L X v) k) w (λ p. subst (λ (z : ℕ). Clean z xs) (sym sv) before) f

      go : Change (L X v) (event k) (st X (L X v) k) (st X (L X v) (suc k)) → conflict x y ≡ false
      go (inl f) = before x y (f x a) (f y b) h
      go (inr (w, f, g)) = clean_append v xs w before (clash w f) x y (g x a) (g y b) h

  pub leader_clean : (k : ℕ) → Clean v (st X (L X v) k).statements
  unfolding at fresh any
  leader_clean zero = λ x y a b h. no_bool (sym a)
  leader_clean (suc k) = clean_on k (leader_clean k)

  -- each propose of v that L stores stands one above a stored one of v
  abbrev Ladder : ℕ → Type 0
  Ladder k =
      (x : Statement) → In (st X (L X v) k).statements x → x.view ≡ v → x.is_new_view ≡ false
      → (y : Statement) × In (st X (L X v) k).statements y × (y.view ≡ v) × (x.height ≡ y.height + 1)

  ladder_on : (k : ℕ) → Ladder k → Ladder (suc k)
  ladder_on k before x h q p = go (change (L X v) ok k)
    where
      on : (z : Statement) → (y : Statement) × In (st X (L X v) k).statements y × (y.view ≡ v) × (z.height ≡ y.height + 1) → same_statement x z ≡ true
          → (y : Statement) × In (st X (L X v) (suc k)).statements y × (y.view ≡ v) × (x.height ≡ y.height + 1)
      on z (y, a, yv, e) s = (y, has_on (L X v) ok k y a, yv, sym (ap (λ (t : Statement). t.height) (same_like x z s)) ∙ e)

      old : In (st X (L X v) k).statements x → (y : Statement) × In (st X (L X v) (suc k)).statements y × (y.view ≡ v) × (x.height ≡ y.height + 1)
      old a = let (y, b, yv, e) = before x a q p in (y, has_on (L X v) ok k y b, yv, e)

      fresh_one : (w : Statement) → same_statement x w ≡ true → Newly (L X v) (event k) (st X (L X v) k) w
          → (y : Statement) × In (st X (L X v) (suc k)).statements y × (y.view ≡ v) × (x.height ≡ y.height + 1)
      fresh_one w s (handed bs e r a) = old (in_cong x w s (st X (L X v) k).statements ∙ handed_said (L X v) ok k bs w e r a (same_view x w s ∙ q))
      fresh_one w s (led u e l m f) = no_bool (sym (own_fields w u f).0 ∙ ap (λ (t : Statement). t.is_new_view) (same_like x w s) ∙ p)
      fresh_one w s (made b e f) = let (_, _, _, r) = made_facts (L X v) ok k b w f (same_view x w s ∙ q) in on w r s

      new : (w : Statement) → Newly (L X v) (event k) (st X (L X v) k) w → In (st X (L X v) k).statements x ⊎ (same_statement x w ≡ true)
          → (y : Statement) × In (st X (L X v) (suc k)).statements y × (y.view ≡ v) × (x.height ≡ y.height + 1)
      new w f (inl a) = old a
      new w f (inr s) = fresh_one w s f

      go : Change (L X v) (event k) (st X (L X v) k) (st X (L X v) (suc k)) → (y : Statement) × In (st X (L X v) (suc k)).statements y × (y.view ≡ v) × (x.height ≡ y.height + 1)
      go (inl f) = old (f x h)
      go (inr (w, f, g)) = new w f (in_more (st X (L X v) k).statements w x (g x h))

  pub ladder : (k : ℕ) → Ladder k
  unfolding at fresh any
  ladder zero = λ x h q p. no_bool (sym h)
  ladder (suc k) = ladder_on k (ladder k)
