-- "The checker must accept it": the slip that is written of any logged block, out of any well-formed store, is accepted, and its
-- entries are the chain of the log. Assumes nothing.
use Prim.Native.Nat.{ℕ, zero, suc, ◌+◌, ◌-◌, ◌%◌, ◌^◌, ◌<◌, ◌≤◌}
use mathlib.Core.Path.{◌≡◌, refl, sym, ap, ap₂, subst, ◌∙◌}
use mathlib.Core.Bool.{Bool, true, false, not, ◌&&◌}
use mathlib.Core.List.{List, [], ◌∷◌, map}
use mathlib.Core.Option.{Option, some, some-injective}
use native.Mathlib.Omega.{arith}
use native.Mathlib.Nat.{add-zero, zero-add}
use lib.ListN.{length, get_or}
use lib.Dec.{eqb, lit≤}
use borrow.Author.Tests.{eqb-true, eq-eqb, lt-ltb}
use Rattle.rules.specs.Limits.{Size, least_stations, most_stations, least_delay, most_delay}
use Rattle.rules.specs.Lists.{first, any, all}
use Rattle.rules.specs.Messages.{Message, new_view, propose, vote, blame, blame_set, status, allowed, view_allowed, mask_allowed, certificate_allowed}
use Rattle.rules.specs.Sizes.{Settings, good_settings, leader, quorum}
use Rattle.rules.specs.Words.{Statement, message, State}
use Rattle.rules.specs.WellFormed.{is_name, statement_good, linked, well_formed}
use Rattle.laws.proofs.Allowed.{sizes, le_within, name_lt}
use Rattle.laws.proofs.Searches.{first_none}
use Rattle.laws.proofs.Tests.{by_bool, by_option, no_bool, no_some, and_left, and_right}
use Rattle.kept.specs.Parts.{WellFormed}
use Rattle.kept.proofs.WellFormed.{parts}
use Rattle.kept.proofs.Logs.{linked_cons}
use Rattle.groups.specs.Groups.{size_of_kind, stations, group}
use Rattle.linked.specs.Links.{is_link}
use Rattle.slip.specs.Slips.{is_entry, follows, is_chain, is_slip, slip_bytes, accepted, judged, answer_of, checked}
use Rattle.slip.proofs.Judging.{group_good}
use Rattle.slip_writer.specs.Writer.{logged_at, height_from, log_chain, slip_of}
use Rattle.slip_writer.proofs.Chains.{looked_up}
use Rattle.shown.proofs.Passing.{Named, passes}
use Rattle.shown.proofs.Showing.{certified_by}

-- a message is held against n and the limits alone
same_allowed : (g : Settings) (m : Message) → allowed g m ≡ allowed (stations g.n g.size) m
unfolding allowed view_allowed mask_allowed certificate_allowed leader quorum
same_allowed g (new_view v h b c m a) = refl
same_allowed g (propose v h b p m a) = refl
same_allowed g (vote v h b a) = refl
same_allowed g (blame v a) = refl
same_allowed g (blame_set v m) = refl
same_allowed g (status h b c m) = refl

group_is : (k n : ℕ) (z : Size) → size_of_kind k ≡ some z → good_settings (stations n z) ≡ true → group k n ≡ some (stations n z)
unfolding group
group_is k n z e q = rw (e, group, q)

-- each logged name has its propose, above the name before it
before : ℕ → List ℕ → ℕ → ℕ
before p l zero = p
before p l (suc i) = get_or l i 0

before_cons : (p b : ℕ) (l : List ℕ) (i : ℕ) → before b l i ≡ before p (b ∷ l) (suc i)
unfolding before
before_cons p b l zero = refl
before_cons p b l (suc i) = refl

linked_at : (xs : List Statement) (h p : ℕ) (l : List ℕ) (i : ℕ) → linked xs h p l ≡ true → i < length l → any (is_link (suc (h + i)) (get_or l i 0) (before p l i)) xs ≡ true
unfolding is_link before
linked_at xs h p [] i e k = absurd (omega arith)
linked_at xs h p (b ∷ l) zero e k = subst (λ (n : ℕ). any (is_link (suc n) b p) xs ≡ true) (sym (add-zero h)) (linked_cons xs h p b l e).0
linked_at xs h p (b ∷ l) (suc i) e k =
    let r = linked_at xs (suc h) b l i (linked_cons xs h p b l e).1 (omega arith) in
    let z : suc h + i ≡ h + suc i = omega arith in
    ap₂ (λ (n m : ℕ). any (is_link (suc n) (get_or l i 0) m) xs) (sym z) (sym (before_cons p b l i)) ∙ r

logged_before : (l : List ℕ) (h : ℕ) → before 0 l h ≡ logged_at l h
unfolding before logged_at
logged_before l zero = refl
logged_before l (suc h) = refl

logged_suc : (l : List ℕ) (h : ℕ) → logged_at l (suc h) ≡ get_or l h 0
unfolding logged_at
logged_suc l h = refl

first_all : {A : Type 0} (p q : A → Bool) (xs : List A) (x : A) → all q xs ≡ true → first p xs ≡ some x → q x ≡ true
unfolding first all
first_all p q [] x a e = no_some e
first_all p q (y ∷ ys) x a e =
    by_bool (p y) (λ t. subst (λ z. q z ≡ true) (some-injective y x (rw (t, first) at e)) (and_left (q y) (all q ys) a))
    (λ t. first_all p q ys x (and_right (q y) (all q ys) a) (rw (t, first) at e))

-- the names of the log from a height down
pub names_down : List ℕ → ℕ → List ℕ
names_down l zero = []
names_down l (suc h) = logged_at l (suc h) ∷ names_down l h

height_at : (b i : ℕ) (l : List ℕ) (h : ℕ) → height_from (suc i) b l ≡ some h → (j : ℕ) × (h ≡ suc (i + j)) × (j < length l) × (get_or l j 0 ≡ b)
unfolding height_from
height_at b i [] h e = no_some e
height_at b i (c ∷ l) h e =
    by_bool (eqb b c)
    (λ q. (0, sym (some-injective (suc i) h (rw (q, height_from) at e)) ∙ omega arith, omega arith, sym (eqb-true b c q)))
    (λ q. let t = height_at b (suc i) l h (rw (q, height_from) at e) in (suc t.0, t.1 ∙ omega arith, omega (arith, t.2), t.3))

module _ (s : State) (w : well_formed s ≡ true) where
  abbrev g : Settings
  g = stations s.settings.n s.settings.size

  abbrev xs : List Statement
  xs = s.statements

  abbrev l : List ℕ
  l = s.log

  formed : WellFormed s
  formed = parts s w

  good : good_settings g ≡ true
  unfolding good_settings
  good =
      let z = sizes s.settings formed.formed.settings in
      rw (eq-eqb (s.settings.n % 2) 1 z.odd, le_within least_stations most_stations s.settings.n z.least z.most, lt-ltb 0 s.settings.n (omega (arith, z.least)))
      (le_within least_delay most_delay least_delay (lit≤ tt) (lit≤ tt))

  -- a stored propose is an entry, and its names are names
  stored_entry : (p : Statement → Bool) (x : Statement) → first p xs ≡ some x → x.is_new_view ≡ false → (is_entry g x ≡ true) × (x.name < 256 ^ 32) × (x.link < 256 ^ 32)
  unfolding statement_good is_entry
  stored_entry p x e n =
      let t = first_all p (statement_good s) xs x formed.formed.tables.statements e in
      let u = and_left (allowed s.settings (message x) && is_name x.name && is_name x.link) _ t in
      let v = and_left (allowed s.settings (message x) && is_name x.name) (is_name x.link) u in
      let a = and_left (allowed s.settings (message x)) (is_name x.name) v in (
        ap₂ (λ (i j : Bool). i && j) (ap not n) (sym (same_allowed s.settings (message x)) ∙ a),
        name_lt x.name (and_right (allowed s.settings (message x)) (is_name x.name) v),
        name_lt x.link (and_right (allowed s.settings (message x) && is_name x.name) (is_name x.link) u),
      )

  -- the propose that is looked up at a height of the log
  at_height : (h : ℕ) → suc h ≤ length l → (x : Statement) × (first (is_link (suc h) (logged_at l (suc h)) (logged_at l h)) xs ≡ some x)
  at_height h k =
      let p = is_link (suc h) (logged_at l (suc h)) (logged_at l h) in
      let a : any p xs ≡ true =
      ap₂ (λ (m n : ℕ). any (is_link (suc m) (logged_at l (suc h)) n) xs) (sym (zero-add h)) (sym (logged_before l h))
      ∙ ap (λ (m : ℕ). any (is_link (suc (0 + h)) m (before 0 l h)) xs) (logged_suc l h) ∙ linked_at xs 0 0 l h formed.formed.tables.log (omega arith) in
      by_option (first p xs) (λ q. no_bool (sym a ∙ first_none p xs q)) (λ x q. (x, q))

  -- the chain from a height down
  record Chain (h : ℕ) : Type 0 where
    top : Statement
    rest : List Statement
    is : log_chain xs l (suc h) ≡ top ∷ rest
    name_is : top.name ≡ logged_at l (suc h)
    height_is : top.height ≡ suc h
    chain : is_chain g top rest ≡ true
    named : Named (top ∷ rest)
    long : length rest ≡ h
    names_are : map (λ (x : Statement). x.name) (top ∷ rest) ≡ names_down l (suc h)

  chained : (h : ℕ) → suc h ≤ length l → Chain h
  unfolding log_chain is_chain follows names_down
  chained zero k =
      let (x, q) = at_height zero k in
      let t = looked_up 1 (logged_at l 1) (logged_at l 0) xs x q in
      let e = stored_entry (is_link 1 (logged_at l 1) (logged_at l 0)) x q t.0 in
      record {
        top = x;
        rest = [];
        is = rw (q, log_chain);
        name_is = sym t.2;
        height_is = sym t.1;
        chain = rw (e.0, eq-eqb x.height 1 (sym t.1));
        named = (e.1, e.2, tt);
        long = refl;
        names_are = ap (◌∷ []) (sym t.2);
      }
  chained (suc h) k =
      let (x, q) = at_height (suc h) k in
      let t = looked_up (suc (suc h)) (logged_at l (suc (suc h))) (logged_at l (suc h)) xs x q in
      let e = stored_entry (is_link (suc (suc h)) (logged_at l (suc (suc h))) (logged_at l (suc h))) x q t.0 in
      let r = chained h (omega arith) in
      let y = r.top in
      let n : x.link ≡ y.name = sym t.3 ∙ sym r.name_is in
      let i : x.height ≡ suc y.height = sym t.1 ∙ ap suc (sym r.height_is) in
      record {
        top = x;
        rest = y ∷ r.rest;
        is = rw (q, log_chain) (ap (x ∷◌) r.is);
        name_is = sym t.2;
        height_is = sym t.1;
        chain = rw (e.0, eq-eqb x.link y.name n, eq-eqb x.height (suc y.height) i, certified_by g x y e.0 n i, r.chain);
        named = (e.1, e.2, r.named);
        long = ap suc r.long;
        names_are = ap₂ ◌∷◌ (sym t.2) r.names_are;
      }

  -- the slip of a logged name, as any host checks it: accepted, with as many entries as the block is high, named as the log is
  pub record Accepts (b k : ℕ) (bs : List ℕ) : Type 0 where
    pub height : ℕ
    pub logged : height_from 1 b l ≡ some height
    pub passes_as : checked k s.settings.n bs ≡ height
    pub names_are : map (λ (x : Statement). x.name) (log_chain xs l height) ≡ names_down l height

  pub accepts : (b k : ℕ) (bs : List ℕ) → size_of_kind k ≡ some s.settings.size → slip_of b s ≡ some bs → Accepts b k bs
  unfolding slip_of is_slip answer_of
  accepts b k bs z e =
      by_option (height_from 1 b l) (λ q. no_some (rw (q, slip_of) at e)) λ h q.
      let (j, i, m, o) = height_at b 0 l h q in
      let i' : h ≡ suc j = i ∙ ap suc (zero-add j) in
      let c = chained j (omega arith) in
      let d : log_chain xs l h ≡ c.top ∷ c.rest = ap (log_chain xs l) i' ∙ c.is in
      let t : bs ≡ slip_bytes b (c.top ∷ c.rest) = sym (some-injective (slip_bytes b (log_chain xs l h)) bs (rw (q, slip_of) at e)) ∙ ap (slip_bytes b) d in
      let n : b ≡ c.top.name = sym (c.name_is ∙ logged_suc l j ∙ o) in
      let v : judged g bs ≡ accepted (suc (length c.rest)) = ap (judged g) t ∙ passes g good b (c.top ∷ c.rest) (rw (eq-eqb b c.top.name n) c.chain) c.named in
      record {
        height = h;
        logged = q;
        passes_as = sym (group_good k s.settings.n bs (grouped k z) (sym v)) ∙ omega (arith, c.long, i');
        names_are = ap (map (λ (x : Statement). x.name)) d ∙ c.names_are ∙ ap (names_down l) (sym i');
      }
    where
      grouped : (k : ℕ) → size_of_kind k ≡ some s.settings.size → group k s.settings.n ≡ some g
      grouped k z = group_is k s.settings.n s.settings.size z good
