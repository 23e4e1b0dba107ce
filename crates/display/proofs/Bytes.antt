-- What is shown, in bytes: the number of the vote says who is shown, one field follows another, and the out buffer has room for all. Assumes nothing.
use mathlib.Core.Path.{◌≡◌, refl, sym, ap, ap₂, subst, ◌∙◌}
use Prim.Native.Nat.{ℕ, suc, ◌+◌, ◌-◌, ◌*◌, ◌^◌, ◌<◌, ◌≤◌}
use mathlib.Core.Bool.{Bool, true, false, not, ◌&&◌}
use mathlib.Core.List.{List, [], ◌∷◌, ◌++◌, append_assoc, append-nil}
use mathlib.Core.Option.{Option, none, some}
use native.Mathlib.Omega.{arith}
use native.Mathlib.Nat.{zero-add}
use lib.Dec.{leb, eqb, lit<, lit≤}
use lib.ListN.{length, get_or, length-append}
use lib.IntN.{sub_ℕ}
use borrow.Author.Tests.{le-leb, lt-leb, lt-ltb, le-ltb}
use Rattle.rules.specs.Limits.{Size, small, large, most_statements, least_out}
use Rattle.rules.specs.Lists.{unbe, within}
use Rattle.rules.specs.Messages.{field}
use Rattle.rules.specs.Words.{Statement, in_view, State}
use Rattle.rules.specs.Inputs.{is_in}
use Rattle.rules.specs.Display.{Shown, is_logged, is_shown, due_clock, shown, showing, showing_all, display, twos, entry, entries}
use Rattle.laws.proofs.Tests.{by_bool, by_option}
use Rattle.laws.proofs.Bytes.{length_unbe}
use Rattle.fields.specs.Places.{put}
use Rattle.wire.specs.Fields.{head}
use Rattle.outgoing.specs.Wrote.{Says}
use Rattle.laws.proofs.Lengths.{length_field}
use Rattle.outgoing.proofs.Writing.{says_none, says_both, put_says, field_says}
use Rattle.store.specs.Layout.{statement_table, log_table, count_of}
use Rattle.store.specs.Decode.{rows, statement_at, name_at, statements, names, state_from, state_of}
use Rattle.store.specs.Meaning.{course_of, Loads}
use Rattle.store.specs.declared.Station.{Station}
use Rattle.store.proofs.Loaded.{loaded_phase, loaded_view, loaded_clock}
use Rattle.store.proofs.Rows.{rows_append, rows_length, rows_at}
use Rattle.wire.specs.Meaning.{statement_of}
use Rattle.wire.specs.declared.Statement as code
use Rattle.fields.specs.Names.{name_of}
use Rattle.glance.specs.Votes.{vote_if, vote_in}
use Rattle.glance.proofs.Readers.{height_of_lem, name_of_lem}
use Rattle.glance.proofs.Seeing.{delay_is}
use Rattle.display.proofs.Shown.{not_voted, not_shown, is_shown_lem, shown_append, shown_one}

-- the out buffer has room for every stored statement
pub display_fits : (z : Size) → 47 * most_statements z ≤ least_out z
unfolding most_statements least_out
display_fits small = lit≤ tt
display_fits large = lit≤ tt

-- ---- in the log

module _ (b : List ℕ) (h n : ℕ) where
  names_length : length (names b) ≡ count_of log_table b
  unfolding names
  names_length = rows_length (name_at b) 0 (count_of log_table b)

  pub logged_zero : h ≡ 0 → false ≡ is_logged (names b) h n
  unfolding is_logged within
  logged_zero e = rw e

  pub logged_above : count_of log_table b < h → false ≡ is_logged (names b) h n
  unfolding is_logged within
  logged_above l = let k : length (names b) < h = omega (arith, names_length) in rw (lt-leb h (length (names b)) k) (sym (and_end (leb 1 h) _))
    where
      and_end : (a c : Bool) → (a && false && c) ≡ false
      and_end true c = refl
      and_end false c = refl

  pub logged_at_lem : {r : Bool} {m : ℕ} → (h ≡ 0 → ⊥) → h ≤ count_of log_table b → m ≡ name_at b (h - 1) → r ≡ eqb n m → r ≡ is_logged (names b) h n
  unfolding is_logged within names
  logged_at_lem {r} {m} z l q e =
      let a : 1 ≤ h = omega (arith, z) in
      let c : h ≤ length (names b) = omega (arith, names_length) in
      let g : get_or (names b) (h - 1) 0 ≡ name_at b (h - 1) = rows_at (name_at b) 0 0 (count_of log_table b) (h - 1) (omega arith) ∙ ap (name_at b) (zero-add (h - 1)) in
      e ∙ ap (eqb n) (q ∙ sym g) ∙ sym (rw (le-leb 1 h a, le-leb h (length (names b)) c))

-- ---- due clock minus present clock

module _ (due clock : ℕ) where
  pub left_now : clock ≤ due → due - clock ≡ twos (sub_ℕ due clock)
  unfolding twos
  left_now l = rw (le-ltb due clock l)

  pub left_over : (r : ℕ) → due < clock → clock ≤ r → r ≡ 2 ^ 64 - 1 → r - (clock - due - 1) ≡ twos (sub_ℕ due clock)
  unfolding twos
  left_over r l f e = rw (lt-ltb due clock l) (omega arith)

-- ---- what the number of a vote says

module _ (s : State) (x : Statement) (p : s.phase ≡ in_view) where
  abbrev of_view : Bool
  of_view = not x.is_new_view && eqb x.view s.view

  shown_in : is_shown s x ≡ (of_view && not (is_logged s.log x.height x.name))
  unfolding is_shown is_in
  shown_in = rw (p, is_in)

  pub vote_none : vote_in s.view x ≡ 0 → showing s x ≡ []
  unfolding vote_in
  vote_none e = by_option x.voted (λ q. not_voted s x q) (λ c q. not_shown s x (shown_in ∙ go of_view c (ap (vote_if of_view) (sym q) ∙ e)))
    where
      go : (a : Bool) (c : ℕ) → vote_if a (some c) ≡ 0 → (a && not (is_logged s.log x.height x.name)) ≡ false
      go true c e = absurd (omega arith)
      go false c e = refl

  vote_some : (k : ℕ) → k ≡ vote_in s.view x → (k ≡ 0 → ⊥) → (c : ℕ) × (x.voted ≡ some c) × (k ≡ suc c) × (of_view ≡ true)
  unfolding vote_in
  vote_some k e n = go of_view x.voted refl refl
    where
      go : (a : Bool) (v : Option ℕ) → of_view ≡ a → x.voted ≡ v → (c : ℕ) × (x.voted ≡ some c) × (k ≡ suc c) × (of_view ≡ true)
      go false v f g = absurd (n (e ∙ ap (λ (a : Bool). vote_if a x.voted) f))
      go true none f g = absurd (n (e ∙ ap₂ vote_if f g))
      go true (some c) f g = (c, g, e ∙ ap₂ vote_if f g, f)

  pub vote_logged : is_logged s.log x.height x.name ≡ true → showing s x ≡ []
  vote_logged l = not_shown s x (shown_in ∙ rw l (and_end of_view))
    where
      and_end : (a : Bool) → (a && false) ≡ false
      and_end true = refl
      and_end false = refl

  -- the vote's number is one more than its clock
  pub vote_shown : (k : ℕ) → k ≡ vote_in s.view x → (k ≡ 0 → ⊥) → is_logged s.log x.height x.name ≡ false
      → showing s x ≡ record { height = x.height; name = x.name; ticks_left = sub_ℕ (k + 2 * s.settings.D) s.clock } ∷ []
  unfolding shown due_clock
  vote_shown k e n l =
      let (c, q, f, o) = vote_some k e n in
      let d : c + 2 * s.settings.D + 1 ≡ k + 2 * s.settings.D = omega arith in
      is_shown_lem s x c q (shown_in ∙ rw (o, l))
      ∙ ap (λ (t : ℕ). record { height = x.height; name = x.name; ticks_left = sub_ℕ t s.clock } ∷ []) d

-- ---- fields

pub shown_says : {s₁ s₂ s₃ s₄ : List ℕ} (s : List ℕ) (at h b v : ℕ) → h < 256 ^ 4 → b < 256 ^ 32 → v < 256 ^ 8
    → s₁ ≡ put s at 3 (head 0x13 44) → s₂ ≡ put s₁ (at + 3) 4 h → s₃ ≡ put s₂ (at + 7) 32 b → s₄ ≡ put s₃ (at + 39) 8 v
    → Says s at (field 0x13 (unbe 4 h ++ unbe 32 b ++ unbe 8 v)) s₄ (at + 47)
shown_says {s₁} {s₂} {s₃} {s₄} s at h b v f g k p q r t =
    let l : length (unbe 4 h ++ unbe 32 b ++ unbe 8 v) ≡ 44 =
    omega (arith, length-append (unbe 4 h ++ unbe 32 b) (unbe 8 v), length-append (unbe 4 h) (unbe 32 b), length_unbe 4 h, length_unbe 32 b, length_unbe 8 v) in
    field_says s at 0x13 (unbe 4 h ++ unbe 32 b ++ unbe 8 v) (lit< tt) (omega arith) (p ∙ ap (λ (n : ℕ). put s at 3 (head 0x13 n)) (sym l))
    (says_both s₁ (at + 3) (unbe 4 h ++ unbe 32 b) (unbe 8 v) s₃ s₄ (at + 39) (at + 47)
    (says_both s₁ (at + 3) (unbe 4 h) (unbe 32 b) s₂ s₃ (at + 7) (at + 39) (put_says s₁ (at + 3) 4 h f q (omega arith)) (put_says s₂ (at + 7) 32 b g r (omega arith)))
    (put_says s₃ (at + 39) 8 v k t (omega arith)))

pub length_entry : (z : Shown) → length (entry z) ≡ 47
unfolding entry
length_entry z =
    let h = unbe 4 z.height in
    let n = unbe 32 z.name in
    let v = unbe 8 (twos z.ticks_left) in
    omega (arith, length_field 0x13 (h ++ n ++ v), length-append (h ++ n) v, length-append h n, length_unbe 4 z.height, length_unbe 32 z.name, length_unbe 8 (twos z.ticks_left))

pub entries_append : (xs ys : List Shown) → entries (xs ++ ys) ≡ entries xs ++ entries ys
unfolding entries
entries_append [] ys = refl
entries_append (x ∷ xs) ys = ap (entry x ++◌) (entries_append xs ys) ∙ sym (append_assoc (entry x) (entries xs) (entries ys))

entries_one : (z : Shown) → entries (z ∷ []) ≡ entry z
unfolding entries
entries_one z = append-nil (entry z)

-- nothing said, where nothing is shown
pub says_nothing : (o : List ℕ) (at : ℕ) (zs : List Shown) → zs ≡ [] → Says o at (entries zs) o at
unfolding entries
says_nothing o at zs e = rw e (says_none o at)

-- a field said, where it is shown
pub says_shown : {o o' : List ℕ} {at r : ℕ} (zs : List Shown) (z : Shown) (h n v : ℕ) → zs ≡ z ∷ [] → h ≡ z.height → n ≡ z.name → v ≡ twos z.ticks_left
    → Says o at (field 0x13 (unbe 4 h ++ unbe 32 n ++ unbe 8 v)) o' r → Says o at (entries zs) o' r
unfolding entry
says_shown {o} {o'} {at} {r} zs z h n v e p q t k =
    let d : field 0x13 (unbe 4 h ++ unbe 32 n ++ unbe 8 v) ≡ entry z = λ i. field 0x13 (unbe 4 (p i) ++ unbe 32 (q i) ++ unbe 8 (t i)) in
    subst (λ (bs : List ℕ). Says o at bs o' r) (d ∙ sym (ap entries e ∙ entries_one z)) k

-- ---- statement by statement

-- statement i of a store whose station is in a view: not voted for, logged, or shown
module _ (st : Station) (b : List ℕ) (e : Loads st b) (p : course_of st.phase ≡ in_view) (i : ℕ) where
  abbrev held : State
  held = state_of b

  abbrev this : Statement
  this = statement_at b i

  in_view_lem : held.phase ≡ in_view
  in_view_lem = sym (loaded_phase st b e) ∙ p

  vote_here : {k : ℕ} → k ≡ vote_in st.view this → k ≡ vote_in held.view this
  vote_here q = q ∙ ap (λ (v : ℕ). vote_in v this) (loaded_view st b e)

  pub one_unvoted : {k : ℕ} (o : List ℕ) (at : ℕ) → k ≡ vote_in st.view this → k ≡ 0 → Says o at (entries (showing held this)) o at
  one_unvoted o at q z = says_nothing o at _ (vote_none held this in_view_lem (sym (vote_here q) ∙ z))

  module _ (x : code.Statement) (f : statement_of x this.voted ≡ this) {r : Bool} (g : r ≡ is_logged (names b) x.height (name_of x.name)) where
    logged_here : r ≡ is_logged held.log this.height this.name
    unfolding state_of state_from
    logged_here = g ∙ ap₂ (is_logged (names b)) (height_of_lem x _ _ f) (name_of_lem x _ _ f)

    pub one_logged : (o : List ℕ) (at : ℕ) → r ≡ true → Says o at (entries (showing held this)) o at
    one_logged o at t = says_nothing o at _ (vote_logged held this in_view_lem (sym logged_here ∙ t))

    pub one_shown : {o o' : List ℕ} {at end : ℕ} (k v : ℕ) → k ≡ vote_in st.view this → (k ≡ 0 → ⊥) → r ≡ false → v ≡ twos (sub_ℕ (k + 2 * st.settings.delay) st.clock)
        → Says o at (field 0x13 (unbe 4 x.height ++ unbe 32 (name_of x.name) ++ unbe 8 v)) o' end → Says o at (entries (showing held this)) o' end
    one_shown k v q n t d w =
        says_shown _ _ x.height (name_of x.name) v (vote_shown held this in_view_lem k (vote_here q) n (sym logged_here ∙ t)) (height_of_lem x _ _ f) (name_of_lem x _ _ f)
        (d ∙ (λ j. twos (sub_ℕ (k + delay_is st b e j) (loaded_clock st b e j)))) w

module _ (s : State) (x : Statement) where
  showing_most : length (entries (showing s x)) ≤ 47
  unfolding entries
  showing_most =
      by_option x.voted (λ q. rw (not_voted s x q) (lit≤ tt)) λ c q.
      by_bool (is_shown s x) (λ e. rw (is_shown_lem s x c q e) (omega (arith, ap length (entries_one (shown s x c)), length_entry (shown s x c)))) (λ e. rw (not_shown s x e) (lit≤ tt))

-- the largest display fits the least out buffer
entries_most : (s : State) (xs : List Statement) → length (entries (showing_all s xs)) ≤ 47 * length xs
unfolding entries showing_all
entries_most s [] = lit≤ tt
entries_most s (x ∷ xs) =
    omega (arith, ap length (entries_append (showing s x) (showing_all s xs)), length-append (entries (showing s x)) (entries (showing_all s xs)), showing_most s x, entries_most s xs)

pub display_room : (s : State) → length s.statements ≤ most_statements s.settings.size → length (entries (display s)) ≤ least_out s.settings.size
unfolding display
display_room s l = omega (arith, entries_most s s.statements, display_fits s.settings.size)

-- the statements before place i are shown, and end at `next`
pub record SoFar (b o : List ℕ) (i : ℕ) (o' : List ℕ) (next : ℕ) : Type 0 where
  pub says : Says o 0 (entries (showing_all (state_of b) (rows (statement_at b) 0 i))) o' next
  pub few : next ≤ 47 * i

pub far_none : (b o : List ℕ) → SoFar b o 0 o 0
unfolding rows showing_all entries
far_none b o = record { says = says_none o 0; few = omega arith }

pub far_more : {b o o₁ o₂ : List ℕ} {i r₁ r₂ : ℕ} → SoFar b o i o₁ r₁ → Says o₁ r₁ (entries (showing (state_of b) (statement_at b i))) o₂ r₂ → SoFar b o (i + 1) o₂ r₂
unfolding rows
far_more {b} {o} {o₁} {o₂} {i} {r₁} {r₂} g p =
    let s = state_of b in
    let xs = rows (statement_at b) 0 i in
    let x = statement_at b i in
    let e : rows (statement_at b) 0 (i + 1) ≡ xs ++ x ∷ [] = rows_append (statement_at b) 0 i 1 ∙ ap (λ (k : ℕ). xs ++ statement_at b k ∷ []) (zero-add i) in
    let d : entries (showing_all s (rows (statement_at b) 0 (i + 1))) ≡ entries (showing_all s xs) ++ entries (showing s x) =
    ap (λ (ys : List Statement). entries (showing_all s ys)) e ∙ ap entries (shown_append s xs (x ∷ []) ∙ ap (showing_all s xs ++◌) (shown_one s x)) ∙ entries_append (showing_all s xs) (showing s x) in
    record {
      says = subst (λ (bs : List ℕ). Says o 0 bs o₂ r₂) (sym d) (says_both o 0 (entries (showing_all s xs)) (entries (showing s x)) o₁ o₂ r₁ r₂ g.says p);
      few = omega (arith, g.few, p.ends, showing_most s x);
    }

pub far_all : {b o o' : List ℕ} {i r : ℕ} → SoFar b o i o' r → i ≡ count_of statement_table b → Says o 0 (entries (display (state_of b))) o' r
unfolding display state_of state_from statements
far_all {b} {o} {o'} {i} {r} g e = subst (λ (n : ℕ). Says o 0 (entries (showing_all (state_of b) (rows (statement_at b) 0 n))) o' r) e g.says
