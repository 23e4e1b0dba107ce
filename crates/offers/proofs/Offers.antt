-- An offer, in 01's order: not to be taken, or the propose above the top of the view. Assumes nothing.
use Prim.Native.Nat.{ℕ, ◌+◌, ◌<◌, ◌≤◌}
use mathlib.Core.Path.{◌≡◌, refl, sym, ap, ◌∙◌}
use mathlib.Core.Bool.{Bool, true, false, not, ◌&&◌, and-false}
use mathlib.Core.List.{List}
use mathlib.Core.Option.{none, some}
use lib.Dec.{eqb, ltb}
use borrow.Author.Tests.{lt-ltb, le-ltb, not-true, not-false}
use Rattle.rules.specs.Limits.{last_height}
use Rattle.rules.specs.Lists.{any}
use Rattle.rules.specs.Sizes.{quorum}
use Rattle.rules.specs.Messages as messages
use Rattle.rules.specs.Words.{Statement, message, Certificate, own_block, voters, State}
use Rattle.rules.specs.Inputs.{leads, is_opened, is_used, top, extendable, above, offered}
use Rattle.fields.specs.Names.{name_of}
use Rattle.fields.specs.declared.Name.{Name}
use Rattle.settings.specs.Made.{settings_of}
use Rattle.wire.specs.Meaning.{statement_of}
use Rattle.wire.specs.declared.Statement as code
use Rattle.wire.proofs.Statements.{propose_said_lem}
use Rattle.store.specs.Layout.{statement_table, count_of}
use Rattle.store.specs.Decode.{statement_at, statements, tallies, state_from, state_of}
use Rattle.store.specs.Meaning.{Loads}
use Rattle.std.specs.Prelude.{Option, Some, None}
use Rattle.store.specs.declared.Station.{Station}
use Rattle.store.proofs.Loaded.{loaded_settings, loaded_view}
use Rattle.search.specs.Lookups.{opens}
use Rattle.search.specs.Finds.{found_in, Finds}
use Rattle.offers.specs.Offers.{may_offer, extension}

-- ---- the rule

module _ (b : ℕ) (s : State) where
  pub offered_not : may_offer b s ≡ false → none ≡ offered b s
  unfolding offered may_offer
  offered_not q = rw (q, offered)

  pub offered_then : may_offer b s ≡ true → extension b s ≡ offered b s
  unfolding offered may_offer extension
  offered_then q = rw (q, offered)

-- ---- whether it may be made

grouped : (a p q : Bool) → (a && (p && q)) ≡ (a && p && q)
grouped true p q = refl
grouped false p q = refl

module _ (s : Station) (b : List ℕ) (e : Loads s b) (n : ℕ) where
  abbrev asked : ℕ → Bool
  asked v = leads (state_of b) && any (opens v) (statements b) && not (eqb n 0) && not (is_used n (state_of b))

  asked_is : asked (state_of b).view ≡ may_offer n (state_of b)
  unfolding may_offer is_opened state_of state_from
  asked_is = refl

  pub may_is : {x o z u : Bool} → x ≡ leads (state_of b) → o ≡ any (opens s.view) (statements b) → z ≡ eqb n 0 → u ≡ is_used n (state_of b)
      → (x && o && (not z && not u)) ≡ may_offer n (state_of b)
  may_is {x} {o} {z} {u} p r t w = grouped (x && o) (not z) (not u) ∙ rw (p, r, t, w) (ap asked (loaded_view s b e) ∙ asked_is)

-- ---- what it makes

module _ (s : Station) (b : List ℕ) (e : Loads s b) (n : Name) where
  top_of : {o : _} → o ≡ top s.view (statements b) → top (state_of b).view (state_of b).statements ≡ o
  unfolding state_of state_from
  top_of p = sym (p ∙ ap (λ (v : ℕ). top v (statements b)) (loaded_view s b e))

  pub extension_none : none ≡ top s.view (statements b) → none ≡ extension (name_of n) (state_of b)
  unfolding extension
  extension_none p = rw (top_of p, extension)

  pub top_none : {r : Option ℕ} → Finds (statement_at b) (count_of statement_table b) (top s.view (statements b)) r → r ≡ None → none ≡ extension (name_of n) (state_of b)
  top_none f q = extension_none (sym (ap (found_in (statement_at b)) q) ∙ f.is)

  module _ {r : Option ℕ} {j : ℕ} (f : Finds (statement_at b) (count_of statement_table b) (top s.view (statements b)) r) (q : r ≡ Some j) where
    pub top_within : j < count_of statement_table b
    top_within = rw q at f.inside

    module _ (x : code.Statement) (is : statement_of x (statement_at b j).voted ≡ statement_at b j) {u : Certificate} (c : u ≡ own_block (statement_of x none) 0) {m : ℕ}
        (v : m ≡ voters u (tallies b)) where
      abbrev X : Statement
      X = statement_at b j

      top_is : top (state_of b).view (state_of b).statements ≡ some X
      top_is = top_of (sym (ap (found_in (statement_at b)) q) ∙ f.is)

      own_same : own_block (statement_of x none) 0 ≡ own_block X 0
      unfolding own_block statement_of
      own_same = ap (λ (y : Statement). own_block y 0) is

      voters_is : m ≡ voters (own_block X 0) (state_of b).tallies
      unfolding state_of state_from
      voters_is = v ∙ ap (λ (t : Certificate). voters t (tallies b)) (c ∙ own_same)

      height_is : x.height ≡ X.height
      unfolding statement_of
      height_is = ap (λ (y : Statement). y.height) is

      name_is : name_of x.name ≡ X.name
      unfolding statement_of
      name_is = ap (λ (y : Statement). y.name) is

      extendable_is : (quorum (settings_of s.settings) m && ltb x.height last_height) ≡ extendable X (state_of b)
      unfolding extendable
      extendable_is = λ i. quorum (loaded_settings s b e i) (voters_is i) && ltb (height_is i) last_height

      extension_not : extendable X (state_of b) ≡ false → none ≡ extension (name_of n) (state_of b)
      unfolding extension
      extension_not k = rw (top_is, extension, k)

      pub top_few : {y : Bool} → y ≡ quorum (settings_of s.settings) m → not y ≡ true → none ≡ extension (name_of n) (state_of b)
      top_few {y} p k = extension_not (sym extendable_is ∙ ap (◌&& ltb x.height last_height) (sym p ∙ not-true y k))

      pub top_high : last_height ≤ x.height → none ≡ extension (name_of n) (state_of b)
      top_high h = let k = quorum (settings_of s.settings) m in extension_not (sym extendable_is ∙ ap (k &&◌) (le-ltb x.height last_height h) ∙ and-false k)

      abbrev proposed : code.Statement
      proposed = record { is_new_view = false; view = s.view; height = x.height + 1; name = n; link = x.name; mask = m; author = s.settings.own }

      above_is : message (statement_of proposed none) ≡ above X (name_of n) (state_of b)
      unfolding above
      above_is =
          propose_said_lem proposed refl
          ∙ (λ i. messages.propose (loaded_view s b e i) (height_is i + 1) (name_of n) (name_is i) (voters_is i) (loaded_settings s b e i).own)

      pub top_extended : {y : Bool} → y ≡ quorum (settings_of s.settings) m → not y ≡ false → x.height < last_height
          → some (message (statement_of proposed none)) ≡ extension (name_of n) (state_of b)
      unfolding extension
      top_extended {y} p k h =
          let a : extendable X (state_of b) ≡ true = sym extendable_is ∙ ap (◌&& ltb x.height last_height) (sym p ∙ not-false y k) ∙ lt-ltb x.height last_height h in
          rw (top_is, extension, a) (ap some above_is)
