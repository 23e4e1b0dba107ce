-- A statement as the code tests it. Assumes nothing.
use Prim.Native.Nat.{ℕ, zero, suc, ◌+◌, ◌-◌, ◌<◌, ◌≤◌}
use mathlib.Core.Path.{◌≡◌, refl, sym, ap, ◌∙◌}
use mathlib.Core.Bool.{Bool, true, false, ◌&&◌, and-true, and-false}
use mathlib.Core.List.{List}
use native.Mathlib.Omega.{arith}
use native.Mathlib.Nat.{add-zero}
use lib.Dec.{leb, ltb, eqb}
use borrow.Author.Tests.{eqb-true, lt-ltb, le-ltb, le-leb, lt-leb, eq-eqb, ne_eqb}
use Rattle.rules.specs.Limits.{small, last_height}
use Rattle.rules.specs.Lists.{iff}
use Rattle.rules.specs.Sizes.{Settings, leader}
use Rattle.rules.specs.Messages.{allowed, view_allowed, block_allowed, mask_allowed, certificate_allowed}
use Rattle.rules.specs.Words as words
use Rattle.rules.specs.Words.{message}
use Rattle.rules.specs.WellFormed.{is_name, statement_good}
use Rattle.laws.proofs.Tests.{by_bool, no_bool, and_left}
use Rattle.fields.specs.Places.{Bytes, number}
use Rattle.fields.proofs.Laws.{number_lt, number_split}
use Rattle.settings.specs.Made.{settings_of}
use Rattle.words.specs.Meaning.{Certifies}
use Rattle.words.proofs.Statements.{certifies_allowed}
use Rattle.store.specs.Layout.{statement_table, place_of}
use Rattle.std.specs.Prelude.{Option as Told, Some, None}
use Rattle.tallies.specs.Values.{told, vote_of}
use Rattle.store.specs.Decode.{statement_at, kind_at, vote_at, state_from}
use Rattle.store.specs.Meaning.{header_of}
use Rattle.store.specs.declared.Station.{Station}
use Rattle.heading.specs.Alone.{alone}
use Rattle.tallied.proofs.Parts.{lost, kept}
use Rattle.stated.specs.Stated.{vote_in_order, new_view_said, propose_said}

pub vote_none : (clock : ℕ) (v : Told ℕ) → v ≡ None → true ≡ vote_in_order clock (told v)
unfolding vote_in_order
vote_none clock v e = rw e

pub vote_some : (clock c : ℕ) (v : Told ℕ) → v ≡ Some c → leb c clock ≡ vote_in_order clock (told v)
unfolding vote_in_order
vote_some clock c v e = rw e

stored_name : (b : List ℕ) → Bytes b → (at : ℕ) → is_name (number b at 32) ≡ true
unfolding is_name
stored_name b bytes at = lt-ltb _ _ (number_lt b bytes at 32)

-- the link of a new-view is a view: below one, it is the number of its last four bytes
pub new_view_said_lem : (g : Settings) (b : List ℕ) → Bytes b → (at view height mask cert : ℕ) → view ≡ number b at 4 → height ≡ number b (at + 4) 4 → mask ≡ number b (at + 42) 2 → cert ≡ number b (at + 72) 4
    → (eqb (number b (at + 44) 28) 0 && ltb cert view && certificate_allowed g height cert mask) ≡ new_view_said g b at
unfolding new_view_said
new_view_said_lem g b bytes at view height mask cert v h m c = rw (v, h, m) (go (number b (at + 44) 28) refl)
  where
    go : (k : ℕ) → number b (at + 44) 28 ≡ k
        → (eqb k 0 && ltb cert (number b at 4) && certificate_allowed g (number b (at + 4) 4) cert (number b (at + 42) 2))
        ≡ (ltb (number b (at + 44) 32) (number b at 4) && certificate_allowed g (number b (at + 4) 4) (number b (at + 44) 32) (number b (at + 42) 2))
    go zero e =
        let w : at + 44 + 28 ≡ at + 72 = omega arith in
        let low : number b (at + 44 + 28) 4 ≡ cert = rw w (sym c) in
        let q : number b (at + 44) 32 ≡ cert = omega (arith, number_split b (at + 44) 28 4, e, low) in
        rw q
    go (suc k) e =
        let f : ltb (number b (at + 44) 32) (number b at 4) ≡ false = le-ltb (number b (at + 44) 32) (number b at 4) (omega (arith, number_split b (at + 44) 28 4, e, number_lt b bytes at 4)) in
        rw (f, ne_eqb (suc k) 0 (λ z. absurd (omega arith)))

pub propose_said_lem : (g : Settings) (b : List ℕ) (at height mask : ℕ) (bare : Bool) → height ≡ number b (at + 4) 4 → mask ≡ number b (at + 42) 2 → bare ≡ eqb (number b (at + 44) 32) 0 → 1 ≤ height
    → (leb (height - 1) last_height && iff (eqb (height - 1) 0) bare && mask_allowed g mask) ≡ propose_said g b at
unfolding propose_said block_allowed
propose_said_lem g b at height mask bare h m z l = rw (← h, m, z, le-leb 1 height l)

pub propose_low : (g : Settings) (b : List ℕ) (at height : ℕ) → height ≡ number b (at + 4) 4 → height < 1 → false ≡ propose_said g b at
unfolding propose_said
propose_low g b at height h l = rw (← h, lt-leb 1 height l)

-- tests in the order of the code and in that of the rules
new_order : (a b l v p q : Bool) → (a && b && l && v && (p && q)) ≡ (a && b && p && q && l && true && true && v)
new_order false b l v p q = refl
new_order true false l v p q = refl
new_order true true true true p q = sym (and-true _ ∙ and-true _ ∙ and-true _ ∙ and-true _)
new_order true true true false p q = sym (and-false (p && q && true && true && true))
new_order true true false v p q = sym (ap (λ (x : Bool). x && true && true && v) (and-false (p && q)))

propose_order : (a b l v o p q : Bool) → (a && b && l && v && (o && p && q)) ≡ (a && o && b && p && q && l && true && true && v)
propose_order false b l v o p q = refl
propose_order true false l v o p q = sym (ap (λ (x : Bool). x && p && q && l && true && true && v) (and-false o))
propose_order true true true true o p q = sym (and-true _ ∙ and-true _ ∙ and-true _ ∙ and-true _ ∙ ap (λ (x : Bool). x && p && q) (and-true o))
propose_order true true true false o p q = sym (and-false (o && true && p && q && true && true && true))
propose_order true true false v o p q = sym (ap (λ (x : Bool). x && true && true && v) (and-false (o && true && p && q)))

-- by the numbers of its record
module _ (b : List ℕ) (bytes : Bytes b) (i : ℕ) (s : Station) where
  abbrev to : ℕ
  to = place_of statement_table small i

  abbrev g : Settings
  g = settings_of s.settings

  abbrev view : ℕ
  view = number b to 4

  abbrev height : ℕ
  height = number b (to + 4) 4

  abbrev link : ℕ
  link = number b (to + 44) 32

  abbrev mask : ℕ
  mask = number b (to + 42) 2

  abbrev block : Bool
  block = leb height last_height && iff (eqb height 0) (eqb (number b (to + 8) 32) 0)

  abbrev led : Bool
  led = eqb (number b (to + 41) 1) (leader g view)

  abbrev vote : Bool
  vote = vote_in_order s.clock (vote_of (vote_at b i))

  abbrev good : Bool
  good = statement_good (alone s) (statement_at b i)

  new_view_is : kind_at b i ≡ 1 → (view_allowed g view && block && led && vote && new_view_said g b to) ≡ statement_good (alone s) (statement_at b i)
  unfolding statement_good message allowed block_allowed new_view_said vote_in_order statement_at vote_at kind_at state_from header_of
  new_view_is e =
      rw (eq-eqb (number b (to + 40) 1) 1 e, stored_name b bytes (to + 8), stored_name b bytes (to + 44), add-zero to)
      (new_order (view_allowed g view) block led vote (ltb link view) (certificate_allowed g height link mask))

  propose_is : (kind_at b i ≡ 1 → ⊥) → (view_allowed g view && block && led && vote && propose_said g b to) ≡ statement_good (alone s) (statement_at b i)
  unfolding statement_good message allowed block_allowed propose_said vote_in_order statement_at vote_at kind_at state_from header_of
  propose_is d =
      rw (ne_eqb (number b (to + 40) 1) 1 d, stored_name b bytes (to + 8), stored_name b bytes (to + 44), add-zero to)
      (propose_order (view_allowed g view) block led vote (leb 1 height) (block_allowed (height - 1) link) (mask_allowed g mask))

  -- what is bad makes it bad, whatever its kind says
  either : ((said : Bool) → false ≡ (view_allowed g view && block && led && vote && said)) → false ≡ good
  either h = by_bool (eqb (kind_at b i) 1) (λ t. h (new_view_said g b to) ∙ new_view_is (eqb-true _ _ t)) (λ t. h (propose_said g b to) ∙ propose_is (λ e. no_bool (sym (eq-eqb _ _ e) ∙ t)))

  pub bad_view : view_allowed g view ≡ false → false ≡ good
  bad_view q = either (λ said. ap (λ (x : Bool). x && block && led && vote && said) (sym q))

  pub bad_block : block ≡ false → false ≡ good
  bad_block q = either (λ said. ap (λ (x : Bool). x && led && vote && said) (lost (view_allowed g view) block q))

  pub bad_author : led ≡ false → false ≡ good
  bad_author q = either (λ said. ap (λ (x : Bool). x && vote && said) (lost (view_allowed g view && block) led q))

  pub bad_vote : vote ≡ false → false ≡ good
  bad_vote q = either (λ said. ap (λ (x : Bool). x && said) (lost (view_allowed g view && block && led) vote q))

  -- the tests of both kinds alike, passed
  pub record Passed : Type 0 where
    pub view_good : view_allowed g view ≡ true
    pub block_good : block ≡ true
    pub leader_good : led ≡ true
    pub vote_good : vote ≡ true

  -- and where the rest is good it is as good as what it says
  module _ (p : Passed) where
    as_said : (said : Bool) → said ≡ (view_allowed g view && block && led && vote && said)
    as_said said = kept (view_allowed g view) block led vote said p.view_good p.block_good p.leader_good p.vote_good

    pub as_new_view : kind_at b i ≡ 1 → new_view_said g b to ≡ good
    as_new_view e = as_said (new_view_said g b to) ∙ new_view_is e

    pub as_propose : (kind_at b i ≡ 1 → ⊥) → propose_said g b to ≡ good
    as_propose d = as_said (propose_said g b to) ∙ propose_is d

pub good_certifies : (s : words.State) (x : words.Statement) → statement_good s x ≡ true → Certifies x
unfolding statement_good message
good_certifies s x e =
    let said = allowed s.settings (message x) in
    certifies_allowed s.settings x (and_left said (is_name x.name) (and_left (said && is_name x.name) (is_name x.link) (and_left (said && is_name x.name && is_name x.link) _ e)))
