-- What decides a conflict, which statements carry a certificate that fits its words, and that no vote matters. Assumes nothing.
use Prim.Native.Nat.{ℕ, ◌+◌, ◌-◌, ◌*◌, ◌^◌, ◌<◌}
use mathlib.Core.Path.{◌≡◌, refl, sym, ap, ◌∙◌}
use mathlib.Core.Bool.{Bool, true, false, not, ◌&&◌, ◌||◌, beq}
use mathlib.Core.Option.{Option, none}
use native.Mathlib.Omega.{arith}
use lib.Dec.{leb, ltb, eqb}
use borrow.Author.Tests.{eq-eqb, ne_eqb, leb-true, ltb-true}
use Rattle.rules.specs.Limits.{first_view, last_view}
use Rattle.rules.specs.Lists.{within}
use Rattle.rules.specs.Sizes.{Settings, leader}
use Rattle.rules.specs.Messages.{new_view, propose, view_allowed, block_allowed, mask_allowed, certificate_allowed, allowed}
use Rattle.rules.specs.Words.{Statement, message, same_statement, against, conflict, Certificate, certificate, below, State}
use Rattle.rules.specs.Inputs.{below_lock}
use Rattle.laws.proofs.Bounds.{views_most}
use Rattle.laws.proofs.Statements.{same_like, same_sym}
use Rattle.laws.proofs.Tests.{by_bool, and_left, and_right, no_bool}
use Rattle.laws.proofs.Truths.{beq_iff}
use Rattle.fields.specs.Names.{name_of}
use Rattle.fields.specs.declared.Name.{Name}
use Rattle.wire.specs.Meaning.{statement_of}
use Rattle.wire.specs.declared.Statement as code
use Rattle.words.specs.Meaning.{Certifies, ranks_below}

module _ (x y : Statement) where
  -- ---- what one has against the other, by its kind and the heights

  pub against_new_view : x.is_new_view ≡ true → (y.is_new_view || leb y.height x.height) ≡ against x y
  unfolding against
  against_new_view p = rw p

  pub against_level : x.is_new_view ≡ false → x.height ≡ y.height → (not y.is_new_view && not (eqb x.name y.name)) ≡ against x y
  unfolding against
  against_level p h =
      rw (p, eq-eqb _ _ h, ne_eqb x.height (y.height + 1) (λ (e : x.height ≡ y.height + 1). omega (arith, h)))
      (go y.is_new_view (not (eqb x.name y.name)))
    where
      go : (a b : Bool) → (not a && b) ≡ (not a && true && b || false && not (eqb x.link y.name))
      go true b = refl
      go false true = refl
      go false false = refl

  pub against_above : x.is_new_view ≡ false → (x.height ≡ y.height → ⊥)
      → (eqb x.height (y.height + 1) && not (eqb x.link y.name)) ≡ against x y
  unfolding against
  against_above p d = rw (p, ne_eqb _ _ d) (go y.is_new_view)
    where
      go : (a : Bool) → (eqb x.height (y.height + 1) && not (eqb x.link y.name))
          ≡ (not a && false && not (eqb x.name y.name) || eqb x.height (y.height + 1) && not (eqb x.link y.name))
      go true = refl
      go false = refl

  -- ---- a conflict

  pub other_view : (x.view ≡ y.view → ⊥) → false ≡ conflict x y
  unfolding conflict
  other_view d = by_bool (same_statement x y) (λ q. rw q) (λ q. rw (q, ne_eqb _ _ d))

  pub new_views : x.view ≡ y.view → (x.is_new_view && y.is_new_view) ≡ true → not (same_statement x y) ≡ conflict x y
  unfolding conflict
  new_views v p =
      let k = and_left _ _ p in
      let l = and_right x.is_new_view _ p in
      by_bool (same_statement x y) (λ e. rw e) (λ e. rw (e, eq-eqb _ _ v, sym (against_new_view k), l))

-- of the same, a propose has nothing against the other
same_against : (x y : Statement) → same_statement x y ≡ true → x.is_new_view ≡ false → against x y ≡ false
same_against x y e p =
    let k = same_like x y e in
    let q : y.is_new_view ≡ false = ap (λ (z : Statement). z.is_new_view) k ∙ p in
    sym (against_level x y p (sym (ap (λ (z : Statement). z.height) k)))
    ∙ rw (q, eq-eqb _ _ (sym (ap (λ (z : Statement). z.name) k)))

pub unless_new_views : (x y : Statement) → x.view ≡ y.view → (x.is_new_view && y.is_new_view) ≡ false → (against x y || against y x) ≡ conflict x y
unfolding conflict
unless_new_views x y v n =
    by_bool (same_statement x y)
    (λ e.
    let k = ap (λ (z : Statement). z.is_new_view) (same_like x y e) in
    let p : x.is_new_view ≡ false = by_bool x.is_new_view (λ a. no_bool (sym (rw (a, k ∙ a) refl) ∙ n)) (λ a. a) in
    rw (e, same_against x y e p, same_against y x (same_sym y x ∙ e) (k ∙ p)))
    (λ e. rw (e, eq-eqb _ _ v))

-- ---- the code's statements

module _ (x y : code.Statement) where
  pub same_is : (beq x.is_new_view y.is_new_view && eqb x.view y.view && eqb x.height y.height && eqb (name_of x.name) (name_of y.name) && eqb (name_of x.link) (name_of y.link) && eqb x.author y.author)
      ≡ same_statement (statement_of x none) (statement_of y none)
  unfolding same_statement statement_of
  same_is = rw (beq_iff x.is_new_view y.is_new_view)

  -- no vote matters
  pub same_unvoted : (v w : Option ℕ) → same_statement (statement_of x v) (statement_of y w) ≡ same_statement (statement_of x none) (statement_of y none)
  unfolding same_statement statement_of
  same_unvoted v w = refl

  pub conflict_unvoted : (v w : Option ℕ) → conflict (statement_of x v) (statement_of y w) ≡ conflict (statement_of x none) (statement_of y none)
  unfolding conflict statement_of
  conflict_unvoted v w = refl

-- a small number in a name stands in its last word
last_word : (a x : ℕ) → a * 2 ^ 64 + x < 2 ^ 32 → a * 2 ^ 64 + x ≡ x
last_word a x h = omega arith

small_name : (n : Name) → name_of n < 2 ^ 32 → name_of n ≡ n.fourth
unfolding name_of
small_name n h = last_word ((n.first * 2 ^ 64 + n.second) * 2 ^ 64 + n.third) n.fourth h

last_small : (n : Name) → name_of n < 2 ^ 32 → n.fourth < 2 ^ 32
last_small n h = omega (arith, small_name n h)

module _ (x : code.Statement) (k : Certifies (statement_of x none)) where
  pub certified_view : x.is_new_view ≡ true → name_of x.link ≡ x.link.fourth
  unfolding statement_of
  certified_view p = small_name x.link (k.view p)

  pub certified_small : x.is_new_view ≡ true → x.link.fourth < 2 ^ 32
  unfolding statement_of
  certified_small p = last_small x.link (k.view p)

-- ---- what is allowed carries a certificate that fits its words

new_view_link : (g : Settings) (v h b c m a : ℕ) → allowed g (new_view v h b c m a) ≡ true → c < 2 ^ 32
unfolding allowed view_allowed within
new_view_link g v h b c m a e =
    let view = view_allowed g v in
    let block = block_allowed h b in
    let cert = certificate_allowed g h c m in
    let s = and_left (view && block && ltb c v && cert) (eqb a (leader g v)) e in
    let l = and_left (view && block && ltb c v) cert s in
    let n = and_left (view && block) (ltb c v) l in
    omega (arith, ltb-true c v (and_right (view && block) (ltb c v) l), leb-true v (last_view g.size) (and_right (leb first_view v) (leb v (last_view g.size)) (and_left view block n)), views_most g.size)

propose_height : (g : Settings) (v h b p m a : ℕ) → allowed g (propose v h b p m a) ≡ true → 0 < h
unfolding allowed
propose_height g v h b p m a e =
    let view = view_allowed g v in
    let block = block_allowed h b in
    let parent = block_allowed (h - 1) p in
    let mask = mask_allowed g m in
    let s = and_left (view && leb 1 h && block && parent && mask) (eqb a (leader g v)) e in
    let r = and_left (view && leb 1 h && block && parent) mask s in
    let q = and_left (view && leb 1 h && block) parent r in
    leb-true 1 h (and_right view (leb 1 h) (and_left (view && leb 1 h) block q))

pub certifies_allowed : (g : Settings) (x : Statement) → allowed g (message x) ≡ true → Certifies x
unfolding message
certifies_allowed g x e = record {
  view = λ p. new_view_link g x.view x.height x.name x.link x.mask x.author (rw (p, message) at e);
  above = λ p. propose_height g x.view x.height x.name x.link x.mask x.author (rw (p, message) at e);
}

-- ---- a rank held against a lock

module _ (x : Statement) (lock : Certificate) where
  by_lock : ranks_below x lock ≡ (x.is_new_view && below (certificate x) lock)
  unfolding ranks_below
  by_lock = refl

  pub lock_propose : x.is_new_view ≡ false → false ≡ ranks_below x lock
  lock_propose p = rw (by_lock, p)

  pub lock_new_view : (t : Certificate) → x.is_new_view ≡ true → t ≡ certificate x → below t lock ≡ ranks_below x lock
  lock_new_view t p e = ap (λ (u : Certificate). below u lock) e ∙ sym (by_lock ∙ ap (λ (a : Bool). a && below (certificate x) lock) p)

-- rules' name of it
pub lock_is : (x : Statement) (s : State) → below_lock x s ≡ ranks_below x s.lock
unfolding ranks_below below_lock
lock_is x s = refl
