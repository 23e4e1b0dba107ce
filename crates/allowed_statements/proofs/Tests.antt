-- A statement's tests as the code has them and as the rules do. Assumes nothing.
use Prim.Native.Nat.{ℕ, ◌-◌, ◌^◌, ◌<◌, ◌≤◌}
use mathlib.Core.Path.{◌≡◌, sym, ap, ◌∙◌}
use mathlib.Core.Bool.{Bool, true, false, ◌&&◌, and-true, and-false}
use mathlib.Core.Option.{none}
use lib.Dec.{eqb, ltb}
use borrow.Author.Tests.{ltb-true, le-leb, lt-leb}
use Rattle.fields.specs.declared.Name.{Name}
use Rattle.fields.specs.Names.{name_of}
use Rattle.rules.specs.Messages.{view_allowed, block_allowed, mask_allowed, certificate_allowed, allowed}
use Rattle.rules.specs.Sizes.{Settings, leader}
use Rattle.rules.specs.Words.{message}
use Rattle.laws.proofs.Tests.{by_bool}
use Rattle.wire.specs.declared.Statement.{Statement}
use Rattle.wire.specs.Meaning.{statement_of}
use Rattle.wire.proofs.Statements.{link_word, new_view_said_lem, propose_said_lem}

link_certificate : (a : Bool) (g : Settings) (l : Name) (v h m : ℕ) → v < 2 ^ 64
    → (a && ltb (name_of l) v && certificate_allowed g h l.fourth m) ≡ (a && ltb (name_of l) v && certificate_allowed g h (name_of l) m)
link_certificate a g l v h m f =
    by_bool (ltb (name_of l) v)
    (λ q. ap (λ (x : ℕ). a && ltb (name_of l) v && certificate_allowed g h x m) (link_word l v f (ltb-true (name_of l) v q)))
    (λ q. rw (q, and-false))

module _ (g : Settings) (x : Statement) where
  pub new_view_allowed : x.is_new_view ≡ true → x.view < 2 ^ 64
      → (view_allowed g x.view && block_allowed x.height (name_of x.name) && ltb (name_of x.link) x.view && certificate_allowed g x.height x.link.fourth x.mask && eqb x.author (leader g x.view))
      ≡ allowed g (message (statement_of x none))
  unfolding allowed
  new_view_allowed e h =
      ap (λ (b : Bool). b && eqb x.author (leader g x.view))
      (link_certificate (view_allowed g x.view && block_allowed x.height (name_of x.name)) g x.link x.view x.height x.mask h)
      ∙ ap (allowed g) (sym (new_view_said_lem x e))

  -- "a propose has height at least 1"
  pub propose_low : x.is_new_view ≡ false → x.height < 1 → false ≡ allowed g (message (statement_of x none))
  unfolding allowed
  propose_low e h = rw (propose_said_lem x e, lt-leb 1 x.height h, and-false)

  pub propose_allowed : x.is_new_view ≡ false → 1 ≤ x.height
      → (view_allowed g x.view && block_allowed x.height (name_of x.name) && block_allowed (x.height - 1) (name_of x.link) && mask_allowed g x.mask && eqb x.author (leader g x.view))
      ≡ allowed g (message (statement_of x none))
  unfolding allowed
  propose_allowed e h = rw (propose_said_lem x e, le-leb 1 x.height h, and-true)
