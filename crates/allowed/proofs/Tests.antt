-- What is allowed can be written. Assumes nothing.
use Prim.Native.Nat.{ℕ, ◌^◌, ◌<◌}
use mathlib.Core.Path.{◌≡◌, sym, ap, ◌∙◌}
use mathlib.Core.Bool.{true, ◌&&◌}
use native.Mathlib.Omega.{arith}
use lib.Dec.{eqb, leb, ltb}
use borrow.Author.Tests.{ltb-true, leb-true}
use Rattle.fields.specs.Names.{name_of}
use Rattle.rules.specs.Limits.{first_view, last_view}
use Rattle.rules.specs.Lists.{within}
use Rattle.rules.specs.Messages.{new_view, view_allowed, block_allowed, certificate_allowed, allowed}
use Rattle.rules.specs.Sizes.{Settings, leader}
use Rattle.laws.proofs.Bounds.{views_most}
use Rattle.laws.proofs.Tests.{and_left, and_right}
use Rattle.wire.specs.declared.Message.{Message}
use Rattle.wire.specs.declared.Message.TheVariants.{Stated, Vote, Blame, BlameSet, Status}
use Rattle.wire.specs.Meaning.{message_of, Writable}
use Rattle.wire.proofs.Statements.{new_view_said_lem}

-- a new-view's certificate view is below its view, which is within the limits
new_view_below : (g : Settings) (v h b c m a : ℕ) → allowed g (new_view v h b c m a) ≡ true → c < 256 ^ 4
unfolding allowed view_allowed within
new_view_below g v h b c m a e =
    let view = view_allowed g v in
    let block = view && block_allowed h b in
    let low = block && ltb c v in
    let first = and_left low (certificate_allowed g h c m) (and_left (low && certificate_allowed g h c m) (eqb a (leader g v)) e) in
    let below = ltb-true c v (and_right block (ltb c v) first) in
    let most = leb-true v (last_view g.size) (and_right (leb first_view v) (leb v (last_view g.size)) (and_left view (block_allowed h b) (and_left block (ltb c v) first))) in
    omega (arith, views_most g.size)

pub allowed_writable : (g : Settings) (m : Message) → allowed g (message_of m) ≡ true → Writable m
unfolding message_of
allowed_writable g (Stated x) e =
    λ n. new_view_below g x.view x.height (name_of x.name) (name_of x.link) x.mask x.author (sym (ap (allowed g) (new_view_said_lem x n)) ∙ e)
allowed_writable g (Vote v h b a) e = tt
allowed_writable g (Blame v a) e = tt
allowed_writable g (BlameSet v m) e = tt
allowed_writable g (Status h b c m) e = tt
