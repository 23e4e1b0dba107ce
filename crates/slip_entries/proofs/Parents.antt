-- The parent that an entry leads to. Assumes nothing.
use Prim.Native.Nat.{ℕ, ◌+◌, ◌≤◌}
use mathlib.Core.Path.{◌≡◌, refl, sym, ap₂, ◌∙◌}
use mathlib.Core.Bool.{Bool, true, false, ◌&&◌}
use mathlib.Core.List.{List}
use mathlib.Core.Option.{Option, none, some, some-injective}
use lib.ListN.{length}
use lib.Dec.{eqb}
use borrow.Author.Tests.{eqb-true}
use Rattle.rules.specs.Messages.{allowed}
use Rattle.rules.specs.Sizes.{Settings}
use Rattle.rules.specs.Words.{Statement, message}
use Rattle.laws.proofs.Tests.{by_bool, no_some, and_left, and_right}
use Rattle.slip_entries.specs.Entries.{entry_at, parent_in}
use Rattle.slip_entries.proofs.Reading.{entry_room}

module _ (g : Settings) (h b : ℕ) {o : Option Statement} where
  pub parent_unread : o ≡ none → none ≡ parent_in g h b o
  unfolding parent_in
  parent_unread e = rw (e, parent_in)

  module _ {x : Statement} (e : o ≡ some x) {p q : Bool} (n : p ≡ eqb b x.name) (r : q ≡ allowed g (message x)) where
    tested : {t : Bool} → (p && eqb h x.height && q) ≡ t → (eqb b x.name && eqb h x.height && allowed g (message x)) ≡ t
    tested d = sym (ap₂ (λ (i j : Bool). i && eqb h x.height && j) n r) ∙ d

    pub parent_here : (p && eqb h x.height && q) ≡ true → some x.link ≡ parent_in g h b o
    unfolding parent_in
    parent_here d = rw (e, parent_in, tested d)

    pub parent_other : (p && eqb h x.height && q) ≡ false → none ≡ parent_in g h b o
    unfolding parent_in
    parent_other d = rw (e, parent_in, tested d)

-- an entry that leads to a parent: it is there, it is the block asked for, and it is allowed
pub record Leads (g : Settings) (h b p : ℕ) (o : Option Statement) : Type 0 where
  pub entry : Statement
  pub is : o ≡ some entry
  pub named : b ≡ entry.name
  pub high : h ≡ entry.height
  pub right : allowed g (message entry) ≡ true
  pub parent : entry.link ≡ p

pub leads : (g : Settings) (h b p : ℕ) (o : Option Statement) → parent_in g h b o ≡ some p → Leads g h b p o
unfolding parent_in
leads g h b p none e = no_some e
leads g h b p (some x) e =
    by_bool (eqb b x.name && eqb h x.height && allowed g (message x))
    (λ q.
    let n = and_left (eqb b x.name && eqb h x.height) (allowed g (message x)) q in
    record {
      entry = x;
      is = refl;
      named = eqb-true b x.name (and_left (eqb b x.name) (eqb h x.height) n);
      high = eqb-true h x.height (and_right (eqb b x.name) (eqb h x.height) n);
      right = and_right (eqb b x.name && eqb h x.height) (allowed g (message x)) q;
      parent = some-injective x.link p (rw (q, parent_in) at e);
    })
    (λ q. no_some (rw (q, parent_in) at e))

pub parent_room : (g : Settings) (h b p : ℕ) (s : List ℕ) (at : ℕ) {o : Option ℕ} → o ≡ parent_in g h b (entry_at s at) → o ≡ some p → at + 100 ≤ length s
parent_room g h b p s at e q = let t = leads g h b p (entry_at s at) (sym e ∙ q) in entry_room s at t.entry t.is
