-- What a leader makes itself: a propose above the top of its view conflicts with nothing stored where no two stored ones of the
-- view do, whatever the station was handed; its new-view does where nothing of the view is stored. Assumes nothing.
use mathlib.Core.Path.{◌≡◌, refl, sym, ap, ◌∙◌}
use Prim.Native.Nat.{ℕ, ◌+◌, ◌≤◌}
use native.Mathlib.Omega.{arith}
use mathlib.Core.Bool.{Bool, true, false, not, ◌&&◌}
use mathlib.Core.List.{List, Memᴰ}
use mathlib.Core.Logic.{◌⊎◌, inl, inr}
use mathlib.Core.Option.{none, some, some-injective}
use lib.ListN.{get_or}
use lib.Dec.{eqb}
use borrow.Author.Tests.{eqb-true, eq-eqb, leb-true}
use Rattle.rules.specs.Lists.{first}
use Rattle.rules.specs.Messages.{Message, new_view, propose, kind, values}
use Rattle.rules.specs.Words.{Statement, message, against, conflict, in_view, State}
use Rattle.rules.specs.Inputs.{is_in, leads, top, above, offered}
use Rattle.laws.proofs.Tests.{by_bool, by_option, no_some, no_bool}
use Rattle.laws.proofs.Truths.{and_2, and_3, or_2}
use Rattle.laws.proofs.Searches.{first_any, first_mem}
use Rattle.laws.proofs.Statements.{conflict_against, conflict_view, no_conflict_level, In, mem_in, Clean, no_conflict}
use Rattle.laws.proofs.Offers.{top_mem, top_some, offer_made}
use Rattle.laws.proofs.Kept.{in_true}

-- a search for what no stored one is finds nothing
none_first : {A : Type 0} (p : A → Bool) (xs : List A) → ((z : A) → Memᴰ z xs → p z ≡ false) → first p xs ≡ none
none_first p xs h = by_option (first p xs) (λ e. e) (λ z e. no_bool (sym (first_any p xs z e).1 ∙ h z (first_mem p xs z e)))

-- a propose above the top of the view
module _ (v : ℕ) (xs : List Statement) (clean : Clean v xs) (y : Statement) (t : top v xs ≡ some y)
    (x : Statement) (isPropose : x.is_new_view ≡ false) (view : x.view ≡ v) (height : x.height ≡ y.height + 1) (parent : x.link ≡ y.name) where
  module _ (z : Statement) (m : Memᴰ z xs) (w : z.view ≡ v) where
    under : z.height ≤ y.height
    under =
        let (u, s, l) = top_some v xs z m w in
        omega (arith, l, ap (λ (a : Statement). a.height) (some-injective u y (sym s ∙ t)))

    -- what is stored as high as the top has its name
    level : z.height ≡ y.height → z.name ≡ y.name
    level h =
        let (i, e) = top_mem v xs y t in
        no_conflict_level y z (clean y z (mem_in xs y i) (mem_in xs z m) e) (w ∙ sym e) h

    not_against : against x z ≡ true → ⊥
    unfolding against
    not_against a = go (or_2 (not z.is_new_view && eqb x.height z.height && not (eqb x.name z.name)) _ (rw isPropose at a))
      where
        go : ((not z.is_new_view && eqb x.height z.height && not (eqb x.name z.name)) ≡ true)
            ⊎ ((eqb x.height (z.height + 1) && not (eqb x.link z.name)) ≡ true) → ⊥
        go (inl b) =
            omega (arith, height, under, eqb-true x.height z.height (and_3 (not z.is_new_view) (eqb x.height z.height) _ b).1)
        go (inr b) =
            let (p, q) = and_2 (eqb x.height (z.height + 1)) _ b in
            let n = level (omega (arith, height, eqb-true x.height (z.height + 1) p)) in
            no_bool (sym (rw (eq-eqb x.link z.name (parent ∙ sym n)) at q))

    none_against : against z x ≡ true → ⊥
    unfolding against
    none_against a =
        by_bool z.is_new_view
        (λ k. omega (arith, height, under, leb-true x.height z.height (rw (k, isPropose) at a)))
        (λ k. go (or_2 (not x.is_new_view && eqb z.height x.height && not (eqb z.name x.name)) _ (rw k at a)))
      where
        go : ((not x.is_new_view && eqb z.height x.height && not (eqb z.name x.name)) ≡ true)
            ⊎ ((eqb z.height (x.height + 1) && not (eqb z.link x.name)) ≡ true) → ⊥
        go (inl b) =
            omega (arith, height, under, eqb-true z.height x.height (and_3 (not x.is_new_view) (eqb z.height x.height) _ b).1)
        go (inr b) =
            omega (arith, height, under, eqb-true z.height (x.height + 1) (and_2 (eqb z.height (x.height + 1)) _ b).0)

  above_clean : first (conflict x) xs ≡ none
  above_clean =
      none_first (conflict x) xs
      (λ z m.
      by_bool (conflict x z)
      (λ c. let w = sym (conflict_view x z c) ∙ view in absurd (go z m w (conflict_against x z c)))
      (λ c. c))
    where
      go : (z : Statement) → Memᴰ z xs → z.view ≡ v → (against x z ≡ true) ⊎ (against z x ≡ true) → ⊥
      go z m w (inl a) = not_against z m w a
      go z m w (inr a) = none_against z m w a

-- ---- of a station

message_new_view : (x : Statement) → x.is_new_view ≡ true → message x ≡ new_view x.view x.height x.name x.link x.mask x.author
unfolding message
message_new_view x q = rw (q, message) refl

message_made : (x : Statement) → x.is_new_view ≡ false → message x ≡ propose x.view x.height x.name x.link x.mask x.author
unfolding message
message_made x q = rw (q, message) refl

-- the n-th field of a message
abbrev nth : ℕ → Message → ℕ
nth n m = get_or (values m) n 0

-- What an offer makes conflicts with nothing stored, where no two stored ones of the view that the station is in do: as L2 has it
-- of every station, whatever it was handed. So no offer makes a station quit.
pub made_clean : (b : ℕ) (s : State) (x : Statement) → (s.phase ≡ in_view → Clean s.view s.statements) → offered b s ≡ some (message x)
    → first (conflict x) s.statements ≡ none
unfolding above kind values leads
made_clean b s x c e =
    let (y, t, l, o, z, k, f) = offer_made b s (message x) e in
    let i = (in_true s.view s (and_2 (is_in s.view s) _ l).0).0 in
    by_bool x.is_new_view (λ q. let n : 2 ≡ 1 = ap kind (f ∙ message_new_view x q) in absurd (omega arith))
    (λ q.
    let g = f ∙ message_made x q in
    above_clean s.view s.statements (c i) y t x q (sym (ap (nth 0) g)) (sym (ap (nth 1) g)) (sym (ap (nth 3) g)))

-- nor does it conflict with what the station made before, which is stored
pub made_apart : (b : ℕ) (s : State) (x y : Statement) → (s.phase ≡ in_view → Clean s.view s.statements) → offered b s ≡ some (message x)
    → In s.statements y → conflict x y ≡ false
made_apart b s x y c e = no_conflict x y s.statements (made_clean b s x c e)

-- the leader's new-view conflicts with nothing where nothing of its view is stored
pub led_clean : (s : State) (x : Statement) → x.view ≡ s.view → top s.view s.statements ≡ none → first (conflict x) s.statements ≡ none
led_clean s x v t =
    none_first (conflict x) s.statements
    (λ z m.
    by_bool (conflict x z)
    (λ c. let (y, e, l) = top_some s.view s.statements z m (sym (conflict_view x z c) ∙ v) in no_some (sym t ∙ e))
    (λ c. c))
