-- Laws of chains, for any records, numbers and tests: what hangs on a chain, and what a walk along it meets. Assumes nothing.
use Rattle.std.proofs.Common.{◌≡◌, ℕ, zero, suc, ◌+◌, ◌-◌, ◌*◌, ◌<◌, ◌≤◌, Bool, true, false, eqb, List, length, set, sym, refl, ap, ◌∙◌, mul-le-mul_left, mul-suc, add-one, arith, length-set, get_or-set_other, get_or-set_same, eq-eqb, ne_eqb, eqb-true}
use native.Mathlib.Decide.{ℕ_discrete}
use lib.ListN.{get_or-replicate, length-replicate}
use Rattle.rules.specs.Limits.{most_tallies_large}
use Rattle.rules.specs.Lists.{any}
use Rattle.lookup.specs.Search.{pick}
use Rattle.store.specs.Decode.{rows, nth}
use Rattle.form.proofs.Walks.{any_here}
use Rattle.chains.proofs.Firsts.{Skips, whole_of, next_of}
use Rattle.chains.specs.Chains.{chains, first_of, Following, Chained, Bare, places, behind, Walk}

-- a record below the count, of a size, lies in the store
pub record_within : (base size i n long : ℕ) → i < n → base + size * n ≤ long → base + size * i + size ≤ long
record_within base size i n long h l = omega (arith, mul-le-mul_left size h, mul-suc size i)

-- what fails a test is not among those that pass it
any_skips : (p : ℕ → Bool) → Skips p (any p)
unfolding any
any_skips p k ks t = rw (t, any)

module _ (f : ℕ → ℕ) where
  -- the first of a chain is one of the records, and on the chain
  abbrev Told : ℕ → ℕ → ℕ → ℕ → Type 0
  Told c i n left = (left ≤ n) × (0 < left → f (i + n - left) ≡ c)

  pub first_told : (c i n : ℕ) → Told c i n (first_of f c i n)
  unfolding first_of
  first_told c i zero = (omega arith, (λ h. absurd (omega arith)))
  first_told c i (suc n) = go (eqb (f i) c) refl (first_told c (suc i) n)
    where
      go : (b : Bool) → eqb (f i) c ≡ b → Told c (suc i) n (first_of f c (suc i) n) → Told c i (suc n) (pick b (suc n) (first_of f c (suc i) n))
      go true q h = (omega arith, (λ l. let e : i + suc n - suc n ≡ i = omega arith in rw e (eqb-true (f i) c q)))
      go false q h = (omega (arith, h.0), (λ l. let e : i + suc n - first_of f c (suc i) n ≡ suc i + n - first_of f c (suc i) n = omega arith in rw e (h.1 l)))

  first_step : (d i n : ℕ) → i < n → first_of f d i (n - i) ≡ pick (eqb (f i) d) (n - i) (first_of f d (i + 1) (n - (i + 1)))
  unfolding first_of
  first_step d i n h = let e : n - i ≡ suc (n - (i + 1)) = omega arith in rw (e, add-one i)

  -- no record hangs yet
  pub chained_none : (n : ℕ) (heads nexts : List ℕ) → Bare heads nexts → Chained f n n heads nexts
  unfolding first_of
  chained_none n heads nexts e =
      let z : n - n ≡ 0 = omega arith in
      record {
        head = λ c l. rw (e.heads_are, z) (get_or-replicate chains c 0 0 l);
        next = λ k a b. absurd (omega arith);
        long = ap length e.heads_are ∙ length-replicate {A = ℕ} chains 0;
        wide = ap length e.nexts_are ∙ length-replicate {A = ℕ} most_tallies_large 0;
      }

  -- one record more, before those that hang
  module _ (i n : ℕ) (heads nexts : List ℕ) (l : i < n) (h : Chained f (i + 1) n heads nexts) (c : ℕ) (q : c ≡ f i) (m : c < chains) (room : i < most_tallies_large) where
    more_heads : (d : ℕ) → d < chains → nth (set heads c (n - i)) d ≡ first_of f d i (n - i)
    more_heads d b =
        elim (ℕ_discrete d c) [
          | yes e ↦ rw (e, first_step c i n l, eq-eqb (f i) c (sym q)) (get_or-set_same heads c (n - i) 0 (omega (arith, h.long)))
          | no e ↦ rw (first_step d i n l, ne_eqb (f i) d (λ r. e (sym (q ∙ r)))) (get_or-set_other heads c d (n - i) 0 e ∙ h.head d b)
        ]

    more_nexts : Following f i n (set nexts i (nth heads c))
    more_nexts k a b =
        elim (ℕ_discrete k i) [
          | yes e ↦ rw (e, ← q) (get_or-set_same nexts i (nth heads c) 0 (omega (arith, h.wide)) ∙ h.head c m)
          | no e ↦ get_or-set_other nexts i k (nth heads c) 0 e ∙ h.next k (omega arith) b
        ]

    pub chained_more : Chained f i n (set heads c (n - i)) (set nexts i (nth heads c))
    chained_more = record { head = more_heads; next = more_nexts; long = length-set heads c (n - i) ∙ h.long; wide = length-set nexts i (nth heads c) ∙ h.wide }

  -- a walk begins at the head of its chain
  module _ {i n : ℕ} {heads nexts : List ℕ} (h : Chained f i n heads nexts) (l : i ≤ n) (p : ℕ → Bool) (c : ℕ) (m : c < chains) (alike : (k : ℕ) → p k ≡ true → f k ≡ c) where
    told : Told c i (n - i) (nth heads c)
    told = rw (h.head c m) (first_told c i (n - i))

    total : i + (n - i) ≡ n
    total = omega arith

    pub walk_start : Walk p n (nth heads c) nexts
    walk_start =
        record {
          of = f;
          chain = c;
          alike = alike;
          within = omega (arith, told.0);
          hung = λ g. rw (← total) (told.1 g);
          rest = λ k a b. h.next k (omega (arith, told.0)) b;
        }

    pub walk_whole : any p (places i (n - i)) ≡ any p (behind n (nth heads c))
    walk_whole = whole_of p (any p) (any_skips p) f c alike h l m

pub walk_end : (p : ℕ → Bool) (n left : ℕ) → left ≤ 0 → any p (behind n left) ≡ false
unfolding any rows
walk_end p n left h = let e : left ≡ 0 = omega arith in rw e

-- a walk at a record
module _ {p : ℕ → Bool} {n left : ℕ} {nexts : List ℕ} (w : Walk p n left nexts) (h : 0 < left) where
  abbrev at : ℕ
  at = n - left

  abbrev next : ℕ
  next = nth nexts at

  next_is : next ≡ first_of w.of w.chain (at + 1) (n - (at + 1))
  next_is = w.rest at (omega arith) (omega (arith, w.within)) ∙ ap (λ (c : ℕ). first_of w.of c (at + 1) (n - (at + 1))) (w.hung h)

  next_told : Told w.of w.chain (at + 1) (n - (at + 1)) next
  next_told = rw next_is (first_told w.of w.chain (at + 1) (n - (at + 1)))

  total_on : at + 1 + (n - (at + 1)) ≡ n
  total_on = omega (arith, w.within)

  count_on : left ≡ n - at
  count_on = omega (arith, w.within)

  pub walk_less : next < left
  walk_less = omega (arith, next_told.0, w.within)

  pub walk_on : Walk p n next nexts
  walk_on =
      record {
        of = w.of;
        chain = w.chain;
        alike = w.alike;
        within = omega (arith, walk_less, w.within);
        hung = λ g. ap (λ (t : ℕ). w.of (t - next)) (sym total_on) ∙ next_told.1 g;
        rest = λ k a b. w.rest k (omega (arith, walk_less)) b;
      }

  whole_on : any p (behind n left) ≡ any p (places at (n - at))
  whole_on = ap (λ (m : ℕ). any p (places at m)) count_on

  pub walk_here : p at ≡ true → any p (behind n left) ≡ true
  walk_here t = whole_on ∙ any_here (λ k. k) n p at (omega (arith, w.within)) t

  pub walk_next : p at ≡ false → any p (behind n left) ≡ any p (behind n next)
  walk_next t = next_of (any p) (any_skips p) w h t
