-- Statements on the chains of their heights. Assumes nothing.
use Prim.Native.Nat.{ℕ, suc, ◌+◌, ◌-◌, ◌%◌, ◌<◌, ◌≤◌}
use mathlib.Core.Path.{◌≡◌, sym, ap, ◌∙◌}
use mathlib.Core.Bool.{Bool, true, false, not, ◌&&◌, ◌||◌, and_comm, false≢true}
use mathlib.Core.List.{List}
use mathlib.Core.Option.{some}
use native.Mathlib.Omega.{arith}
use native.Mathlib.Nat.{sub-zero}
use lib.Dec.{eqb}
use borrow.Author.Tests.{eqb-true, not-true}
use Rattle.rules.specs.Lists.{first, any}
use Rattle.rules.specs.Words.{Statement}
use Rattle.rules.specs.Inputs.{is_block}
use Rattle.laws.proofs.Tests.{and_left, and_right}
use Rattle.laws.proofs.Truths.{eqb_sym}
use Rattle.laws.proofs.Searches.{first_any, first_none}
use Rattle.store.specs.Layout.{statement_table, count_of}
use Rattle.store.specs.Decode.{nth, rows, statement_at, statements, name_at}
use Rattle.chains.specs.Chains.{chains, Chained, places, behind, Walk}
use Rattle.chains.proofs.Walks.{walk_start, walk_on}
use Rattle.chains.proofs.Apart.{any_same}
use Rattle.chains.proofs.Firsts.{first_whole, first_here, first_next, first_end, first_record}
use Rattle.linked.specs.Told.{name_below}
use Rattle.linked.specs.Links.{is_link, sought_at, height_chain, place_left, Foremost, Foremosts}
use Rattle.linked.proofs.Parts.{has_link}

block_height : (height name : ℕ) (x : Statement) → is_block height name x ≡ true → height ≡ x.height
unfolding is_block
block_height height name x e =
    let kind = not x.is_new_view in
    let high = eqb height x.height in
    eqb-true _ _ (and_right kind high (and_left (kind && high) (eqb name x.name) e))

-- where some are left there is a place
pub place_left_lem : (n r : ℕ) → 0 < r → some (n - r) ≡ place_left n r
place_left_lem n r g = let e : r ≡ suc (r - 1) = omega arith in ap (λ (s : ℕ). some (n - s)) e ∙ ap (place_left n) (sym e)

-- all proposes that are sought for a logged name are on the chain of its height
module _ (b : List ℕ) (k : ℕ) (free : Bool) where
  abbrev test : ℕ → Bool
  test = sought_at b k free

  alike : (j : ℕ) → test j ≡ true → height_chain b j ≡ (k + 1) % chains
  alike j t =
      ap (◌% chains) (sym (block_height (k + 1) (name_at b k) (statement_at b j) (and_right (free || eqb (statement_at b j).link (name_below b k)) _ t)))

  module _ {n : ℕ} {heads nexts : List ℕ} (h : Chained (height_chain b) 0 n heads nexts) (m : (k + 1) % chains < chains) where
    pub sought_start : Walk test n (nth heads ((k + 1) % chains)) nexts
    sought_start = walk_start (height_chain b) h (omega arith) test ((k + 1) % chains) m alike

    pub sought_whole : first test (places 0 n) ≡ first test (behind n (nth heads ((k + 1) % chains)))
    sought_whole =
        ap (λ (j : ℕ). first test (places 0 j)) (sym (sub-zero n))
        ∙ first_whole test (height_chain b) ((k + 1) % chains) alike h (omega arith) m

-- a walk for the propose above the name below, which knows whether it has met the name
pub record Seeking (b : List ℕ) (k n left : ℕ) (nexts : List ℕ) (unmet : Bool) : Type 0 where
  pub above : Walk (sought_at b k false) n left nexts
  pub above_left : first (sought_at b k false) (places 0 n) ≡ first (sought_at b k false) (behind n left)
  pub any : Walk (sought_at b k true) n left nexts
  pub any_left : unmet ≡ true → first (sought_at b k true) (places 0 n) ≡ first (sought_at b k true) (behind n left)

pub seek_start : (b : List ℕ) (k : ℕ) {n : ℕ} {heads nexts : List ℕ} → Chained (height_chain b) 0 n heads nexts → (k + 1) % chains < chains → Seeking b k n (nth heads ((k + 1) % chains)) nexts true
seek_start b k h m =
    record {
      above = sought_start b k false h m;
      above_left = sought_whole b k false h m;
      any = sought_start b k true h m;
      any_left = λ t. sought_whole b k true h m;
    }

module _ {b : List ℕ} {k n left : ℕ} {nexts : List ℕ} {unmet : Bool} (s : Seeking b k n left nexts unmet) where
  pub seek_end : left ≤ 0 → Foremosts b k n 0 false
  seek_end z =
      record { above = record { within = omega arith; is = s.above_left ∙ first_end (sought_at b k false) n left z }; any = λ t. absurd (false≢true t) }

  module _ (h : 0 < left) where
    pub seek_here : sought_at b k false (n - left) ≡ true → Foremosts b k n left unmet
    seek_here t =
        let named = and_right (eqb (statement_at b (n - left)).link (name_below b k)) _ t in
        let within = s.above.within in
        record {
          above = record { within = within; is = s.above_left ∙ first_here s.above h t ∙ place_left_lem n left h };
          any = λ u. record { within = within; is = s.any_left u ∙ first_here s.any h named ∙ place_left_lem n left h };
        }

    pub seek_on : sought_at b k false (n - left) ≡ false → {r : Bool} → r ≡ sought_at b k true (n - left) → Seeking b k n (nth nexts (n - left)) nexts (unmet && not r)
    seek_on t {r} is =
        record {
          above = walk_on s.above h;
          above_left = s.above_left ∙ first_next s.above h t;
          any = walk_on s.any h;
          any_left = λ u. s.any_left (and_left unmet (not r) u) ∙ first_next s.any h (sym is ∙ not-true r (and_right unmet (not r) u));
        }

module _ (b : List ℕ) (n k r : ℕ) (e : n ≡ count_of statement_table b) where
  -- the first with any parent
  pub block_is : Foremost (sought_at b k true) n r → 0 < r → first (is_block (k + 1) (name_at b k)) (statements b) ≡ some (statement_at b (n - r))
  unfolding statements
  block_is f g =
      ap (λ (j : ℕ). first (is_block (k + 1) (name_at b k)) (rows (statement_at b) 0 j)) (sym e)
      ∙ first_record (statement_at b) (is_block (k + 1) (name_at b k)) 0 n (n - r) (f.is ∙ sym (place_left_lem n r g))

  -- whether there is one above the name below
  links_any : any (sought_at b k false) (places 0 n) ≡ has_link b k
  unfolding statements is_link
  links_any =
      any_same (statement_at b) (is_link (k + 1) (name_at b k) (name_below b k)) (sought_at b k false) 0 n
      (λ j x y.
      and_comm (eqb (statement_at b j).link (name_below b k)) (is_block (k + 1) (name_at b k) (statement_at b j))
      ∙ ap (is_block (k + 1) (name_at b k) (statement_at b j) &&◌) (eqb_sym (statement_at b j).link (name_below b k)))
      ∙ ap (λ (j : ℕ). any (is_link (k + 1) (name_at b k) (name_below b k)) (rows (statement_at b) 0 j)) e

  pub link_none : Foremost (sought_at b k false) n r → r ≡ 0 → has_link b k ≡ false
  link_none f z = sym links_any ∙ first_none (sought_at b k false) (places 0 n) (f.is ∙ ap (place_left n) z)

  pub link_some : Foremost (sought_at b k false) n r → (r ≡ 0 → ⊥) → has_link b k ≡ true
  link_some f d =
      sym links_any ∙ (first_any (sought_at b k false) (places 0 n) (n - r) (f.is ∙ sym (place_left_lem n r (omega arith)))).0
