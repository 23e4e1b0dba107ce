-- The walk down a chain: where it begins, goes on and ends. Assumes nothing.
use Prim.Native.Nat.{ℕ, zero, suc, ◌+◌, ◌-◌, ◌<◌, ◌≤◌}
use mathlib.Core.Path.{◌≡◌, refl, sym, ap, ap₂, ◌∙◌, subst}
use mathlib.Core.Bool.{Bool, true}
use mathlib.Core.List.{List, [], ◌∷◌}
use mathlib.Core.Option.{none, some}
use native.Mathlib.Omega.{arith}
use native.Mathlib.Numerals.{sub-one}
use native.Mathlib.Decide.{dec_lt}
use native.Mathlib.Nat.{sub-zero}
use lib.ListN.{length, get_or, set, length-set}
use lib.Seq.{get_or-set_same, get_or-set_other}
use Rattle.rules.specs.Limits.{most_statements_large}
use Rattle.rules.specs.Lists.{first}
use Rattle.rules.specs.Words.{Statement}
use Rattle.rules.specs.Inputs.{is_block, chain_to, chain}
use Rattle.store.specs.Layout.{statement_table, count_of}
use Rattle.store.specs.Decode.{nth, rows, statement_at, statements, name_at}
use Rattle.std.specs.Prelude.{Option, Some, None}
use Rattle.store.proofs.Rows.{rows_same}
use Rattle.store.specs.Searches.{first_from}
use Rattle.store.proofs.Searches.{found_within, found_matches, found_first, missing_first}
use Rattle.linked.specs.Told.{name_below, Told}
use Rattle.glance.specs.Tables.{statement_in, name_in, Stored}
use Rattle.walks.specs.Chains.{lacking, Walked, WalkedDown, Meets, Lowered}
use Rattle.glance.proofs.Readers.{block_height, block_name}
use Rattle.glance.proofs.Tables.{name_at_lem}
use Rattle.glance.proofs.Telling.{told_name}
use Rattle.walks.proofs.Reaching.{below_name, told_under, told_at, reach, told_chain}

-- one step down a chain
chain_down : (xs : List Statement) (k n : ℕ) (x : Statement) → 0 < k → first (is_block k n) xs ≡ some x → (c : List ℕ)
    → chain_to xs k n c ≡ chain_to xs (k - 1) x.link (n ∷ c)
unfolding chain_to
chain_down xs zero n x l e c = absurd (omega arith)
chain_down xs (suc k) n x l e c = rw (e, chain_to, sub-one)

chain_broken : (xs : List Statement) (k n : ℕ) → 0 < k → first (is_block k n) xs ≡ none → (c : List ℕ) → chain_to xs k n c ≡ lacking k c
unfolding chain_to
chain_broken xs zero n l e c = absurd (omega arith)
chain_broken xs (suc k) n l e c = rw (e, chain_to)

-- the blocks from height k + 1 on are in the table; the chain of each goes on with the name `link` at height k
pub record Down (b t : List ℕ) (height k link : ℕ) : Type 0 where
  pub stored : Stored b t k height
  pub chains : (j : ℕ) → k ≤ j → j < height → chain (statements b) (statement_in b t j) ≡ chain_to (statements b) k link (rows (name_in b t) k (j + 1 - k))

module _ (b : List ℕ) where
  -- the place that is written into the table, and the others
  in_same : (t : List ℕ) (k p : ℕ) → k < length t → statement_in b (set t k p) k ≡ statement_at b p
  unfolding statement_in
  in_same t k p l = ap (statement_at b) (get_or-set_same t k p 0 l)

  in_other : (t : List ℕ) (k p j : ℕ) → (j ≡ k → ⊥) → statement_in b (set t k p) j ≡ statement_in b t j
  unfolding statement_in
  in_other t k p j d = ap (statement_at b) (get_or-set_other t k j p 0 d)

  -- the block written has the chain below it
  own_chain : (t : List ℕ) (k p : ℕ) → k < length t → k + 1 ≡ (statement_at b p).height
      → chain (statements b) (statement_in b (set t k p) k) ≡ chain_to (statements b) k (statement_at b p).link (rows (name_in b (set t k p)) k (k + 1 - k))
  unfolding chain rows name_in
  own_chain t k p l e =
      let x = statement_at b p in
      let one : k + 1 - k ≡ 1 = omega arith in
      let low : x.height - 1 ≡ k = omega arith in
      let here = in_same t k p l in
      ap (chain (statements b)) here
      ∙ ap₂ (λ (n : ℕ) (m : ℕ). chain_to (statements b) n x.link (m ∷ [])) low (ap (λ (y : Statement). y.name) (sym here))
      ∙ ap (λ (n : ℕ). chain_to (statements b) k x.link (rows (name_in b (set t k p)) k n)) (sym one)

  down_start : (t : List ℕ) (i h : ℕ) → i < count_of statement_table b → h ≡ (statement_at b i).height → 1 ≤ h → h ≤ length t
      → Down b (set t (h - 1) i) h (h - 1) (statement_at b i).link
  down_start t i h s e l m =
      let t' = set t (h - 1) i in
      record {
        stored = λ k p q.
            let z : k ≡ h - 1 = omega arith in
            omega (arith, ap (λ (x : ℕ). get_or t' x 0) z, get_or-set_same t (h - 1) i 0 (omega arith));
        chains = λ j p q.
            let z : h - 1 ≡ j = omega arith in
            subst (λ (j : ℕ). chain (statements b) (statement_in b t' j) ≡ chain_to (statements b) (h - 1) (statement_at b i).link (rows (name_in b t') (h - 1) (j + 1 - (h - 1)))) z
            (own_chain t (h - 1) i (omega arith) (omega arith));
      }

  module _ (t : List ℕ) (h k link : ℕ) (d : Down b t h k link) (f : Option ℕ) (found : f ≡ first_from (is_block k link) 0 (statements b)) (pos : 0 < k) where
    down_broken : f ≡ None → Walked b t h k
    unfolding statements
    down_broken e =
        let q = missing_first (is_block k link) (statement_at b) (count_of statement_table b) f found e in
        record {
          stored = d.stored;
          chains = λ j l m. d.chains j l m ∙ chain_broken (statements b) k link pos q (rows (name_in b t) k (j + 1 - k)) ∙ lacks k pos _ _;
        }
      where
        lacks : (k : ℕ) → 0 < k → (c c' : List ℕ) → lacking k c ≡ lacking k c'
        lacks zero l c c' = absurd (omega arith)
        lacks (suc k) l c c' = refl

    module _ (p : ℕ) (at : f ≡ Some p) where
      found_stored : p < count_of statement_table b
      unfolding statements
      found_stored = found_within (is_block k link) (statement_at b) (count_of statement_table b) f found p at

      down_next : h ≤ length t → k < h → Down b (set t (k - 1) p) h (k - 1) (statement_at b p).link
      unfolding name_in rows statements
      down_next m o =
          let t' = set t (k - 1) p in
          let x = statement_at b p in
          let block = found_matches (is_block k link) (statement_at b) (count_of statement_table b) f found p at in
          let tall = block_height k link x block in
          let name : link ≡ name_in b t' (k - 1) = block_name k link x block ∙ ap (λ (y : Statement). y.name) (sym (in_same t (k - 1) p (omega arith))) in
          let other : (j : ℕ) → k ≤ j → name_in b t j ≡ name_in b t' j = λ j l. ap (λ (y : Statement). y.name) (sym (in_other t (k - 1) p j (λ q. omega arith))) in
          record {
            stored = λ j l q.
                elim (dec_lt (k - 1) j) [
                  | yes u ↦ omega (arith, get_or-set_other t (k - 1) j p 0 (λ z. omega arith), d.stored j (omega arith) q)
                  | no u ↦ (let z : j ≡ k - 1 = omega arith in omega (arith, ap (λ (x : ℕ). get_or t' x 0) z, get_or-set_same t (k - 1) p 0 (omega arith), found_stored))
                ];
            chains = λ j l q.
                elim (dec_lt (k - 1) j) [
                  | yes u ↦
                      (let z : j + 1 - (k - 1) ≡ suc (j + 1 - k) = omega arith in
                      let y : suc (k - 1) ≡ k = omega arith in
                      let r : link ∷ rows (name_in b t) k (j + 1 - k) ≡ rows (name_in b t') (k - 1) (j + 1 - (k - 1)) =
                      ap₂ ◌∷◌ name (rows_same (name_in b t) (name_in b t') k (j + 1 - k) (λ i a c. other i a))
                      ∙ ap (λ (n : ℕ). name_in b t' (k - 1) ∷ rows (name_in b t') n (j + 1 - k)) (sym y)
                      ∙ ap (rows (name_in b t') (k - 1)) (sym z) in
                      ap (chain (statements b)) (in_other t (k - 1) p j (λ q. omega arith)) ∙ d.chains j (omega arith) q
                      ∙ chain_down (statements b) k link x pos (found_first (is_block k link) (statement_at b) (count_of statement_table b) f found p at) (rows (name_in b t) k (j + 1 - k)) ∙ ap (chain_to (statements b) (k - 1) x.link) r)
                  | no u ↦
                      (let z : k - 1 ≡ j = omega arith in
                      subst (λ (j : ℕ). chain (statements b) (statement_in b t' j) ≡ chain_to (statements b) (k - 1) x.link (rows (name_in b t') (k - 1) (j + 1 - (k - 1)))) z
                      (own_chain t (k - 1) p (omega arith) (omega arith)))
                ];
          }

  down_end : (t : List ℕ) (h k link : ℕ) → k ≡ 0 → Down b t h k link → Walked b t h k
  unfolding chain_to
  down_end t h k link z d = subst (λ (n : ℕ). Down b t h n link → Walked b t h n) (sym z)
      (λ (d : Down b t h 0 link). record { stored = d.stored; chains = λ j l m. d.chains j l m ∙ ap (λ (n : ℕ). some (rows (name_in b t) 0 n)) (sub-zero (j + 1)) }) d

  -- the chain goes on with the log, whose lowest places are put below
  module _ (t told t' : List ℕ) (h k link : ℕ) (d : Down b t h k link) (pos : 0 < k) (below : k < h) (tells : Told b told) (here : 0 < nth told (k - 1)) (c : Lowered told t t' k) where
    told_low : (j : ℕ) → j < k → 0 < nth told j
    told_low j l = told_under tells (k - 1) here j (omega arith)

    low_place : (j p : ℕ) → j < k → nth told j ≡ suc p → get_or t' j 0 ≡ p
    low_place j p l q = omega (arith, c.within j l)

    low_name : (j : ℕ) → j < k → name_in b t' j ≡ name_at b j
    low_name j l = told_at tells j (told_low j l) (λ p q. sym (told_name tells j p q ∙ name_at_lem b t' j p (sym (low_place j p l q))))

    same_in : (j : ℕ) → k ≤ j → statement_in b t' j ≡ statement_in b t j
    unfolding statement_in
    same_in j l = ap (statement_at b) (c.above j l)

    down_meets : link ≡ name_at b (k - 1) → Walked b t' h 0
    unfolding statement_in name_in
    down_meets e =
        record {
          stored = λ j l m.
              elim (dec_lt j k) [
                | yes u ↦ told_at tells j (told_low j u) (λ p q. omega (arith, low_place j p u q, (tells.settles j p q).stored))
                | no u ↦ omega (arith, c.above j (omega arith), d.stored j (omega arith) m)
              ];
          chains = λ j l m.
              elim (dec_lt j k) [
                | yes u ↦
                    told_at tells j (told_low j u)
                    (λ p q. ap (λ (i : ℕ). chain (statements b) (statement_at b i)) (low_place j p u q) ∙ told_chain tells j p q (name_in b t') (λ i v. low_name i (omega arith)))
                | no u ↦
                    (let z : k + (j + 1 - k) ≡ j + 1 = omega arith in
                    ap (chain (statements b)) (same_in j (omega arith)) ∙ d.chains j (omega arith) m
                    ∙ ap (λ (n : ℕ). chain_to (statements b) k n (rows (name_in b t) k (j + 1 - k))) (e ∙ sym (below_name b k pos))
                    ∙ ap (chain_to (statements b) k (name_below b k)) (rows_same (name_in b t) (name_in b t') k (j + 1 - k) (λ i v w. ap (λ (y : Statement). y.name) (sym (same_in i v))))
                    ∙ reach tells (name_in b t') k (j + 1 - k) told_low low_name
                    ∙ ap (λ (n : ℕ). some (rows (name_in b t') 0 n)) z)
              ];
        }

-- ---- the loop of the walk

pub record Walking (b t : List ℕ) (i height k link : ℕ) : Type 0 where
  pub below : k < height
  pub tall : height ≡ (statement_at b i).height
  pub most : height ≤ most_statements_large
  pub long : length t ≡ most_statements_large
  pub top : get_or t (height - 1) 0 ≡ i
  pub down : Down b t height k link

pub walking_start : {b : List ℕ} {i height link : ℕ} (t : List ℕ) → i < count_of statement_table b → height ≡ (statement_at b i).height → 1 ≤ height → height ≤ most_statements_large
    → length t ≡ most_statements_large → link ≡ (statement_at b i).link → Walking b (set t (height - 1) i) i height (height - 1) link
walking_start {b} {i} {height} t s e l m n q = record {
  below = omega arith;
  tall = e;
  most = m;
  long = length-set t (height - 1) i ∙ n;
  top = get_or-set_same t (height - 1) i 0 (omega arith);
  down = subst (Down b (set t (height - 1) i) height (height - 1)) (sym q) (down_start b t i height s e l (omega arith));
}

module _ {b t : List ℕ} {i height k link : ℕ} (w : Walking b t i height k link) where
  from : (left : ℕ) → left < height → Walked b t height left → WalkedDown b t i left 0
  from left l d = record {
    from =
        record {
          walked = subst (λ (n : ℕ). Walked b t n left) w.tall d;
          below = omega (arith, w.tall);
          top = ap (λ (n : ℕ). get_or t (n - 1) 0) (sym w.tall) ∙ w.top;
        };
    lowest = record { logged = omega arith; names = λ j l. absurd (omega arith) };
  }

  pub walking_end : k ≡ 0 → WalkedDown b t i 0 0
  walking_end z = from 0 (omega (arith, w.below)) (subst (Walked b t height) z (down_end b t height k link z w.down))

  -- it meets the log
  pub walking_meets : {told t' : List ℕ} (r : Bool) → Meets b told k link r → r ≡ true → Told b told → 0 < k → Lowered told t t' k → WalkedDown b t' i 0 k
  walking_meets {told} {t'} r m e tells pos c =
      let q = subst (Meets b told k link) e m in
      record {
        from =
            record {
              walked = subst (λ (n : ℕ). Walked b t' n 0) w.tall (down_meets b t told t' height k link w.down pos w.below tells q.0 c q.1);
              below = omega (arith, w.tall, w.below);
              top = ap (λ (n : ℕ). get_or t' (n - 1) 0) (sym w.tall) ∙ c.above (height - 1) (omega (arith, w.below)) ∙ w.top;
            };
        lowest =
            record {
              logged = told_at tells (k - 1) q.0 (λ p u. omega (arith, (tells.settles (k - 1) p u).logged));
              names = low_name b t told t' height k link w.down pos w.below tells q.0 c;
            };
      }

  module _ {f : Option ℕ} (found : f ≡ first_from (is_block k link) 0 (statements b)) (pos : 0 < k) where
    pub walking_broken : f ≡ None → WalkedDown b t i k 0
    walking_broken e = from k w.below (down_broken b t height k link w.down f found pos e)

    module _ {p : ℕ} (e : f ≡ Some p) where
      pub walking_stored : p < count_of statement_table b
      walking_stored = found_stored b t height k link w.down f found pos p e

      pub walking_next : {link' : ℕ} → link' ≡ (statement_at b p).link → Walking b (set t (k - 1) p) i height (k - 1) link'
      walking_next q = record {
        below = omega (arith, w.below);
        tall = w.tall;
        most = w.most;
        long = length-set t (k - 1) p ∙ w.long;
        top = get_or-set_other t (k - 1) (height - 1) p 0 (λ z. omega (arith, w.below)) ∙ w.top;
        down =
            subst (Down b (set t (k - 1) p) height (k - 1)) (sym q)
            (down_next b t height k link w.down f found pos p e (omega (arith, w.most, w.long)) w.below);
      }
