-- Statements on chains: whether statement i is met again behind it. Assumes nothing.
use Prim.Native.Nat.{ℕ, ◌+◌, ◌-◌, ◌<◌, ◌≤◌}
use mathlib.Core.Path.{◌≡◌, refl, sym, ap₂, ◌∙◌}
use mathlib.Core.Bool.{Bool, true, false, ◌&&◌}
use mathlib.Core.List.{List}
use native.Mathlib.Omega.{arith}
use lib.Dec.{eqb}
use lib.ListN.{set}
use borrow.Author.Tests.{eqb-true}
use Rattle.rules.specs.Limits.{small, most_statements_large}
use Rattle.rules.specs.Lists.{iff, any}
use Rattle.rules.specs.Words.{Statement, Certificate, own_block, certificate, same_statement}
use Rattle.laws.proofs.Tests.{by_bool, and_left, and_right}
use Rattle.fields.specs.Places.{Bytes, number}
use Rattle.store.specs.Layout.{statement_table, place_of}
use Rattle.fields.proofs.Laws.{number_lt}
use Rattle.store.specs.Decode.{nth, rows, statement_at, kind_at}
use Rattle.store.proofs.Searches.{statement_tests}
use Rattle.chains.specs.Chains.{chains, stir, stir_words, stir_name, chain_of, Chained, behind, Walk}
use Rattle.chains.proofs.Mixes.{words_name}
use Rattle.chains.proofs.Walks.{chained_more, walk_start, walk_whole}
use Rattle.chains.proofs.Apart.{any_same}
use Rattle.apart.specs.Tallies.{Keyed}
use Rattle.apart.proofs.Hanging.{key_is}
use Rattle.repeats.specs.Repeats.{stir_of, statement_chain, is_same}

-- what is the same has the same view, height, name and link
module _ (x y : Statement) (e : same_statement x y ≡ true) where
  abbrev kind : Bool
  kind = iff x.is_new_view y.is_new_view

  abbrev view : Bool
  view = eqb x.view y.view

  abbrev height : Bool
  height = eqb x.height y.height

  abbrev name : Bool
  name = eqb x.name y.name

  abbrev link : Bool
  link = eqb x.link y.link

  linked : (kind && view && height && name && link) ≡ true
  unfolding same_statement
  linked = and_left (kind && view && height && name && link) _ e

  named : (kind && view && height && name) ≡ true
  named = and_left (kind && view && height && name) link linked

  same_view : x.view ≡ y.view
  same_view = eqb-true _ _ (and_right kind view (and_left (kind && view) height (and_left (kind && view && height) name named)))

  same_height : x.height ≡ y.height
  same_height = eqb-true _ _ (and_right (kind && view) height (and_left (kind && view && height) name named))

  same_name : x.name ≡ y.name
  same_name = eqb-true _ _ (and_right (kind && view && height) name named)

  same_link : x.link ≡ y.link
  same_link = eqb-true _ _ (and_right (kind && view && height && name) link linked)

  same_kind : x.is_new_view ≡ y.is_new_view
  unfolding iff
  same_kind = go x.is_new_view y.is_new_view (and_left kind view (and_left (kind && view) height (and_left (kind && view && height) name named)))
    where
      go : (p q : Bool) → iff p q ≡ true → p ≡ q
      go true true t = refl
      go false false t = refl
      go true false t = sym t
      go false true t = t

  -- and so the same blocks
  same_chain : (salt : ℕ) → chain_of (stir (stir_of salt (own_block x 0)) (stir_of salt (certificate x))) ≡ chain_of (stir (stir_of salt (own_block y 0)) (stir_of salt (certificate y)))
  unfolding own_block certificate
  same_chain salt = by_bool y.is_new_view (λ t. rw (same_kind, same_view, same_height, same_name, same_link, t)) (λ t. rw (same_kind, same_view, same_height, same_name, same_link, t))

-- what the salt is when it is stirred with a block at a place
pub keyed_stirs : (b : List ℕ) → Bytes b → (salt key at : ℕ) (t : Certificate) → Keyed b key at t → stir_words b (stir salt key) at 4 ≡ stir_of salt t
keyed_stirs b bytes salt key at t k = words_name b bytes (stir salt key) at 4 ∙ ap₂ (λ (x y : ℕ). stir_name (stir salt x) y 4) k.key_is k.name_is

-- two statements where they lie
pub same_where : (b : List ℕ) → Bytes b → (i k at to : ℕ) → at ≡ place_of statement_table small i → to ≡ place_of statement_table small k
    → (eqb (number b at 8) (number b to 8) && eqb (number b (at + 8) 32) (number b (to + 8) 32)
    && (iff (eqb (kind_at b i) 1) (eqb (kind_at b k) 1) && (eqb (number b (at + 41) 1) (number b (to + 41) 1) && eqb (number b (at + 44) 32) (number b (to + 44) 32))))
    ≡ is_same b (statement_at b i) k
unfolding statement_at kind_at
same_where b bytes i k at to e d =
    rw (e, d, key_is b (place_of statement_table small i)) (sym (statement_tests b bytes (statement_at b i) k (number_lt b bytes (place_of statement_table small i + 4) 4)))

module _ (b : List ℕ) (bytes : Bytes b) (salt : ℕ) where
  alike : (i k : ℕ) → is_same b (statement_at b i) k ≡ true → statement_chain b salt k ≡ statement_chain b salt i
  alike i k t = sym (same_chain (statement_at b i) (statement_at b k) t salt)

  -- statement i, with those behind it on their chains
  module _ (n i : ℕ) {heads nexts : List ℕ} (h : Chained (statement_chain b salt) (i + 1) n heads nexts) (l : i < n) (c : ℕ) (q : c ≡ statement_chain b salt i) (m : c < chains) where
    abbrev test : ℕ → Bool
    test = is_same b (statement_at b i)

    met_alike : (k : ℕ) → test k ≡ true → statement_chain b salt k ≡ c
    met_alike k t = alike i k t ∙ sym q

    pub met_start : Walk test n (nth heads c) nexts
    met_start = walk_start (statement_chain b salt) h (omega arith) test c m met_alike

    pub met_is : any test (behind n (nth heads c)) ≡ any (same_statement (statement_at b i)) (rows (statement_at b) (i + 1) (n - (i + 1)))
    met_is =
        sym (walk_whole (statement_chain b salt) h (omega arith) test c m met_alike)
        ∙ any_same (statement_at b) (same_statement (statement_at b i)) test (i + 1) (n - (i + 1)) (λ k x y. refl)

    pub met_hangs : n ≤ most_statements_large → Chained (statement_chain b salt) i n (set heads c (n - i)) (set nexts i (nth heads c))
    met_hangs few = chained_more (statement_chain b salt) i n heads nexts l h c q m (omega arith)
