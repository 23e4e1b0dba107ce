-- A block's chain in the store is its lineage: the names from height 1 up to it, each the parent of the next. Assumes nothing.
use mathlib.Core.Path.{◌≡◌, subst, subst₂, refl, sym, ap, ◌∙◌}
use Prim.Native.Nat.{ℕ, zero, suc, ◌+◌, ◌-◌, ◌≤◌, ◌<◌}
use native.Mathlib.Omega.{arith}
use mathlib.Core.Bool.{true, false}
use mathlib.Core.List.{List, [], ◌∷◌, ◌++◌, append_assoc, append-nil, IsPrefix}
use mathlib.Core.Option.{some, some-injective}
use Rattle.rules.specs.Lists.{first, any}
use Rattle.rules.specs.Sizes.{Settings}
use Rattle.rules.specs.Messages.{block_allowed, allowed}
use Rattle.rules.specs.Words.{Statement, message}
use Rattle.rules.specs.Inputs.{is_block, chain_to, chain}
use Rattle.laws.proofs.Tests.{by_option, no_some, no_bool}
use Rattle.laws.proofs.Searches.{All, all_first, first_any, first_none}
use Rattle.laws.proofs.Allowed.{allowed_rights, genesis_zero}
use Rattle.laws.proofs.Proper.{Parented}
use Rattle.kept.proofs.Logs.{block_parts}
use Rattle.agreement.specs.Schedule.{Linked, lineage}

module _ (parent_of : ℕ → ℕ) where
  -- the d-th ancestor
  unfoldable pub up : ℕ → ℕ → ℕ
  up zero b = b
  up (suc d) b = up d (parent_of b)

  -- the lineage of an ancestor begins that of the block
  pub lineage_up : (d h b : ℕ) → IsPrefix (lineage parent_of h (up d b)) (lineage parent_of (d + h) b)
  unfolding up
  lineage_up zero h b = ([], append-nil _ ∙ ap (λ (k : ℕ). lineage parent_of k b) (omega arith))
  lineage_up (suc d) h b =
      let (r, e) = lineage_up d h (parent_of b) in
      let z : suc d + h ≡ suc (d + h) = omega arith in
      (r ++ b ∷ [], sym (append_assoc (lineage parent_of h (up d (parent_of b))) r (b ∷ [])) ∙ ap (◌++ (b ∷ [])) e ∙ sym (ap (λ (k : ℕ). lineage parent_of k b) z ∙ (unfold lineage in refl)))

  linked_append : (p : ℕ) (l : List ℕ) (b c : ℕ) → Linked parent_of p (l ++ b ∷ []) → parent_of c ≡ b → Linked parent_of p ((l ++ b ∷ []) ++ c ∷ [])
  linked_append p [] b c h e = (h.0, (e, tt))
  linked_append p (x ∷ l) b c h e = (h.0, linked_append x l b c h.1 e)

  -- a lineage whose first has genesis as parent is linked
  pub lineage_linked : (h b : ℕ) → up h b ≡ 0 → Linked parent_of 0 (lineage parent_of h b)
  unfolding lineage up
  lineage_linked zero b e = tt
  lineage_linked (suc zero) b e = (e, tt)
  lineage_linked (suc (suc h)) b e = linked_append 0 (lineage parent_of h (parent_of (parent_of b))) (parent_of b) b (lineage_linked (suc h) (parent_of b) e) refl

  -- ---- chains in a table of statements that are allowed, each with its name's parent

  module _ (g : Settings) where
    abbrev pub Placed : Statement → Type 0
    Placed x = (allowed g (message x) ≡ true) × Parented parent_of (message x)

    -- a propose: its parent is its name's, and the parent's height is one less
    pub propose_facts : (x : Statement) → Placed x → x.is_new_view ≡ false
        → (parent_of x.name ≡ x.link) × (1 ≤ x.height) × (block_allowed (x.height - 1) x.link ≡ true) × (block_allowed x.height x.name ≡ true)
    unfolding message
    propose_facts x r e =
        let (a, p) = rw (e, message) at r in
        let w = allowed_rights g _ a in
        (p, w.1, w.3, w.2)

    -- one step down
    block_link : (xs : List Statement) (h b : ℕ) (z : Statement) → All Placed xs → first (is_block (suc h) b) xs ≡ some z → (parent_of b ≡ z.link) × (block_allowed h z.link ≡ true)
    block_link xs h b z a q =
        let (n, k, c) = block_parts (suc h) b z (first_any (is_block (suc h) b) xs z q).1 in
        let (p, l, d, u) = propose_facts z (all_first Placed (is_block (suc h) b) xs z a q) n in
        let e : z.height - 1 ≡ h = omega arith in
        (ap parent_of c ∙ p, subst (λ (y : ℕ). block_allowed y z.link ≡ true) e d)

    chain_to_lem : (xs : List Statement) → All Placed xs → (h b : ℕ) (above l : List ℕ) → block_allowed h b ≡ true → chain_to xs h b above ≡ some l
        → (l ≡ lineage parent_of h b ++ above) × (up h b ≡ 0)
    unfolding chain_to lineage up
    chain_to_lem xs a zero b above l w e = (sym (some-injective above l e), genesis_zero b w)
    chain_to_lem xs a (suc h) b above l w e =
        by_option (first (is_block (suc h) b) xs) (λ q. no_some (rw (q, chain_to) at e)) λ z q.
        let (p, u) = block_link xs h b z a q in
        let (f, o) = chain_to_lem xs a h z.link (b ∷ above) l u (rw (q, chain_to) at e) in
        (f ∙ ap (λ (y : ℕ). lineage parent_of h y ++ b ∷ above) (sym p) ∙ sym (append_assoc (lineage parent_of h (parent_of b)) (b ∷ []) above), ap (up h) p ∙ o)

    -- the chain of a stored propose is its lineage, down to genesis
    pub chain_lineage : (xs : List Statement) (x : Statement) (l : List ℕ) → All Placed xs → Placed x → x.is_new_view ≡ false → chain xs x ≡ some l
        → (l ≡ lineage parent_of x.height x.name) × (up x.height x.name ≡ 0)
    unfolding chain
    chain_lineage xs x l a r n e =
        let (p, k, d, u) = propose_facts x r n in
        let (f, o) = chain_to_lem xs a (x.height - 1) x.link (x.name ∷ []) l d e in
        let z : x.height ≡ suc (x.height - 1) = omega arith in
        rw z (f ∙ ap (λ (y : ℕ). lineage parent_of (x.height - 1) y ++ x.name ∷ []) (sym p) ∙ (unfold lineage in refl), (unfold up in (ap (up (x.height - 1)) p ∙ o)))

    -- where each ancestor is stored, the chain is whole
    abbrev pub AllStored : List Statement → ℕ → ℕ → Type 0
    AllStored xs h b = (d : ℕ) → d < h → any (is_block (h - d) (up d b)) xs ≡ true

    chain_to_whole : (xs : List Statement) → All Placed xs → (h b : ℕ) (above : List ℕ) → AllStored xs h b → (l : List ℕ) × (chain_to xs h b above ≡ some l)
    unfolding chain_to up
    chain_to_whole xs a zero b above f = (above, refl)
    chain_to_whole xs a (suc h) b above f =
        let z : suc h - 0 ≡ suc h = omega arith in
        by_option (first (is_block (suc h) b) xs)
        (λ q. no_bool (sym (subst (λ (k : ℕ). any (is_block k b) xs ≡ true) z (f 0 (omega arith))) ∙ first_none (is_block (suc h) b) xs q)) λ y q.
        let (p, u) = block_link xs h b y a q in
        let below : AllStored xs h y.link =
        λ d k. let w : suc h - suc d ≡ h - d = omega arith in subst₂ (λ (i j : ℕ). any (is_block i (up d j)) xs ≡ true) w p (f (suc d) (omega arith)) in
        let (l, e) = chain_to_whole xs a h y.link (b ∷ above) below in
        (l, rw (q, chain_to) e)

    pub chain_whole : (xs : List Statement) (x : Statement) → All Placed xs → Placed x → x.is_new_view ≡ false → AllStored xs (x.height - 1) x.link
        → (l : List ℕ) × (chain xs x ≡ some l)
    unfolding chain
    chain_whole xs x a r n f = chain_to_whole xs a (x.height - 1) x.link (x.name ∷ []) f
