-- The checker's steps: the top, and one place after another. Assumes nothing.
use Prim.Native.Nat.{ℕ, zero, suc, ◌+◌, ◌-◌, ◌*◌, ◌^◌, ◌<◌, ◌≤◌}
use mathlib.Core.Path.{◌≡◌, sym, ap, ap₂, ◌∙◌}
use mathlib.Core.Bool.{true, false}
use mathlib.Core.List.{List}
use mathlib.Core.Option.{Option, none, some}
use native.Mathlib.Omega.{arith}
use native.Mathlib.Numerals.{add-one}
use lib.ListN.{length}
use lib.Dec.{eqb}
use borrow.Author.Tests.{eq-eqb, ne_eqb}
use Rattle.fields.specs.Places.{number}
use Rattle.rules.specs.Limits.{last_height}
use Rattle.rules.specs.Messages.{new_view, propose, allowed}
use Rattle.rules.specs.Sizes.{Settings}
use Rattle.rules.specs.Words.{Statement, message}
use Rattle.laws.proofs.Allowed.{height_le, allowed_rights}
use Rattle.laws.proofs.Tests.{by_bool, by_option}
use Rattle.wire.specs.Fields.{head, is_field}
use Rattle.wire.proofs.Reading.{field_test, field_short}
use Rattle.groups.specs.Groups.{group}
use Rattle.slip_entries.specs.Entries.{entry_at, parent_in}
use Rattle.slip.specs.Slips.{name_end, entry_place, Verdict, accepted, refused, judge_from, top_height, judged, answer_of, checked}
use Rattle.slip_entries.proofs.Parents.{leads}

-- ---- the top

module _ (s : List ℕ) where
  pub top_unread : entry_at s name_end ≡ none → 1 ≡ top_height s
  unfolding top_height
  top_unread e = rw (e, top_height)

  pub top_here : {x : Statement} → entry_at s name_end ≡ some x → x.height ≡ top_height s
  unfolding top_height
  top_here e = rw (e, top_height)

-- ---- the name

module _ (g : Settings) (s : List ℕ) where
  nameless : is_field s 0 0x40 32 ≡ false → refused 0 ≡ judged g s
  unfolding judged
  nameless e = rw (e, judged)

  pub name_short : length s < name_end → refused 0 ≡ judged g s
  name_short h = nameless (sym (field_short s 0 0x40 32 (omega arith)))

  pub name_other : name_end ≤ length s → {n : ℕ} → n ≡ number s 0 3 → (n ≡ 0x400020 → ⊥) → refused 0 ≡ judged g s
  name_other h {n} e d = nameless (sym (field_test s 0 0x40 32 (omega arith)) ∙ ne_eqb (number s 0 3) (head 0x40 32) (λ q. d (e ∙ q)))

  pub judge_starts : name_end ≤ length s → {n b h : ℕ} → n ≡ number s 0 3 → n ≡ 0x400020 → b ≡ number s 3 32 → h ≡ top_height s → judge_from g s h b 0 ≡ judged g s
  unfolding judged
  judge_starts l {n} {b} {h} e d p q =
      let f : is_field s 0 0x40 32 ≡ true = sym (field_test s 0 0x40 32 (omega arith)) ∙ eq-eqb (number s 0 3) (head 0x40 32) (sym e ∙ d) in
      rw (f, judged, p, q)

  -- ---- one place after another

  module _ (h b k at : ℕ) (j : judge_from g s h b k ≡ judged g s) (a : at ≡ entry_place k) where
    judge_at : {n : ℕ} → h ≡ n → judge_from g s n b k ≡ judged g s
    judge_at {n} e = sym (ap (λ (m : ℕ). judge_from g s m b k) e) ∙ j

    pub judge_ends : h ≤ 0 → at ≡ length s → accepted k ≡ judged g s
    unfolding judge_from
    judge_ends z e = let q : eqb (entry_place k) (length s) ≡ true = eq-eqb (entry_place k) (length s) (sym a ∙ e) in rw (q, judge_from) at (judge_at (let r : h ≡ 0 = omega arith in r))

    pub judge_extra : h ≤ 0 → (at ≡ length s → ⊥) → refused k ≡ judged g s
    unfolding judge_from
    judge_extra z d = let q : eqb (entry_place k) (length s) ≡ false = ne_eqb (entry_place k) (length s) (λ e. d (a ∙ e)) in rw (q, judge_from) at (judge_at (let r : h ≡ 0 = omega arith in r))

    module _ (p : 0 < h) {o : Option ℕ} (e : o ≡ parent_in g h b (entry_at s at)) where
      -- the entry that stands here, as the definition has it
      here : parent_in g (suc (h - 1)) b (entry_at s (entry_place k)) ≡ o
      here = let r : suc (h - 1) ≡ h = omega arith in ap₂ (λ (m n : ℕ). parent_in g m b (entry_at s n)) r (sym a) ∙ sym e

      pub judge_broken : o ≡ none → refused k ≡ judged g s
      unfolding judge_from
      judge_broken q = let r : parent_in g (suc (h - 1)) b (entry_at s (entry_place k)) ≡ none = here ∙ q in rw (r, judge_from) at (judge_at (let t : h ≡ suc (h - 1) = omega arith in t))

      pub judge_next : {c : ℕ} → o ≡ some c → judge_from g s (h - 1) c (k + 1) ≡ judged g s
      unfolding judge_from
      judge_next {c} q =
          let r : parent_in g (suc (h - 1)) b (entry_at s (entry_place k)) ≡ some c = here ∙ q in
          ap (judge_from g s (h - 1) c) (add-one k) ∙ (rw (r, judge_from) at (judge_at (let t : h ≡ suc (h - 1) = omega arith in t)))

-- ---- no place is past the greatest height, so that a count fits its 32 bits

abbrev pub count_of : Verdict → ℕ
count_of (accepted k) = k
count_of (refused k) = k

from_most : (g : Settings) (s : List ℕ) (h b k : ℕ) → count_of (judge_from g s h b k) ≤ k + h
unfolding judge_from
from_most g s zero b k = by_bool (eqb (entry_place k) (length s)) (λ q. rw (q, judge_from) (omega arith)) (λ q. rw (q, judge_from) (omega arith))
from_most g s (suc h) b k =
    by_option (parent_in g (suc h) b (entry_at s (entry_place k))) (λ q. rw (q, judge_from) (omega arith)) (λ p q. rw (q, judge_from) (omega (arith, from_most g s h p (suc k))))

-- an allowed propose is of an allowed height
height_most : (g : Settings) (x : Statement) → allowed g (message x) ≡ true → x.height ≤ last_height
unfolding message
height_most g x e =
    by_bool x.is_new_view
    (λ q. height_le x.height x.name (allowed_rights g (new_view x.view x.height x.name x.link x.mask x.author) (rw (q, message) at e)).1)
    (λ q. height_le x.height x.name (allowed_rights g (propose x.view x.height x.name x.link x.mask x.author) (rw (q, message) at e)).2)

top_most : (g : Settings) (s : List ℕ) (h b : ℕ) → count_of (judge_from g s h b 0) ≤ last_height
unfolding judge_from
top_most g s zero b = omega (arith, from_most g s zero b 0)
top_most g s (suc h) b =
    by_option (parent_in g (suc h) b (entry_at s (entry_place 0))) (λ q. rw (q, judge_from) (omega arith))
    (λ p q.
    let t = leads g (suc h) b p (entry_at s (entry_place 0)) q in
    rw (q, judge_from) (omega (arith, from_most g s h p 1, t.high, height_most g t.entry t.right)))

pub judged_most : (g : Settings) (s : List ℕ) → count_of (judged g s) ≤ last_height
unfolding judged
judged_most g s = by_bool (is_field s 0 0x40 32) (λ q. rw (q, judged) (top_most g s (top_height s) (number s 3 32))) (λ q. rw (q, judged) (omega arith))

-- ---- what a host is told

module _ (k n : ℕ) (s : List ℕ) where
  pub group_bad : group k n ≡ none → 10 * 2 ^ 32 ≡ checked k n s
  unfolding checked
  group_bad e = rw (e, checked)

  pub group_good : {g : Settings} {v : Verdict} → group k n ≡ some g → v ≡ judged g s → answer_of v ≡ checked k n s
  unfolding checked
  group_good e q = rw (e, checked) (ap answer_of q)
