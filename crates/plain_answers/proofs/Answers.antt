-- A call, test by test: barred, folded to nothing, or answered by the rules. Assumes nothing.
use Prim.Native.Nat.{ℕ, suc, ◌-◌, ◌*◌, ◌^◌, ◌<◌, ◌≤◌}
use mathlib.Core.Path.{◌≡◌, refl, sym, ap, ap₂, ◌∙◌, subst}
use mathlib.Core.Bool.{Bool, true, false, ◌&&◌}
use mathlib.Core.List.{List, [], ◌∷◌}
use mathlib.Core.Option.{Option, none, some}
use native.Mathlib.Omega.{arith}
use lib.ListN.{length, take}
use lib.Seq.{length-take-le}
use lib.Dec.{leb, eqb}
use borrow.Author.Tests.{eqb-true}
use Rattle.rules.specs.Limits.{Size, small, least_out, least_out_small}
use Rattle.rules.specs.Messages.{outgoing}
use Rattle.rules.specs.Words.{State}
use Rattle.laws.proofs.Tests.{by_bool}
use Rattle.laws.proofs.Bytes as bytes
use Rattle.fields.specs.Places.{Bytes}
use Rattle.lent_list.specs.Lists.{Input, kind_of, bytes_of, input_of, has_length, has_form}
use Rattle.settings.specs.Made.{size_from}
use Rattle.slots.specs.Slots.{is_input, is_kept}
use Rattle.lent_list.proofs.Rooms.{answer_room}
use Rattle.lent_list.proofs.Kept.{Handed, kept_input, most_number}
use Rattle.lent_list.specs.Plain.{answer_to, held, Answer, refusal, entering, kept, plainly, Gives}
use Rattle.plain_tables.specs.Meaning.{state}
use Rattle.plain_messages.specs.Whole.{Whole}
use Rattle.plain_turns.specs.Turns.{Answered}
use Rattle.plain_answers.specs.Meaning.{FoldedTo}
use Rattle.std.specs.Prelude as code
use Rattle.std.specs.Prelude.{Some, None}
use Rattle.plain_turns.specs.declared.Turn.{Turn}
use Rattle.plain_tables.specs.declared.Engine.{Engine}
use Rattle.plain_lists.specs.Meaning.{bar}
use Rattle.plain_lists.proofs.Bars.{bar_form, bar_short, not_barred, open_list, open_out}
use Rattle.plain_answers.proofs.Folding.{formless, came_none, came_some, came_whole}

-- the bytes of a slice, as a list's
pub plain_bytes : (s : List ℕ) → Bytes s → bytes.Bytes s
plain_bytes [] h = bytes.none
plain_bytes (x ∷ s) h = bytes.one (h 0).fits (plain_bytes s (λ i. h (suc i)))

-- a station held by value is one of a small group
small_group : {e : Engine} → Whole e → (state e).settings.size ≡ small
unfolding state
small_group w = ap size_from w.sized.small

module _ (l o : List ℕ) where
  abbrev lengths_good : Bool
  lengths_good = has_length l && leb (least_out small) (length o)

  module _ (x : Input) where
    abbrev looked : Option State → Answer
    looked z = elim z [ none ↦ refusal 2 l o | some u ↦ kept x (answer_to x u) l o ]

    abbrev judged : Bool → Answer
    judged z = elim z [ false ↦ refusal 1 l o | true ↦ looked (held l) ]

    plain_by : {z : Bool} → lengths_good ≡ z → plainly x l o ≡ judged z
    unfolding plainly
    plain_by e = ap judged e

    refused_by : (k : ℕ) {r : ℕ} → plainly x l o ≡ refusal k l o → r ≡ k * 2 ^ 32 → Gives (plainly x l o) r l o
    refused_by k e d = rw e (unfold refusal in record { result = d; list = refl; out = refl })

    pub is_barred : {q r : ℕ} → q ≡ bar l o → (q ≡ 0 → ⊥) → r ≡ q * 2 ^ 32 → Gives (plainly x l o) r l o
    is_barred {q} {r} e n d =
        by_bool lengths_good
        (λ p.
        by_bool (has_form l) (λ f. absurd (n (e ∙ bar_form l o p f)))
        (λ f. refused_by 2 (plain_by p ∙ ap looked (formless l f)) (d ∙ ap (◌* 2 ^ 32) (e ∙ bar_form l o p f))))
        (λ p. refused_by 1 (plain_by p) (d ∙ ap (◌* 2 ^ 32) (e ∙ bar_short l o p)))

    module _ {q : ℕ} (e : q ≡ bar l o) (z : q ≡ 0) {f : code.Option Engine} (g : FoldedTo (held l) f) where
      passes : lengths_good ≡ true
      passes = (not_barred l o (sym e ∙ z)).0

      pub no_state : {r : ℕ} → f ≡ None → r ≡ 2 * 2 ^ 32 → Gives (plainly x l o) r l o
      no_state u d = refused_by 2 (plain_by passes ∙ ap looked (sym (came_none g u))) d

      module _ {s : Engine} (u : f ≡ Some s) {t : Turn} {o₁ : List ℕ} (y : Answered (answer_to x (state s)) t o₁) where
        said_is : take (t.count - 0) o₁ ≡ take t.count o₁
        said_is = let n : t.count - 0 ≡ t.count = omega arith in ap (λ (i : ℕ). take i o₁) n

        pub answered_by : {k : ℕ} {bs said : List ℕ} {r : ℕ} {l' o' : List ℕ} → k ≡ kind_of x → bs ≡ bytes_of x → said ≡ take (t.count - 0) o₁
            → Gives (entering k bs t.number said l o) r l' o' → Gives (plainly x l o) r l' o'
        unfolding kept
        answered_by {k} {bs} {said} {r} {l'} {o'} a b c h =
            let w : said ≡ outgoing (answer_to x (state s)).out = c ∙ said_is ∙ y.turned.out in
            let i : entering k bs t.number said l o ≡ plainly x l o =
            (λ j. entering (a j) (b j) (y.turned.number j) (w j) l o) ∙ sym (plain_by passes ∙ ap looked (sym (came_some g u))) in
            subst (λ (v : Answer). Gives v r l' o') i h

        module _ (whole : length o₁ ≡ least_out_small) where
          count_few : t.count ≤ least_out_small
          unfolding least_out
          count_few =
              let m : length (outgoing (answer_to x (state s)).out) ≤ least_out small =
              subst (λ (v : Size). length (outgoing (answer_to x (state s)).out) ≤ least_out v) (small_group (came_whole g u))
              (answer_room (state s) (came_whole g u).formed x) in
              omega (arith, y.turned.count, m)

          pub count_fits : t.count ≤ length o₁
          count_fits = omega (arith, count_few, whole)

          part_length : length (take (t.count - 0) o₁) ≡ t.count
          part_length = ap length said_is ∙ length-take-le t.count o₁ count_fits

          -- what entering the answer asks for
          pub may_enter : {k : ℕ} {bs : List ℕ} → k ≡ kind_of x → bs ≡ bytes_of x → bytes.Bytes bs → Handed x
              → ((has_length l ≡ true) × (is_kept t.number ≡ true → is_input k bs ≡ true))
              × ((t.number < 256) × (length (take (t.count - 0) o₁) < 2 ^ 32) × (length (take (t.count - 0) o₁) ≤ length o))
          may_enter {k} {bs} a d b n = (
            (
              (open_list l o e z).0,
              λ m. ap₂ is_input a d ∙ kept_input (state s) x (subst bytes.Bytes d b) n (ap is_kept (sym y.turned.number) ∙ m),
            ),
            (
              omega (arith, most_number (state s) x, y.turned.number),
              omega (arith, part_length, count_few),
              omega (arith, part_length, count_few, open_out l o e z),
            ),
          )

-- ---- an input by its kind

-- a name that comes is handed over whole
pub handed : (k : ℕ) (bs : List ℕ) → (k ≡ 2 → length bs ≡ 32) → Handed (input_of k bs)
unfolding input_of
handed k bs h =
    by_bool (eqb k 1) (λ e. rw (e, input_of) tt)
    (λ e. by_bool (eqb k 2) (λ f. rw (e, input_of, f) (h (eqb-true k 2 f))) (λ f. rw (e, input_of, f) tt))
