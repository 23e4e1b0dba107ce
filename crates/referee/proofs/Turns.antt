-- One input, handed to the plain engine with its list and to the station with its store: where the two hold the same inputs, both
-- answer alike and hold the same inputs again, or the list has no slot left. Assumes nothing.
use Prim.Native.Nat.{ℕ, ◌*◌, ◌/◌, ◌^◌, ◌<◌, ◌≤◌}
use mathlib.Core.Path.{◌≡◌, refl, sym, ap, ap₂, ◌∙◌, subst}
use mathlib.Core.Bool.{Bool, true, false, ◌&&◌}
use mathlib.Core.List.{List, [], ◌∷◌, ◌++◌}
use mathlib.Core.Option.{Option, none, some}
use native.Mathlib.Omega.{arith}
use native.Mathlib.Nat.{add-zero}
use lib.ListN.{length}
use lib.Dec.{leb, eqb}
use borrow.Author.Tests.{eqb-true, eq-eqb, leb-true}
use Rattle.rules.specs.Limits.{Size, small, least_out}
use Rattle.rules.specs.Lists.{be}
use Rattle.rules.specs.Sizes.{Settings}
use Rattle.rules.specs.Messages.{outgoing}
use Rattle.rules.specs.Words.{State, split, clock as late, fresh}
use Rattle.rules.specs.Inputs.{Work, handled}
use Rattle.rules.specs.Refusals as rules
use Rattle.rules.specs.Refusals.{Outcome, done, refused, stopping, has_room, if_room, result}
use Rattle.rules.specs.WellFormed.{well_formed}
use Rattle.laws.proofs.Answers.{by_step, by_offer, by_tick}
use Rattle.laws.proofs.Bytes.{Bytes, be_lt}
use Rattle.laws.proofs.Tests.{by_bool, no_bool, no_some}
use Rattle.kept.specs.Parts.{WellFormed}
use Rattle.kept.proofs.WellFormed.{whole}
use Rattle.kept.proofs.Calls.{Kept, step_kept, offer_kept, tick_kept}
use Rattle.store.specs.Layout.{store_length, size_in}
use Rattle.store.specs.Decode.{decode, state_from, state_of, encode}
use Rattle.store.proofs.Forms.{parts as form-parts}
use Rattle.oneform.proofs.OneForm.{encoded_left}
use Rattle.calls.specs.Calls as calls
use Rattle.calls.specs.Calls.{Called, answered, called, step_called, tick_called, offer_called}
use Rattle.promises.proofs.Carried.{called_encoded}
use Rattle.slots.specs.Slots.{is_kept}
use Rattle.lent_list.proofs.Rooms.{answer_room}
use Rattle.lent_list.specs.Lists.{Input, tick, offer, message, kind_of, bytes_of, has_length, settings_in, inputs_of, is_full, added}
use Rattle.lent_list.specs.Plain.{answer_to, folded, held, Answer, refusal, entered, entering, kept, plainly, plain_step, plain_tick, plain_offer}
use Rattle.lent_list.proofs.Kept.{Handed, kept_input, most_number}
use Rattle.referee.specs.Runs.{plain_call, station_call, Same}
use Rattle.referee.proofs.Listing.{Lists, has_length_lem, has_form_lem, gives_back, not_full, lists_more}

-- ---- what the rules answer to an input, by whether a list keeps it

-- what isn't kept changes nothing and says nothing
module _ (s : State) where
  abbrev Refuses : Outcome → Type 0
  Refuses y = is_kept y.number ≡ false → y ≡ refused y.number s

  refuses : (k : ℕ) → Refuses (refused k s)
  unfolding refused
  refuses k e = refl

  room_refuses : (w : Work) → Refuses (if_room s w)
  unfolding if_room done stopping refused is_kept
  room_refuses w = by_bool (has_room w.now) (λ q. rw (q, if_room) (λ e. no_bool e)) (λ q. rw (q, if_room) (λ e. no_bool e))

  late_refuses : Refuses (stopping 8 late s)
  unfolding stopping refused is_kept
  late_refuses e = no_bool e

  split_refuses : Refuses (stopping 7 split s)
  unfolding stopping refused is_kept
  split_refuses e = no_bool e

  pub unkept : (x : Input) → Refuses (answer_to x s)
  unfolding answer_to
  unkept tick = by_tick Refuses s refuses late_refuses split_refuses (λ w r c q. room_refuses w)
  unkept (offer name) = by_offer Refuses s refuses (be name) (λ m q. room_refuses (handled m s))
  unkept (message bs) = by_step Refuses s refuses bs (λ m q a u. room_refuses (handled m s))

-- a well-formed state stays so
answer_kept : (s : State) → WellFormed s → (x : Input) → Bytes (bytes_of x) → Handed x → Kept s (answer_to x s)
unfolding answer_to bytes_of
answer_kept s w tick b h = tick_kept w
answer_kept s w (offer name) b h = offer_kept w (be name) (subst (λ (k : ℕ). be name < 256 ^ k) h (be_lt b))
answer_kept s w (message bs) b h = step_kept w bs b

-- ---- the inputs of a list, and one more

folded_more : (s : State) (xs : List Input) (t : State) (x : Input) → folded s xs ≡ some t → is_kept (answer_to x t).number ≡ true
    → folded s (xs ++ x ∷ []) ≡ some (answer_to x t).next
unfolding folded
folded_more s [] t x e k =
    let q : s ≡ t = cc in
    let u : is_kept (answer_to x s).number ≡ true = ap (λ (y : State). is_kept (answer_to x y).number) q ∙ k in
    rw (u, folded) (ap (λ (y : State). some (answer_to x y).next) q)
folded_more s (y ∷ xs) t x e k =
    by_bool (is_kept (answer_to y s).number) (λ u. rw (u, folded) (folded_more (answer_to y s).next xs t x (rw (u, folded) at e) k))
    (λ u. no_some (rw (u, folded) at e))

-- ---- list and store

-- the list holds inputs, and the store the state that the rules give from fresh by them
pub record Tied (m : ℕ) (g : Settings) (l b : List ℕ) : Type 0 where
  pub inputs : List Input
  pub lists : Lists m g inputs l
  pub state : State
  pub folds : folded (fresh g) inputs ≡ some state
  pub formed : WellFormed state
  pub settings : state.settings ≡ g
  pub store : b ≡ encode state

-- what a call comes to: 13, and the list has no slot left; a refusal of both, which adds nothing to the list; or an answer 0, 6, 7 or
-- 8 of both, which adds exactly this input. Both answer alike, and are tied again.
pub data Turn (m : ℕ) (g : Settings) (x : Input) (l : List ℕ) (p : Answer) (c : Called) : Type 0 where
  full : is_full l ≡ true → p.result ≡ 13 * 2 ^ 32 → Turn m g x l p c
  passed : Same p c → Tied m g p.list c.store → p.list ≡ l → (p.result ≡ 13 * 2 ^ 32 → ⊥) → is_kept (p.result / 2 ^ 32) ≡ false → Turn m g x l p c
  joined : Same p c → Tied m g p.list c.store → inputs_of p.list ≡ inputs_of l ++ x ∷ [] → is_kept (p.result / 2 ^ 32) ≡ true → Turn m g x l p c

module _ {m : ℕ} {g : Settings} (few : g.size ≡ small) {l b : List ℕ} (t : Tied m g l b) where
  abbrev s : State
  s = t.state

  abbrev fold : Bool → Option State
  fold y = elim y [ false ↦ none | true ↦ folded (fresh (settings_in l)) (inputs_of l) ]

  pub held_is : held l ≡ some s
  unfolding held
  held_is =
      ap fold (has_form_lem t.lists) ∙ ap₂ (λ (y : Settings) (xs : List Input). folded (fresh y) xs) t.lists.settings (gives_back t.lists) ∙ t.folds

  whole_state : well_formed s ≡ true
  whole_state = whole t.formed

  size_is : s.settings.size ≡ small
  size_is = ap (λ (y : Settings). y.size) t.settings ∙ few

  -- ---- the calls by their tests

  pub proper : (o : List ℕ) → (has_length l && leb (least_out small) (length o)) ≡ leb (least_out small) (length o)
  proper o = ap (◌&& leb (least_out small) (length o)) (has_length_lem t.lists)

  module _ (x : Input) (o : List ℕ) where
    abbrev y : Outcome
    y = answer_to x s

    abbrev looked : Option State → Answer
    looked z = elim z [ none ↦ refusal 2 l o | some u ↦ kept x (answer_to x u) l o ]

    abbrev judged_by : Bool → Answer
    judged_by z = elim z [ false ↦ refusal 1 l o | true ↦ looked (held l) ]

    plain_short : leb (least_out small) (length o) ≡ false → plainly x l o ≡ refusal 1 l o
    unfolding plainly
    plain_short e = ap judged_by (proper o ∙ e)

    plain_long : leb (least_out small) (length o) ≡ true → plainly x l o ≡ kept x y l o
    unfolding plainly
    plain_long e = ap judged_by (proper o ∙ e) ∙ ap looked held_is

    abbrev enters : Answer
    enters = entered (kind_of x) (bytes_of x) y.number (outgoing y.out) l o

    abbrev keep : Bool → Bool → Answer
    keep z w = elim z [ false ↦ refusal y.number l o | true ↦ elim w [ true ↦ refusal 13 l o | false ↦ enters ] ]

    kept_by : {z w : Bool} → is_kept y.number ≡ z → is_full l ≡ w → kept x y l o ≡ keep z w
    unfolding kept entering
    kept_by p q = ap₂ keep p q

  module _ (f : State → Outcome) (o : List ℕ) where
    encoded_size : size_in (encode s) ≡ small
    unfolding state_of state_from
    encoded_size = ap (λ (x : State). x.settings.size) (encoded_left s whole_state).is ∙ size_is

    abbrev opened : Option State → Called
    opened z = elim z [ none ↦ calls.refusal 2 (encode s) o | some u ↦ answered (f u) o ]

    abbrev tested : Bool → Called
    tested z = elim z [ false ↦ calls.refusal 1 (encode s) o | true ↦ opened (decode (encode s)) ]

    station_short : leb (least_out small) (length o) ≡ false → called f b o ≡ calls.refusal 1 b o
    unfolding called
    station_short e =
        let long = (form-parts (encode s) (encoded_left s whole_state).form.form).long in
        let test : (eqb (length (encode s)) (store_length (size_in (encode s))) && leb (least_out (size_in (encode s))) (length o)) ≡ false =
        ap₂ (λ (p : Bool) (z : Size). p && leb (least_out z) (length o)) (eq-eqb (length (encode s)) (store_length (size_in (encode s))) long) encoded_size ∙ e in
        ap (λ (k : List ℕ). called f k o) t.store ∙ ap tested test ∙ ap (λ (k : List ℕ). calls.refusal 1 k o) (sym t.store)

    station_long : leb (least_out small) (length o) ≡ true → called f b o ≡ answered (f s) o
    station_long e =
        ap (λ (k : List ℕ). called f k o) t.store
        ∙ called_encoded f s o whole_state (subst (λ (z : Size). least_out z ≤ length o) (sym size_is) (leb-true (least_out small) (length o) e))

  -- both refuse, and nothing changes
  both_refuse : (x : Input) (k : ℕ) → (k ≡ 13 → ⊥) → is_kept k ≡ false → (o : List ℕ) → Turn m g x l (refusal k l o) (calls.refusal k b o)
  unfolding refusal calls.refusal
  both_refuse x k n u o =
      let e : k * 2 ^ 32 / 2 ^ 32 ≡ k = omega arith in
      passed (record { result = refl; out = refl }) t refl (λ d. n (omega (arith, d))) (ap is_kept e ∙ u)

  refuse_lengths : (x : Input) (o : List ℕ) → Turn m g x l (refusal 1 l o) (calls.refusal 1 b o)
  unfolding is_kept
  refuse_lengths x o = both_refuse x 1 (λ e. omega (arith, e)) refl o

  -- ---- an input that is looked at

  module _ (x : Input) (h : Bytes (bytes_of x)) (named : Handed x) (o : List ℕ) where
    abbrev z : Outcome
    z = answer_to x s

    keeps : Kept s z
    keeps = answer_kept s t.formed x h named

    -- what is said is less than 2^32 bytes
    said_room : length (outgoing z.out) ≤ least_out s.settings.size
    said_room = answer_room s whole_state x

    said_few : length (outgoing z.out) < 2 ^ 32
    unfolding least_out
    said_few = let r : length (outgoing z.out) ≤ least_out small = subst (λ (y : Size). length (outgoing z.out) ≤ least_out y) size_is said_room in omega (arith, r)

    number_told : result z / 2 ^ 32 ≡ z.number
    unfolding result
    number_told = omega (arith, said_few)

    more : is_kept z.number ≡ true → is_full l ≡ false → Lists m g (t.inputs ++ x ∷ []) (added (kind_of x) (bytes_of x) l)
    more k e = lists_more t.lists x (kept_input s x h named k) (not_full t.lists e)

    -- 0, 6, 7 and 8 add exactly this input
    entered_turn : is_kept z.number ≡ true → is_full l ≡ false → Turn m g x l (enters x o) (answered z o)
    unfolding entered answered result
    entered_turn k e =
        joined (record { result = refl; out = refl })
        (record {
          inputs = t.inputs ++ x ∷ [];
          lists = more k e;
          state = z.next;
          folds = folded_more (fresh g) t.inputs s x t.folds k;
          formed = keeps.formed;
          settings = keeps.settings ∙ t.settings;
          store = refl;
        })
        (gives_back (more k e) ∙ ap (◌++ x ∷ []) (sym (gives_back t.lists))) (ap is_kept number_told ∙ k)

    -- any other number adds nothing
    refused_answered : (k : ℕ) → answered (refused k s) o ≡ calls.refusal k b o
    unfolding answered refused result outgoing calls.refusal
    refused_answered k =
        ap₂ (λ (r : ℕ) (c : List ℕ). record { result = r; store = c; out = o }) (add-zero (k * 2 ^ 32)) (sym t.store)

    refused_turn : is_kept z.number ≡ false → Turn m g x l (refusal z.number l o) (answered z o)
    refused_turn k =
        subst (λ (c : Called). Turn m g x l (refusal z.number l o) c)
        (sym (ap (λ (u : Outcome). answered u o) (unkept s x k) ∙ refused_answered z.number)) (both_refuse x z.number (λ e. omega (arith, e, most_number s x)) k o)

    looked_turn : Turn m g x l (kept x z l o) (answered z o)
    looked_turn =
        by_bool (is_kept z.number)
        (λ k.
        by_bool (is_full l) (λ e. rw (kept_by x o k e) (full e (unfold refusal in refl))) (λ e. rw (kept_by x o k e) (entered_turn k e)))
        (λ k. rw (kept_by x o k refl) (refused_turn k))

    pub turn : Turn m g x l (plainly x l o) (called (answer_to x) b o)
    turn =
        by_bool (leb (least_out small) (length o))
        (λ e. rw (plain_long x o e, station_long (answer_to x) o e) looked_turn)
        (λ e. rw (plain_short x o e, station_short (answer_to x) o e) (refuse_lengths x o))

  -- ---- any input

  module _ (name o : List ℕ) where
    abbrev plain_test : Bool → Answer
    plain_test z = elim z [ false ↦ refusal 1 l o | true ↦ plainly (offer name) l o ]

    abbrev station_test : Bool → Called
    station_test z = elim z [ false ↦ calls.refusal 1 b o | true ↦ called (rules.offer (be name)) b o ]

    plain_offer_lem : {z : Bool} → eqb (length name) 32 ≡ z → plain_offer name l o ≡ plain_test z
    unfolding plain_offer
    plain_offer_lem e = ap plain_test e

    station_offer : {z : Bool} → eqb (length name) 32 ≡ z → offer_called name b o ≡ station_test z
    unfolding offer_called
    station_offer e = ap station_test e

  pub turns : (x : Input) → Bytes (bytes_of x) → (o : List ℕ) → Turn m g x l (plain_call x l o) (station_call x b o)
  unfolding plain_call station_call plain_tick plain_step tick_called step_called answer_to bytes_of
  turns tick h o = turn tick h tt o
  turns (message bs) h o = turn (message bs) h tt o
  turns (offer name) h o =
      by_bool (eqb (length name) 32)
      (λ e. rw (plain_offer_lem name o e, station_offer name o e) (turn (offer name) h (eqb-true (length name) 32 e) o))
      (λ e. rw (plain_offer_lem name o e, station_offer name o e) (refuse_lengths (offer name) o))
