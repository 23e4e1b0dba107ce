-- 02, request 13: the five calls of the plain engine, whole: what each answers, leaves in the list and leaves in the out buffer, for
-- all bytes of all lengths. Each answer is worked out "from the whole list, straight from the rules". Assumes nothing.
use Rattle.std.specs.Prelude.{ℕ, ◌+◌, ◌*◌, ◌^◌, ◌≡◌, true, false, ◌&&◌, List, [], ◌∷◌, ◌++◌, length, drop, leb, eqb}
use Rattle.std.proofs.Math.Option.{Option, none, some}
use Rattle.rules.specs.Limits.{small, least_out}
use Rattle.rules.specs.Lists.{be, unbe}
use Rattle.rules.specs.Sizes.{Settings, good_settings}
use Rattle.rules.specs.Messages.{outgoing}
use Rattle.rules.specs.Words.{State, fresh}
use Rattle.rules.specs.Refusals as rules
use Rattle.rules.specs.Refusals.{Outcome}
use Rattle.slots.specs.Slots.{is_kept}
use Rattle.lent_list.specs.Lists.{Input, tick, offer, message, kind_of, bytes_of, has_length, has_form, settings_in, inputs_of, fresh_list, is_full, added}

-- ---- the rules over the whole list

-- what the rules answer to an input
unfoldable pub answer_to : Input → State → Outcome
unfolding rules.tick rules.offer rules.step be
answer_to tick = rules.tick
answer_to (offer name) = rules.offer (be name)
answer_to (message bs) = rules.step bs

-- the state after some inputs, if each is one that a list keeps where it stands: "the inputs that were answered 0, 6, 7 or 8"
unfoldable pub folded : State → List Input → Option State
unfolding answer_to is_kept
folded s [] = some s
folded s (x ∷ xs) = elim (is_kept (answer_to x s).number) [ true ↦ folded (answer_to x s).next xs | false ↦ none ]

-- the state after a list's inputs, "from the fresh state". None is refused with 2: the list isn't of its form, or a record in it
-- is of an input that is answered with another number than 0, 6, 7 and 8 where it stands.
unfoldable pub held : List ℕ → Option State
unfolding has_form folded fresh settings_in inputs_of
held l = elim (has_form l) [ false ↦ none | true ↦ folded (fresh (settings_in l)) (inputs_of l) ]

-- ---- a tick, an offer, a message

pub record Answer : Type 0 where
  pub result : ℕ
  pub list : List ℕ
  pub out : List ℕ

-- "a refusal's count is 0", and "nothing" changes
unfoldable pub refusal : ℕ → List ℕ → List ℕ → Answer
refusal k l o = record { result = k * 2 ^ 32; list = l; out = o }

-- the input joins the list, and what is said stands in the out buffer
unfoldable pub entered : ℕ → List ℕ → ℕ → List ℕ → List ℕ → List ℕ → Answer
unfolding added
entered k bs number said l o = record { result = number * 2 ^ 32 + length said; list = added k bs l; out = said ++ drop (length said) o }

-- an input by its kind and its bytes, which the rules answer with a number and some bytes: another number than 0, 6, 7 and 8 leaves
-- all as it is; "after all other refusals" 13: no slot is left
unfoldable pub entering : ℕ → List ℕ → ℕ → List ℕ → List ℕ → List ℕ → Answer
unfolding is_kept refusal is_full entered
entering k bs number said l o =
    elim (is_kept number) [ false ↦ refusal number l o | true ↦ elim (is_full l) [ true ↦ refusal 13 l o | false ↦ entered k bs number said l o ] ]

unfoldable pub kept : Input → Outcome → List ℕ → List ℕ → Answer
unfolding entering kind_of bytes_of outgoing
kept x y l o = entering (kind_of x) (bytes_of x) y.number (outgoing y.out) l o

-- 1, 2, then what the rules say of the state that the list gives
unfoldable pub plainly : Input → List ℕ → List ℕ → Answer
unfolding has_length least_out refusal held kept answer_to
plainly x l o =
    elim (has_length l && leb (least_out small) (length o))
    [ false ↦ refusal 1 l o | true ↦ elim (held l) [ none ↦ refusal 2 l o | some s ↦ kept x (answer_to x s) l o ] ]

unfoldable pub plain_step : List ℕ → List ℕ → List ℕ → Answer
unfolding plainly
plain_step bs = plainly (message bs)

unfoldable pub plain_tick : List ℕ → List ℕ → Answer
unfolding plainly
plain_tick = plainly tick

-- "offered name not 32 bytes": 1
unfoldable pub plain_offer : List ℕ → List ℕ → List ℕ → Answer
unfolding plainly refusal
plain_offer name l o = elim (eqb (length name) 32) [ false ↦ refusal 1 l o | true ↦ plainly (offer name) l o ]

-- a call gives this
pub record Gives (c : Answer) (r : ℕ) (l o : List ℕ) : Type 0 where
  pub result : r ≡ c.result
  pub list : l ≡ c.list
  pub out : o ≡ c.out

-- ---- a fresh list

-- what a host is told, and what is left of the bytes that it lent
pub record Left : Type 0 where
  pub result : ℕ
  pub bytes : List ℕ

unfoldable pub left : ℕ → List ℕ → Left
left r b = record { result = r; bytes = b }

-- "a fresh store: 1, then 10", so of a list too
unfoldable pub plain_fresh : List ℕ → ℕ → ℕ → ℕ → Left
unfolding left has_length good_settings fresh_list
plain_fresh l n d own =
    let g : Settings = record { n = n; D = d; own = own; size = small } in
    elim (has_length l) [
      | false ↦ left (1 * 2 ^ 32) l
      | true ↦ elim (good_settings g) [ false ↦ left (10 * 2 ^ 32) l | true ↦ left 0 (fresh_list g (length l)) ]
    ]

-- ---- the log

-- "the log's names, 32 bytes each"
unfoldable pub log_bytes : List ℕ → List ℕ
unfolding unbe
log_bytes [] = []
log_bytes (b ∷ bs) = unbe 32 b ++ log_bytes bs

-- the bytes of a log stand in the out buffer, and are counted
unfoldable pub logged : List ℕ → List ℕ → Left
unfolding left log_bytes
logged names o = left (length (log_bytes names)) (log_bytes names ++ drop (length (log_bytes names)) o)

-- it only reads: a stopped station's log is written like any other's
unfoldable pub plain_log : List ℕ → List ℕ → Left
unfolding has_length least_out left held logged
plain_log l o =
    elim (has_length l && leb (least_out small) (length o))
    [ false ↦ left (1 * 2 ^ 32) o | true ↦ elim (held l) [ none ↦ left (2 * 2 ^ 32) o | some s ↦ logged s.log o ] ]
