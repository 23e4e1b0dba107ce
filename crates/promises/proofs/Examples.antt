-- Theorem B of the calls on the schedule `two_views`, evaluated: from stores and out buffers of zeros station 1, sound, writes a propose
-- of height 3 and its vote, stays 2D+1 ticks, and has the block and both its ancestors in the log of its store. Assumes nothing.
use Prim.Native.Nat.{ℕ, ◌+◌, ◌*◌}
use native.Mathlib.Omega.{arith}
use mathlib.Core.Path.{◌≡◌, subst, refl, sym, ap, ◌∙◌}
use mathlib.Core.List.{List, [], ◌∷◌, IsPrefix, Memᴰ}
use lib.ListN.{replicate, length-replicate}
use Rattle.rules.specs.Limits.{small, least_out}
use Rattle.rules.specs.Messages.{propose, vote, Effect, to_all}
use Rattle.rules.specs.Words.{in_view, State}
use Rattle.agreement.specs.Schedule.{Event, common_tick, at, out, Run, IsSaid, Sound, Schedule, lineage}
use Rattle.agreement.specs.Checks.{listed}
use Rattle.agreement.specs.Examples.{two_views, height_of, parent_of}
use Rattle.agreement.proofs.Examples.{two_views_lem}
use Rattle.store.specs.Layout.{store_length}
use Rattle.store.specs.Decode.{names, state_of}
use Rattle.promises.specs.Run.{store_at, calls_run, Lends}
use Rattle.promises.proofs.Promises.{same_states, same_words, to_calls, store_commits}

abbrev event : ℕ → Event
event = listed two_views

-- what hosts lend
abbrev room : ℕ → List ℕ
room i = replicate (store_length small) 0

abbrev lent : ℕ → ℕ → List ℕ
lent i k = replicate (least_out small) 0

lends : Lends small 3 1 event room lent 4
lends =
    record {
      store = λ i ok. length-replicate {A = ℕ} (store_length small) 0;
      out = λ i ok k. omega (arith, length-replicate {A = ℕ} (least_out small) 0);
    }

abbrev C : Run
C = calls_run small 3 1 event room lent

-- its premises hold of the calls
pub two_views_calls : Schedule C 4 height_of parent_of
two_views_calls = to_calls small 3 1 event room lent 4 lends height_of parent_of two_views_lem

sound : Sound C 4 1
sound = (omega arith, refl)

states : (k : ℕ) → state_of (store_at small 3 1 event room lent 1 k) ≡ at small 3 1 event 1 k
states = same_states small 3 1 event room lent 4 lends two_views_lem.premises.settings two_views_lem.premises.lent 1 sound

-- the rules' run at the vote (event 51) and at the tick (event 57)
said_here : Memᴰ (to_all (propose 3 3 79 78 3 0)) (out small 3 1 event 1 51) × Memᴰ (to_all (vote 3 3 79 1)) (out small 3 1 event 1 51)
unfolding at out listed two_views
said_here = (Memᴰ.head refl, Memᴰ.tail (Memᴰ.head refl))

stays : (event 57 ≡ common_tick) × ((at small 3 1 event 1 57).clock ≡ (at small 3 1 event 1 52).clock + 2 * 1) × ((at small 3 1 event 1 57).phase ≡ in_view) × ((at small 3 1 event 1 57).view ≡ 3)
unfolding at listed two_views
stays = (refl, refl, refl, refl)

spoken : (e : Effect) → Memᴰ e (out small 3 1 event 1 51) → IsSaid C 1 51 e
spoken e = subst (Memᴰ e) (sym (same_words small 3 1 event room lent 4 lends two_views_lem.premises.settings two_views_lem.premises.lent 1 sound 51))

pub two_views_committed : IsPrefix (77 ∷ 78 ∷ 79 ∷ []) (names (store_at small 3 1 event room lent 1 58))
unfolding lineage parent_of
two_views_committed =
    let here = states 57 in
    store_commits small 3 1 event room lent 4 lends height_of parent_of two_views_calls 1 sound 51 3 3 79 78 3 0 (spoken _ said_here.0) (spoken _ said_here.1) 57 stays.0
    (ap (λ (s : State). s.clock) here ∙ stays.1 ∙ ap (λ (s : State). s.clock + 2 * 1) (sym (states 52)))
    (ap (λ (s : State). s.phase) here ∙ stays.2) (ap (λ (s : State). s.view) here ∙ stays.3)
