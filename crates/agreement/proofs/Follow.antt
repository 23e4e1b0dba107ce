-- G1, G2: a quorum names a sound station; where one sound station has entered a view, all have D ticks later. Assumes nothing.
use mathlib.Core.Path.{◌≡◌, subst, sym, ◌∙◌}
use Prim.Native.Nat.{ℕ, suc, ◌+◌, ◌≤◌, ◌<◌, ◌^◌}
use native.Mathlib.Omega.{arith}
use native.Mathlib.Nat.{le_of_lt}
use native.Mathlib.Decide.{dec_lt}
use mathlib.Core.Bool.{true}
use mathlib.Core.Logic.{inl, inr}
use Rattle.rules.specs.Limits.{last_view}
use Rattle.rules.specs.Sizes.{Settings, bit, quorum}
use Rattle.rules.specs.Messages.{Message, blame_set, view_of, to_all, to_one}
use Rattle.rules.specs.Words.{Statement, message, in_view}
use Rattle.rules.specs.Inputs.{blame_full}
use Rattle.laws.proofs.Tests.{no_bool}
use Rattle.laws.proofs.Masks.{bit_below, quorum_sound}
use Rattle.laws.proofs.Statements.{In, conflict_view}
use Rattle.laws.proofs.Kept.{by_phase}
use Rattle.laws.proofs.Orderly.{Told, full, two, Past, start, onward}
use Rattle.laws.proofs.Held.{Held, held_stored}
use Rattle.laws.proofs.Views.{view_message}
use Rattle.agreement.specs.Schedule.{Speaks, run}
use Rattle.agreement.proofs.Clock.{last_of}
use Rattle.agreement.proofs.Group.{Group, st, ck, Ok, G, SaidAt, at_settings, at_clock, kept_run, orderly_run, view_run, prompt, says_views, NearFrom, reach_near}

module _ (X : Group) where
  open X use {size, n, D, faulty, event, next, parent_of}

  -- G1: a mask of f+1 bits below 2^n names a sound station
  pub names_sound : (i m : ℕ) → m < 2 ^ n → quorum (G X i) m ≡ true → (a : ℕ) × Ok X a × (bit m a ≡ 1)
  names_sound i m h c =
      let (a, l, p, q) = quorum_sound (G X i) m faulty c X.few in
      (a, (bit_below n m a h p, q), p)

  -- who holds what ends a view is not in it, if from then on it is at most one view behind
  told_near : (i j : ℕ) → Ok X i → Ok X j → (q v k : ℕ) → Told (SaidAt X i) (G X i) q v → NearFrom X j q v → q + D + 1 ≤ next k
      → (st X j k).view ≡ v → (st X j k).phase ≡ in_view → ⊥
  unfolding blame_full quorum view_of
  told_near i j hi hj q v k (full m c s) near d w p =
      let f = (orderly_run X j hj k).calm p in
      no_bool (sym (reach_near X i j hi hj (blame_set v m) q k s near d) ∙ rw (at_settings X j hj k, w) at f)
  told_near i j hi hj q v k (two x y c e a b) near d w p =
      let cv = conflict_view x y c in
      no_bool (sym c ∙ (orderly_run X j hj k).clean p x y (has x a (omega arith)) (has y b (omega arith)) (e ∙ sym w))
    where
      has : (z : Statement) → SaidAt X i q (to_all (message z)) → z.view ≤ v → In (st X j k).statements z
      has z s l =
          let vz = view_message z in
          held_stored (G X j) (st X j k) z (reach_near X i j hi hj (message z) q k s (λ h o. let n = near h o in omega arith) d)

  next_view_lem : (i j : ℕ) → Ok X i → Ok X j → (v q k1 k : ℕ) → Told (SaidAt X i) (G X i) q v → NearFrom X j q v → k1 ≤ k → ck X k1 ≡ q + D
      → ck X (suc k1) ≡ q + D + 1 → v ≤ (st X j k1).view → v < last_view size → q + D + 1 + D ≤ ck X k → v + 1 ≤ (st X j k).view
  next_view_lem i j hi hj v q k1 k t near le c1 c2 ih w d =
      let up = kept_run X j hj k1 k le in
      let uv = up.view in
      let sn = X.soon k1 in
      elim (dec_lt v (st X j k).view) [
        | yes y ↦ omega arith
        | no y ↦ (
            let v1 : (st X j k1).view ≡ v = omega arith in
            by_phase (st X j k1) (X.runs j hj k1) (λ p. absurd (told_near i j hi hj q v k1 t near (omega arith) v1 p)) λ q1 p.
            let (a, b, t1) = (orderly_run X j hj k1).quits q1 p in
            let cc1 = at_clock X j hj k1 in
            let z = prompt X j hj k q1 (up.waits q1 p (omega arith)) (omega arith) in
            absurd (omega arith))
      ]

  -- where i entered v at clock e, every j has entered it by clock e + D, and the view before it by clock e
  follow_both : (i j : ℕ) → Ok X i → Ok X j → {v e : ℕ} → Past (SaidAt X i) (G X i) v e → (k : ℕ)
      → (e + D ≤ ck X k → v ≤ (st X j k).view) × (e ≤ ck X k → v ≤ (st X j k).view + 1)
  follow_both i j hi hj start k = (λ d. (view_run X j hj k).0, λ d. let r = (view_run X j hj k).0 in omega arith)
  follow_both i j hi hj (onward {v = v} {e = e} {q = q} p l w t) k = (
    λ d.
        let (k1, before, c1, c2, tick) = last_of event X.common (q + D) k (omega arith) in
        next_view_lem i j hi hj v q k1 k t (λ h o. (follow_both i j hi hj p h).1 (omega arith)) (le_of_lt before) c1 c2
        ((follow_both i j hi hj p k1).0 (rw c1 (omega arith))) w d,
    λ d. let b = (follow_both i j hi hj p k).0 (omega arith) in omega arith,
  )

  -- G2: where i entered v at clock e, every j has entered it by clock e + D
  pub follow : (i j : ℕ) → Ok X i → Ok X j → {v e : ℕ} → Past (SaidAt X i) (G X i) v e → (k : ℕ) → e + D ≤ ck X k → v ≤ (st X j k).view
  follow i j hi hj p k = (follow_both i j hi hj p k).0

  -- from clock e on j is at most one view behind it
  near : (i j : ℕ) → Ok X i → Ok X j → {v e : ℕ} → Past (SaidAt X i) (G X i) v e → NearFrom X j e v
  near i j hi hj p k = (follow_both i j hi hj p k).1

  -- from any event of i on, j is at most one view behind the view that i then holds or last quit
  said_near : (i j : ℕ) → Ok X i → Ok X j → (l : ℕ) → NearFrom X j (ck X (suc l)) (st X i (suc l)).view
  said_near i j hi hj l h o =
      let r = orderly_run X i hi (suc l) in
      let c = at_clock X i hi (suc l) in
      let b = r.order in
      near i j hi hj (subst (λ (g : Settings). Past (SaidAt X i) g (st X i (suc l)).view (st X i (suc l)).entry) (at_settings X i hi (suc l)) r.past) h (omega arith)

  spoken_view : (i : ℕ) → Ok X i → (l : ℕ) (m : Message) → Speaks (run size n D event) i l m → view_of m ≤ (st X i (suc l)).view
  spoken_view i hi l m (inl s) = says_views X i hi l (to_all m) s
  spoken_view i hi l m (inr (j, s)) = says_views X i hi l (to_one j m) s

  -- a message of i is at most one view ahead of j from the clock on at which it was said
  pub spoken_near : (i j : ℕ) → Ok X i → Ok X j → (l : ℕ) (m : Message) → Speaks (run size n D event) i l m → NearFrom X j (ck X (suc l)) (view_of m)
  spoken_near i j hi hj l m s h o = let a = spoken_view i hi l m s in let b = said_near i j hi hj l h o in omega arith

  message_near : (i j : ℕ) → Ok X i → Ok X j → (m : Message) (c : ℕ) → SaidAt X i c (to_all m) → NearFrom X j c (view_of m)
  message_near i j hi hj m c (l, e, s) h o = spoken_near i j hi hj l m (inl s) h (omega arith)

  -- what is said to all is held by all, the sender too, before the tick D + 1 later
  pub reach : (i j : ℕ) → Ok X i → Ok X j → (m : Message) (c k : ℕ) → SaidAt X i c (to_all m) → c + D + 1 ≤ next k → Held (G X j) (st X j k) m
  reach i j hi hj m c k s d = reach_near X i j hi hj m c k s (message_near i j hi hj m c s) d

  -- who holds what ends a view is not in it
  pub told_out : (i j : ℕ) → Ok X i → Ok X j → (q v k : ℕ) → Told (SaidAt X i) (G X i) q v → q + D + 1 ≤ next k → (st X j k).view ≡ v → (st X j k).phase ≡ in_view → ⊥
  unfolding view_of
  told_out i j hi hj q v k t = told_near i j hi hj q v k t (speaker_near t)
    where
      speaker_near : Told (SaidAt X i) (G X i) q v → NearFrom X j q v
      speaker_near (full m c s) = message_near i j hi hj (blame_set v m) q s
      speaker_near (two x y c e a b) = λ h o. let z = message_near i j hi hj (message x) q a h o in let f = view_message x in omega arith
