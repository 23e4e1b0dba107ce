-- While no sound station blames v, none quits it, and all enter it within D ticks of each other. Assumes nothing.
use mathlib.Core.Path.{◌≡◌, subst, sym, ap, ◌∙◌}
use Prim.Native.Nat.{ℕ, zero, suc, ◌+◌, ◌≤◌, ◌<◌, ◌^◌}
use native.Mathlib.Omega.{arith}
use native.Mathlib.Decide.{dec_lt}
use mathlib.Core.Bool.{true}
use mathlib.Core.Logic.{◌⊎◌, inl, inr}
use lib.ListN.{get_or-replicate}
use Rattle.rules.specs.Limits.{first_view, last_view}
use Rattle.rules.specs.Sizes.{Settings, leader, bit}
use Rattle.rules.specs.Messages.{Message, new_view, propose, vote, blame, blame_set, status, allowed, to_all}
use Rattle.rules.specs.Words.{Statement, message, in_view, fresh}
use Rattle.rules.specs.Inputs.{blames_of}
use Rattle.laws.proofs.Tests.{no_bool}
use Rattle.laws.proofs.Tallies.{no_bit}
use Rattle.laws.proofs.Statements.{In, conflict_view}
use Rattle.laws.proofs.Kept.{by_phase}
use Rattle.laws.proofs.Orderly.{Told, full, two, past_told}
use Rattle.laws.proofs.Held.{held_stored}
use Rattle.kept.proofs.Blames.{blames_of_mask}
use Rattle.agreement.specs.Schedule.{at, out, run, IsSaid, Genuine, NoForgery}
use Rattle.agreement.proofs.Clock.{clock_mono, last_of}
use Rattle.agreement.proofs.Group.{Group, st, ck, Ok, G, SaidAt, at_settings, kept_run, formed_run, said_held}
use Rattle.agreement.proofs.Follow.{names_sound, follow}
use Rattle.agreement.proofs.Ripe.{past_of, quit_of, entry_of}
use Rattle.progress.proofs.Blames.{Names, Accused, heard, own, event_blames}
use Rattle.progress.proofs.Entries.{Remains, entry_run}
use Rattle.progress.proofs.Leader.{source, leader_clean}

module _ (X : Group) (genuine : NoForgery (run X.size X.n X.D X.event) X.faulty) (v : ℕ) (inside : (first_view ≤ v) × (v ≤ last_view X.size))
    (ok : Ok X (leader (G X 0) v)) where
  open X use {size, n, D, faulty, event, next, parent_of}

  -- ---- whose blames of v are held

  -- a said its blame of v by clock c
  abbrev Blamed : (c a : ℕ) → Type 0
  Blamed c a = (l : ℕ) × (ck X (suc l) ≤ c) × IsSaid (run size n D event) a l (to_all (blame v a))

  abbrev Known : (i k : ℕ) → Type 0
  Known i k = (a : ℕ) → bit (blames_of v (st X i k)) a ≡ 1 → Ok X a → Blamed (ck X k) a

  known_on : (i : ℕ) → Ok X i → (k : ℕ) → Known i k → Known i (suc k)
  unfolding at out
  known_on i hi k before a h ha = go (event_blames i (event k) (st X i k) (X.common k) (X.runs i hi (suc k)) v a h)
    where
      later : ck X k ≤ ck X (suc k) → Blamed (ck X k) a → Blamed (ck X (suc k)) a
      later m (l, c, s) = (l, omega arith, s)

      said_before : (l : ℕ) → l < k → (w : ℕ) → w ≡ v → IsSaid (run size n D event) a l (to_all (blame w a)) → Blamed (ck X (suc k)) a
      said_before l u w e s = (l, clock_mono event (suc l) (suc k) (omega arith), subst (λ (x : ℕ). IsSaid (run size n D event) a l (to_all (blame x a))) e s)

      named : (m : Message) → Names m v a → Genuine (run size n D event) faulty k m → Blamed (ck X (suc k)) a
      named (new_view w x b c m j) r g = absurd r
      named (propose w x b p m j) r g = absurd r
      named (vote w x b j) r g = absurd r
      named (blame w j) (e, f) g = let (l, u, s) = g (subst (Ok X) f ha) in said_before l u w e (subst (λ (y : ℕ). IsSaid (run size n D event) y l (to_all (blame w y))) (sym f) s)
      named (blame_set w m) (e, f) g = let (l, u, s) = g a ha f in said_before l u w e s
      named (status x b c m) r g = absurd r

      go : (bit (blames_of v (st X i k)) a ≡ 1) ⊎ Accused i (event k) (st X i k) (out size n D event i k) v a → Blamed (ck X (suc k)) a
      go (inl b) = later (clock_mono event k (suc k) (omega arith)) (before a b ha)
      go (inr (heard bs m e r al w)) =
          named m w (genuine k i m (hi, (bs, e, r), subst (λ (g : Settings). allowed g m ≡ true) (at_settings X i hi k) al))
      go (inr (own e s)) =
          let f : a ≡ i = e ∙ ap (λ (g : Settings). g.own) (at_settings X i hi k) in
          (k, omega arith, subst (λ (y : ℕ). IsSaid (run size n D event) y k (to_all (blame v a))) (sym f) s)

  known_run : (i : ℕ) → Ok X i → (k : ℕ) → Known i k
  unfolding at fresh blames_of
  known_run i hi zero = λ a h ha. no_bit a (rw (get_or-replicate {A = ℕ} (suc (last_view size)) v 0 0 (omega (arith, inside.1))) at h)
  known_run i hi (suc k) = known_on i hi k (known_run i hi k)

  -- ---- no sound station has blamed v by clock c

  abbrev pub Calm : ℕ → Type 0
  Calm c = (i : ℕ) → Ok X i → (l a : ℕ) → ck X (suc l) ≤ c → IsSaid (run size n D event) i l (to_all (blame v a)) → ⊥

  pub calm_less : (b c : ℕ) → b ≤ c → Calm c → Calm b
  calm_less b c l f i hi k a u s = f i hi k a (omega arith) s

  -- so nobody has told that v is over
  told_calm : (i : ℕ) → Ok X i → (q : ℕ) → Calm q → Told (SaidAt X i) (G X i) q v → ⊥
  told_calm i hi q calm (full m c (l, e, s)) =
      let t = st X i (suc l) in
      let g = at_settings X i hi (suc l) in
      let held = said_held X i hi l (blame_set v m) s in
      let small : blames_of v t < 2 ^ n = subst (λ (y : Settings). blames_of v t < 2 ^ y.n) g (blames_of_mask {s = t} (formed_run X i hi (suc l)).formed v) in
      let (a, ha, b) = names_sound X i (blames_of v t) small held in
      let (k, u, w) = known_run i hi (suc l) a b ha in
      calm a ha k a (omega arith) w
  told_calm i hi q calm (two x y c e (l, le, s) (m, me, w)) =
      let k = suc (l + m) in
      let yv : y.view ≡ v = sym (conflict_view x y c) ∙ e in
      no_bool (sym c ∙ leader_clean X genuine v ok k x y (source X genuine v ok i hi k x (has x l (omega arith) s) e) (source X genuine v ok i hi k y (has y m (omega arith) w) yv) e)
    where
      has : (z : Statement) (j : ℕ) → suc j ≤ suc (l + m) → IsSaid (run size n D event) i j (to_all (message z)) → In (st X i (suc (l + m))).statements z
      has z j d r = (kept_run X i hi (suc j) (suc (l + m)) d).has z (held_stored (G X i) (st X i (suc j)) z (said_held X i hi j (message z) r))

  -- ---- nobody quits

  abbrev pub Within : (i k : ℕ) → Type 0
  Within i k = ((st X i k).view ≡ v) × ((st X i k).phase ≡ in_view)

  -- who has entered v is in it
  pub in_calm : (i : ℕ) → Ok X i → (k : ℕ) → Calm (ck X k) → v ≤ (st X i k).view → Within i k
  in_calm i hi k calm l =
      let e = entry_of X i hi k in
      elim (dec_lt v (st X i k).view) [
        | yes y ↦ (
            let (q, d, t) = past_told (SaidAt X i) (past_of X i hi k) v inside.0 y in
            absurd (told_calm i hi q (calm_less q (ck X k) (omega arith) calm) t))
        | no y ↦ (
            let w : (st X i k).view ≡ v = omega arith in (
              w,
              by_phase (st X i k) (X.runs i hi k) (λ p. p) (λ q p.
                  let (d, t) = quit_of X i hi k q p in
                  absurd (told_calm i hi q (calm_less q (ck X k) d calm) (subst (λ (z : ℕ). Told (SaidAt X i) (G X i) q z) w t))),
            ))
      ]

  -- where i entered v at clock e, j is in v from clock e + D on, and entered it by then
  pub joins_calm : (i j : ℕ) → Ok X i → Ok X j → (k0 : ℕ) → (st X i k0).view ≡ v → (k : ℕ) → Calm (ck X k) → (st X i k0).entry + D ≤ ck X k
      → Within j k × ((st X j k).entry ≤ (st X i k0).entry + D)
  joins_calm i j hi hj k0 w k calm d =
      let (a, p) = in_calm j hj k calm (there k d) in (
        (a, p),
        elim (dec_lt ((st X i k0).entry + D) (ck X k)) [
          | yes y ↦ (
              let (l, u, c, _, _) = last_of event X.common ((st X i k0).entry + D) k y in
              let (b, _) = in_calm j hj l (calm_less (ck X l) (ck X k) (clock_mono event l k (omega arith)) calm) (there l (omega arith)) in
              let e = entry_of X j hj l in
              same l (omega arith) (a ∙ sym b) e c (entry_run X j hj l k (omega arith)))
          | no y ↦ (let e = entry_of X j hj k in omega arith)
        ],
      )
    where
      there : (l : ℕ) → (st X i k0).entry + D ≤ ck X l → v ≤ (st X j l).view
      there l c = rw (← w) (follow X i j hi hj (past_of X i hi k0) l c)

      same : (l : ℕ) → l ≤ k → (st X j k).view ≡ (st X j l).view → (st X j l).entry ≤ ck X l → ck X l ≡ (st X i k0).entry + D
          → Remains (st X j l) (st X j k) ⊎ (((st X j l).view < (st X j k).view) × (ck X (suc l) ≤ (st X j k).entry))
          → (st X j k).entry ≤ (st X i k0).entry + D
      same l o b e c (inl (_, f, _)) = omega arith
      same l o b e c (inr (f, _)) = absurd (omega arith)
