-- What request 12 asks and claims of a run holds of another in which sound stations hold and say the same. Assumes nothing.
use mathlib.Core.Path.{◌≡◌, subst, sym, ap, ◌∙◌}
use Prim.Native.Nat.{ℕ, suc, ◌+◌, ◌≤◌}
use mathlib.Core.Bool.{false}
use mathlib.Core.List.{List, IsPrefix, Memᴰ}
use Rattle.rules.specs.Messages.{Effect}
use Rattle.rules.specs.Words.{in_view, State}
use Rattle.agreement.specs.Schedule.{Run, Sound, lineage}
use Rattle.agreement.proofs.Alike.{other}
use Rattle.progress.specs.Progress.{possible, voted_in, chief, VotedBy, Entered, Led, GetsOn}

module _ (R : Run) (state : ℕ → ℕ → State) (said : ℕ → ℕ → List Effect) (faulty v K : ℕ)
    (states : (i : ℕ) → Sound R faulty i → (k : ℕ) → R.state i k ≡ state i k) (words : (i : ℕ) → Sound R faulty i → (k : ℕ) → R.said i k ≡ said i k) where
  abbrev T : Run
  T = other R R.event state said

  pub led_alike : Led R v faulty K → Led T v faulty K
  led_alike led =
      record {
        inside = led.inside;
        sound = led.sound;
        prompt = λ k l e w.
            let same = states (chief R v) led.sound k in
            subst (λ (s : State). possible s ≡ false) same (led.prompt k l e (subst (λ (s : State). s.view ≡ v) (sym same) w));
      }

  voted_alike : (j : ℕ) → Sound R faulty j → (h b c : ℕ) → VotedBy R v j h b c → VotedBy T v j h b c
  voted_alike j hj h b c (l, u, (p, m, a, s, w)) = (l, u, (p, m, a, subst (Memᴰ _) (words j hj l) s, subst (Memᴰ _) (words j hj l) w))

  entered_back : (i : ℕ) → Sound R faulty i → (e : ℕ) → Entered T v faulty K i e → Entered R v faulty K i e
  entered_back i hi e (k, l, w, en) = let same = states i hi k in (k, l, ap (λ (s : State). s.view) same ∙ w, ap (λ (s : State). s.entry) same ∙ en)

  pub gets_alike : (parent_of : ℕ → ℕ) → GetsOn R v faulty K parent_of → GetsOn T v faulty K parent_of
  gets_alike parent_of G =
      record {
        no_blame = λ i hi k a l s. G.no_blame i hi k a l (subst (Memᴰ _) (sym (words i hi k)) s);
        no_quit = λ i hi k l u. subst (λ (s : State). v ≤ s.view → (s.view ≡ v) × (s.phase ≡ in_view)) (states i hi k) (G.no_quit i hi k l) u;
        in_turn = λ i e hi n p k l d.
            let (h, f, g) = G.in_turn i e hi (entered_back i hi e n) p k l d in
            (h, λ j hj. subst (λ (s : State). p ≤ voted_in v s) (states j hj k) (f j hj), λ q a b. let (x, y) = g q a b in (x, λ j hj. voted_alike j hj (h + q) x _ (y j hj)));
        commits = λ j hj l h b p m a s w k u e d.
            subst (λ (t : State). IsPrefix (lineage parent_of h b) t.log) (states j hj (suc k))
            (G.commits j hj l h b p m a (subst (Memᴰ _) (sym (words j hj l)) s) (subst (Memᴰ _) (sym (words j hj l)) w) k u e d);
        in_logs = λ i e hi n p k l d.
            let (h, f) = G.in_logs i e hi (entered_back i hi e n) p k l d in
            (h, λ q a b. let (x, y) = f q a b in (x, λ j hj. subst (λ (s : State). IsPrefix (lineage parent_of (h + q) x) s.log) (states j hj k) (y j hj)));
      }
