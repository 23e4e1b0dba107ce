-- What is premised of a run holds of another in which sound stations hold and say the same. Assumes nothing.
use mathlib.Core.Path.{◌≡◌, subst, sym}
use Prim.Native.Nat.{ℕ, ◌<◌}
use mathlib.Core.List.{List, Memᴰ}
use mathlib.Core.Logic.{inl, inr}
use mathlib.Core.Option.{some}
use Rattle.rules.specs.Messages.{Message, new_view, propose, vote, blame, blame_set, status, write, Effect, to_all, to_one}
use Rattle.rules.specs.Words.{State}
use Rattle.rules.specs.Inputs.{offered}
use Rattle.rules.specs.Refusals.{step}
use Rattle.agreement.specs.Schedule.{Event, HasRoom, Run, IsSaid, Sends, Speaks, Sound, VotersVoted, Genuine, OneName, NeverUsedUp, Premises, Schedule}

-- another run of the same group
abbrev pub other : Run → (ℕ → Event) → (ℕ → ℕ → State) → (ℕ → ℕ → List Effect) → Run
other R event state said = record { size = R.size; n = R.n; D = R.D; event = event; state = state; said = said }

-- a message that is genuine in R is so where all that sound stations said before is said too
module _ (R : Run) (event : ℕ → Event) (state : ℕ → ℕ → State) (said : ℕ → ℕ → List Effect) (faulty l : ℕ)
    (on : (i p : ℕ) (e : Effect) → Sound R faulty i → p < l → IsSaid R i p e → IsSaid (other R event state said) i p e) where
  abbrev Q : Run
  Q = other R event state said

  earlier_on : (i : ℕ) (e : Effect) → Sound R faulty i → (p : ℕ) × (p < l) × IsSaid R i p e → (p : ℕ) × (p < l) × IsSaid Q i p e
  earlier_on i e ok (p, u, s) = (p, u, on i p e ok u s)

  made_on : (i : ℕ) (m : ℕ → Message) → Sound R faulty i → (p : ℕ) × (p < l) × ((x : ℕ) × IsSaid R i p (to_all (m x))) → (p : ℕ) × (p < l) × ((x : ℕ) × IsSaid Q i p (to_all (m x)))
  made_on i m ok (p, u, (x, s)) = (p, u, (x, on i p (to_all (m x)) ok u s))

  voters_on : (m v h b : ℕ) → VotersVoted R faulty l m v h b → VotersVoted Q faulty l m v h b
  voters_on m v h b f i ok y = earlier_on i _ ok (f i ok y)

  pub genuine_on : (m : Message) → Genuine R faulty l m → Genuine Q faulty l m
  genuine_on (new_view v h b c m a) (f, g) = (voters_on m c h b f, λ ok. made_on a (λ x. new_view v h b c x a) ok (g ok))
  genuine_on (propose v h b q m a) (f, g) = (voters_on m v _ q f, λ ok. made_on a (λ x. propose v h b q x a) ok (g ok))
  genuine_on (vote v h b a) g = λ ok. earlier_on a _ ok (g ok)
  genuine_on (blame v a) g = λ ok. earlier_on a _ ok (g ok)
  genuine_on (blame_set v m) g = λ i ok y. earlier_on i _ ok (g i ok y)
  genuine_on (status h b c m) f = voters_on m c h b f

-- ---- the same events, states and words

module _ (R : Run) (state : ℕ → ℕ → State) (said : ℕ → ℕ → List Effect) where
  abbrev T : Run
  T = other R R.event state said

  module _ (faulty : ℕ) (height_of parent_of : ℕ → ℕ) (states : (i : ℕ) → Sound R faulty i → (k : ℕ) → R.state i k ≡ state i k)
      (words : (i : ℕ) → Sound R faulty i → (k : ℕ) → R.said i k ≡ said i k) where
    pub says_alike : (i k : ℕ) (e : Effect) → Sound R faulty i → IsSaid R i k e → IsSaid T i k e
    says_alike i k e ok = subst (Memᴰ e) (words i ok k)

    sends_alike : (i j k : ℕ) (m : Message) → Sound R faulty i → Sends T i j k m → Sends R i j k m
    sends_alike i j k m ok (inl (s, ne)) = inl (subst (Memᴰ (to_all m)) (sym (words i ok k)) s, ne)
    sends_alike i j k m ok (inr s) = inr (subst (Memᴰ (to_one j m)) (sym (words i ok k)) s)

    names_alike : OneName R faulty height_of parent_of → OneName T faulty height_of parent_of
    names_alike one k j m (inl h) = one k j m (inl h)
    names_alike one k j m (inr (ok, (b, e, r))) = one k j m (inr (ok, (b, e, subst (λ (s : State). offered b s ≡ some m) (sym (states j ok k)) r)))

    speaks_alike : (i k : ℕ) (m : Message) → Sound R faulty i → Speaks T i k m → Speaks R i k m
    speaks_alike i k m ok (inl s) = inl (subst (Memᴰ (to_all m)) (sym (words i ok k)) s)
    speaks_alike i k m ok (inr (j, s)) = inr (j, subst (Memᴰ (to_one j m)) (sym (words i ok k)) s)

    heard_alike : NeverUsedUp R faulty → NeverUsedUp T faulty
    heard_alike heard i j hi hj l k v h b a s o e r =
        let m = vote v h b a in
        heard i j hi hj l k v h b a (speaks_alike i l m hi s) o e (subst (λ (u : State). (step (write m) u).number ≡ 12) (sym (states j hj k)) r)

    pub premises_alike : Premises R faulty height_of parent_of → Premises T faulty height_of parent_of
    premises_alike P =
        record {
          settings = P.settings;
          few = P.few;
          common = P.common;
          lent = P.lent;
          in_time = λ i j hi hj k m s. P.in_time i j hi hj k m (sends_alike i j k m hi s);
          no_forgery = λ k j m h. genuine_on R R.event state said faulty k (λ i p e ok u s. says_alike i p e ok s) m (P.no_forgery k j m h);
          one_name = names_alike P.one_name;
          heard = heard_alike P.heard;
        }

    pub schedule_alike : Schedule R faulty height_of parent_of → Schedule T faulty height_of parent_of
    schedule_alike X = record { premises = premises_alike X.premises; room = λ i ok k. subst HasRoom (states i ok k) (X.room i ok k) }
