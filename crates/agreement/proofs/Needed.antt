-- The premises of 01 give what the proof needs. Of what is forged it needs the votes alone, of a block the parent alone. Assumes nothing.
use mathlib.Core.Path.{◌≡◌, subst, refl, sym, ap, ◌∙◌}
use Prim.Native.Nat.{ℕ, suc, ◌+◌, ◌≤◌, ◌<◌}
use native.Mathlib.Omega.{arith}
use mathlib.Core.Bool.{true, false}
use mathlib.Core.Option.{some, some-injective}
use Rattle.rules.specs.Limits.{Size}
use Rattle.rules.specs.Sizes.{Settings, bit}
use Rattle.rules.specs.Messages.{Message, new_view, propose, vote, blame, blame_set, status, read, write, allowed}
use Rattle.rules.specs.Words.{Certificate}
use Rattle.rules.specs.Refusals.{Outcome, running, ahead, used_up, step}
use Rattle.laws.proofs.Tests.{by_bool, no_some}
use Rattle.laws.proofs.Tallies.{bit_only}
use Rattle.laws.proofs.Moves.{carried}
use Rattle.laws.proofs.Held.{step_taken, step_used}
use Rattle.laws.proofs.Views.{not_ahead}
use Rattle.laws.proofs.Proper.{Parented}
use Rattle.agreement.specs.Schedule.{Event, given, happens, ticks, at, clock, HasVoted, Sound, GoodSettings, SoundRun, ProperBuffers, Speaks, Genuine, OneBlock, Premises, Run, run, CommonTicks, InTime, NeverUsedUp}
use Rattle.agreement.proofs.Events.{happens_given}
use Rattle.agreement.proofs.Whole.{settings_alike, settings_at, sent_allowed}
use Rattle.agreement.proofs.Clock.{last_of, clock_alike, one_tick}
use Rattle.agreement.proofs.Group.{Reaches, Takes, Group}

-- the voters of a genuine message's certificate voted
pub genuine_voters : (R : Run) (faulty k : ℕ) (m : Message) (t : Certificate) → carried m ≡ some t → Genuine R faulty k m → (i : ℕ) → Sound R faulty i → bit t.mask i ≡ 1
    → HasVoted R i k t.view t.height t.name
unfolding carried
genuine_voters R faulty k m t e g i ok y = go m e g
  where
    -- the certificate is the one that the message carries
    same : (u : Certificate) → some u ≡ some t → (bit u.mask i ≡ 1 → HasVoted R i k u.view u.height u.name) → HasVoted R i k t.view t.height t.name
    same u e f =
        let q = some-injective u t e in
        subst (λ (x : Certificate). HasVoted R i k x.view x.height x.name) q (f (rw (← q) at y))

    go : (m : Message) → carried m ≡ some t → Genuine R faulty k m → HasVoted R i k t.view t.height t.name
    go (new_view v h b c m a) e g = same _ e (g.0 i ok)
    go (propose v h b p m a) e g = same _ e (g.0 i ok)
    go (vote v h b a) e g = same _ e (λ z. let s = bit_only a i z in subst (λ (x : ℕ). HasVoted R x k v h b) (sym s) (g (subst (Sound R faulty) s ok)))
    go (blame v a) e g = no_some e
    go (blame_set v m) e g = no_some e
    go (status h b c m) e g = same _ e (g i ok)

pub block_parent : (height_of parent_of : ℕ → ℕ) (m : Message) → OneBlock height_of parent_of m → Parented parent_of m
block_parent height_of parent_of (new_view v h b c m a) o = tt
block_parent height_of parent_of (propose v h b p m a) o = o.1
block_parent height_of parent_of (vote v h b a) o = tt
block_parent height_of parent_of (blame v a) o = tt
block_parent height_of parent_of (blame_set v m) o = tt
block_parent height_of parent_of (status h b c m) o = tt

module _ (size : Size) (n D : ℕ) (event : ℕ → Event) (faulty : ℕ) where
  abbrev R : Run
  R = run size n D event

  -- a sound station's message finds no sound station at which its author is used up
  never_used : NeverUsedUp R faulty → (i j : ℕ) → Sound R faulty i → Sound R faulty j → (l k : ℕ) (m : Message) → Speaks R i l m → l < k → event k ≡ given j (write m)
      → running (at size n D event j k) ≡ true → read (write m) ≡ some m → allowed (at size n D event j k).settings m ≡ true → ahead m (at size n D event j k) ≡ false
      → used_up m (at size n D event j k) ≡ false
  unfolding used_up
  never_used heard i j hi hj l k (new_view v h b c m a) s o e r q w d = refl
  never_used heard i j hi hj l k (propose v h b p m a) s o e r q w d = refl
  never_used heard i j hi hj l k (vote v h b a) s o e r q w d =
      by_bool (used_up (vote v h b a) (at size n D event j k))
      (λ u. absurd (heard i j hi hj l k v h b a s o e (step_used (write (vote v h b a)) (vote v h b a) (at size n D event j k) r q w d u))) (λ u. u)
  never_used heard i j hi hj l k (blame v a) s o e r q w d = refl
  never_used heard i j hi hj l k (blame_set v m) s o e r q w d = refl
  never_used heard i j hi hj l k (status h b c m) s o e r q w d = refl

  -- who runs takes a message of a sound station that is at most one view ahead: it can be read, is allowed, its author
  -- is not used up, and there is room
  pub running_takes : GoodSettings R → ProperBuffers R → SoundRun R faulty → NeverUsedUp R faulty → Takes R faulty
  unfolding at
  running_takes g lent runs heard i j hi hj l h m s o e v =
      let t = at size n D event j h in
      let z : happens j (event h) t ≡ step (write m) t = ap (λ (y : Event). happens j y t) e ∙ happens_given j (write m) t in
      let (r, a) = sent_allowed size n D event lent i (settings_alike size n D i g hi.0) j l m s in
      let b = subst (λ (y : Settings). allowed y m ≡ true) (sym (settings_at size n D event lent j (settings_alike size n D j g hj.0) h)) a in
      ap (λ (x : Outcome). x.number) z
      ∙ step_taken (write m) m t (runs j hj h) r b (not_ahead m t v) (never_used heard i j hi hj l h m s o e (runs j hj h) r b (not_ahead m t v)) (subst (λ (x : Outcome). running x.next ≡ true) z (runs j hj (suc h)))

  -- what was sent to all or to one is handed over before every moment after which the clock is D + 1 later
  pub delivered : CommonTicks R → InTime R faulty → Reaches R faulty (λ k. clock event 0 (suc k))
  delivered common in_time i j hi hj l k m s d =
      let (k', a, b, c, e) = last_of event common (clock event 0 (suc l) + D) (suc k) (omega arith) in
      let ti : ticks i (event k') ≡ 1 = ap (ticks i) e ∙ (unfold ticks in refl) in
      let ca = clock_alike event common i in
      let (h, u, w, g) = in_time i j hi hj l m s k' ti (ca k' ∙ b ∙ ap (◌+ D) (sym (ca (suc l)))) in
      (h, u, omega arith, g)

  module _ (height_of parent_of : ℕ → ℕ) (P : Premises R faulty height_of parent_of) (runs : SoundRun R faulty) where
    -- a group, from where its ticks would go and what reaches whom by then
    abbrev pub group_of : (next : ℕ → ℕ) → ((k : ℕ) → clock event 0 (suc k) ≤ next k) → ((k : ℕ) → next k ≤ clock event 0 k + 1) → Reaches R faulty next → Group
    group_of next soon late reaches =
        record {
          size = size;
          n = n;
          D = D;
          faulty = faulty;
          event = event;
          next = next;
          parent_of = parent_of;
          settings = P.settings;
          few = P.few;
          common = P.common;
          runs = runs;
          soon = soon;
          late = late;
          lent = P.lent;
          reaches = reaches;
          takes = running_takes P.settings P.lent runs P.heard;
          voters = λ k j m h t c i ok y. genuine_voters R faulty k m t c (P.no_forgery k j m h) i ok y;
          parents = λ k j m o. block_parent height_of parent_of m (P.one_name k j m o);
        }

    -- that of the whole schedule
    abbrev pub to_group : Group
    to_group = group_of (λ k. clock event 0 (suc k)) (λ k. omega arith) (one_tick event P.common) (delivered P.common P.in_time)
