-- What a rule keeps: the settings, a formed state, and that all it says may be said. The rules on a message, composed. Assumes nothing.
use mathlib.Core.Path.{◌≡◌, refl, ◌∙◌}
use Prim.Native.Nat.{ℕ, ◌^◌, ◌<◌}
use mathlib.Core.Bool.{true, false, ◌&&◌}
use mathlib.Core.List.{List, [], ◌∷◌}
use mathlib.Core.Option.{none, some}
use borrow.Author.Tests.{lt-ltb}
use Rattle.rules.specs.Lists.{first, any}
use Rattle.rules.specs.Sizes.{only}
use Rattle.rules.specs.Messages.{Message, new_view, propose, vote, blame, blame_set, status, view_allowed, allowed, Effect, to_all}
use Rattle.rules.specs.Words.{Statement, message, same_statement, conflict, Certificate, Opener, State, moment}
use Rattle.rules.specs.Inputs.{Work, saying, ◌▸◌, with_phase, with_tables, with_blames, is_in, quit, below_lock, voted_for, ballot, voting, certificate_joined, stored, statement, tallied, blames_of, blamed, blame_full, blaming, handled}
use Rattle.rules.specs.Refusals.{used_up}
use Rattle.laws.proofs.Tests.{by_bool, by_option}
use Rattle.laws.proofs.Truths.{and_2, both}
use Rattle.laws.proofs.Searches.{first_mem}
use Rattle.laws.proofs.Allowed.{sizes, only_lt, mask_parts, mask_made, allowed_rights}
use Rattle.kept.specs.Parts.{Formed}
use Rattle.kept.specs.Said.{Each, Sendable, Sayable}
use Rattle.kept.proofs.Lists.{each_append}
use Rattle.kept.proofs.Sendable.{named, sendable}
use Rattle.kept.proofs.Tallies.{Joinable, joinable, reached_new, tally_made, opener_only}
use Rattle.kept.proofs.Openers.{MayOpen, nobody_may, author_may}
use Rattle.kept.proofs.Statements.{stated, stored_said}
use Rattle.kept.proofs.Tables.{tallied_formed, certificate_joined_formed, stored_formed, voted_for_formed}
use Rattle.kept.proofs.Phases.{quit_formed}
use Rattle.kept.proofs.Blames.{blames_of_mask, blamed_formed}

pub record Keeps (s : State) (w : Work) : Type 0 where
  pub settings : w.now.settings ≡ s.settings
  pub formed : Formed w.now
  pub said : Each (Sayable s.settings) w.out

-- ---- composing

pub silent : {s : State} → Formed s → Keeps s (saying s [])
unfolding saying
silent f = record { settings = refl; formed = f; said = tt }

pub onward : (s : State) {t : State} {w : Work} → t.settings ≡ s.settings → Keeps t w → Keeps s w
onward s {t} {w} e k = record { settings = k.settings ∙ e; formed = k.formed; said = rw e at k.said }

pub then_keeps : {s : State} {w : Work} (r : State → Work) → Keeps s w → ((t : State) → t.settings ≡ s.settings → Formed t → Keeps t (r t)) → Keeps s (w ▸ r)
unfolding ◌▸◌
then_keeps {s} {w} r k h =
    let n = onward s {t = w.now} k.settings (h w.now k.settings k.formed) in
    record { settings = n.settings; formed = n.formed; said = each_append (Sayable s.settings) w.out (r w.now).out k.said n.said }

-- ---- statement

module _ {s : State} (f : Formed s) where
  pub quit_keeps : (o : List Effect) → Each (Sayable s.settings) o → Keeps s (quit o s)
  unfolding quit saying with_phase
  quit_keeps o h = record { settings = refl; formed = quit_formed f; said = h }

  module _ (x : Statement) (m : Sendable s.settings (message x)) where
    own_vote : Sendable s.settings (vote x.view x.height x.name s.settings.own)
    unfolding allowed
    own_vote =
        let z = sizes s.settings f.settings in
        let k = stated s.settings x m in
        sendable (vote x.view x.height x.name s.settings.own) z
        (both (both k.view k.block) (lt-ltb s.settings.own s.settings.n z.own)) k.name

    pub voting_keeps : Keeps s (voting x s)
    unfolding voting saying voted_for with_tables ballot
    voting_keeps =
        by_bool (below_lock x s) (λ q. rw (q, voting) (silent f))
        (λ q. rw (q, voting) (record { settings = refl; formed = voted_for_formed f x m; said = (m, (own_vote, tt)) }))

module _ {s : State} (f : Formed s) (x : Statement) (m : Sendable s.settings (message x)) (v : x.voted ≡ none) where
  pub statement_keeps : Keeps s (statement x s)
  unfolding statement saying certificate_joined stored with_tables
  statement_keeps =
      by_bool (any (same_statement x) s.statements)
      (λ q. rw (q, statement) (record { settings = refl; formed = certificate_joined_formed f x m; said = tt }))
      (λ q.
      let t = stored_formed f x m v q in
      by_bool (is_in x.view s)
      (λ i.
      by_option (first (conflict x) s.statements) (λ o. rw (q, i, o, statement) (onward s refl (voting_keeps t x m)))
      (λ y o.
      let g = stored_said f y (first_mem (conflict x) s.statements y o) in
      rw (q, i, o, statement) (onward s refl (quit_keeps t (to_all (message y) ∷ to_all (message x) ∷ []) (g, (m, tt))))))
      (λ i. rw (q, i, statement) (record { settings = refl; formed = t; said = tt })))

-- ---- vote, status, blame, blame set

module _ {s : State} (f : Formed s) where
  pub tallied_keeps : (k : Opener) (t : Certificate) → Joinable (moment k s) t → MayOpen k t s.tallies → Keeps s (tallied k t s)
  unfolding tallied saying with_tables
  tallied_keeps k t j o = record { settings = refl; formed = tallied_formed f k t j o; said = tt }

  -- the set that is sent is the full mask now held
  pub full_sendable : (v : ℕ) → view_allowed s.settings v ≡ true → blame_full v s ≡ true → Sendable s.settings (blame_set v (blames_of v s))
  unfolding allowed blame_full
  full_sendable v a q =
      sendable (blame_set v (blames_of v s)) (sizes s.settings f.settings)
      (both a (mask_made s.settings (blames_of v s) (blames_of_mask f v) q)) tt

module _ {s : State} (f : Formed s) where
  pub blaming_keeps : (v m : ℕ) → view_allowed s.settings v ≡ true → m < 2 ^ s.settings.n → Keeps s (blaming v m s)
  unfolding blaming saying blamed with_blames
  blaming_keeps v m a h =
      let k = blamed_formed f v m a h in
      by_bool (is_in v (blamed v m s) && blame_full v (blamed v m s))
      (λ q.
      let t = and_2 (is_in v (blamed v m s)) (blame_full v (blamed v m s)) q in
      rw (q, blaming) (onward s refl (quit_keeps k (to_all (blame_set v (blames_of v (blamed v m s))) ∷ []) (full_sendable k v a t.1, tt))))
      (λ q. rw (q, blaming) (record { settings = refl; formed = k; said = tt }))

  -- ---- a message

  pub handled_keeps : (m : Message) → Sendable s.settings m → used_up m s ≡ false → Keeps s (handled m s)
  unfolding handled message
  handled_keeps (new_view v h b c m a) e u =
      statement_keeps f (record { is_new_view = true; view = v; height = h; name = b; link = c; mask = m; author = a; voted = none }) e refl
  handled_keeps (propose v h b p m a) e u =
      statement_keeps f (record { is_new_view = false; view = v; height = h; name = b; link = p; mask = m; author = a; voted = none }) e refl
  handled_keeps (vote v h b a) e u =
      let (i, j, k) = allowed_rights s.settings (vote v h b a) e.is_allowed in
      let n = named (vote v h b a) e.fits in
      let t : Certificate = record { view = v; height = h; name = b; mask = only a } in
      tallied_keeps f (some a) t (λ q. tally_made (record { view = i; block = j; name = n; mask = only_lt s.settings a k; opener = opener_only s.settings a k; reached = reached_new (moment (some a) s) (only a) }))
      (author_may v h b a s u)
  handled_keeps (blame v a) e u =
      let (i, j) = allowed_rights s.settings (blame v a) e.is_allowed in blaming_keeps v (only a) i (only_lt s.settings a j)
  handled_keeps (blame_set v m) e u =
      let (i, j) = allowed_rights s.settings (blame_set v m) e.is_allowed in blaming_keeps v m i (mask_parts s.settings m j).0
  handled_keeps (status h b c m) e u =
      let (i, j) = allowed_rights s.settings (status h b c m) e.is_allowed in
      let t : Certificate = record { view = c; height = h; name = b; mask = m } in
      tallied_keeps f none t (joinable s.settings s.clock t i (named (status h b c m) e.fits) j) (nobody_may t s.tallies)
