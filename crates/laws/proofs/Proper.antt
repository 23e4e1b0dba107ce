-- L6: every bit of a tally or a stored certificate is of a voter that is known to have voted (P v h b i: station i's vote for
-- block b of height h in view v is known), and a stored propose's parent is that of its name. What is known of what comes from
-- outside, and of the own votes, is a hypothesis of each law. Assumes nothing.
use mathlib.Core.Path.{◌≡◌, subst, subst₂, subst₃, refl, sym, ap, ◌∙◌}
use Prim.Native.Nat.{ℕ, ◌+◌, ◌-◌}
use native.Mathlib.Omega.{arith}
use native.Mathlib.Decide.{ℕ_discrete}
use mathlib.Core.Bool.{true}
use mathlib.Core.List.{List, [], ◌∷◌}
use mathlib.Core.Logic.{inl, inr}
use mathlib.Core.Option.{none, some, some-injective}
use lib.Dec.{eqb}
use Rattle.rules.specs.Sizes.{Settings, only, bit, joined}
use Rattle.rules.specs.Messages.{Message, new_view, propose, vote, blame, blame_set, status, allowed, Effect, to_all, to_one, committed}
use Rattle.rules.specs.Words.{Statement, message, same_statement, Certificate, Moment, Tally, certificate_of, own_block, certificate, same_block, grown, join, join_certificate, voters, highest, State, moment, fresh}
use Rattle.rules.specs.Inputs.{saying, ◌▸◌, with_phase, with_tables, with_blames, entering, below_lock, noted, voted_for, ballot, stored, blamed, above, own_new_view, report, current, in_order, voting_all}
use Rattle.laws.proofs.Tests.{by_bool}
use Rattle.laws.proofs.Searches.{All, all_append, all_split, all_map, all_of, all_alter}
use Rattle.laws.proofs.Masks.{joined_bit}
use Rattle.laws.proofs.Tallies.{bit_only, no_bit, block_eq, voters_tally, highest_tally}
use Rattle.laws.proofs.Offers.{top_mem, offer_made}
use Rattle.laws.proofs.Moves.{Outside, Origin, handed, led, made, carried, arrived, Move, joins, stores, passes, casts, clashes, accuses, fills, complains, enters_full, enters_pair, enters, Moves, here, more, voting_low, voting_high, carried_certificate}

message_noted : (c : ℕ) (x : Statement) → message (noted c x) ≡ message x
unfolding message noted
message_noted c x = refl

-- one name has one parent
abbrev pub Parented : (ℕ → ℕ) → Message → Type 0
Parented parent_of (new_view v h b c m a) = Unit {0}
Parented parent_of (propose v h b p m a) = parent_of b ≡ p
Parented parent_of (vote v h b a) = Unit {0}
Parented parent_of (blame v a) = Unit {0}
Parented parent_of (blame_set v m) = Unit {0}
Parented parent_of (status h b c m) = Unit {0}

module _ (P : ℕ → ℕ → ℕ → ℕ → Type 0) (parent_of : ℕ → ℕ) where
  -- every voter of a mask is known to have voted
  abbrev pub Backed : Certificate → Type 0
  Backed t = (i : ℕ) → bit t.mask i ≡ 1 → P t.view t.height t.name i

  abbrev pub Holding : Tally → Type 0
  Holding t = Backed (certificate_of t)

  -- a message whose voters are known, and whose parent is the name's
  pub record Right (m : Message) : Type 0 where
    pub backed : (t : Certificate) → carried m ≡ some t → Backed t
    pub parent : Parented parent_of m

  abbrev Stated : Statement → Type 0
  Stated x = Right (message x)

  -- ---- tallies

  join_backed : (k : Moment) (t : Certificate) (us : List Tally) → Backed t → All Holding us → All Holding (join k t us)
  unfolding join grown
  join_backed k t [] h a = (h, tt)
  join_backed k t (u ∷ us) h a =
      by_bool (same_block t (certificate_of u))
      (λ e.
      let (p, q, r) = block_eq t (certificate_of u) e in
      rw (e, join) (λ i k. either u.view u.height u.name u.mask t.mask i (a.0 i) (λ z. subst₃ (λ (x y w : ℕ). P x y w i) p q r (h i z)) k, a.1))
      (λ e. rw (e, join) (a.0, join_backed k t us h a.1))
    where
      either : (v h b m k i : ℕ) → (bit m i ≡ 1 → P v h b i) → (bit k i ≡ 1 → P v h b i) → bit (joined m k) i ≡ 1 → P v h b i
      either v h b m k i f q e = elim (ℕ_discrete (bit m i) 1) [ yes p ↦ f p | no p ↦ (let w = joined_bit m k i in q (omega arith)) ]

  certificate_backed : (k : Moment) (t : Certificate) (us : List Tally) → Backed t → All Holding us → All Holding (join_certificate k t us)
  unfolding join_certificate
  certificate_backed k t us h a = by_bool (eqb t.view 0) (λ e. rw (e, join_certificate) a) (λ e. rw (e, join_certificate) (join_backed k t us h a))

  own_backed : (x : Statement) (me : ℕ) → P x.view x.height x.name me → Backed (own_block x (only me))
  unfolding own_block
  own_backed x me h i e = subst (P x.view x.height x.name) (sym (bit_only me i e)) h

  highest_backed : (g : Settings) (v : ℕ) (ts : List Tally) → All Holding ts → Backed (highest g v ts)
  highest_backed g v ts a =
      elim (highest_tally g v ts) [
        | inl e ↦ subst Backed (sym e) (λ i k. no_bit i k)
        | inr (t, e, m, _, _) ↦ subst Backed e (all_of Holding ts a t m)
      ]

  voters_backed : (x : Statement) (us : List Tally) → All Holding us → (i : ℕ) → bit (voters (own_block x 0) us) i ≡ 1 → P x.view x.height x.name i
  unfolding own_block
  voters_backed x us a i y =
      elim (voters_tally (own_block x 0) us) [
        | inl e ↦ no_bit i (rw e at y)
        | inr (u, m, e, f) ↦ (
            let (p, q, r) = block_eq (own_block x 0) (certificate_of u) e in
            subst₃ (λ (a b c : ℕ). P a b c i) (sym p) (sym q) (sym r) (all_of Holding us a u m i (rw f at y)))
      ]

  module _ (g : Settings) where
    pub record Proper (s : State) : Type 0 where
      pub settings : s.settings ≡ g
      pub tallies : All Holding s.tallies
      pub statements : All Stated s.statements

    -- the own votes among what is said are known
    abbrev KnownIn : Message → Type 0
    KnownIn (new_view v h b c m a) = Unit {0}
    KnownIn (propose v h b p m a) = Unit {0}
    KnownIn (vote v h b a) = a ≡ g.own → P v h b a
    KnownIn (blame v a) = Unit {0}
    KnownIn (blame_set v m) = Unit {0}
    KnownIn (status h b c m) = Unit {0}

    abbrev pub Known : Effect → Type 0
    Known (to_all m) = KnownIn m
    Known (to_one i m) = Unit {0}
    Known (committed h b) = Unit {0}

    -- the state with another phase, view, entry, lock, blames or log
    pub same_proper : {s : State} (t : State) → t.settings ≡ s.settings → t.tallies ≡ s.tallies → t.statements ≡ s.statements → Proper s → Proper t
    same_proper t a b c i =
        record { settings = a ∙ i.settings; tallies = subst (All Holding) (sym b) i.tallies; statements = subst (All Stated) (sym c) i.statements }

    pub fresh_proper : Proper (fresh g)
    unfolding fresh
    fresh_proper = record { settings = refl; tallies = tt; statements = tt }

    stored_proper : (x : Statement) (s : State) → Stated x → Proper s → Proper (stored x s)
    unfolding stored with_tables
    stored_proper x s r i =
        record {
          settings = i.settings;
          tallies = join_backed (moment none s) (own_block x 0) (join_certificate (moment none s) (certificate x) s.tallies) (λ j k. no_bit j (unfold own_block in k))
              (certificate_backed (moment none s) (certificate x) s.tallies (r.backed (certificate x) (carried_certificate x)) i.tallies);
          statements = all_append Stated s.statements (x ∷ []) i.statements (r, tt);
        }

    voted_proper : (x : Statement) (s : State) → (s.settings.own ≡ g.own → P x.view x.height x.name s.settings.own) → Proper s → Proper (voted_for x s)
    unfolding voted_for with_tables
    voted_proper x s h i =
        let me = s.settings.own in
        record {
          settings = i.settings;
          tallies = join_backed (moment none s) (own_block x (only me)) s.tallies (own_backed x me (h (ap (λ (y : Settings). y.own) i.settings))) i.tallies;
          statements = all_alter Stated (same_statement x) (noted s.clock) (λ y q. subst Right (sym (message_noted s.clock y)) q) s.statements i.statements;
        }

    voting_all_proper : (ys : List Statement) (s : State) → All Known (voting_all ys s).out → Proper s → Proper (voting_all ys s).now
    unfolding voting_all saying ◌▸◌ ballot
    voting_all_proper [] s h i = i
    voting_all_proper (y ∷ ys) s h i =
        by_bool (below_lock y s) (λ l. rw (voting_low y s l) (voting_all_proper ys s (rw (voting_low y s l) at h) i))
        (λ l.
        rw (voting_high y s l)
        (let o = rw (voting_high y s l) at h in voting_all_proper ys (voted_for y s) o.1.1 (voted_proper y s o.1.0 i)))

    -- ---- the moves

    module _ (R : Outside) (given_right : (m : Message) → R.given m → allowed g m ≡ true → Right m)
        (offers_parent : (b : ℕ) (m : Message) → R.offers b m → Parented parent_of m) where
      -- a message that is handled
      origin_right : (s : State) → Proper s → (m : Message) → Origin R s m → Right m
      unfolding own_new_view above carried
      origin_right s i m (handed r a) = given_right m r (rw i.settings at a)
      origin_right s i m (led e) =
          record { backed = λ u k. subst Backed (some-injective _ u k) (highest_backed s.settings s.view s.tallies i.tallies); parent = tt }
      origin_right s i m (made b r e) =
          let (x, t, l, o, z, q, f) = offer_made b s m e in
          let (k, v) = top_mem s.view s.statements x t in
          let c : x.height + 1 - 1 ≡ x.height = omega arith in
          let back : Backed (record { view = s.view; height = x.height + 1 - 1; name = x.name; mask = voters (own_block x 0) s.tallies }) =
          λ j y. subst₂ (λ (a d : ℕ). P a d x.name j) v (sym c) (voters_backed x s.tallies i.tallies j y) in
          record {
            backed = λ u y. subst Backed (some-injective _ u (rw (← f) at y)) back;
            parent = offers_parent b m r;
          }

      move_proper : (s t : State) (o : List Effect) → Move R s t o → All Known o → Proper s → Proper t
      unfolding ballot with_tables with_phase with_blames entering blamed
      move_proper s t o (joins j m u k c) h i =
          record { settings = i.settings; tallies = certificate_backed (moment j s) u s.tallies ((origin_right s i m k).backed u c) i.tallies; statements = i.statements }
      move_proper s t o (stores x (k, n, q) f) h i = stored_proper x s (origin_right s i (message x) k) i
      move_proper s t o (passes x (k, n, q) f c l) h i = stored_proper x s (origin_right s i (message x) k) i
      move_proper s t o (casts x (k, n, q) f c l) h i = voted_proper x (stored x s) (unfold stored in h.1.0) (stored_proper x s (origin_right s i (message x) k) i)
      move_proper s t o (clashes x y (k, n, q) f c) h i = same_proper t refl refl refl (stored_proper x s (origin_right s i (message x) k) i)
      move_proper s t o (accuses v m a f) h i = same_proper t refl refl refl i
      move_proper s t o (fills v m a f) h i = same_proper t refl refl refl i
      move_proper s t o (complains f) h i = i
      move_proper s t o (enters_full e c) h i = same_proper t refl refl refl i
      move_proper s t o (enters_pair p e c f) h i = same_proper t refl refl refl i
      move_proper s t o (enters e c f) h i =
          voting_all_proper (in_order (current (arrived s))) (arrived s) (all_split Known (report s) _ h).1 (same_proper (arrived s) refl refl refl i)

      pub moves_proper : (s t : State) (o : List Effect) → Moves R s t o → All Known o → Proper s → Proper t
      moves_proper s t o here h i = i
      moves_proper s t o (more {t = v} {o = p} {p = q} a b) h i =
          let r = all_split Known p q h in move_proper v t q b r.1 (moves_proper s v p a r.0 i)

-- who is known to have voted goes on being known
module _ (P Q : ℕ → ℕ → ℕ → ℕ → Type 0) (parent_of : ℕ → ℕ) (f : (v h b i : ℕ) → P v h b i → Q v h b i) where
  right_map : (m : Message) → Right P parent_of m → Right Q parent_of m
  right_map m r = record { backed = λ t e i k. f _ _ _ i (r.backed t e i k); parent = r.parent }

  pub proper_map : (g : Settings) (s : State) → Proper P parent_of g s → Proper Q parent_of g s
  proper_map g s i =
      record {
        settings = i.settings;
        tallies = all_map (Holding P parent_of) (Holding Q parent_of) (λ t h j k. f _ _ _ j (h j k)) s.tallies i.tallies;
        statements = all_map (λ x. Right P parent_of (message x)) (λ x. Right Q parent_of (message x)) (λ x r. right_map (message x) r) s.statements i.statements;
      }
