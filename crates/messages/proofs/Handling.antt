-- Each kind of message as the rules handle it, what its parts are within, and whether its author is used up. Assumes nothing.
use Prim.Native.Nat.{ℕ, ◌*◌, ◌^◌, ◌<◌}
use mathlib.Core.Path.{◌≡◌, refl, sym, ap, ◌∙◌}
use mathlib.Core.Bool.{Bool, true, false}
use mathlib.Core.List.{List}
use mathlib.Core.Option.{none, some}
use native.Mathlib.Omega.{arith}
use lib.Pow.{pow-lt}
use Rattle.rules.specs.Limits.{most_stations}
use Rattle.rules.specs.Sizes.{only}
use Rattle.rules.specs.Messages as messages
use Rattle.rules.specs.Messages.{view_of, view_allowed, allowed}
use Rattle.rules.specs.Words.{message, Certificate, same_block, of_block, State}
use Rattle.rules.specs.Inputs.{statement, tallied, blaming, handled}
use Rattle.rules.specs.Refusals.{if_room, used_up, heard}
use Rattle.laws.proofs.Views.{view_message}
use Rattle.laws.proofs.Allowed.{view_within, only_lt, mask_parts, allowed_rights}
use Rattle.laws.proofs.Tests.{by_bool}
use Rattle.fields.specs.Names.{name_of}
use Rattle.fields.specs.declared.Name.{Name}
use Rattle.kept.specs.Said.{Sendable}
use Rattle.kept.proofs.Facts.{sizes_of}
use Rattle.wire.specs.Meaning.{statement_of, message_of}
use Rattle.wire.specs.declared.Statement as code
use Rattle.wire.specs.declared.Message.{Message}
use Rattle.wire.specs.declared.Message.TheVariants.{Stated, Vote, Blame, BlameSet, Status}
use Rattle.words.specs.Meaning.{block_of}
use Rattle.tallies.specs.Meaning.{with_voters}
use Rattle.store.specs.Layout.{tally_table, count_of}
use Rattle.store.specs.Decode.{tally_at, tallies, state_from, state_of, Form}
use Rattle.std.specs.Prelude.{Option, Some, None}
use Rattle.store.proofs.Searches.{found_any, missing_any}
use Rattle.acts.specs.Works.{Formed}
use Rattle.storing.specs.Records.{certified_at, used_by}
use Rattle.acts.proofs.Works.{formed_parts}
use Rattle.storing.proofs.Records.{certified_block}
use Rattle.acts.proofs.Statements.{handled_stated}
use Rattle.stops.specs.Answers.{Mutely}
use Rattle.messages.specs.Votes.{vote_for}
use Rattle.stops.proofs.Answers.{answers_is, refused_answers}

-- ---- 12

-- a statement is no vote
stated_free : (x : code.Statement) (s : State) → used_up (message_of (Stated x)) s ≡ false
unfolding message_of message used_up
stated_free x s = by_bool (statement_of x none).is_new_view (λ q. rw (q, message)) (λ q. rw (q, message))

heard_free : (m : messages.Message) (s : State) → used_up m s ≡ false → if_room s (handled m s) ≡ heard m s
unfolding heard
heard_free m s q = rw (q, heard)

-- an author's vote for a block that is not of view 0, by the place of the block's tally
module _ {b : List ℕ} (k : Form b) (t : Certificate) (d : t.view ≡ 0 → ⊥) (a : ℕ) (r : Option ℕ) (e : r ≡ certified_at t (tallies b)) where
  used_by_lem : (p : Option ℕ) → r ≡ p → used_by p a (tallies b) ≡ used_up (vote_for t a) (state_of b)
  unfolding used_by used_up same_block state_of state_from tallies
  used_by_lem None q = rw (missing_any (of_block t) (tally_at b) (count_of tally_table b) r (e ∙ certified_block t (tallies b) d) q)
  used_by_lem (Some j) q = rw (found_any (of_block t) (tally_at b) (count_of tally_table b) r (e ∙ certified_block t (tallies b) d) j q)

  pub vote_refused : {x : Bool} {n : ℕ} → x ≡ used_by r a (tallies b) → x ≡ true → n ≡ 12 * 2 ^ 32 → Mutely (heard (vote_for t a) (state_of b)) b n
  unfolding heard
  vote_refused c w n o = answers_is (rw (sym (used_by_lem r refl) ∙ sym c ∙ w, heard)) (refused_answers 12 k n o)

  pub vote_counted : {x : Bool} → x ≡ used_by r a (tallies b) → x ≡ false → {b' : List ℕ} {n : ℕ}
      → Mutely (if_room (state_of b) (tallied (some a) (with_voters (only a) t) (state_of b))) b' n → Mutely (heard (vote_for t a) (state_of b)) b' n
  unfolding heard handled
  vote_counted c w h o = answers_is (rw (sym (used_by_lem r refl) ∙ sym c ∙ w, heard)) (h o)

-- ---- the kinds

pub voter_small : (a : ℕ) → a < most_stations → only a < 2 ^ most_stations
unfolding only
voter_small a h = pow-lt h

-- the view of each kind
module _ {m : Message} where
  pub stated_view : {x : code.Statement} → m ≡ Stated x → x.view ≡ view_of (message_of m)
  unfolding message_of statement_of
  stated_view {x} e = sym (view_message (statement_of x none)) ∙ ap (λ (y : Message). view_of (message_of y)) (sym e)

  pub vote_view : {v h a : ℕ} {b : Name} → m ≡ Vote v h b a → v ≡ view_of (message_of m)
  unfolding message_of view_of
  vote_view e = rw e

  pub blame_view : {v a : ℕ} → m ≡ Blame v a → v ≡ view_of (message_of m)
  unfolding message_of view_of
  blame_view e = rw e

  pub set_view : {v k : ℕ} → m ≡ BlameSet v k → v ≡ view_of (message_of m)
  unfolding message_of view_of
  set_view e = rw e

  pub status_view : {h c k : ℕ} {b : Name} → m ≡ Status h b c k → 0 ≡ view_of (message_of m)
  unfolding message_of view_of
  status_view e = rw e

module _ (s : State) {m : Message} where
  pub stated_handled : {x : code.Statement} → m ≡ Stated x → if_room s (statement (statement_of x none) s) ≡ heard (message_of m) s
  stated_handled {x} e =
      ap (λ (f : State → _). if_room s (f s)) (sym (handled_stated x)) ∙ heard_free (message_of (Stated x)) s (stated_free x s)
      ∙ ap (λ (y : Message). heard (message_of y) s) (sym e)

  module _ {v h : ℕ} {b : Name} where
    pub vote_handled : {a : ℕ} → m ≡ Vote v h b a → heard (vote_for (block_of (record { view = v; height = h; name = b; mask = 0 })) a) s ≡ heard (message_of m) s
    unfolding message_of block_of
    vote_handled e = rw e

    pub status_handled : {k : ℕ} → m ≡ Status h b v k
        → if_room s (tallied none (with_voters k (block_of (record { view = v; height = h; name = b; mask = k }))) s) ≡ heard (message_of m) s
    unfolding handled heard used_up message_of block_of
    status_handled e = rw e

  pub blame_handled : {v a k : ℕ} → m ≡ Blame v a → k ≡ only a → if_room s (blaming v k s) ≡ heard (message_of m) s
  unfolding handled heard used_up message_of
  blame_handled e q = rw (e, q)

  pub set_handled : {v k : ℕ} → m ≡ BlameSet v k → if_room s (blaming v k s) ≡ heard (message_of m) s
  unfolding handled heard used_up message_of
  set_handled e = rw e

module _ {b : List ℕ} (f : Formed b) {m : Message} (d : Sendable (state_of b).settings (message_of m)) where
  allowed_as : {k : Message} → m ≡ k → allowed (state_of b).settings (message_of k) ≡ true
  allowed_as e = ap (λ (y : Message). allowed (state_of b).settings (message_of y)) (sym e) ∙ d.is_allowed

  pub stated_sendable : {x : code.Statement} → m ≡ Stated x → Sendable (state_of b).settings (message_of (Stated x))
  stated_sendable e = rw e at d

  pub vote_author : {v h a : ℕ} {n : Name} → m ≡ Vote v h n a → (v ≡ 0 → ⊥) × (a < most_stations)
  unfolding message_of
  vote_author {v} {h} {a} {n} e =
      let t = allowed_rights (state_of b).settings (messages.vote v h (name_of n) a) (allowed_as e) in
      let l = (view_within (state_of b).settings v t.0).0 in
      (λ z. omega arith, omega (arith, t.2, (sizes_of (formed_parts f).formed).most))

  pub blame_author : {v a : ℕ} → m ≡ Blame v a → (view_allowed (state_of b).settings v ≡ true) × (a < most_stations) × (only a < 2 ^ (state_of b).settings.n)
  unfolding message_of
  blame_author {v} {a} e =
      let t = allowed_rights (state_of b).settings (messages.blame v a) (allowed_as e) in
      (t.0, omega (arith, t.1, (sizes_of (formed_parts f).formed).most), only_lt (state_of b).settings a t.1)

  pub set_mask : {v k : ℕ} → m ≡ BlameSet v k → (view_allowed (state_of b).settings v ≡ true) × (k < 2 ^ (state_of b).settings.n)
  unfolding message_of
  set_mask {v} {k} e = let t = allowed_rights (state_of b).settings (messages.blame_set v k) (allowed_as e) in (t.0, (mask_parts (state_of b).settings k t.1).0)
