-- A vote: below the lock nothing is said; else the statement, then the vote. Assumes nothing.
use Prim.Native.Nat.{ℕ, ◌^◌, ◌<◌}
use mathlib.Core.Path.{◌≡◌, sym, ap, ◌∙◌}
use mathlib.Core.Bool.{true, false}
use mathlib.Core.List.{List, [], ◌∷◌}
use mathlib.Core.Option.{none}
use native.Mathlib.Omega.{arith}
use Rattle.rules.specs.Limits.{mask_bits}
use Rattle.rules.specs.Sizes as sizes
use Rattle.rules.specs.Sizes.{only}
use Rattle.rules.specs.Messages.{Effect, to_all}
use Rattle.rules.specs.Words.{Statement, State}
use Rattle.rules.specs.Inputs.{saying, below_lock, voted_for, ballot, voting}
use Rattle.laws.proofs.Allowed.{only_lt, mask_small}
use Rattle.wire.specs.Meaning.{statement_of, message_of}
use Rattle.wire.specs.declared.Statement as code
use Rattle.wire.specs.declared.Message.TheVariants.{Stated, Vote}
use Rattle.store.specs.Decode.{state_of}
use Rattle.store.specs.Meaning.{Loads}
use Rattle.store.specs.declared.Station.{Station}
use Rattle.store.proofs.Loaded.{loaded_settings, loaded_lock}
use Rattle.kept.proofs.Facts.{sizes_of}
use Rattle.words.specs.Meaning.{block_of, ranks_below}
use Rattle.words.proofs.Statements.{lock_is}
use Rattle.acts.specs.Works.{Formed}
use Rattle.acts.proofs.Works.{formed_parts}

module _ (x : Statement) (s : State) where
  pub voting_below : below_lock x s ≡ true → saying s [] ≡ voting x s
  unfolding voting
  voting_below q = rw (q, voting)

  pub voting_cast : below_lock x s ≡ false → saying (voted_for x s) (ballot x s) ≡ voting x s
  unfolding voting
  voting_cast q = rw (q, voting)

pub ballot_is : (x : code.Statement) (s : State) (own : ℕ) → own ≡ s.settings.own
    → ◌≡◌ {A = List Effect} (to_all (message_of (Stated x)) ∷ to_all (message_of (Vote x.view x.height x.name own)) ∷ []) (ballot (statement_of x none) s)
unfolding message_of ballot statement_of
ballot_is x s own e = rw e

module _ {b : List ℕ} (k : Formed b) (s : Station) (e : Loads s b) where
  pub loaded_own : s.settings.own ≡ (state_of b).settings.own
  loaded_own = ap (λ (g : sizes.Settings). g.own) (loaded_settings s b e)

  pub own_small : s.settings.own < mask_bits
  own_small = let z = sizes_of (formed_parts k).formed in omega (arith, loaded_own)

  pub only_small : only s.settings.own < 2 ^ mask_bits
  only_small =
      let z = sizes_of (formed_parts k).formed in
      omega (arith, ap only loaded_own, mask_small z (only_lt (state_of b).settings (state_of b).settings.own z.own))

  pub loaded_below : (x : Statement) → ranks_below x (block_of s.lock) ≡ below_lock x (state_of b)
  loaded_below x = ap (ranks_below x) (loaded_lock s b e) ∙ sym (lock_is x (state_of b))
