-- What an offer comes to, case by case. Assumes nothing.
use Prim.Native.Nat.{ℕ, ◌+◌, ◌^◌, ◌<◌}
use mathlib.Core.Path.{◌≡◌, refl, sym, ap, ◌∙◌}
use mathlib.Core.Bool.{Bool, true, false, ◌&&◌}
use mathlib.Core.List.{List}
use mathlib.Core.Option.{none, some}
use native.Mathlib.Omega.{arith}
use lib.Dec.{ltb}
use Rattle.rules.specs.Limits.{last_height}
use Rattle.rules.specs.Messages as messages
use Rattle.rules.specs.Sizes.{quorum}
use Rattle.rules.specs.Messages.{propose, allowed}
use Rattle.rules.specs.Words as words
use Rattle.rules.specs.Inputs as inputs
use Rattle.rules.specs.Refusals as refusals
use Rattle.rules.specs.WellFormed.{well_formed}
use Rattle.laws.proofs.Allowed.{sizes}
use Rattle.settings.specs.Made.{settings_of}
use Rattle.wire.specs.Meaning.{statement_of}
use Rattle.kept.proofs.WellFormed.{parts}
use Rattle.kept.proofs.Offers.{offered_sendable}
use Rattle.kept.proofs.Calls.{offer_whole}
use Rattle.plain_statements.specs.Meaning.{held_of}
use Rattle.plain_statements.specs.declared.Held.{Held}
use Rattle.plain_tables.specs.declared.Engine.{Engine}
use Rattle.plain_tables.specs.Meaning.{state, Sized}
use Rattle.plain_messages.specs.Whole.{Whole}
use Rattle.plain_turns.specs.declared.Turn.{Turn}
use Rattle.plain_turns.specs.Turns.{Turned, Answered}
use Rattle.plain_offers.specs.Offers.{may_offer, extension}

module _ (e : Engine) (k : Sized e) where
  pub some_stations : 0 < e.settings.n
  some_stations = let s = sizes (settings_of e.settings) k.good in omega (arith, s.own)

-- ---- what is offered

module _ (x : words.Statement) (b : ℕ) (s : words.State) where
  pub extension_made : inputs.extendable x s ≡ true → some (inputs.above x b s) ≡ extension x b s
  unfolding extension
  extension_made q = rw (q, extension)

  pub extension_none : inputs.extendable x s ≡ false → none ≡ extension x b s
  unfolding extension
  extension_none q = rw (q, extension)

  module _ (m : ℕ) (v : m ≡ words.voters (words.own_block x 0) s.tallies) where
    pub extendable_is : (q : Bool) → q ≡ quorum s.settings m → (q && ltb x.height last_height) ≡ inputs.extendable x s
    unfolding inputs.extendable
    extendable_is q e = rw (e, v)

    pub above_is : propose s.view (x.height + 1) b x.name m s.settings.own ≡ inputs.above x b s
    unfolding inputs.above
    above_is = rw v

-- no vote matters
pub extension_held : (h : Held) (b : ℕ) (s : words.State) → extension (statement_of h.statement none) b s ≡ extension (held_of h) b s
unfolding extension inputs.extendable inputs.above words.own_block held_of statement_of
extension_held h b s = refl

module _ (b : ℕ) (s : words.State) where
  pub offered_not : may_offer b s ≡ false → none ≡ inputs.offered b s
  unfolding inputs.offered
  offered_not q = rw (q, inputs.offered)

  module _ (q : may_offer b s ≡ true) where
    pub offered_topless : none ≡ inputs.top s.view s.statements → none ≡ inputs.offered b s
    unfolding inputs.offered
    offered_topless e = rw (q, sym e, inputs.offered)

    pub offered_top : (x : words.Statement) → some x ≡ inputs.top s.view s.statements → extension x b s ≡ inputs.offered b s
    unfolding inputs.offered extension
    offered_top x e = rw (q, sym e, inputs.offered)

-- ---- what an offer is answered

module _ (b : ℕ) (s : words.State) where
  pub offer_stopped : refusals.running s ≡ false → refusals.offer b s ≡ refusals.refused 3 s
  unfolding refusals.offer
  offer_stopped q = rw (q, refusals.offer)

  module _ (r : refusals.running s ≡ true) where
    pub offer_none : none ≡ inputs.offered b s → refusals.offer b s ≡ refusals.refused 9 s
    unfolding refusals.offer
    offer_none e = rw (r, sym e, refusals.offer)

    pub offer_made : (m : messages.Message) → some m ≡ inputs.offered b s → refusals.offer b s ≡ refusals.if_room s (inputs.handled m s)
    unfolding refusals.offer
    offer_made m e = rw (r, sym e, refusals.offer)

module _ (b : ℕ) (e : Engine) (k : Whole e) (h : b < 256 ^ 32) where
  pub made_allowed : (m : messages.Message) → some m ≡ inputs.offered b (state e) → allowed (state e).settings m ≡ true
  made_allowed m q = (offered_sendable (parts (state e) k.formed).formed b m h (sym q)).is_allowed

  pub offer_answered : (r : Turn) (left : List ℕ) → Turned (refusals.offer b (state e)) r left → Answered (refusals.offer b (state e)) r left
  offer_answered r left t =
      record { turned = t; whole = record { sized = t.next.sized; formed = ap well_formed t.next.is ∙ offer_whole b (state e) h k.formed } }
