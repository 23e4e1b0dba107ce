-- The propose that an offer makes may be sent. Assumes nothing.
use mathlib.Core.Path.{◌≡◌, refl}
use Prim.Native.Nat.{ℕ, ◌+◌, ◌-◌, ◌^◌, ◌<◌}
use native.Mathlib.Omega.{arith}
use mathlib.Core.Bool.{true, false}
use mathlib.Core.List.{Memᴰ as Mem}
use mathlib.Core.Option.{some}
use lib.Dec.{ltb, eqb}
use borrow.Author.Tests.{eqb-false, eq-eqb, ltb-true, le-leb}
use Rattle.rules.specs.Limits.{last_height}
use Rattle.rules.specs.Sizes.{leader, quorum}
use Rattle.rules.specs.Messages.{Message, propose, allowed}
use Rattle.rules.specs.Words.{Statement, own_block, voters, State}
use Rattle.rules.specs.Inputs.{leads, extendable, above, offered}
use Rattle.rules.specs.Refusals.{used_up}
use Rattle.laws.proofs.Truths.{and_2}
use Rattle.laws.proofs.Allowed.{sizes, block_made, mask_made}
use Rattle.laws.proofs.Offers.{top_mem, offer_made}
use Rattle.kept.specs.Parts.{Formed}
use Rattle.kept.specs.Said.{Sendable}
use Rattle.kept.proofs.Sendable.{sendable}
use Rattle.kept.proofs.Tallies.{voters_mask}
use Rattle.kept.proofs.Statements.{stored_stated}
use Rattle.kept.proofs.Ticks.{leads_own}

module _ {s : State} (f : Formed s) where
  above_sendable : (x : Statement) (b : ℕ) → Mem x s.statements → extendable x s ≡ true → leads s ≡ true → eqb b 0 ≡ false → b < 256 ^ 32
      → Sendable s.settings (above x b s)
  unfolding above allowed extendable
  above_sendable x b m e l z n =
      let t = voters (own_block x 0) s.tallies in
      let p = and_2 (quorum s.settings t) (ltb x.height last_height) e in
      let h = ltb-true x.height last_height p.1 in
      let d = stored_stated f x m in
      let q : x.height + 1 - 1 ≡ x.height = omega arith in
      let o = eq-eqb s.settings.own (leader s.settings s.view) (leads_own s l) in
      let k = mask_made s.settings t (voters_mask s.settings s.clock (own_block x 0) s.tallies f.tables.tallies) p.0 in
      sendable (propose s.view (x.height + 1) b x.name t s.settings.own) (sizes s.settings f.settings)
      (rw (f.view, le-leb 1 (x.height + 1) (omega arith), block_made (x.height + 1) b (omega arith) (omega arith) (eqb-false b 0 z), q, d.block, k, o))
      (n, d.name)

  pub offered_sendable : (b : ℕ) (m : Message) → b < 256 ^ 32 → offered b s ≡ some m → Sendable s.settings m
  offered_sendable b m n e = let (x, t, l, o, z, k, f) = offer_made b s m e in rw (← f) (above_sendable x b (top_mem s.view s.statements x t).0 k l z n)

-- an offer makes no vote, so nobody's tallies can be used up by it
pub offered_free : (b : ℕ) (s : State) (m : Message) → offered b s ≡ some m → used_up m s ≡ false
unfolding above used_up
offered_free b s m e = let (x, t, l, o, z, k, f) = offer_made b s m e in rw (← f) refl
