-- When a blame is overdue, by its parts, and what it leaves. Assumes nothing.
use Prim.Native.Nat.{ℕ, ◌+◌, ◌-◌, ◌*◌, ◌≤◌}
use mathlib.Core.Path.{◌≡◌, refl, subst}
use mathlib.Core.Bool.{Bool, true, false, not, ◌&&◌}
use mathlib.Core.List.{List, [], ◌∷◌}
use native.Mathlib.Omega.{arith}
use native.Mathlib.Nat.{mul-le-mul_left}
use lib.Dec.{leb}
use lib.ListN.{length}
use Rattle.rules.specs.Limits.{most_delay}
use Rattle.rules.specs.Lists.{keep}
use Rattle.rules.specs.Sizes.{holds, only}
use Rattle.rules.specs.Messages.{to_all, blame, effect, outgoing}
use Rattle.rules.specs.Inputs as inputs
use Rattle.rules.specs.Inputs.{◌▸◌}
use Rattle.kept.proofs.Lists.{keep_length}
use Rattle.outgoing.specs.Wrote.{Says}
use Rattle.outgoing.proofs.Writing.{says_none, says_one, says_outgoing}
use Rattle.plain_words.specs.Places.{Within}
use Rattle.plain_words.proofs.Firsts.{firsts_long}
use Rattle.plain_statements.specs.Meaning.{held_of, statements}
use Rattle.plain_statements.specs.declared.Statements.{Statements}
use Rattle.plain_tables.specs.declared.Engine.{Engine}
use Rattle.plain_tables.specs.Meaning.{room, state, Sized}
use Rattle.plain_acts.specs.declared.Work.{Work}
use Rattle.plain_acts.specs.Works.{Worked}
use Rattle.plain_orders.specs.Picks.{voted_in}

-- no more votes than statements
pub few_votes : (v : ℕ) (t : Statements) → Within room t.items t.count → {m : ℕ} → m ≡ length (keep (voted_in v) (statements t)) → m ≤ room
unfolding statements
few_votes v t w e = omega (arith, e, keep_length (voted_in v) (statements t), firsts_long held_of t.items t.count (omega (arith, w.long, w.most)), w.most)

pub short_wait : (m delay : ℕ) → m ≤ room → delay ≤ most_delay → (2 * m + 6) * delay ≤ (2 * m + 6) * most_delay
short_wait m delay h d = mul-le-mul_left (2 * m + 6) d

module _ (e : Engine) where
  pub overdue_parts : {inside blamed : Bool} {mask voted most ago : ℕ} → inside ≡ inputs.is_in e.view (state e) → mask ≡ inputs.blames_of e.view (state e)
      → blamed ≡ holds mask e.settings.own → voted ≡ length (keep (voted_in e.view) (statements e.statements)) → most ≡ (2 * voted + 6) * e.settings.delay + 2
      → ago ≡ e.clock - e.entry → (inside && not blamed && leb most ago) ≡ inputs.overdue (state e)
  unfolding inputs.overdue inputs.votes voted_in state
  overdue_parts p m b v w g = rw (p, b, m, w, v, g)

  module _ (k : Sized e) (o : List ℕ) (at : ℕ) where
    pub calm : inputs.overdue (state e) ≡ false → Worked (inputs.complain (state e)) o at (record { engine = e; at = at }) o
    unfolding inputs.complain inputs.saying outgoing
    calm q = rw (q, inputs.complain) (record { now = record { sized = k; is = refl }; says = says_none o at })

    pub complained : {left o₁ : List ℕ} {i m : ℕ} {r : Work} → inputs.overdue (state e) ≡ true → Says o at (effect (to_all (blame e.view e.settings.own))) o₁ i
        → m ≡ only e.settings.own → Worked (inputs.blaming e.view m (state e)) o₁ i r left → Worked (inputs.complain (state e)) o at r left
    unfolding inputs.complain inputs.saying ◌▸◌ state
    complained {left} {o₁} {i} {m} {r} q y n w =
        let v = subst (λ (j : ℕ). Worked (inputs.blaming e.view j (state e)) o₁ i r left) n w in
        rw (q, inputs.complain)
        (record {
          now = v.now;
          says =
              says_outgoing o at (to_all (blame e.view e.settings.own) ∷ []) (inputs.blaming e.view (only e.settings.own) (state e)).out o₁ left i r.at
              (says_one o at (to_all (blame e.view e.settings.own)) o₁ i y) v.says;
        })
