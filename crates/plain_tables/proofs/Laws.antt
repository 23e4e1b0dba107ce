-- What a change of one part makes of the state, and that a station keeps its room. Assumes nothing.
use Prim.Native.Nat.{ℕ, suc}
use mathlib.Core.Path.{◌≡◌, refl, sym, ap₂, subst, ◌∙◌}
use mathlib.Core.List.{List, []}
use lib.ListN.{replicate}
use Rattle.rules.specs.Limits.{last_view, last_view_small}
use Rattle.rules.specs.Words.{Statement, Tally, State, genesis, fresh}
use Rattle.rules.specs.Inputs.{with_phase, with_tables, with_blames}
use Rattle.settings.specs.Made.{settings_of}
use Rattle.settings.specs.declared.Settings.{Settings}
use Rattle.settings.specs.declared.Size.TheVariants.{Small}
use Rattle.plain_words.specs.Meaning.{certificate_of}
use Rattle.plain_words.specs.declared.Certificate.{Certificate}
use Rattle.plain_words.specs.Places.{Within}
use Rattle.plain_statements.specs.Meaning as statement_room
use Rattle.plain_statements.specs.declared.Statements.{Statements}
use Rattle.plain_tallies.specs.Meaning as tally_room
use Rattle.plain_tallies.specs.declared.Tallies.{Tallies}
use Rattle.plain_tables.specs.declared.Names.{Names}
use Rattle.plain_tables.specs.declared.Phase.{Phase}
use Rattle.plain_tables.specs.declared.Phase.TheVariants.{InView}
use Rattle.plain_tables.specs.declared.Engine.{Engine}
use Rattle.plain_tables.specs.Meaning.{phase_of, names, state, Sized, Gives, phased, tabled, blaming}

module _ (e : Engine) (k : Sized e) where
  pub gives_phase : (p : Phase) → Gives (phased p e) (with_phase (phase_of p) (state e))
  unfolding state with_phase
  gives_phase p = record { sized = record { statements = k.statements; tallies = k.tallies; log = k.log; small = k.small; good = k.good }; is = refl }

  pub gives_tables : (xs : Statements) (ts : Tallies) → Within statement_room.room xs.items xs.count → Within tally_room.room ts.items ts.count
      → Gives (tabled xs ts e) (with_tables (statement_room.statements xs) (tally_room.tallies ts) (state e))
  unfolding state with_tables
  gives_tables xs ts v w = record { sized = record { statements = v; tallies = w; log = k.log; small = k.small; good = k.good }; is = refl }

  pub gives_blames : (ms : List ℕ) → Gives (blaming ms e) (with_blames ms (state e))
  unfolding state with_blames
  gives_blames ms = record { sized = record { statements = k.statements; tallies = k.tallies; log = k.log; small = k.small; good = k.good }; is = refl }

  -- the tables by what they hold
  pub gives_tabled : (xs : Statements) (ts : Tallies) {ys : List Statement} {us : List Tally} → statement_room.Holds xs ys → tally_room.Holds ts us
      → Gives (tabled xs ts e) (with_tables ys us (state e))
  gives_tabled xs ts {ys} {us} h j =
      let g = gives_tables xs ts h.within j.within in
      record { sized = g.sized; is = g.is ∙ ap₂ (λ (ys : List Statement) (us : List Tally). with_tables ys us (state e)) h.is j.is }

-- a station that is one in this state
pub given : {r e : Engine} {s : State} → r ≡ e → Gives e s → Gives r s
given {r} {e} {s} p g = subst (λ (z : Engine). Gives z s) (sym p) g

-- a fresh station
pub fresh_is : (g : Settings) (lock : Certificate) (xs : Statements) (ts : Tallies) (l : Names) → g.size ≡ Small → certificate_of lock ≡ genesis
    → statement_room.statements xs ≡ [] → tally_room.tallies ts ≡ [] → names l ≡ []
    → state (record { settings = g; phase = InView; view = 1; entry = 0; clock = 0; lock = lock; statements = xs; tallies = ts; blames = replicate (suc last_view_small) 0; log = l }) ≡ fresh (settings_of g)
unfolding state fresh last_view
fresh_is g lock xs ts l es el ex et en = rw (el, ex, et, en, es)
