-- The leader's moment, its new-view, and that it may be sent. Assumes nothing.
use Prim.Native.Nat.{ℕ, ◌+◌, ◌*◌}
use mathlib.Core.Path.{◌≡◌, refl, ap, subst, ◌∙◌}
use mathlib.Core.Bool.{Bool, true, false, ◌&&◌}
use mathlib.Core.List.{List}
use native.Mathlib.Omega.{arith}
use lib.Dec.{eqb}
use borrow.Author.Tests.{eq-eqb, lt-ltb}
use Rattle.rules.specs.Sizes.{leader}
use Rattle.rules.specs.Messages as messages
use Rattle.rules.specs.Messages.{new_view, allowed, outgoing}
use Rattle.rules.specs.Words as words
use Rattle.rules.specs.Words.{State, highest, message}
use Rattle.rules.specs.Inputs.{leads, leads_now, own_new_view, lead, handled, saying}
use Rattle.laws.proofs.Truths.{and_2, both}
use Rattle.laws.proofs.Allowed.{view_within}
use Rattle.kept.specs.Parts.{Formed}
use Rattle.kept.proofs.Tallies.{highest_good}
use Rattle.kept.proofs.Ticks.{leads_own}
use Rattle.kept.proofs.WellFormed.{parts}
use Rattle.fields.specs.Names.{name_of}
use Rattle.fields.specs.declared.Name.{Name}
use Rattle.settings.specs.Made.{settings_of}
use Rattle.wire.specs.Meaning.{statement_of, message_of}
use Rattle.wire.specs.declared.Message.{Message}
use Rattle.wire.specs.declared.Message.TheVariants.{Stated}
use Rattle.outgoing.proofs.Writing.{says_none}
use Rattle.plain_words.specs.Meaning.{certificate_of}
use Rattle.plain_words.specs.declared.Certificate.{Certificate}
use Rattle.plain_tallies.specs.Meaning.{tallies}
use Rattle.plain_tables.specs.declared.Engine.{Engine}
use Rattle.plain_tables.specs.Meaning.{state, Sized}
use Rattle.plain_acts.specs.declared.Work.{Work}
use Rattle.plain_acts.specs.Works.{Worked}
use Rattle.plain_messages.specs.Whole.{Whole}

-- a certificate view as a link
abbrev link_to : ℕ → Name
link_to v = record { first = 0; second = 0; third = 0; fourth = v }

link_number : (v : ℕ) → name_of (link_to v) ≡ v
unfolding name_of
link_number v = omega arith

now_leads : (s : State) → leads_now s ≡ true → leads s ≡ true
unfolding leads_now
now_leads s q = (and_2 (leads s) (eqb s.clock (s.entry + 2 * s.settings.D + 1)) q).0

own_allowed : {s : State} → Formed s → leads s ≡ true → allowed s.settings (own_new_view s) ≡ true
unfolding own_new_view allowed
own_allowed {s} f e =
    let t = highest s.settings s.view s.tallies in
    let c = highest_good s.settings s.clock s.view s.tallies (view_within s.settings s.view f.view).0 f.tables.tallies in
    let o = eq-eqb s.settings.own (leader s.settings s.view) (leads_own s e) in
    both (both (both (both f.view c.block) (lt-ltb t.view s.view c.earlier)) c.is_allowed) o

module _ (e : Engine) where
  pub moment_parts : {leading : Bool} → leading ≡ leads (state e) → (leading && eqb e.clock (e.entry + 2 * e.settings.delay + 1)) ≡ leads_now (state e)
  unfolding leads_now state
  moment_parts q = rw q

  pub made_is : (t : Certificate) → certificate_of t ≡ highest (settings_of e.settings) e.view (tallies e.tallies)
      → message_of (Stated (record { is_new_view = true; view = e.view; height = t.height; name = t.name; link = link_to t.view; mask = t.mask; author = e.settings.own })) ≡ own_new_view (state e)
  unfolding message_of message statement_of own_new_view state certificate_of
  made_is t best =
      λ i. new_view e.view (best i).height (best i).name ((link_number t.view ∙ ap (λ (u : words.Certificate). u.view) best) i) (best i).mask e.settings.own

  pub made_allowed : Whole e → (m : Message) → message_of m ≡ own_new_view (state e) → leads_now (state e) ≡ true → allowed (state e).settings (message_of m) ≡ true
  made_allowed w m q l = ap (allowed (state e).settings) q ∙ own_allowed (parts (state e) w.formed).formed (now_leads (state e) l)

  module _ (o : List ℕ) (at : ℕ) where
    pub follows : Sized e → leads_now (state e) ≡ false → Worked (lead (state e)) o at (record { engine = e; at = at }) o
    unfolding lead saying outgoing
    follows k q = rw (q, lead) (record { now = record { sized = k; is = refl }; says = says_none o at })

    pub leading : (m : Message) {r : Work} {left : List ℕ} → leads_now (state e) ≡ true → message_of m ≡ own_new_view (state e) → Worked (handled (message_of m) (state e)) o at r left
        → Worked (lead (state e)) o at r left
    unfolding lead
    leading m {r} {left} q n w = rw (q, lead) (subst (λ (x : messages.Message). Worked (handled x (state e)) o at r left) n w)
