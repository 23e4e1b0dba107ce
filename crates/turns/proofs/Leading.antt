-- The leader's new-view: what the code makes is the rules', it may be sent, and it is handled as a statement. Assumes nothing.
use Prim.Native.Nat.{ℕ, ◌+◌, ◌*◌}
use mathlib.Core.Path.{◌≡◌, refl, sym, ap, ◌∙◌, subst}
use mathlib.Core.Bool.{true, false}
use mathlib.Core.List.{List, []}
use mathlib.Core.Option.{none}
use native.Mathlib.Omega.{arith}
use lib.Dec.{eqb}
use borrow.Author.Tests.{lt-ltb, eq-eqb}
use Rattle.rules.specs.Sizes.{leader}
use Rattle.rules.specs.Messages.{Message, new_view, allowed}
use Rattle.rules.specs.Words as words
use Rattle.rules.specs.Words.{message, highest, State}
use Rattle.rules.specs.Inputs.{Work, saying, statement, handled, leads, leads_now, own_new_view, lead}
use Rattle.rules.specs.Refusals.{has_room}
use Rattle.laws.proofs.Truths.{and_2, both}
use Rattle.laws.proofs.Allowed.{view_within}
use Rattle.fields.specs.Names.{name_of}
use Rattle.fields.specs.declared.Name.{Name}
use Rattle.wire.specs.Meaning.{statement_of}
use Rattle.wire.specs.declared.Statement.{Statement}
use Rattle.store.specs.Decode.{tallies, state_from, state_of}
use Rattle.store.specs.Meaning.{Loads}
use Rattle.store.specs.declared.Station.{Station}
use Rattle.words.specs.declared.Certificate.{Certificate}
use Rattle.store.proofs.Loaded.{loaded_view}
use Rattle.kept.specs.Said.{Sendable}
use Rattle.kept.specs.Parts as kept
use Rattle.kept.proofs.Facts.{sizes_of}
use Rattle.kept.proofs.Sendable.{sendable}
use Rattle.kept.proofs.Tallies.{highest_good}
use Rattle.kept.proofs.Ticks.{leads_own}
use Rattle.words.specs.Meaning.{block_of}
use Rattle.acts.specs.Works.{Formed}
use Rattle.acts.proofs.Works.{formed_parts}
use Rattle.acts.proofs.Votes.{loaded_own}
use Rattle.acts.proofs.Answers.{handled_statement}

-- ---- the new-view that is made

-- a certificate view as a link
abbrev pub link_to : ℕ → Name
link_to v = record { first = 0; second = 0; third = 0; fourth = v }

link_number : (v : ℕ) → name_of (link_to v) ≡ v
unfolding name_of
link_number v = omega arith

own_sendable : {s : State} → kept.Formed s → leads s ≡ true → Sendable s.settings (own_new_view s)
unfolding own_new_view allowed
own_sendable {s} f e =
    let t = highest s.settings s.view s.tallies in
    let c = highest_good s.settings s.clock s.view s.tallies (view_within s.settings s.view f.view).0 f.tables.tallies in
    let o = eq-eqb s.settings.own (leader s.settings s.view) (leads_own s e) in
    sendable (new_view s.view t.height t.name t.view t.mask s.settings.own) (sizes_of f)
    (both (both (both (both f.view c.block) (lt-ltb t.view s.view c.earlier)) c.is_allowed) o) c.name

module _ {b : List ℕ} (k : Formed b) (s : Station) (e : Loads s b) (t : Certificate) (h : block_of t ≡ highest (state_of b).settings s.view (tallies b)) where
  abbrev made : Statement
  made = record { is_new_view = true; view = s.view; height = t.height; name = t.name; link = link_to t.view; mask = t.mask; author = s.settings.own }

  best : block_of t ≡ highest (state_of b).settings (state_of b).view (state_of b).tallies
  unfolding state_of state_from
  best = h ∙ ap (λ (v : ℕ). highest (state_of b).settings v (tallies b)) (loaded_view s b e)

  pub made_is : message (statement_of made none) ≡ own_new_view (state_of b)
  unfolding message statement_of own_new_view block_of
  made_is =
      λ i. new_view (loaded_view s b e i) (best i).height (best i).name ((link_number t.view ∙ ap (λ (u : words.Certificate). u.view) best) i) (best i).mask (loaded_own k s e i)

  pub made_sendable : leads (state_of b) ≡ true → Sendable (state_of b).settings (message (statement_of made none))
  made_sendable l = subst (Sendable (state_of b).settings) (sym made_is) (own_sendable (formed_parts k).formed l)

-- ---- its moment

module _ (s : State) where
  pub now_leads : leads_now s ≡ true → leads s ≡ true
  unfolding leads_now
  now_leads q = (and_2 (leads s) (eqb s.clock (s.entry + 2 * s.settings.D + 1)) q).0

  pub lead_never : leads_now s ≡ false → saying s [] ≡ lead s
  unfolding lead
  lead_never q = rw (q, lead)

  pub lead_now : leads_now s ≡ true → (x : Statement) → message (statement_of x none) ≡ own_new_view s → statement (statement_of x none) s ≡ lead s
  unfolding lead statement_of
  lead_now q x m =
      ap (λ (f : State → Work). f s) (sym (handled_statement (statement_of x none) refl)) ∙ ap (λ (n : Message). handled n s) m ∙ rw (q, lead)

pub now_fits : (s : State) (x : Statement) → leads_now s ≡ true → message (statement_of x none) ≡ own_new_view s
    → has_room (statement (statement_of x none) s).now ≡ has_room (lead s).now
now_fits s x q m = ap (λ (v : Work). has_room v.now) (lead_now s q x m)
