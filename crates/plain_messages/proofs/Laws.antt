-- What holds of a whole station and of an allowed statement, and what a statement and each message come to. Assumes nothing.
use Prim.Native.Nat.{ℕ, ◌^◌, ◌<◌, ◌≤◌}
use mathlib.Core.Path.{◌≡◌, sym, ap, subst, ◌∙◌}
use mathlib.Core.Bool.{Bool, true, false}
use mathlib.Core.List.{List, [], ◌∷◌}
use mathlib.Core.Option.{none, some}
use native.Mathlib.Omega.{arith}
use lib.ListN.{length}
use Rattle.rules.specs.Limits.{mask_bits, last_view, last_view_small, most_statements, most_tallies, most_statements_small, most_tallies_small}
use Rattle.rules.specs.Lists.{any, first}
use Rattle.rules.specs.Sizes.{Settings, only}
use Rattle.rules.specs.Messages.{new_view, propose, allowed, view_allowed, to_all, outgoing}
use Rattle.rules.specs.Words as words
use Rattle.rules.specs.Words.{message, same_statement, conflict, join_certificate, join, own_block, certificate}
use Rattle.rules.specs.Inputs as inputs
use Rattle.rules.specs.WellFormed.{is_name, statement_good}
use Rattle.laws.proofs.Tests.{by_bool}
use Rattle.laws.proofs.Truths.{and_4}
use Rattle.laws.proofs.Searches.{first_mem}
use Rattle.laws.proofs.Allowed.{sizes, view_within, allowed_rights}
use Rattle.fields.specs.Names.{name_of}
use Rattle.settings.specs.Made.{settings_of}
use Rattle.fields.specs.declared.Name.{Name}
use Rattle.wire.specs.Meaning.{statement_of, message_of, Linked}
use Rattle.wire.specs.declared.Message.{Message}
use Rattle.wire.specs.declared.Message.TheVariants.{Stated}
use Rattle.wire.specs.declared.Statement as wire
use Rattle.outgoing.specs.Wrote.{Says}
use Rattle.outgoing.proofs.Writing.{says_none}
use Rattle.kept.proofs.WellFormed.{parts}
use Rattle.kept.proofs.Lists.{all_mem}
use Rattle.plain_words.specs.Meaning.{certificate_of, Certifies}
use Rattle.plain_words.proofs.Tables.{counted}
use Rattle.plain_statements.specs.declared.Held.{Held}
use Rattle.plain_statements.specs.Meaning as statement_room
use Rattle.plain_statements.specs.Meaning.{held_of, blank, statements}
use Rattle.plain_tallies.specs.Meaning as tally_room
use Rattle.plain_tallies.specs.Meaning.{tallies}
use Rattle.plain_tallies.proofs.Laws.{tally_count, join_long, certificate_long}
use Rattle.plain_tables.specs.declared.Engine.{Engine}
use Rattle.plain_tables.specs.Meaning.{state, Gives}
use Rattle.plain_acts.specs.declared.Work.{Work}
use Rattle.plain_acts.specs.Works.{Worked}
use Rattle.plain_messages.specs.Whole.{Whole}

-- ---- an allowed statement carries a certificate that fits its words

pub certifies : (g : Settings) (x : words.Statement) → allowed g (message x) ≡ true → Certifies x
unfolding message
certifies g x e = record { view = view; above = above }
  where
    view : x.is_new_view ≡ true → x.link < 2 ^ 32
    view p =
        let r = allowed_rights g (new_view x.view x.height x.name x.link x.mask x.author) (rw (p, message) at e) in
        let w = view_within g x.view r.0 in
        omega (arith, r.2, w.2)

    above : x.is_new_view ≡ false → 0 < x.height
    above p = let r = allowed_rights g (propose x.view x.height x.name x.link x.mask x.author) (rw (p, message) at e) in omega (arith, r.1)

pub links : (g : Settings) (x : wire.Statement) → allowed g (message (statement_of x none)) ≡ true → Linked x
unfolding statement_of
links g x e = (certifies g (statement_of x none) e).view

-- ---- a whole station

module _ (e : Engine) (k : Whole e) where
  statement_count : length (statements e.statements) ≡ e.statements.count
  unfolding statements
  statement_count = counted held_of blank statement_room.room e.statements.items e.statements.count k.sized.statements

  pub few_statements_lem : e.statements.count ≤ most_statements_small
  unfolding state most_statements
  few_statements_lem =
      let p : length (statements e.statements) ≤ most_statements (settings_of e.settings).size = (parts (state e) k.formed).few_statements in
      omega (arith, statement_count, rw k.sized.small at p)

  pub few_tallies_lem : e.tallies.count ≤ most_tallies_small
  unfolding state most_tallies
  few_tallies_lem =
      let p : length (tallies e.tallies) ≤ most_tallies (settings_of e.settings).size = (parts (state e) k.formed).few_tallies in
      omega (arith, tally_count e.tallies k.sized.tallies, rw k.sized.small at p)

  -- a view that is allowed has a blame mask
  pub view_small : (v : ℕ) → view_allowed (state e).settings v ≡ true → v ≤ last_view_small
  unfolding state last_view
  view_small v q =
      let w : v ≤ last_view (settings_of e.settings).size = (view_within (settings_of e.settings) v q).1 in
      rw k.sized.small at w

  pub author_small : (a : ℕ) → a < (state e).settings.n → a < mask_bits
  unfolding state
  author_small a h = let s = sizes (settings_of e.settings) k.sized.good in omega (arith, s.most)

  -- a stored statement that was found may be sent
  pub found_linked : (p : words.Statement → Bool) (h : Held) → some (held_of h) ≡ first p (statements e.statements) → Linked h.statement
  unfolding state held_of statement_of message statement_good
  found_linked p h q =
      let good : statement_good (state e) (held_of h) ≡ true = all_mem (statement_good (state e)) (parts (state e) k.formed).formed.tables.statements (first_mem p (statements e.statements) (held_of h) (sym q)) in
      links (settings_of e.settings) h.statement (and_4 (allowed (settings_of e.settings) (message (held_of h))) (is_name (held_of h).name) (is_name (held_of h).link) _ good).0

  -- what is stored leaves room for a vote
  pub stored_room : (x : words.Statement) (r : Engine) → Gives r (inputs.stored x (state e)) → r.tallies.count < tally_room.room
  unfolding inputs.stored inputs.with_tables state
  stored_room x r g =
      let m = words.moment none (state e) in
      let us = join_certificate m (certificate x) (tallies e.tallies) in
      let c : length (tallies r.tallies) ≡ length (join m (own_block x 0) us) = ap (λ (s : words.State). length s.tallies) g.is in
      omega (arith, c, tally_count r.tallies g.sized.tallies, tally_count e.tallies k.sized.tallies, join_long m (own_block x 0) us, certificate_long m (certificate x) (tallies e.tallies), few_tallies_lem)

-- ---- what a statement comes to

module _ (x : words.Statement) (e : Engine) (o : List ℕ) (at : ℕ) where
  pub repeated : {r : Engine} → any (same_statement x) (statements e.statements) ≡ true → Gives r (inputs.certificate_joined x (state e))
      → Worked (inputs.statement x (state e)) o at (record { engine = r; at = at }) o
  unfolding inputs.statement inputs.saying outgoing state
  repeated q g = rw (q, inputs.statement) (record { now = g; says = says_none o at })

  module _ (q : any (same_statement x) (statements e.statements) ≡ false) where
    pub elsewhere : {r : Engine} → inputs.is_in x.view (state e) ≡ false → Gives r (inputs.stored x (state e))
        → Worked (inputs.statement x (state e)) o at (record { engine = r; at = at }) o
    unfolding inputs.statement inputs.saying outgoing state
    elsewhere i g = rw (q, i, inputs.statement) (record { now = g; says = says_none o at })

    module _ (i : inputs.is_in x.view (state e) ≡ true) (f : Engine) (g : Gives f (inputs.stored x (state e))) where
      pub against : {r : Engine} {next : ℕ} {left : List ℕ} (y : words.Statement) → some y ≡ first (conflict x) (statements e.statements) → Gives r (inputs.quit [] (state f)).now
          → Says o at (outgoing (to_all (message y) ∷ to_all (message x) ∷ [])) left next → Worked (inputs.statement x (state e)) o at (record { engine = r; at = next }) left
      unfolding inputs.statement inputs.quit inputs.saying state
      against y c h s =
          rw (q, i, sym c, inputs.statement)
          (record { now = record { sized = h.sized; is = h.is ∙ ap (λ (s : words.State). (inputs.quit [] s).now) g.is }; says = s })

      pub alone : {r : Work} {left : List ℕ} → none ≡ first (conflict x) (statements e.statements) → Worked (inputs.voting x (state f)) o at r left
          → Worked (inputs.statement x (state e)) o at r left
      unfolding inputs.statement state
      alone {r} {left} c w =
          rw (q, i, sym c, inputs.statement) (subst (λ (s : words.State). Worked (inputs.voting x s) o at r left) g.is w)

-- ---- each kind of message

handled_stated : (x : wire.Statement) (s : words.State) → inputs.handled (message (statement_of x none)) s ≡ inputs.statement (statement_of x none) s
unfolding message statement_of inputs.handled
handled_stated x s = by_bool x.is_new_view (λ q. rw q) (λ q. rw q)

pub voter_certificate : (v h : ℕ) (b : Name) {m : ℕ} (a : ℕ) → m ≡ only a
    → ◌≡◌ {A = words.Certificate} (certificate_of (record { view = v; height = h; name = b; mask = m })) (record { view = v; height = h; name = name_of b; mask = only a })
unfolding certificate_of
voter_certificate v h b a e = rw e

module _ (e : Engine) (o : List ℕ) (at : ℕ) where
  pub told : {m k : Message} {r : Work} {left : List ℕ} → m ≡ k → Worked (inputs.handled (message_of k) (state e)) o at r left → Worked (inputs.handled (message_of m) (state e)) o at r left
  told {m} {k} {r} {left} p w = subst (λ (z : Message). Worked (inputs.handled (message_of z) (state e)) o at r left) (sym p) w

  pub stated_worked : (x : wire.Statement) {r : Work} {left : List ℕ} → Worked (inputs.statement (statement_of x none) (state e)) o at r left
      → Worked (inputs.handled (message_of (Stated x)) (state e)) o at r left
  unfolding message_of
  stated_worked x {r} {left} w = subst (λ (z : inputs.Work). Worked z o at r left) (sym (handled_stated x (state e))) w

  pub tallied_worked : (k : words.Opener) (t u : words.Certificate) {r : Engine} → t ≡ u → Gives r (inputs.tallied k t (state e)).now
      → Worked (inputs.tallied k u (state e)) o at (record { engine = r; at = at }) o
  unfolding inputs.tallied inputs.saying outgoing
  tallied_worked k t u {r} p g = record { now = subst (λ (z : words.Certificate). Gives r (inputs.tallied k z (state e)).now) p g; says = says_none o at }

  pub blamed_worked : (v : ℕ) {m n : ℕ} {r : Work} {left : List ℕ} → m ≡ n → Worked (inputs.blaming v m (state e)) o at r left → Worked (inputs.blaming v n (state e)) o at r left
  blamed_worked v {m} {n} {r} {left} p w = subst (λ (z : ℕ). Worked (inputs.blaming v z (state e)) o at r left) p w
