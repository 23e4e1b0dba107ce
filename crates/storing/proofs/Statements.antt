-- A new statement, with its certificate and its own block: it fits, and what is left once it is stored. Assumes nothing.
use Prim.Native.Nat.{ℕ, ◌+◌, ◌≤◌, ◌<◌}
use mathlib.Core.Path.{◌≡◌, sym, ap, ap₂, ◌∙◌}
use mathlib.Core.List.{List, [], ◌∷◌, ◌++◌}
use mathlib.Core.Option.{none}
use native.Mathlib.Omega.{arith}
use lib.ListN.{length, length-append}
use Rattle.rules.specs.Limits.{most_statements, most_tallies, last_clock}
use Rattle.rules.specs.Words.{Statement, message, Certificate, Moment, own_block, certificate, join, join_certificate, State, moment}
use Rattle.rules.specs.Inputs.{with_tables, stored}
use Rattle.wire.specs.Meaning.{statement_of}
use Rattle.wire.specs.declared.Statement as code
use Rattle.store.specs.Layout.{statement_table, size_in, count_of}
use Rattle.store.specs.Decode.{statements, tallies, state_from, state_of, Left}
use Rattle.store.specs.Searches.{block_at}
use Rattle.joining.specs.Changes.{joining, Joined, certifying}
use Rattle.records.specs.Changes.{storing}
use Rattle.std.specs.Prelude.{Option}
use Rattle.kept.specs.Said.{Sendable}
use Rattle.laws.proofs.Allowed.{view_within}
use Rattle.kept.proofs.Statements.{stated}
use Rattle.tallies.specs.Meaning.{with_voters}
use Rattle.rules.specs.Sizes.{Settings}
use Rattle.words.specs.Meaning.{Certifies}
use Rattle.words.proofs.Statements.{certifies_allowed}
use Rattle.storing.specs.Records.{certified_at, Newly, Stored}
use Rattle.storing.proofs.Records.{count_statements}
use Rattle.storing.proofs.Rooms.{join_grows, certificate_others, own_differs, room_parts}

pub sendable_certifies : (g : Settings) (x : code.Statement) → Sendable g (message (statement_of x none)) → Certifies (statement_of x none)
sendable_certifies g x m = certifies_allowed g (statement_of x none) m.is_allowed

pub voter_block : (x : Statement) (m : ℕ) {u : Certificate} → u ≡ own_block x 0 → with_voters m u ≡ own_block x m
unfolding own_block
voter_block x m e = ap (with_voters m) e

-- ---- a new one, with its certificate t and its own block u

module _ (b : List ℕ) (x : Statement) (m : Sendable (state_of b).settings (message x)) (t u : Certificate) (et : t ≡ certificate x) (eu : u ≡ own_block x 0) where
  module _ (q : Option ℕ) (eq : q ≡ block_at u (tallies b)) where
    -- the certificate leaves its own block's tally where it is
    pub own_stays : q ≡ block_at u (join_certificate (moment none (state_of b)) t (tallies b))
    own_stays = eq ∙ sym (certificate_others (moment none (state_of b)) t (tallies b) u (rw (et, eu) (own_differs (state_of b).settings x m)))

    pub own_view : u.view ≡ 0 → ⊥
    unfolding own_block
    own_view z = omega (arith, (view_within (state_of b).settings x.view (stated (state_of b).settings x m).view).0, ap (λ (v : Certificate). v.view) eu)

  -- ---- it is stored

  module _ {p q : Option ℕ} (k : Newly x (state_of b) p q) where
    few : (length (state_of b).statements < most_statements (size_in b)) × (length (join (moment none (state_of b)) u (join_certificate (moment none (state_of b)) t (state_of b).tallies)) ≤ most_tallies (size_in b))
    unfolding stored with_tables state_of state_from
    few =
        let r = room_parts (stored x (state_of b)) k.room in
        (omega (arith, r.0, length-append (state_of b).statements (x ∷ [])), rw (et, eu) r.1)

    pub certificate_fits : length (join_certificate (moment none (state_of b)) t (tallies b)) ≤ most_tallies (size_in b)
    unfolding state_of state_from
    certificate_fits = omega (arith, few.1, join_grows (moment none (state_of b)) u (join_certificate (moment none (state_of b)) t (tallies b)))

    pub certificate_found : p ≡ certified_at t (tallies b)
    unfolding state_of state_from
    certificate_found = rw et k.certified

    module _ {b₁ : List ℕ} (l : Left b₁ (certifying none t (state_of b))) where
      certified_tallies : tallies b₁ ≡ join_certificate (moment none (state_of b)) t (tallies b)
      unfolding certifying with_tables state_of state_from
      certified_tallies = ap (λ (s : State). s.tallies) l.is

      certified_size : size_in b₁ ≡ size_in b
      unfolding certifying with_tables state_of state_from
      certified_size = ap (λ (s : State). s.settings.size) l.is

      -- the moment after is that before
      certified_moment : moment none (state_of b₁) ≡ moment none (state_of b)
      unfolding certifying with_tables
      certified_moment = ap (moment none) l.is

      pub certified_clock : (state_of b).clock ≤ last_clock → (state_of b₁).clock ≤ last_clock
      certified_clock h = omega (arith, ap (λ (k : Moment). k.clock) certified_moment)

      pub own_fits : length (join (moment none (state_of b₁)) u (tallies b₁)) ≤ most_tallies (size_in b₁)
      own_fits = rw (certified_moment, certified_tallies, certified_size) (unfold state_of state_from in few.1)

      pub own_found : q ≡ block_at u (tallies b₁)
      unfolding state_of state_from
      own_found = rw certified_tallies (own_stays q (rw eu k.own))

      module _ {b₂ : List ℕ} {i : ℕ} (h : Joined none u (state_of b₁) b₂ i) where
        joined_size : size_in b₂ ≡ size_in b₁
        unfolding joining with_tables state_of state_from
        joined_size = ap (λ (s : State). s.settings.size) h.left.is

        pub one_more_fits : count_of statement_table b₂ < most_statements (size_in b₂)
        unfolding joining certifying with_tables
        one_more_fits =
            let e : (state_of b₂).statements ≡ (state_of b).statements = ap (λ (s : State). s.statements) (h.left.is ∙ ap (joining none u) l.is) in
            omega (arith, count_statements b₂, ap length e, few.0, ap most_statements joined_size, ap most_statements certified_size)

        pub new_stored : {b₃ : List ℕ} → Left b₃ (storing x (state_of b₂)) → Stored x (state_of b) b₃ i
        unfolding storing joining certifying stored with_tables state_of state_from
        new_stored {b₃} g =
            let e : tallies b₃ ≡ tallies b₂ = ap (λ (s : State). s.tallies) g.is in
            record {
              left =
                  record {
                    form = g.form;
                    is =
                        g.is ∙ ap (storing x) (h.left.is ∙ ap (joining none u) l.is)
                        ∙ ap₂ (λ (v w : Certificate). with_tables ((state_of b).statements ++ x ∷ []) (join (moment none (state_of b)) w (join_certificate (moment none (state_of b)) v (state_of b).tallies)) (state_of b)) et eu;
                  };
              place = h.place ∙ ap₂ block_at eu (sym e);
            }
