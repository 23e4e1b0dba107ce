-- `choose::decide` meets its contract: by what each reports, and by the ranks. Assumes nothing.
use mathlib.Core.Path.{◌≡◌, refl, sym, subst, ap₂, ◌∙◌}
use mathlib.Core.Option.{Option}
use Rattle.std.specs.Prelude.{Option as Maybe}
use mathlib.Core.Bool.{◌&&◌, ◌||◌}
use lib.Dec.{eqb, ltb}
use Rattle.std.specs.Ordering.{partial_lt}
use Rattle.laws.proofs.Tests.{by_bool}
use Rattle.choose.specs.contracts.RankPartialOrd.TheImpl
use Rattle.rules.specs.Words.{Certificate}
use Rattle.choose.specs.Choose.{taken}
use Rattle.choose.specs.Meaning.{Ranks}
use Rattle.choose.specs.declared.Rank as code
use Rattle.choose.proofs.Laws.{ranks_higher, ranks_not_higher, only_first, only_second, neither}
use Rattle.choose.proofs.decide.Goals as goal

-- what is known of a report that is known
known : (o : Option Certificate) {r q : Maybe code.Rank} → r ≡ q → Ranks r o → Ranks q o
known o e k = subst (λ (x : Maybe code.Rank). Ranks x o) e k

-- ranks in order: by view, then by height
higher : (a b : code.Rank) → partial_lt TheImpl.partial_cmp-value.it a b ≡ (ltb a.view b.view || (eqb a.view b.view && ltb a.height b.height))
higher a b =
    by_bool (ltb a.view b.view) (λ p. rw p refl)
    (λ p.
    by_bool (eqb a.view b.view)
    (λ q.
    by_bool (ltb a.height b.height) (λ r. rw (p, q, r) refl)
    (λ r. by_bool (eqb a.height b.height) (λ t. rw (p, q, r, t) refl) (λ t. rw (p, q, r, t) refl)))
    (λ q. rw (p, q) refl))

pub returns-then-lt : goal.returns-then-lt
returns-then-lt c =
    let t = c.in-Some-Some in
    ranks_higher (known _ t.is-0 c.rank_of.ensures) (known _ t.is-1 c.rank_of-2.ensures)
    (sym (higher t.own t.other) ∙ sym c.lt.ensures ∙ c.if-lt.true)

pub returns-else-lt : goal.returns-else-lt
returns-else-lt c =
    let t = c.in-Some-Some in
    ranks_not_higher (known _ t.is-0 c.rank_of.ensures) (known _ t.is-1 c.rank_of-2.ensures)
    (sym (higher t.own t.other) ∙ sym c.lt.ensures ∙ c.if-lt.false)

pub returns-in-Some-None : goal.returns-in-Some-None
returns-in-Some-None c =
    let first = known _ c.in-Some-None.is-0 c.rank_of.ensures in
    sym (ap₂ taken first.is (known _ c.in-Some-None.is-1 c.rank_of-2.ensures) ∙ only_first first.certificate)

pub returns-in-None-Some : goal.returns-in-None-Some
returns-in-None-Some c =
    let second = known _ c.in-None-Some.is-1 c.rank_of-2.ensures in
    sym (ap₂ taken (known _ c.in-None-Some.is-0 c.rank_of.ensures) second.is ∙ only_second second.certificate)

pub returns-in-None-None : goal.returns-in-None-None
returns-in-None-None c =
    sym (ap₂ taken (known _ c.in-None-None.is-0 c.rank_of.ensures) (known _ c.in-None-None.is-1 c.rank_of-2.ensures) ∙ neither)
