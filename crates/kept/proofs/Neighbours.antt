-- No author's votes alone fill the tallies: a vote opens at most its author's share, and what is left is the room of statements and
-- statuses. Assumes nothing.
use mathlib.Core.Path.{◌≡◌, refl}
use Prim.Native.Nat.{ℕ, zero, suc, ◌+◌, ◌-◌, ◌*◌, ◌≤◌, ◌<◌}
use native.Mathlib.Omega.{arith}
use native.Mathlib.Decide.{dec_lt}
use mathlib.Core.Bool.{Bool, true, false}
use mathlib.Core.List.{List, [], ◌∷◌}
use mathlib.Core.Option.{none, some}
use lib.ListN.{length}
use borrow.Author.Tests.{eq-eqb, ne_eqb}
use Rattle.rules.specs.Limits.{most_tallies, most_opened}
use Rattle.rules.specs.Lists.{all, keep}
use Rattle.rules.specs.Sizes.{Settings}
use Rattle.rules.specs.Words.{Opener, Tally, is_author, opened_by, State}
use Rattle.rules.specs.WellFormed.{tally_good}
use Rattle.laws.proofs.Tests.{by_bool}
use Rattle.laws.proofs.Truths.{and_2}
use Rattle.kept.specs.Parts.{Formed}
use Rattle.kept.proofs.Tallies.{tally_parts, opener_lt}
use Rattle.kept.proofs.Openers.{few_each}
use Rattle.kept.proofs.Facts.{sizes_of}

-- the tallies that nobody opened by a vote: those of statements and statuses
pub is_nobody : Opener → Bool
is_nobody none = true
is_nobody (some a) = false

pub by_nobody : List Tally → ℕ
unfolding keep is_nobody
by_nobody ts = length (keep (λ t. is_nobody t.opener) ts)

-- what the stations below n opened, all together
pub by_authors : ℕ → List Tally → ℕ
by_authors zero ts = 0
by_authors (suc a) ts = opened_by a ts + by_authors a ts

-- whether an opener is a, and how many of the stations below n it is
one : ℕ → Opener → ℕ
one a k = elim (is_author a k) [ true ↦ 1 | false ↦ 0 ]

ones : ℕ → Opener → ℕ
ones zero k = 0
ones (suc a) k = one a k + ones a k

opened_one : (a : ℕ) (t : Tally) (ts : List Tally) → opened_by a (t ∷ ts) ≡ opened_by a ts + one a t.opener
unfolding opened_by keep one
opened_one a t ts = by_bool (is_author a t.opener) (λ q. rw (q, keep, one) (omega arith)) (λ q. rw (q, keep, one) (omega arith))

authors_cons : (n : ℕ) (t : Tally) (ts : List Tally) → by_authors n (t ∷ ts) ≡ by_authors n ts + ones n t.opener
unfolding by_authors ones
authors_cons zero t ts = refl
authors_cons (suc n) t ts = let h = authors_cons n t ts in let o = opened_one n t ts in omega arith

opened_none : (a : ℕ) → opened_by a [] ≡ 0
unfolding opened_by keep
opened_none a = refl

authors_none : (n : ℕ) → by_authors n [] ≡ 0
unfolding by_authors
authors_none zero = refl
authors_none (suc n) = let h = authors_none n in let o = opened_none n in omega arith

one_nobody : (a : ℕ) → one a none ≡ 0
unfolding one is_author
one_nobody a = refl

one_same : (a b : ℕ) → a ≡ b → one a (some b) ≡ 1
unfolding one is_author
one_same a b e = rw (eq-eqb a b e, one)

one_other : (a b : ℕ) → (a ≡ b → ⊥) → one a (some b) ≡ 0
unfolding one is_author
one_other a b d = rw (ne_eqb a b d, one)

ones_nobody : (n : ℕ) → ones n none ≡ 0
unfolding ones
ones_nobody zero = refl
ones_nobody (suc n) = let h = ones_nobody n in let o = one_nobody n in omega arith

ones_later : (n b : ℕ) → n ≤ b → ones n (some b) ≡ 0
unfolding ones
ones_later zero b l = refl
ones_later (suc n) b l = let h = ones_later n b (omega arith) in let o = one_other n b (λ e. omega arith) in omega arith

ones_author : (n b : ℕ) → b < n → ones n (some b) ≡ 1
unfolding ones
ones_author zero b l = absurd (omega arith)
ones_author (suc n) b l =
    elim (dec_lt b n) [
      | yes k ↦ (let h = ones_author n b k in let o = one_other n b (λ e. omega arith) in omega arith)
      | no k ↦ (let h = ones_later n b (omega arith) in let o = one_same n b (omega arith) in omega arith)
    ]

-- an opener is nobody, or one of these stations
nobody_here : (t : Tally) (ts : List Tally) → t.opener ≡ none → by_nobody (t ∷ ts) ≡ by_nobody ts + 1
unfolding by_nobody keep is_nobody
nobody_here t ts e = rw (e, keep) (omega arith)

nobody_not : (t : Tally) (ts : List Tally) (a : ℕ) → t.opener ≡ some a → by_nobody (t ∷ ts) ≡ by_nobody ts
unfolding by_nobody keep is_nobody
nobody_not t ts a e = rw (e, keep)

opener_one : (g : Settings) (k : Opener) → ((a : ℕ) → k ≡ some a → a < g.n) → (t : Tally) (ts : List Tally) → t.opener ≡ k
    → by_nobody (t ∷ ts) + ones g.n k ≡ by_nobody ts + 1
opener_one g none h t ts e = let o = ones_nobody g.n in let b = nobody_here t ts e in omega arith
opener_one g (some a) h t ts e = let o = ones_author g.n a (h a refl) in let b = nobody_not t ts a e in omega arith

parted : (g : Settings) (now : ℕ) (ts : List Tally) → all (tally_good g now) ts ≡ true → length ts ≡ by_nobody ts + by_authors g.n ts
unfolding all
parted g now [] h = let e = authors_none g.n in let z : by_nobody [] ≡ 0 = unfold by_nobody keep in refl in omega arith
parted g now (t ∷ ts) h =
    let p = and_2 (tally_good g now t) (all (tally_good g now) ts) h in
    let ih = parted g now ts p.1 in
    let c = authors_cons g.n t ts in
    let o = opener_one g t.opener (λ a e. opener_lt g t.mask t.opener a (tally_parts g now t p.0).opener e) t ts refl in
    omega arith

authors_most : (n : ℕ) (ts : List Tally) → ((a : ℕ) → a < n → opened_by a ts ≤ most_opened) → by_authors n ts ≤ most_opened * n
unfolding by_authors
authors_most zero ts h = omega arith
authors_most (suc n) ts h = let ih = authors_most n ts (λ a l. h a (omega arith)) in let o = h n (omega arith) in omega arith

-- all that votes ever open is sixteen for each station; what statements and statuses opened is the rest
pub votes_open_few : {s : State} → Formed s → length s.tallies ≤ by_nobody s.tallies + most_opened * s.settings.n
votes_open_few {s} f =
    let p = parted s.settings s.clock s.tallies f.tables.tallies in
    let a = authors_most s.settings.n s.tallies (few_each s.settings.n s.tallies f.tables.few_opened) in
    omega arith

-- so a station whose tallies are all in use has at least so many that are nobody's: 272 with the small limits, 784 with the large ones
pub full_by_others : {s : State} → Formed s → length s.tallies ≡ most_tallies s.settings.size → most_tallies s.settings.size - 240 ≤ by_nobody s.tallies
full_by_others {s} f e = let v = votes_open_few f in let z = sizes_of f in omega arith
