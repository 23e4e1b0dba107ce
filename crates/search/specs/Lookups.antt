-- What is looked up, said of the rules' words, with the view as a number of its own. Assumes nothing.
use Rattle.std.specs.Prelude.{ℕ, ◌-◌, ◌<◌, ◌≡◌, Option as Maybe, Bool, true, false, not, ◌&&◌, ◌||◌, List, eqb}
use Rattle.std.proofs.Math.Option.{Option, none}
use Rattle.rules.specs.Lists.{first, keep}
use Rattle.rules.specs.Words.{Statement, conflict}
use Rattle.store.specs.Decode.{rows}
use Rattle.store.specs.Searches.{first_from}

-- rules' `is_opened`, of a view
abbrev pub opens : ℕ → Statement → Bool
opens v x = x.is_new_view && eqb x.view v

-- "the name or parent" of a statement
abbrev pub uses : ℕ → Statement → Bool
uses b x = eqb b x.name || not x.is_new_view && eqb b x.link

-- a test may be called at each place below one
abbrev pub AllBelow : ℕ → (ℕ → Type 0) → Type 0
AllBelow n pre = (i : ℕ) → i < n → pre i

-- what is found from a place on is what a definition finds, where the test answers by it
abbrev pub FirstOf : {A : Type 0} → (ℕ → Bool → Type 0) → (ℕ → A) → ℕ → ℕ → Maybe ℕ → Type 0
FirstOf {A} post f start n r = (p : A → Bool) → ((i : ℕ) (b : Bool) → post i b → b ≡ p (f i)) → r ≡ first_from p start (rows f start (n - start))

-- what a statement of a view conflicts with among those that follow it
unfoldable pub rival_in : ℕ → List Statement → Statement → Option Statement
unfolding first conflict
rival_in v xs x = elim (eqb x.view v) [ true ↦ first (conflict x) xs | false ↦ none ]

-- rules' `current`, of a view
unfoldable pub of_view : ℕ → List Statement → List Statement
unfolding keep
of_view v xs = keep (λ x. eqb x.view v) xs
