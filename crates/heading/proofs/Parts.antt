-- The parts of the definition that look at the header, as the code tests them. Assumes nothing.
use Prim.Native.Nat.{ℕ}
use mathlib.Core.Path.{◌≡◌, sym, ap, ◌∙◌}
use mathlib.Core.Bool.{true, ◌&&◌, and-true}
use lib.Dec.{leb, ltb}
use borrow.Author.Tests.{lt-ltb}
use Rattle.rules.specs.Limits.{last_clock}
use Rattle.rules.specs.Sizes.{good_settings}
use Rattle.rules.specs.Messages.{block_allowed, certificate_allowed}
use Rattle.rules.specs.WellFormed.{is_name, clocks_in_order, lock_good}
use Rattle.laws.proofs.Tests.{by_bool}
use Rattle.fields.specs.declared.Name.{Name}
use Rattle.fields.specs.Names.{name_of}
use Rattle.fields.proofs.Names.{Words, name_lt}
use Rattle.settings.specs.Made.{settings_of, made}
use Rattle.settings.specs.declared.Settings.{Settings}
use Rattle.std.specs.Option.{is_some}
use Rattle.std.specs.Prelude.{Option, Some, None}
use Rattle.store.specs.Decode.{state_from}
use Rattle.store.specs.Meaning.{course_of, header_of}
use Rattle.store.specs.declared.Phase.{Phase}
use Rattle.store.specs.declared.Station.{Station}
use Rattle.store.proofs.Values.{number_phase}
use Rattle.heading.specs.Alone.{alone, phase_in_order}

-- four words are a name
pub words_name : (n : Name) → Words n → is_name (name_of n) ≡ true
unfolding is_name
words_name n w = lt-ltb _ _ (name_lt n w.0.fits w.1.0.fits w.1.1.0.fits w.1.1.1.0.fits)

-- ---- settings

module _ (g : Settings) (m : Option Settings) (e : m ≡ made g.n g.delay g.own g.size) where
  pub made_some : is_some m ≡ good_settings (settings_of g)
  unfolding made
  made_some =
      by_bool (good_settings (settings_of g))
      (λ p. let z : m ≡ Some (record { n = g.n; delay = g.delay; own = g.own; size = g.size }) = e ∙ rw p in ap is_some z ∙ sym p)
      (λ p. let z : m ≡ None = e ∙ rw p in ap is_some z ∙ sym p)

-- ---- clocks

pub phase_is : (entry clock : ℕ) (p q : Phase) → p ≡ q → phase_in_order entry clock (course_of q) ≡ phase_in_order entry clock (course_of p)
phase_is entry clock p q e = ap (λ (x : Phase). phase_in_order entry clock (course_of x)) (sym e)

pub clocks_are : (s : Station) → (leb s.entry s.clock && leb s.clock last_clock && phase_in_order s.entry s.clock (course_of s.phase)) ≡ clocks_in_order (alone s)
unfolding clocks_in_order phase_in_order state_from header_of
clocks_are s = rw (number_phase (course_of s.phase))

-- ---- the lock

pub lock_is : (s : Station) → Words s.lock.name
    → (ltb s.lock.view s.view && block_allowed s.lock.height (name_of s.lock.name) && certificate_allowed (settings_of s.settings) s.lock.height s.lock.view s.lock.mask)
    ≡ lock_good (alone s)
unfolding lock_good state_from header_of
lock_is s w = rw (words_name s.lock.name w, and-true)
