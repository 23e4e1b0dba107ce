-- Settings of a small group: what their constructor answers, those in a list's head, and that good ones fit their places. Assumes nothing.
use Prim.Native.Nat.{ℕ, ◌%◌, ◌<◌}
use mathlib.Core.Path.{◌≡◌, sym, ap, ◌∙◌}
use mathlib.Core.Bool.{Bool, true, false, ◌&&◌}
use mathlib.Core.List.{List}
use native.Mathlib.Omega.{arith}
use lib.Dec.{leb, ltb, eqb}
use borrow.Author.Tests.{leb-true, ltb-true}
use Rattle.rules.specs.Limits.{small, least_stations, most_stations, least_delay, most_delay}
use Rattle.rules.specs.Lists.{within}
use Rattle.rules.specs.Sizes.{Settings, good_settings}
use Rattle.laws.proofs.Tests.{by_bool}
use Rattle.laws.proofs.Truths.{and_2, and_4}
use Rattle.settings.specs.Made.{made, pick, size_from, settings_of}
use Rattle.settings.specs.declared.Settings as declared
use Rattle.settings.specs.declared.Size.TheVariants.{Small}
use Rattle.std.specs.Prelude.{Option, Some, None}
use Rattle.fields.specs.Places.{number}
use Rattle.lent_list.specs.Lists.{settings_in}

-- settings of a small group, and what their constructor answers
module _ (n d own : ℕ) where
  abbrev pub asked : Settings
  asked = record { n = n; D = d; own = own; size = small }

  abbrev given : declared.Settings
  given = record { n = n; delay = d; own = own; size = Small }

  made_is : {t : Bool} → good_settings asked ≡ t → made n d own Small ≡ pick t (Some given) None
  unfolding made
  made_is e = ap (λ (u : Bool). pick u (Some given) None) e

  pub made_good : {r : Option declared.Settings} {g : declared.Settings} → r ≡ made n d own Small → r ≡ Some g → good_settings asked ≡ true
  made_good e f =
      by_bool (good_settings asked) (λ t. t) (λ t. let m = made_is t in let z : ◌≡◌ {A = ℕ} 0 1 = cc in absurd (omega arith))

  pub made_bad : {r : Option declared.Settings} → r ≡ made n d own Small → r ≡ None → good_settings asked ≡ false
  made_bad e f =
      by_bool (good_settings asked) (λ t. let m = made_is t in let z : ◌≡◌ {A = ℕ} 0 1 = cc in absurd (omega arith)) (λ t. t)

-- the settings in a list's head, as the code reads them
module _ (l : List ℕ) where
  pub head_is : {n d own : ℕ} → n ≡ number l 0 1 → d ≡ number l 1 2 → own ≡ number l 3 1 → asked n d own ≡ settings_in l
  unfolding settings_in
  head_is p q r = λ i. record { n = p i; D = q i; own = r i; size = small }

  module _ {g : declared.Settings} (e : settings_of g ≡ settings_in l) (z : g.size ≡ Small) {r : Option declared.Settings} (m : r ≡ made g.n g.delay g.own Small) where
    same : asked g.n g.delay g.own ≡ settings_in l
    same = ap (λ y. record { n = g.n; D = g.delay; own = g.own; size = size_from y }) (sym z) ∙ e

    pub head_good : {h : declared.Settings} → r ≡ Some h → good_settings (settings_in l) ≡ true
    head_good f = sym (ap good_settings same) ∙ made_good g.n g.delay g.own m f

    pub head_bad : r ≡ None → good_settings (settings_in l) ≡ false
    head_bad f = sym (ap good_settings same) ∙ made_bad g.n g.delay g.own m f

-- good settings fit their places
pub settings_fit : (g : Settings) → good_settings g ≡ true → (g.n < 256) × (g.D < 65536) × (g.own < 256)
unfolding good_settings within
settings_fit g e =
    let t = and_4 (eqb (g.n % 2) 1) (leb least_stations g.n && leb g.n most_stations) (leb least_delay g.D && leb g.D most_delay) (ltb g.own g.n) e in
    let a = leb-true g.n most_stations (and_2 (leb least_stations g.n) (leb g.n most_stations) t.1).1 in
    let b = leb-true g.D most_delay (and_2 (leb least_delay g.D) (leb g.D most_delay) t.2).1 in
    let c = ltb-true g.own g.n t.3 in
    (omega arith, omega arith, omega arith)
