-- What the plain engine's certificate means in the words of the rules, and when a statement's numbers fit it. Assumes nothing.
use Rattle.std.specs.Prelude.{ℕ, ◌^◌, ◌<◌, ◌≡◌, true, false, Option, Some, None}
use Rattle.std.proofs.Math.Option as math
use Rattle.fields.specs.Names.{name_of}
use Rattle.rules.specs.Words as words
use Rattle.plain_words.specs.declared.Certificate.{Certificate}

-- a block of a view, with its voters
unfoldable pub certificate_of : Certificate → words.Certificate
unfolding name_of
certificate_of t = record { view = t.view; height = t.height; name = name_of t.name; mask = t.mask }

-- a new-view's link is a view, and a propose is above genesis, so that the certificate's numbers fit their words
pub record Certifies (x : words.Statement) : Type 0 where
  pub view : x.is_new_view ≡ true → x.link < 2 ^ 32
  pub above : x.is_new_view ≡ false → 0 < x.height

-- a clock that was noted, if any
abbrev pub noted_of : Option ℕ → math.Option ℕ
noted_of None = math.none
noted_of (Some c) = math.some c
