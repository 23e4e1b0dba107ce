-- What the code's certificate means in the words of the rules, and when a statement's numbers fit it. Assumes nothing.
use Rattle.std.specs.Prelude.{◌^◌, ◌<◌, ◌≡◌, Bool, true, false, ◌&&◌}
use Rattle.rules.specs.Words as words
use Rattle.rules.specs.Words.{Statement, certificate, below}
use Rattle.fields.specs.Names.{name_of}
use Rattle.words.specs.declared.Certificate.{Certificate}

-- a block of a view, with its voters
unfoldable pub block_of : Certificate → words.Certificate
unfolding name_of
block_of t = record { view = t.view; height = t.height; name = name_of t.name; mask = t.mask }

-- a new-view's link is a view, and a propose is above genesis, so that the certificate's numbers fit their words
pub record Certifies (x : Statement) : Type 0 where
  pub view : x.is_new_view ≡ true → x.link < 2 ^ 32
  pub above : x.is_new_view ≡ false → 0 < x.height

-- rules' `below_lock`, with the lock alone
unfoldable pub ranks_below : Statement → words.Certificate → Bool
unfolding below certificate
ranks_below x lock = x.is_new_view && below (certificate x) lock
