-- What an act leaves of a store's limits and length. Assumes nothing.
use Prim.Native.Nat.{ℕ}
use mathlib.Core.Path.{◌≡◌, sym, ap, ◌∙◌}
use mathlib.Core.List.{List}
use lib.ListN.{length}
use Rattle.rules.specs.Words.{State}
use Rattle.store.specs.Layout.{store_length, size_in}
use Rattle.store.specs.Decode.{state_from, state_of, Form, Left}
use Rattle.store.proofs.Forms.{form_long}

-- the limits of what was left are the state's, and its length goes by them
pub left_size : {b' : List ℕ} {s : State} → Left b' s → size_in b' ≡ s.settings.size
unfolding state_of state_from
left_size l = ap (λ (x : State). x.settings.size) l.is

pub same_long : {b b' : List ℕ} → Form b → Form b' → size_in b' ≡ size_in b → length b' ≡ length b
same_long {b} {b'} f g e = form_long b' g ∙ ap store_length e ∙ sym (form_long b f)
