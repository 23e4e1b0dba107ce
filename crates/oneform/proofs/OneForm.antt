-- A store is well formed exactly when it is the bytes of a well-formed state; so equal states have equal stores, bit for bit. Assumes nothing.
use Prim.Native.Nat.{ℕ}
use mathlib.Core.Path.{◌≡◌}
use mathlib.Core.Bool.{true}
use mathlib.Core.List.{List}
use mathlib.Core.Option.{some}
use Rattle.rules.specs.Sizes.{Settings, good_settings}
use Rattle.rules.specs.Words.{State, fresh}
use Rattle.rules.specs.WellFormed.{well_formed}
use Rattle.fields.specs.Places.{Bytes}
use Rattle.kept.proofs.WellFormed.{fresh_whole}
use Rattle.store.specs.Decode.{decode, Left, encode}
use Rattle.oneform.proofs.Decoded.{encode_left}
use Rattle.oneform.proofs.Held.{left_decoded, decoded_bytes}
use Rattle.oneform.proofs.Fitting.{fitted}

module _ (s : State) (w : well_formed s ≡ true) where
  pub encoded_left : Left (encode s) s
  encoded_left = encode_left s (fitted s w)

  -- the bytes of a well-formed state are bytes, and decode to it
  pub encoded : Bytes (encode s) × (decode (encode s) ≡ some s)
  encoded = (encoded_left.form.bytes, left_decoded encoded_left w)

-- what decodes to a state is its bytes, and the state is well formed
pub decoded : (b : List ℕ) (s : State) → Bytes b → decode b ≡ some s → (encode s ≡ b) × (well_formed s ≡ true)
decoded = decoded_bytes

-- a fresh store is well formed
pub fresh_encoded : (g : Settings) → good_settings g ≡ true → decode (encode (fresh g)) ≡ some (fresh g)
fresh_encoded g e = (encoded (fresh g) (fresh_whole g e)).1
