-- A store is well formed exactly when it is the bytes of a well-formed state. Assumes nothing.
use Prim.Native.Nat.{ℕ}
use mathlib.Core.Path.{◌≡◌, sym, ap, ◌∙◌}
use mathlib.Core.Bool.{true, ◌&&◌}
use mathlib.Core.List.{List}
use mathlib.Core.Option.{some, some-injective}
use Rattle.rules.specs.Words.{State}
use Rattle.rules.specs.WellFormed.{well_formed}
use Rattle.laws.proofs.Tests.{by_bool, no_some, and_left, and_right}
use Rattle.fields.specs.Places.{Bytes}
use Rattle.store.specs.Decode.{state_of, has_form, decode, Left, encode}
use Rattle.oneform.proofs.Encoded.{encode_state}

good : {b : List ℕ} {s : State} → Left b s → well_formed s ≡ true → (has_form b && well_formed (state_of b)) ≡ true
good h w = rw h.form.form (ap well_formed h.is ∙ w)

-- what holds a well-formed state is decoded to it
pub left_decoded : {b : List ℕ} {s : State} → Left b s → well_formed s ≡ true → decode b ≡ some s
unfolding decode
left_decoded {b} {s} h w =
    rw (good h w, decode) (ap some h.is)

-- what is decoded holds a well-formed state
pub decoded_left : (b : List ℕ) (s : State) → Bytes b → decode b ≡ some s → Left b s × (well_formed s ≡ true)
unfolding decode
decoded_left b s h e =
    by_bool (has_form b && well_formed (state_of b))
    (λ q.
    let i : state_of b ≡ s = some-injective (state_of b) s (rw (q, decode) at e) in
    (record { form = record { bytes = h; form = and_left (has_form b) _ q }; is = i }, ap well_formed (sym i) ∙ and_right (has_form b) _ q))
    (λ q. no_some (rw (q, decode) at e))

-- and is its bytes
pub decoded_bytes : (b : List ℕ) (s : State) → Bytes b → decode b ≡ some s → (encode s ≡ b) × (well_formed s ≡ true)
decoded_bytes b s h e = let l = decoded_left b s h e in (ap encode (sym l.0.is) ∙ encode_state b l.0.form, l.1)

-- a store that holds a state is its bytes
pub left_bytes : {b : List ℕ} {s : State} → Left b s → b ≡ encode s
left_bytes {b} h = sym (encode_state b h.form) ∙ ap encode h.is
