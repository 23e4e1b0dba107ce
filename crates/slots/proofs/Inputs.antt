-- What is an input, test by test. Assumes nothing.
use Prim.Native.Nat.{ℕ, ◌<◌, ◌≤◌}
use mathlib.Core.Path.{◌≡◌, sym, ap, ◌∙◌}
use mathlib.Core.Bool.{Bool, true, false, ◌&&◌, and-false}
use mathlib.Core.List.{List}
use mathlib.Core.Option.{none, some}
use native.Mathlib.Omega.{arith}
use lib.ListN.{length}
use lib.Dec.{leb, eqb}
use borrow.Author.Tests.{eqb-true, ne_eqb, leb-true, le-leb, lt-leb}
use Rattle.rules.specs.Messages as messages
use Rattle.rules.specs.Messages.{read}
use Rattle.laws.proofs.Bytes.{Bytes}
use Rattle.laws.proofs.ReadBack.{write_read}
use Rattle.laws.proofs.Tests.{by_bool, and_left, and_right}
use Rattle.outgoing.proofs.Writing.{length_write_most}
use Rattle.wire.specs.Meaning.{read_of, message_of}
use Rattle.wire.specs.declared.Message.{Message}
use Rattle.std.specs.Prelude.{Option, Some, None}
use Rattle.slots.specs.Slots.{most_input, is_readable, is_input}

module _ {r : Option Message} (bs : List ℕ) (e : read_of r ≡ read bs) where
  pub unreadable : r ≡ None → false ≡ is_readable bs
  unfolding is_readable read_of
  unreadable t = let q : read bs ≡ none = sym e ∙ ap read_of t in rw (q, is_readable)

  pub readable : {m : Message} → r ≡ Some m → true ≡ is_readable bs
  unfolding is_readable read_of
  readable {m} t = let q : read bs ≡ some (message_of m) = sym e ∙ ap read_of t in rw (q, is_readable)

module _ (k : ℕ) (bs : List ℕ) where
  pub too_long : most_input < length bs → false ≡ is_input k bs
  unfolding is_input
  too_long h = rw (lt-leb (length bs) most_input h)

  pub tick_input : length bs ≤ most_input → k ≡ 1 → eqb (length bs) 0 ≡ is_input k bs
  unfolding is_input
  tick_input h e = rw (le-leb (length bs) most_input h, e)

  pub offer_input : length bs ≤ most_input → k ≡ 2 → eqb (length bs) 32 ≡ is_input k bs
  unfolding is_input
  offer_input h e = rw (le-leb (length bs) most_input h, e, e)

  pub message_input : {r : Bool} → length bs ≤ most_input → k ≡ 3 → r ≡ is_readable bs → r ≡ is_input k bs
  unfolding is_input
  message_input h e t = rw (le-leb (length bs) most_input h, e, e, e) t

  pub other_input : (k ≡ 1 → ⊥) → (k ≡ 2 → ⊥) → (k ≡ 3 → ⊥) → false ≡ is_input k bs
  unfolding is_input
  other_input a b c = rw (ne_eqb k 1 a, ne_eqb k 2 b, ne_eqb k 3 c) (sym (and-false (leb (length bs) most_input)))

  -- an input fits a slot, and its kind a byte
  pub input_fits : is_input k bs ≡ true → (k < 256) × (length bs ≤ most_input)
  unfolding is_input
  input_fits h =
      let l = leb-true (length bs) most_input (and_left (leb (length bs) most_input) _ h) in
      let t = and_right (leb (length bs) most_input) _ h in (
        by_bool (eqb k 1) (λ p. omega (arith, eqb-true k 1 p))
            (λ p.
            by_bool (eqb k 2) (λ q. omega (arith, eqb-true k 2 q))
            (λ q. let u : (eqb k 3 && is_readable bs) ≡ true = rw (p, q) at t in omega (arith, eqb-true k 3 (and_left (eqb k 3) (is_readable bs) u)))),
        l,
      )

-- every message fits a slot
pub readable_fits : (bs : List ℕ) (m : messages.Message) → Bytes bs → read bs ≡ some m → length bs ≤ most_input
readable_fits bs m b e = omega (arith, ap length (write_read bs m b e), length_write_most m)
