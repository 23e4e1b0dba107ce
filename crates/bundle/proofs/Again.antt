-- The list that the reader makes, handed to the writer with the envelope: what it makes is the envelope's flattening. Assumes nothing.
use Prim.Native.Nat.{ℕ, zero, suc, ◌+◌, ◌*◌, ◌/◌, ◌^◌, ◌<◌, ◌≤◌}
use mathlib.Core.Path.{◌≡◌, refl, sym, ap, ap₂, subst, ◌∙◌}
use mathlib.Core.Bool.{Bool}
use mathlib.Core.List.{List, [], ◌∷◌, ◌++◌, map, append_assoc}
use mathlib.Core.Option.{Option, some}
use native.Mathlib.Omega.{arith}
use lib.ListN.{length, length-append}
use borrow.Author.Tests.{le-leb}
use Rattle.fields.specs.Places as places
use Rattle.fields.specs.Places.{number}
use Rattle.fields.proofs.Lists.{number_append_left, number_append_right}
use Rattle.rules.specs.Lists.{unbe}
use Rattle.laws.proofs.Bytes.{be_unbe, length_unbe}
use Rattle.laws.proofs.Truths.{both}
use Rattle.wire.proofs.Reading.{be_number}
use Rattle.items.specs.Items.{Items, messages_of, flat}
use Rattle.envelope.specs.Places.{Place, part_at, places_of, list_bytes}
use Rattle.items.specs.Reading.{envelope_in}
use Rattle.envelope.specs.Reading.{list_of}
use Rattle.items.proofs.Grammar.{bytes_all, envelope_sound}
use Rattle.envelope.proofs.Laws.{Ascending, AllReadable, listed_are, listed_apart, listed_readable}
use Rattle.bundle.specs.Writing.{place_in, places_from, places_in, is_message_at, gathered, flat_bytes, bundle_of, bundled}
use Rattle.bundle.proofs.Totals.{onward}
use Rattle.bundle.proofs.Laws.{messages_flat, one_form, flattened}

-- ---- a list's bytes name its places again

number_unbe : (v : ℕ) (r : List ℕ) → v < 256 ^ 4 → number (unbe 4 v ++ r) 0 4 ≡ v
number_unbe v r h =
    let l = length_unbe 4 v in
    number_append_left (unbe 4 v) r 0 4 (omega arith) ∙ ap (number (unbe 4 v) 0) (sym l) ∙ sym (be_number (unbe 4 v)) ∙ be_unbe 4 v h

-- behind eight bytes the places are those of the rest
shifted : (h l : List ℕ) → length h ≡ 8 → (k n : ℕ) → places_from (h ++ l) (suc k) n ≡ places_from l k n
unfolding places_from place_in
shifted h l e k zero = refl
shifted h l e k (suc n) =
    let at : (j : ℕ) → number (h ++ l) (length h + j) 4 ≡ number l j 4 = λ j. number_append_right h l j 4 in
    let p : suc k * 8 ≡ length h + k * 8 = omega arith in
    let q : suc k * 8 + 4 ≡ length h + (k * 8 + 4) = omega arith in
    ap₂ ◌∷◌
    (ap₂ (λ (x y : ℕ). record { offset = x; size = y })
    (ap (λ (j : ℕ). number (h ++ l) j 4) p ∙ at (k * 8))
    (ap (λ (j : ℕ). number (h ++ l) j 4) q ∙ at (k * 8 + 4)))
    (shifted h l e (suc k) n)

abbrev Within : ℕ → List Place → Type 0
Within e [] = Unit
Within e (p ∷ ps) = (p.offset + p.size ≤ e) × Within e ps

length_list : (ps : List Place) → length (list_bytes ps) ≡ length ps * 8
unfolding list_bytes
length_list [] = refl
length_list (p ∷ ps) =
    omega (arith, length-append (unbe 4 p.offset) (unbe 4 p.size ++ list_bytes ps), length-append (unbe 4 p.size) (list_bytes ps), length_unbe 4 p.offset, length_unbe 4 p.size, length_list ps)

named : (e : ℕ) → e < 256 ^ 4 → (ps : List Place) → Within e ps → places_from (list_bytes ps) 0 (length ps) ≡ ps
unfolding places_from place_in list_bytes
named e l [] h = refl
named e l (p ∷ ps) h =
    let a = unbe 4 p.offset in
    let b = unbe 4 p.size in
    let n : length (a ++ b) ≡ 8 = omega (arith, length-append a b, length_unbe 4 p.offset, length_unbe 4 p.size) in
    let z = length_unbe 4 p.offset in
    let second : number (a ++ (b ++ list_bytes ps)) 4 4 ≡ p.size =
    ap (λ (k : ℕ). number (a ++ (b ++ list_bytes ps)) k 4) (let w : 4 ≡ length a + 0 = omega arith in w)
    ∙ number_append_right a (b ++ list_bytes ps) 0 4 ∙ number_unbe p.size (list_bytes ps) (omega arith) in
    ap₂ ◌∷◌ (ap₂ (λ (x y : ℕ). record { offset = x; size = y }) (number_unbe p.offset (b ++ list_bytes ps) (omega arith)) second)
    (ap (λ (x : List ℕ). places_from x 1 (length ps)) (sym (append_assoc a b (list_bytes ps))) ∙ shifted (a ++ b) (list_bytes ps) n 0 (length ps) ∙ named e l ps h.1)

-- ---- what stands at them is gathered

again : (s : List ℕ) (ps : List Place) → Within (length s) ps → AllReadable (map (part_at s) ps) → gathered s ps ≡ some (map (part_at s) ps)
unfolding gathered is_message_at
again s [] h r = refl
again s (p ∷ ps) h r =
    ap₂ (λ (o : Option (List (List ℕ))) (b : Bool). onward s p o b) (again s ps h.1 r.1) (both (le-leb (p.offset + p.size) (length s) h.0) r.0)

ascending_within : (at e : ℕ) (ps : List Place) → Ascending at ps e → (at ≤ e) × Within e ps
ascending_within at e [] h = (h, tt)
ascending_within at e (p ∷ ps) h = let r = ascending_within (p.offset + p.size) e ps h.1 in (omega (arith, h.0, r.0), (r.0, r.1))

module _ (s : List ℕ) (b : places.Bytes s) (i : Items) (e : envelope_in s ≡ some i) where
  gathered_again : gathered s (places_in (list_of i)) ≡ some (messages_of i)
  unfolding places_in list_of
  gathered_again =
      let ps = places_of 3 i in
      let w = (ascending_within 3 (length s) ps (listed_apart s b i e)).1 in
      let are = listed_are s b i e in
      let small : length s < 256 ^ 4 = omega (arith, (envelope_sound s (bytes_all s b) i e).2) in
      let n : length (list_bytes ps) / 8 ≡ length ps = omega (arith, length_list ps) in
      ap (gathered s) (ap (places_from (list_bytes ps) 0) n ∙ named (length s) small ps w)
      ∙ again s ps w (subst AllReadable (sym are) (listed_readable s b i e)) ∙ ap some are

  -- an envelope and its list, handed to the writer, make its flattening
  pub listed_bundled : bundled s (list_of i) ≡ some (flat_bytes (messages_of i))
  unfolding bundled
  listed_bundled = ap bundle_of gathered_again ∙ (flattened s b i e).0

-- a flat envelope and its list make it again
pub flat_again : (s : List ℕ) → places.Bytes s → (ms : List (List ℕ)) → envelope_in s ≡ some (flat ms) → bundled s (list_of (flat ms)) ≡ some s
unfolding bundled
flat_again s b ms e = ap bundle_of (gathered_again s b (flat ms) e ∙ ap some (messages_flat ms)) ∙ one_form s b ms e
