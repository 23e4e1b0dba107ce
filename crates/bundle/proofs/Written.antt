-- Writing the envelope of listed messages, place by place. Assumes nothing.
use Prim.Native.Nat.{ℕ, ◌+◌, ◌-◌, ◌*◌, ◌/◌, ◌<◌, ◌≤◌}
use mathlib.Core.Path.{◌≡◌, refl, sym, ap, ap₂, ◌∙◌}
use mathlib.Core.Bool.{Bool, true, false}
use mathlib.Core.List.{List, [], ◌∷◌}
use mathlib.Core.Option.{Option, none, some, map}
use native.Mathlib.Omega.{arith}
use lib.ListN.{length, take, drop}
use lib.Dec.{leb, lit<}
use borrow.Author.Tests.{leb-true}
use Rattle.fields.specs.Places.{number, put}
use Rattle.rules.specs.Lists.{unbe}
use Rattle.rules.specs.Messages.{field}
use Rattle.laws.proofs.Tests.{by_bool, by_option, no_some}
use Rattle.wire.specs.Fields.{head}
use Rattle.outgoing.specs.Wrote.{wrote, Says}
use Rattle.laws.proofs.Lengths.{length_field}
use Rattle.outgoing.proofs.Writing.{wrote_append, field_says, says_length}
use Rattle.items.specs.Items.{envelope_tag, message_tag, bytes_of, flat}
use Rattle.envelope.specs.Places.{Place, part_at}
use Rattle.items.specs.Reading.{most_bytes}
use Rattle.items.proofs.Grammar.{length_message}
use Rattle.bundle.specs.Writing.{place_in, places_from, places_in, is_message_at, gathered, flat_bytes, bundle_of, bundled}
use Rattle.bundle.specs.Meaning.{total_of, bundle_in, MayWrite}
use Rattle.std.specs.Prelude.{Option as Maybe, Some, None}
use Rattle.bundle.proofs.Totals.{message_within, length_part, places_end, places_start, gathered_step}

-- ---- what may be written

record Opened (s list : List ℕ) (total : ℕ) : Type 0 where
  messages : List (List ℕ)
  is : gathered s (places_in list) ≡ some messages
  bundle : bundle_in s list ≡ flat_bytes messages
  total_is : total ≡ 3 + length (bytes_of (flat messages))
  fits : total ≤ most_bytes

opened : {s list out : List ℕ} {total : ℕ} → MayWrite s list out total → Opened s list total
unfolding bundled bundle_of bundle_in total_of flat_bytes
opened {s} {list} {out} {total} w = go (gathered s (places_in list)) refl
  where
    never : ◌≡◌ {A = Maybe ℕ} (Some total) None → ⊥
    never e = let z : ◌≡◌ {A = ℕ} 0 1 = cc in omega arith

    by_length : (ms : List (List ℕ)) (b : Bool) → leb (length (flat_bytes ms)) most_bytes ≡ b → gathered s (places_in list) ≡ some ms → Opened s list total
    by_length ms true l e =
        let is : bundled s list ≡ some (flat_bytes ms) = ap bundle_of e ∙ ap (λ (b : Bool). elim b [ true ↦ some (flat_bytes ms) | false ↦ none ]) l in
        let t : ◌≡◌ {A = Maybe ℕ} (Some total) (Some (length (flat_bytes ms))) = w.is ∙ ap total_of is in
        let n : total ≡ length (flat_bytes ms) = cc in
        record {
          messages = ms;
          is = e;
          bundle = ap (λ (o : Option (List ℕ)). elim o [ none ↦ [] | some x ↦ x ]) is;
          total_is = n ∙ length_field envelope_tag (bytes_of (flat ms));
          fits = omega (arith, leb-true (length (flat_bytes ms)) most_bytes l);
        }
    by_length ms false l e =
        absurd (never (w.is ∙ ap (λ (o : Option (List (List ℕ))). total_of (bundle_of o)) e ∙ ap (λ (b : Bool). total_of (elim b [ true ↦ some (flat_bytes ms) | false ↦ none ])) l))

    go : (o : Option (List (List ℕ))) → gathered s (places_in list) ≡ o → Opened s list total
    go none e = absurd (never (w.is ∙ ap (λ (o : Option (List (List ℕ))). total_of (bundle_of o)) e))
    go (some ms) e = by_length ms (leb (length (flat_bytes ms)) most_bytes) refl e

-- ---- the walk: messages are left, and their items still to be written behind those that were

pub record Left (s list out₀ : List ℕ) (count at k : ℕ) (out : List ℕ) : Type 0 where
  pub messages : List (List ℕ)
  pub is : gathered s (places_from list k (count - k)) ≡ some messages
  pub rest : wrote out at (bytes_of (flat messages)) ≡ wrote out₀ 3 (drop 3 (bundle_in s list))
  pub room : at + length (bytes_of (flat messages)) ≤ most_bytes
  pub same : length out ≡ length out₀

pub total_room : {s list out : List ℕ} {total : ℕ} → MayWrite s list out total → (3 ≤ total) × (total ≤ most_bytes)
total_room w = let o = opened w in (omega (arith, o.total_is), o.fits)

pub walk_starts : {s list out out₁ : List ℕ} {total n : ℕ} → MayWrite s list out total → n ≡ length list / 8 → Left s list out₁ n 3 0 out₁
unfolding flat_bytes field unbe
walk_starts {s} {list} {out} {out₁} {total} {n} w e =
    let o = opened w in
    record {
      messages = o.messages;
      is = ap (gathered s) (places_start list e) ∙ o.is;
      rest = ap (λ (l : List ℕ). wrote out₁ 3 (drop 3 l)) (sym o.bundle);
      room = omega (arith, o.total_is, o.fits);
      same = refl;
    }

module _ {s list out₀ : List ℕ} {count at k : ℕ} {out : List ℕ} (l : Left s list out₀ count at k out) where
  pub walk_ends : count ≤ k → out ≡ wrote out₀ 3 (drop 3 (bundle_in s list))
  unfolding gathered flat bytes_of wrote
  walk_ends h =
      let e : ◌≡◌ {A = Option (List (List ℕ))} (some []) (some l.messages) = sym (ap (gathered s) (places_end list k count h)) ∙ l.is in
      let z : [] ≡ l.messages = cc in
      ap (λ (ms : List (List ℕ)). wrote out at (bytes_of (flat ms))) z ∙ l.rest

  module _ (h : k < count) where
    abbrev here : Place
    here = place_in list k

    abbrev behind : Option (List (List ℕ))
    behind = gathered s (places_from list (k + 1) (count - (k + 1)))

    -- the first message that is left, and those behind it
    record Fronted : Type 0 where
      others : List (List ℕ)
      is : behind ≡ some others
      first : l.messages ≡ part_at s here ∷ others
      fits : here.offset + here.size ≤ length s

    fronted : Fronted
    fronted =
        by_bool (is_message_at s here)
        (λ t.
        let e = sym (gathered_step s list k count h t) ∙ l.is in
        by_option behind (λ n. no_some (sym (ap (map (part_at s here ∷◌)) n) ∙ e))
        (λ ms n.
        let u : ◌≡◌ {A = Option (List (List ℕ))} (some (part_at s here ∷ ms)) (some l.messages) = sym (ap (map (part_at s here ∷◌)) n) ∙ e in
        record { others = ms; is = n; first = (cc); fits = message_within s here t }))
        (λ t. no_some (sym (gathered_step s list k count h t) ∙ l.is))

    item_length : length (bytes_of (flat l.messages)) ≡ 3 + here.size + length (bytes_of (flat fronted.others))
    unfolding flat
    item_length =
        let f = fronted in
        ap (λ (ms : List (List ℕ)). length (bytes_of (flat ms))) f.first ∙ length_message (part_at s here) (flat f.others)
        ∙ ap (λ (n : ℕ). 3 + n + length (bytes_of (flat f.others))) (length_part s here f.fits)

    pub next_sizes : (number list (k * 8) 4 + number list (k * 8 + 4) 4 ≤ length s) × (at + 3 + number list (k * 8 + 4) 4 ≤ most_bytes)
    unfolding place_in
    next_sizes = let f = fronted in (f.fits, omega (arith, item_length, l.room))

    pub walk_next : {o n m : ℕ} {out₁ out₂ : List ℕ} → o ≡ number list (k * 8) 4 → n ≡ number list (k * 8 + 4) 4 → m ≡ n
        → out₁ ≡ put out at 3 (0x31_0000 + n) → out₂ ≡ wrote out₁ (at + 3) (take m (drop o s)) → Left s list out₀ count (at + 3 + n) (k + 1) out₂
    unfolding place_in flat bytes_of
    walk_next {o} {n} {m} {out₁} {out₂} p q d u v =
        let f = fronted in
        let part = part_at s here in
        let z : length part ≡ n = length_part s here f.fits ∙ sym q in
        let sizes = next_sizes in
        let e₁ : out₁ ≡ put out at 3 (head message_tag (length part)) = u ∙ ap (put out at 3) (let w : 0x31_0000 + n ≡ head message_tag (length part) = omega arith in w) in
        let e₂ : out₂ ≡ wrote out₁ (at + 3) part = v ∙ ap₂ (λ (x y : ℕ). wrote out₁ (at + 3) (take x (drop y s))) (d ∙ q) p in
        let says : Says out at (field message_tag part) out₂ (at + 3 + length part) =
        field_says out at message_tag part (lit< tt) (omega arith) e₁ (record { out = e₂; ends = refl }) in
        let i : at + 3 + n ≡ at + length (field message_tag part) = omega (arith, length_field message_tag part) in
        record {
          messages = f.others;
          is = f.is;
          rest = ap₂ (λ (x : List ℕ) (y : ℕ). wrote x y (bytes_of (flat f.others))) says.out i
              ∙ sym (wrote_append out at (field message_tag part) (bytes_of (flat f.others)))
              ∙ ap (λ (ms : List (List ℕ)). wrote out at (bytes_of (flat ms))) (sym f.first) ∙ l.rest;
          room = omega (arith, item_length, l.room);
          same = says_length says ∙ l.same;
        }

-- the head was written before
pub whole_written : {s list out out₁ left : List ℕ} {total : ℕ} → MayWrite s list out total → out₁ ≡ put out 0 3 (0x30_0000 + total - 3)
    → left ≡ wrote out₁ 3 (drop 3 (bundle_in s list)) → left ≡ wrote out 0 (bundle_in s list)
unfolding flat_bytes field unbe
whole_written {s} {list} {out} {out₁} {left} {total} w e r =
    let o = opened w in
    let v = bytes_of (flat o.messages) in
    let h : 0x30_0000 + total - 3 ≡ head envelope_tag (length v) = omega (arith, o.total_is) in
    let b : drop 3 (bundle_in s list) ≡ v = ap (drop 3) o.bundle in
    let says : Says out 0 (field envelope_tag v) left (3 + length v) =
    field_says out 0 envelope_tag v (lit< tt) (omega (arith, o.total_is, o.fits)) (e ∙ ap (put out 0 3) h) (record { out = r ∙ ap (wrote out₁ 3) b; ends = refl }) in
    says.out ∙ ap (wrote out 0) (sym o.bundle)
