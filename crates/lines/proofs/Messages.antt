-- Messages in words, over every kind. Assumes nothing.
use Prim.Native.Nat.{ℕ, ◌+◌, ◌-◌, ◌≤◌}
use mathlib.Core.Path.{◌≡◌, ap, ◌∙◌}
use mathlib.Core.Bool.{Bool, true, false}
use mathlib.Core.List.{List, []}
use native.Mathlib.Omega.{arith}
use lib.ListN.{length, drop}
use Rattle.std.proofs.Common.{Result, Ok, Err}
use Rattle.rules.specs.Lists.{iff}
use Rattle.rules.specs.Messages.{write}
use Rattle.laws.proofs.Tests.{by_bool}
use Rattle.laws.proofs.Truths.{iff_eq}
use Rattle.fields.specs.declared.Name.{Name}
use Rattle.fields.specs.Names.{name_of}
use Rattle.wire.proofs.Reading.{tried, tried_at}
use Rattle.parts.specs.Fields.{field_of, Got, got, wrong, onto, reads}
use Rattle.lines.specs.Script.{Meaning, message, bad, meant, spoken}
use Rattle.parts.specs.Places.{small, FieldRead}
use Rattle.lines.specs.Kinds.{number_of, has, tagged, onto_if, Own, OwnRead, makes}
use Rattle.parts.specs.declared.Flaw.{Flaw}
use Rattle.parts.specs.declared.Part.{Part}
use Rattle.lines.specs.declared.kinds.Kind.{Kind}
use Rattle.lines.specs.declared.kinds.Kind.TheVariants.{NewView, Propose, Vote, Blame, BlameSet, Status}
use Rattle.parts.proofs.Fields.{holds_zero, small_is}

-- ---- the fields of a kind

-- a test of tags that agrees with the table from 2 to 8
pub has_by : (k : ℕ) (f : ℕ → Bool) → tried (λ i. iff (f (i + 2)) (has k (i + 2))) 7 ≡ true → (t : ℕ) → 2 ≤ t → t ≤ 8 → f t ≡ has k t
has_by k f e t l h =
    let i : t - 2 + 2 ≡ t = omega arith in
    rw i at (iff_eq (f (t - 2 + 2)) (has k (t - 2 + 2)) (tried_at _ 7 (t - 2) e (omega arith)))

module _ (s : List ℕ) (at : ℕ) (k : Kind) (t : ℕ) where
  pub own_field : has (number_of k) t ≡ true → (r : Result Part Flaw) → FieldRead s at t r → OwnRead s at k t r
  unfolding tagged onto_if
  own_field e (Ok p) f = record { goes = λ ts. rw (e, tagged, onto_if) (f.goes ts); inside = f.inside; holds = f.holds }
  own_field e (Err x) f = λ ts. rw (e, tagged) (f ts)

  pub own_none : has (number_of k) t ≡ false → (n : Name) → n ≡ small 0 → at ≤ length s → Own s at k t (record { value = n; next = at })
  unfolding tagged onto_if
  own_none e n en h =
      rw en (record { goes = λ ts. rw (e, tagged, onto_if); inside = h; holds = holds_zero (field_of t).sort })

  pub own_before : {p : Part} → Own s at k t p → (ts : List ℕ) (f : Flaw) → reads ts (drop p.next s) ≡ wrong f → reads (tagged (number_of k) t ts) (drop at s) ≡ wrong f
  unfolding onto_if onto
  own_before a ts f e =
      a.goes ts ∙ ap (onto_if (number_of k) t _) e ∙ by_bool (has (number_of k) t) (λ q. rw (q, onto_if)) (λ q. rw (q, onto_if))

-- ---- a whole message

abbrev pub tags : ℕ → List ℕ
tags k = tagged k 2 (tagged k 3 (tagged k 4 (tagged k 5 (tagged k 6 (tagged k 7 (tagged k 8 []))))))

abbrev ontos : ℕ → (v h b p c m a : ℕ) → Got → Got
ontos k v h b p c m a g = onto_if k 2 v (onto_if k 3 h (onto_if k 4 b (onto_if k 5 p (onto_if k 6 c (onto_if k 7 m (onto_if k 8 a g))))))

-- what is made of the values, or what is wrong
pub meant_wrong : (f : List ℕ → Meaning) (x : Got) (e : Flaw) → x ≡ wrong e → meant f x ≡ bad e
unfolding meant
meant_wrong f x e h = ap (meant f) h

pub said_wrong : (k : Kind) (s : List ℕ) (f : Flaw) → reads (tags (number_of k)) s ≡ wrong f → spoken (number_of k) s ≡ bad f
unfolding spoken tagged has
said_wrong NewView s f e = meant_wrong _ _ f e
said_wrong Propose s f e = meant_wrong _ _ f e
said_wrong Vote s f e = meant_wrong _ _ f e
said_wrong Blame s f e = meant_wrong _ _ f e
said_wrong BlameSet s f e = meant_wrong _ _ f e
said_wrong Status s f e = meant_wrong _ _ f e

-- the values by their tags make the message of their kind
kind_is : (k : Kind) (s : List ℕ) (v h b p c m a : ℕ) → reads (tags (number_of k)) s ≡ ontos (number_of k) v h b p c m a (got [])
    → spoken (number_of k) s ≡ message (write (makes (number_of k) v h b p c m a))
unfolding spoken makes tagged onto_if has meant onto
kind_is NewView s v h b p c m a e = ap (meant _) e
kind_is Propose s v h b p c m a e = ap (meant _) e
kind_is Vote s v h b p c m a e = ap (meant _) e
kind_is Blame s v h b p c m a e = ap (meant _) e
kind_is BlameSet s v h b p c m a e = ap (meant _) e
kind_is Status s v h b p c m a e = ap (meant _) e

-- with every word taken: the message of the numbers that the fields hold
pub said_good : (k : Kind) (s : List ℕ) (at : ℕ) (v h b p c m a : Part)
    → Own s at k 2 v → Own s v.next k 3 h → Own s h.next k 4 b → Own s b.next k 5 p → Own s p.next k 6 c → Own s c.next k 7 m → Own s m.next k 8 a
    → reads [] (drop a.next s) ≡ got []
    → spoken (number_of k) (drop at s)
    ≡ message (write (makes (number_of k) v.value.fourth h.value.fourth (name_of b.value) (name_of p.value) c.value.fourth m.value.fourth a.value.fourth))
unfolding field_of
said_good k s at v h b p c m a o2 o3 o4 o5 o6 o7 o8 e =
    kind_is k (drop at s) (name_of v.value) (name_of h.value) (name_of b.value) (name_of p.value) (name_of c.value) (name_of m.value) (name_of a.value)
    (o2.goes _ ∙ ap (onto_if (number_of k) 2 _) (o3.goes _ ∙ ap (onto_if (number_of k) 3 _) (o4.goes _ ∙ ap (onto_if (number_of k) 4 _)
    (o5.goes _ ∙ ap (onto_if (number_of k) 5 _) (o6.goes _ ∙ ap (onto_if (number_of k) 6 _) (o7.goes _ ∙ ap (onto_if (number_of k) 7 _)
    (o8.goes [] ∙ ap (onto_if (number_of k) 8 _) e)))))))
    ∙ rw (small_is v.value o2.holds.0, small_is h.value o3.holds.0, small_is c.value o6.holds.0, small_is m.value o7.holds.0, small_is a.value o8.holds.0)
