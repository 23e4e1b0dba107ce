-- docs/SCRIPT.md, 'Lines': the fields, and what the words of a line say as fields. Assumes nothing.
use Rattle.std.specs.Prelude.{ℕ, ◌-◌, ◌^◌, true, false, List, [], ◌∷◌, get_or}
use Prim.Native.String.{String}
use Rattle.std.proofs.Math.Option.{Option, none, some}
use Rattle.rules.specs.Script.{same_list}
use Rattle.text.specs.Words.{bytes, word, rest, no_word, decimal, name, mask}
use Rattle.parts.specs.declared.Flaw.{Flaw}
use Rattle.parts.specs.declared.Flaw.TheVariants as flaw
use Rattle.parts.specs.declared.Sort.{Sort}
use Rattle.parts.specs.declared.Sort.TheVariants.{Number, Name, Mask}

-- ---- fields

-- what a word says as a field of a sort, and what is wrong with a word that says nothing
unfoldable pub says : Sort → List ℕ → Option ℕ
unfolding decimal name mask
says (Number most) w = decimal most w
says Name w = name w
says Mask w = mask w

unfoldable pub flaw_of : Sort → Flaw
flaw_of (Number most) = flaw.Number
flaw_of Name = flaw.Name
flaw_of Mask = flaw.Mask

-- a field: the word in small letters that may stand before it, and its sort
pub record Field : Type 0 where
  pub label : List ℕ
  pub sort : Sort

unfoldable pub labelled : String → Sort → Field
unfolding bytes
labelled t x = record { label = bytes t; sort = x }

-- "N, D, OWN and K are below 2^64, a view, a height and a certificate view below 2^32, a station below 256"
unfoldable pub below : ℕ → Sort
below limit = Number (limit - 1)

unfoldable pub plain : Field
unfolding labelled below
plain = labelled "" (below (2 ^ 64))

-- the fields of a message by their tags on the wire; those of `fresh` and `tick` have tag 0
unfoldable pub fields : List Field
unfolding plain labelled below
fields =
    plain ∷ plain ∷ labelled "view" (below (2 ^ 32)) ∷ labelled "height" (below (2 ^ 32)) ∷ labelled "name" Name
    ∷ labelled "parent" Name ∷ labelled "certificate" (below (2 ^ 32)) ∷ labelled "mask" Mask ∷ labelled "author" (below (2 ^ 8)) ∷ []

unfoldable pub field_of : ℕ → Field
unfolding fields plain
field_of t = get_or fields t plain

-- ---- reading

-- the numbers or the bytes that some words say, or what is wrong
pub data Got : Type 0 where
  got : List ℕ → Got
  wrong : Flaw → Got

unfoldable pub onto : ℕ → Got → Got
onto v (got vs) = got (v ∷ vs)
onto v (wrong f) = wrong f

-- "may be left out, each by itself"
unfoldable pub unlabelled : List ℕ → List ℕ → List ℕ
unfolding same_list word rest
unlabelled l s = elim (same_list (word s) l) [ true ↦ rest s | false ↦ s ]

-- these fields, and then no word
unfoldable pub reads : List ℕ → List ℕ → Got
unfolding no_word unlabelled field_of word rest says flaw_of onto
reads [] s = elim (no_word s) [ true ↦ got [] | false ↦ wrong flaw.Extra ]
reads (t ∷ ts) s =
    let r = unlabelled (field_of t).label s in
    elim (no_word r) [
      | true ↦ wrong flaw.Missing
      | false ↦ elim (says (field_of t).sort (word r)) [ none ↦ wrong (flaw_of (field_of t).sort) | some v ↦ onto v (reads ts (rest r)) ]
    ]
