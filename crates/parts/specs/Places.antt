-- Fields at places of a line, as the code answers them. Assumes nothing.
use Rattle.std.specs.Prelude.{ℕ, ◌<◌, ◌≤◌, ◌≡◌, List, [], ◌∷◌, length, drop, Result, Ok, Err}
use Rattle.std.proofs.Math.Option.{none, some}
use Rattle.fields.specs.declared.Name.{Name}
use Rattle.fields.specs.Names.{name_of}
use Rattle.parts.specs.Fields.{got, wrong, onto, reads, says, flaw_of, field_of}
use Rattle.parts.specs.declared.Flaw.{Flaw}
use Rattle.parts.specs.declared.Part.{Part}
use Rattle.parts.specs.declared.Sort as sorts
use Rattle.parts.specs.declared.Sort.TheVariants as sort

-- a number of a field is the last word of a name
abbrev pub small : ℕ → Name
small v = record { first = 0; second = 0; third = 0; fourth = v }

abbrev pub Holds : sorts.Sort → Name → Type 0
Holds (sort.Number most) n = (n ≡ small n.fourth) × (n.fourth ≤ most)
Holds sort.Name n = Unit
Holds sort.Mask n = (n ≡ small n.fourth) × (n.fourth < 65536)

-- what a word says as a field of a sort, or what is wrong with it
abbrev pub Says : sorts.Sort → List ℕ → Result Name Flaw → Type 0
Says x w (Ok n) = (says x w ≡ some (name_of n)) × Holds x n
Says x w (Err f) = (says x w ≡ none) × (f ≡ flaw_of x)

-- a field of a tag was read at a place: its value, and the place behind it
pub record Field (s : List ℕ) (at t : ℕ) (p : Part) : Type 0 where
  pub goes : (ts : List ℕ) → reads (t ∷ ts) (drop at s) ≡ onto (name_of p.value) (reads ts (drop p.next s))
  pub inside : p.next ≤ length s
  pub holds : Holds (field_of t).sort p.value

-- the same, or what is wrong, whatever fields stand behind
abbrev pub FieldRead : List ℕ → ℕ → ℕ → Result Part Flaw → Type 0
FieldRead s at t (Ok p) = Field s at t p
FieldRead s at t (Err f) = (ts : List ℕ) → reads (t ∷ ts) (drop at s) ≡ wrong f

-- whether no word is left
abbrev pub Ended : List ℕ → ℕ → Result Unit Flaw → Type 0
Ended s at (Ok x) = reads [] (drop at s) ≡ got []
Ended s at (Err f) = reads [] (drop at s) ≡ wrong f
