-- The reader as the logic has it, for the walks by hand: its type and laws at a lifetime, and its fields' values. Assumes nothing.
use base.Fml.{Lft}
use denote.Signature.{named_lft}
use denote.Struct.Declared.{Declared}
use denote.Struct.Laws as LL
use denote.Struct.Values.{Values}
use Rattle.reader.specs.declared.Reader.{Reader}
use Rattle.reader.specs.contracts.Reader as T
use Rattle.reader.proofs.Reader.TheLaws as T'

module _ (κ : Lft) where
  abbrev pub D : Declared
  D = T.the_type (named_lft 1 0 tt (κ, tt))

  abbrev pub L : LL.Laws D
  L = T'.the_laws (named_lft 1 0 tt (κ, tt))

  abbrev pub vd : Reader → Values D.parts
  vd d = (d.message, (d.cursor, tt))
