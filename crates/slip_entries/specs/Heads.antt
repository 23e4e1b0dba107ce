-- An entry by its places: every propose has the same heads of fields, so its numbers stand at fixed bytes. Assumes nothing.
use Rattle.std.specs.Prelude.{ℕ, ◌+◌, Bool, false, ◌&&◌, List, eqb}
use Rattle.std.proofs.Math.Option.{none}
use Rattle.fields.specs.Places.{number}
use Rattle.rules.specs.Words.{Statement}

-- tag 41; then kind 2 with the head of the view, and the heads of height, name, parent, mask and author
unfoldable pub heads_stand : List ℕ → ℕ → Bool
heads_stand s at =
    eqb (number s at 3) 0x410061 && eqb (number s (at + 3) 7) 0x01000102020004 && eqb (number s (at + 14) 3) 0x030004 && eqb (number s (at + 21) 3) 0x040020
    && eqb (number s (at + 56) 3) 0x050020 && eqb (number s (at + 91) 3) 0x070002 && eqb (number s (at + 96) 3) 0x080001

-- the propose whose numbers stand between them
unfoldable pub propose_at : List ℕ → ℕ → Statement
propose_at s at =
    record {
      is_new_view = false;
      view = number s (at + 10) 4;
      height = number s (at + 17) 4;
      name = number s (at + 24) 32;
      link = number s (at + 59) 32;
      mask = number s (at + 94) 2;
      author = number s (at + 99) 1;
      voted = none;
    }
