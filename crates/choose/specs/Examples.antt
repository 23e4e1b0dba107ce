-- Reports and which of them is taken, evaluated together under a single claim. Assumes nothing.
use Rattle.std.specs.Prelude.{◌≡◌, refl, ℕ, suc, Bool, ◌&&◌, List, [], ◌∷◌, ◌++◌, take, drop, eqb}
use Rattle.rules.specs.Limits.{last_view_small}
use Rattle.rules.specs.Messages.{vote, blame, status, write, read}
use Rattle.rules.specs.Script.{failing, same_list}
use Rattle.choose.specs.Choose.{Part, taken_of, chosen}

-- which of two is taken by three stations with the small limits
among : List ℕ → List ℕ → ℕ
unfolding taken_of
among a b = taken_of 0 3 a b

-- a report of a certificate: its view, height and name, voted for by stations 0 and 1
of : ℕ → ℕ → ℕ → List ℕ
unfolding write
of v h b = write (status h b v 3)

genesis : List ℕ
unfolding write
genesis = write (status 0 0 0 0)

-- a message in memory, and whether two parts of memory are the same
at : ℕ → List ℕ → Part
at o bs = ((7, o), bs)

same : Part → Part → Bool
unfolding same_list
same p q = eqb p.0.0 q.0.0 && eqb p.0.1 q.0.1 && same_list p.1 q.1

examples : List Bool
unfolding among of genesis at same taken_of chosen same_list write read
examples =
    -- "equal rank gives the first", whatever the names and masks
    eqb (among (of 1 2 77) (of 1 2 78)) 1 ∷ eqb (among (of 1 2 78) (of 1 2 77)) 1 ∷ eqb (among (of 1 2 77) (write (status 2 77 1 7))) 1
    -- "the one with the higher rank": view, then height
    ∷ eqb (among (of 2 1 77) (of 1 5 78)) 1 ∷ eqb (among (of 1 5 78) (of 2 1 77)) 2 ∷ eqb (among (of 1 5 77) (of 1 6 78)) 2 ∷ eqb (among (of 1 6 78) (of 1 5 77)) 1
    -- certificate view 0 is below every other, also at height 0
    ∷ eqb (among genesis genesis) 1 ∷ eqb (among genesis (write (status 0 0 1 3))) 2 ∷ eqb (among (write (status 0 0 1 3)) genesis) 1
    -- "if only one is readable and allowed": one byte short or long, one voter alone, a view above the limit, certificate view 0 at height 1
    ∷ eqb (among (of 1 2 77) (take 57 (of 2 2 77))) 1 ∷ eqb (among (of 2 2 77 ++ 0 ∷ []) (of 1 2 77)) 2 ∷ eqb (among (write (status 2 77 2 1)) (of 1 2 77)) 2
    ∷ eqb (among (of (suc last_view_small) 2 77) (of 1 2 77)) 2 ∷ eqb (among (of 1 2 77) (write (status 1 77 0 0))) 1
    -- a message of another kind is no report
    ∷ eqb (among (write (vote 2 1 77 0)) (of 1 2 77)) 2 ∷ eqb (among (of 1 2 77) (write (blame 2 0))) 1 ∷ eqb (among (write (vote 2 1 77 0)) (write (blame 2 0))) 0
    -- "if neither"
    ∷ eqb (among [] []) 0 ∷ eqb (among [] (of 1 2 77)) 2 ∷ eqb (among (of (suc last_view_small) 2 77) (of (suc (suc last_view_small)) 2 77)) 0
    -- the kind and n: the large limits take view 33, and no other kind or n takes anything
    ∷ eqb (taken_of 4 3 (of (suc last_view_small) 2 77) (of 1 2 77)) 1 ∷ eqb (taken_of 1 3 (of 1 2 77) (of 2 2 77)) 0 ∷ eqb (taken_of 0 4 (of 1 2 77) (of 2 2 77)) 0
    ∷ eqb (taken_of 0 1 (of 1 2 77) (of 2 2 77)) 0 ∷ eqb (taken_of 0 17 (of 1 2 77) (of 2 2 77)) 0 ∷ eqb (taken_of 0 15 (write (status 2 77 1 255)) (of 2 2 77)) 1
    -- which bytes of which slice
    ∷ same (chosen 0 3 (at 100 (of 1 2 77)) (at 200 (of 2 2 78))) (at 204 (drop 4 (of 2 2 78)))
    ∷ same (chosen 0 3 (at 100 (of 1 2 77)) (at 200 (of 1 2 78))) (at 104 (drop 4 (of 1 2 77)))
    ∷ same (chosen 0 3 (at 100 (of (suc last_view_small) 2 77)) (at 200 [])) (at 100 [])
    -- behind the bytes of kind 6, what is handed back reads as that status
    ∷ same_list (0x01 ∷ 0x00 ∷ 0x01 ∷ 0x06 ∷ (chosen 0 3 (at 100 (of 1 2 77)) (at 200 (of 2 2 78))).1) (of 2 2 78)
    ∷ []

the_examples : failing 1 examples ≡ []
unfolding failing examples
the_examples = refl
