-- `replay::write_head` meets its contract: one number after another. Assumes nothing.
use mathlib.Core.Path.{◌∙◌, ap}
use mathlib.Core.List.{List}
use Prim.Native.Nat.{ℕ}
use Rattle.fields.specs.Places.{put}
use Rattle.replay.proofs.write_head.Goals as goal

pub returns : goal.returns
returns c =
    let a = c.args in
    let the-put = c.put in let put2 = c.put-2 in
    c.put-3.ensures ∙ ap (λ (x : List ℕ). put x 8 4 a.torn) (put2.ensures ∙ ap (λ (x : List ℕ). put x 4 4 a.place) the-put.ensures)
