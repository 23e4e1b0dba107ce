-- The three numbers of what a well-formed station shows read back from their bytes. Assumes nothing.
use mathlib.Core.Path.{◌≡◌}
use Prim.Native.Nat.{◌+◌, ◌*◌}
use native.Mathlib.Omega.{arith}
use mathlib.Core.Bool.{true}
use mathlib.Core.List.{Memᴰ as Mem}
use Rattle.rules.specs.Lists.{be, unbe}
use Rattle.rules.specs.Words.{State}
use Rattle.rules.specs.WellFormed.{well_formed}
use Rattle.rules.specs.Display.{Shown, due_clock, shown, display, twos, signed}
use Rattle.laws.proofs.Bytes.{be_unbe}
use Rattle.kept.proofs.WellFormed.{parts}
use Rattle.kept.proofs.Facts.{sizes_of, clocks_of, statement_of_lem, statement_limits, vote_clock}
use Rattle.display.proofs.Shown.{shows}
use Rattle.display.proofs.Numbers.{ticks_left_read_back}

pub shown_read_back : (s : State) → well_formed s ≡ true → (z : Shown) → Mem z (display s)
    → (be (unbe 4 z.height) ≡ z.height) × (be (unbe 32 z.name) ≡ z.name) × (signed (be (unbe 8 (twos z.ticks_left))) ≡ z.ticks_left)
unfolding display shown due_clock
shown_read_back s w z m =
    let f = (parts s w).formed in
    let k = shows s s.statements z m in
    let x = k.what in
    let h = (statement_limits f x k.stored).2 in
    let n = (statement_of_lem f x k.stored).name in
    let v = vote_clock f x k.stored k.vote k.voted in
    let c = (clocks_of f).last in
    let d = (sizes_of f).mostD in
    rw k.is
    (be_unbe 4 x.height (omega arith), be_unbe 32 x.name n, ticks_left_read_back (k.vote + 2 * s.settings.D + 1) s.clock (omega arith) (omega arith))
