-- 02, request 11: "Commits and logs stay as they were", of stores and of what calls answer. Assumes nothing.
use Rattle.std.specs.Prelude.{ℕ, ◌≡◌, List}
use Rattle.std.proofs.Math.Option.{some}
use Rattle.rules.specs.Words.{State}
use Rattle.fields.specs.Places.{Bytes}
use Rattle.store.specs.Decode.{decode}
use Rattle.calls.specs.Calls.{Called}
use Rattle.clocks.specs.Forget.{Alike}

-- two well-formed stores whose states differ in the kept clocks alone
pub record StoresAlike (b c : List ℕ) : Type 0 where
  pub bytes : Bytes b × Bytes c
  pub one : State
  pub other : State
  pub holds : (decode b ≡ some one) × (decode c ≡ some other)
  pub alike : Alike one other

-- two calls with the same result and the same out buffer, whose stores differ in the kept clocks alone
pub record CallsAlike (x y : Called) : Type 0 where
  pub result : x.result ≡ y.result
  pub out : x.out ≡ y.out
  pub store : StoresAlike x.store y.store
