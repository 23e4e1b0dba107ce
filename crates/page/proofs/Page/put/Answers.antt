-- `page::Page::put` puts a byte where it goes. Assumes nothing.
use Rattle.std.proofs.Common.{refl}
use Rattle.page.proofs.Typing.{place_behind, place_first}
use Rattle.page.proofs.Page.put.Goals as goal

pub returns-then-self-lt4096 : goal.returns-then-self-lt4096
returns-then-self-lt4096 g c = rw (place_behind _ c.if-self-lt4096.true) (refl, refl)

pub returns : goal.returns
returns g c = rw (place_first _ c.if-self-lt4096.false) (refl, refl)
