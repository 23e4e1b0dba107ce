-- `page::Page::pair` types two digits. Assumes nothing.
use Rattle.page.specs.Page.{typed}
use Rattle.page.proofs.Page.pair.Goals as goal

pub returns : goal.returns
unfolding typed
returns g c = cc
