-- `page::Page::say` types the words. The invariant: what is left to be typed gives the whole. Assumes nothing.
use Rattle.std.proofs.Common.{◌≡◌, drop}
use Rattle.page.specs.Page.{typed}
use Rattle.page.proofs.Page.say.Given as goal

abbrev pub invariant-loop-byte : goal.invariant-loop-byte
invariant-loop-byte g l = typed l.fn.self.text l.fn.self.used l.words ≡ typed l.self.text l.self.used (drop l.byte-index l.words)
