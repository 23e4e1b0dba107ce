-- `page::Page::bytes` types the bytes in hex. The invariant: the digits that are left give the whole. Assumes nothing.
use Rattle.std.proofs.Common.{◌≡◌, drop}
use Rattle.page.specs.Page.{typed, pairs}
use Rattle.page.proofs.Page.bytes.Given as goal

abbrev pub invariant-loop-byte : goal.invariant-loop-byte
invariant-loop-byte g l =
    typed l.fn.self.text l.fn.self.used (pairs l.shown) ≡ typed l.self.text l.self.used (pairs (drop l.byte-index l.shown))
