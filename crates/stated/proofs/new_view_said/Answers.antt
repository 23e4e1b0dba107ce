-- `stated::new_view_said` meets its contract. Assumes nothing.
use Rattle.stated.proofs.Parts.{new_view_said_lem}
use Rattle.settings.specs.Made.{settings_of}
use Rattle.stated.proofs.new_view_said.Goals as goal

pub returns : goal.returns
returns c =
    rw (c.certificate_allowed.ensures, c.all_zero.ensures)
    (new_view_said_lem (settings_of c.args.settings) c.args.store.now c.type_inv.store c.args.at _ _ _ _ c.requires.1.0 c.requires.1.1 c.requires.1.2 c.get-cert.ensures.0)
