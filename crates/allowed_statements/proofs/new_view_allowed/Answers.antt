-- `new_view_allowed` meets its contract: each test is a clause; a link below the view is its last word. Assumes nothing.
use Rattle.allowed_statements.proofs.Tests.{new_view_allowed}
use Rattle.settings.specs.Made.{settings_of}
use native.Mathlib.Omega.{arith}
use Rattle.allowed_statements.proofs.new_view_allowed.Goals as goal

pub returns : goal.returns
returns c =
    rw (c.view_allowed.ensures, c.block_allowed.ensures, c.link_below.ensures, c.certificate_allowed-certificate.ensures, c.leads.ensures)
    (new_view_allowed (settings_of c.args.settings) c.args.statement c.requires (omega (arith, c.well_formed)))
