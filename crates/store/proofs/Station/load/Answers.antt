-- `Station::load` meets its contract: each field is the number at its place, and the lock is a certificate. Assumes nothing.
use Rattle.store.proofs.Values.{phase_number_lem}
use Rattle.store.specs.Meaning.{course_of, header_of}
use Rattle.store.specs.Decode.{phase_number}
use Rattle.rules.specs.Words.{Certificate}
use Rattle.fields.specs.Places.{number}
use Rattle.words.specs.Meaning.{block_of}
use mathlib.Core.Path.{◌≡◌, ap, ◌∙◌}
use Rattle.store.proofs.Station.load.Goals as goal

pub returns : goal.returns
unfolding header_of block_of
returns c =
    let p : phase_number (course_of c.phase_of-phase.result) ≡ number c.args.store.now 0 4 =
    ap phase_number c.phase_of-phase.ensures ∙ phase_number_lem _ ∙ c.get_four.ensures in
    let t = c.get_certificate-lock.ensures in
    record {
      header = rw (
        p,
        c.get-n.ensures.0,
        c.get-delay.ensures.0,
        c.get-own.ensures.0,
        c.get_four-view.ensures,
        c.get_four-entry.ensures,
        c.get_four-clock.ensures,
        ap (λ (x : Certificate). x.view) t,
        ap (λ (x : Certificate). x.height) t,
        ap (λ (x : Certificate). x.name) t,
        ap (λ (x : Certificate). x.mask) t,
        c.get_count-statements.ensures.0,
        c.get_count-tallies.ensures.0,
        c.get_count-logged.ensures.0,
      );
      size = c.size_in-size.ensures;
    }
