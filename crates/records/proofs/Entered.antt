-- The header of an entry holds the state that entered. Assumes nothing.
use Prim.Native.Nat.{ℕ, ◌^◌, ◌<◌}
use mathlib.Core.Path.{sym, ◌∙◌, subst}
use mathlib.Core.List.{List}
use native.Mathlib.Omega.{arith}
use Rattle.rules.specs.Words.{in_view}
use Rattle.rules.specs.Inputs.{entering}
use Rattle.fields.specs.Records.{puts, Fit}
use Rattle.fields.proofs.Records.{fit_fields}
use Rattle.words.specs.Meaning.{block_of}
use Rattle.words.specs.declared.Certificate.{Certificate}
use Rattle.store.specs.Layout.{header_format, certificate_format, size_in}
use Rattle.store.specs.Decode.{certificate_values, blames, statements, tallies, names, state_from, state_of, Form, Left}
use Rattle.store.specs.Meaning.{header_of, Loads}
use Rattle.store.specs.declared.Phase.TheVariants.{InView}
use Rattle.store.specs.declared.Station.{Station}
use Rattle.store.proofs.Loaded.{loaded_settings, loaded_clock, loaded_statements, loaded_tallies, loaded_logged}
use Rattle.records.proofs.Changes.{put_station}

pub entered : (b : List ℕ) (k : Form b) (s : Station) → Loads s b → (v : ℕ) (t : Certificate) → v < 256 ^ 4 → Fit certificate_format (certificate_values (block_of t))
    → Left
    (puts b 0 header_format
    (header_of (record { settings = s.settings; phase = InView; view = v; entry = s.clock; clock = s.clock; lock = t; statements = s.statements; tallies = s.tallies; logged = s.logged })))
    (entering v (block_of t) (state_of b))
unfolding header_of block_of entering state_of state_from
entered b k s e v t lv lt =
    let f : Fit header_format (header_of s) = subst (Fit header_format) (sym e.header) (fit_fields b k.bytes 0 header_format) in
    let g = f.1 in
    let clock = g.1.1.1.1.1.0 in
    let counts = g.1.1.1.1.1.1.1.1.1.1 in
    let now : Station = record { settings = s.settings; phase = InView; view = v; entry = s.clock; clock = s.clock; lock = t; statements = s.statements; tallies = s.tallies; logged = s.logged } in
    let h = put_station b k (header_of now) (omega arith, (g.0, (g.1.0, (g.1.1.0, (lv, (clock, (clock, (lt.0, (lt.1.0, (lt.1.1.0, (lt.1.1.1.0, counts)))))))))))
    (loaded_statements s b e) (loaded_tallies s b e) (loaded_logged s b e) in
    let settings = loaded_settings s b e in
    let then = loaded_clock s b e in
    record {
      form = h.form;
      is =
          h.is
          ∙ (λ i. record {
            settings = record { n = (settings i).n; D = (settings i).D; own = (settings i).own; size = size_in b };
            phase = in_view;
            view = v;
            entry = then i;
            clock = then i;
            lock = block_of t;
            statements = statements b;
            tallies = tallies b;
            blames = blames b;
            log = names b;
          });
    }
