-- The parts of a loaded station are those of the state that the store holds. Assumes nothing.
use Prim.Native.Nat.{ℕ}
use mathlib.Core.Path.{◌≡◌, sym, ap, ◌∙◌}
use mathlib.Core.List.{List}
use Rattle.settings.specs.Made.{settings_of}
use Rattle.fields.specs.Records.{fields}
use Rattle.words.specs.Meaning.{block_of}
use Rattle.store.specs.Layout.{header_format, statement_table, tally_table, log_table, count_of}
use Rattle.store.specs.Decode.{nth, phase_of, state_from, state_of}
use Rattle.store.specs.Meaning.{course_of, header_of, Loads}
use Rattle.store.specs.declared.Station.{Station}
use Rattle.store.proofs.Values.{number_phase}

module _ (s : Station) (b : List ℕ) (e : Loads s b) where
  part : (i : ℕ) → nth (header_of s) i ≡ nth (fields b 0 header_format) i
  part i = ap (λ (vs : List ℕ). nth vs i) e.header

  pub loaded_settings : settings_of s.settings ≡ (state_of b).settings
  unfolding header_of state_of state_from
  loaded_settings = λ k. record { n = part 1 k; D = part 2 k; own = part 3 k; size = e.size k }

  pub loaded_phase : course_of s.phase ≡ (state_of b).phase
  unfolding header_of state_of state_from
  loaded_phase = sym (number_phase (course_of s.phase)) ∙ ap phase_of (part 0)

  pub loaded_view : s.view ≡ (state_of b).view
  unfolding header_of state_of state_from
  loaded_view = part 4

  pub loaded_entry : s.entry ≡ (state_of b).entry
  unfolding header_of state_of state_from
  loaded_entry = part 5

  pub loaded_clock : s.clock ≡ (state_of b).clock
  unfolding header_of state_of state_from
  loaded_clock = part 6

  pub loaded_lock : block_of s.lock ≡ (state_of b).lock
  unfolding header_of block_of state_of state_from
  loaded_lock = λ k. record { view = part 7 k; height = part 8 k; name = part 9 k; mask = part 10 k }

  pub loaded_statements : s.statements ≡ count_of statement_table b
  unfolding header_of
  loaded_statements = part 11

  pub loaded_tallies : s.tallies ≡ count_of tally_table b
  unfolding header_of
  loaded_tallies = part 12

  pub loaded_logged : s.logged ≡ count_of log_table b
  unfolding header_of
  loaded_logged = part 13
