-- Every number of a well-formed state fits its field of the store, every table its room. Assumes nothing.
use Prim.Native.Nat.{ℕ, suc, ◌^◌, ◌<◌}
use mathlib.Core.Path.{◌≡◌, refl, sym, ap}
use mathlib.Core.Bool.{Bool, true, false}
use mathlib.Core.List.Memᴰ.{head as here}
use mathlib.Core.List.Memᴰ.{tail as there}
use mathlib.Core.List.{List, [], ◌∷◌, Memᴰ as Mem}
use mathlib.Core.Option.{Option, none, some}
use native.Mathlib.Omega.{arith}
use lib.Dec.{eqb}
use lib.ListN.{length, drop}
use borrow.Author.Tests.{eqb-true}
use Rattle.rules.specs.Limits.{last_view}
use Rattle.rules.specs.Lists.{all}
use Rattle.rules.specs.Sizes.{Settings}
use Rattle.rules.specs.Words.{Statement, Opener, Tally, Phase, in_view, waiting, stopped, full, split, clock, State}
use Rattle.rules.specs.Inputs.{is_block}
use Rattle.rules.specs.WellFormed.{is_mask, blames_good, linked, well_formed}
use Rattle.laws.proofs.Bounds.{statements_most, tallies_most}
use Rattle.laws.proofs.Tests.{no_bool, and_left}
use Rattle.laws.proofs.Truths.{and_3}
use Rattle.laws.proofs.Allowed.{Sizes, mask_lt, mask_small}
use Rattle.fields.specs.Records.{Fit}
use Rattle.kept.specs.Parts.{WellFormed, Formed}
use Rattle.kept.proofs.WellFormed.{parts}
use Rattle.kept.proofs.Tables.{is_above}
use Rattle.kept.proofs.Lists.{all_mem, any_find}
use Rattle.kept.proofs.Logs.{block_parts, linked_cons}
use Rattle.kept.proofs.Facts.{sizes_of, clocks_of, view_of, lock_of, statement_of_lem, statement_limits, vote_clock, tally_of_lem, tally_limits, opener_below, reached_clock, lock_limits, log_length}
use Rattle.store.specs.Layout.{header_format, statement_format, tally_format, mask_format, name_format}
use Rattle.store.specs.Decode.{phase_number, kind_number, statement_values, tally_values, header_values}
use Rattle.tallies.specs.Values.{vote_number, opener_number, reached_number}
use Rattle.oneform.proofs.ReadBack.{Each}
use Rattle.oneform.proofs.Decoded.{Fitted}

each_mem : {A : Type 0} (P : A → Type 0) (xs : List A) → ((x : A) → Mem x xs → P x) → Each P xs
each_mem P [] h = tt
each_mem P (x ∷ xs) h = (h x (here refl), each_mem P xs (λ y m. h y (there m)))

kind_fits : (b : Bool) → kind_number b < 256
kind_fits true = omega arith
kind_fits false = omega arith

module _ {s : State} (w : WellFormed s) where
  abbrev f : Formed s
  f = w.formed

  phase_fits : (p : Phase) → s.phase ≡ p → phase_number p < 256 ^ 4
  phase_fits in_view e = omega arith
  phase_fits (waiting q) e = let c = clocks_of f in omega (arith, (c.waited q e).1)
  phase_fits (stopped full) e = omega arith
  phase_fits (stopped split) e = omega arith
  phase_fits (stopped clock) e = omega arith

  vote_fits : (x : Statement) → Mem x s.statements → (v : Option ℕ) → x.voted ≡ v → vote_number v < 256 ^ 4
  vote_fits x m none e = omega arith
  vote_fits x m (some c) e = let k = clocks_of f in omega (arith, vote_clock f x m c e)

  header_fits : Fit header_format (header_values s)
  unfolding header_values
  header_fits =
      let g = sizes_of f in
      let c = clocks_of f in
      let v = view_of f in
      let t = lock_limits f in
      let m = w.few_statements in
      let n = w.few_tallies in
      let l = log_length w in
      let ms = statements_most s.settings.size in
      let ts = tallies_most s.settings.size in
      (phase_fits s.phase refl, (omega arith, (omega arith, (omega arith, (omega arith, (omega arith, (omega arith, (omega arith, (omega arith, ((lock_of f).name, (omega arith, (omega arith, (omega arith, (omega arith, tt))))))))))))))

  statement_fits : (x : Statement) → Mem x s.statements → Fit statement_format (statement_values x)
  statement_fits x m =
      let d = statement_of_lem f x m in
      let l = statement_limits f x m in
      let g = sizes_of f in
      (omega arith, (omega arith, (d.name, (kind_fits x.is_new_view, (omega arith, (omega arith, (d.link, (vote_fits x m x.voted refl, tt))))))))

  opener_fits : (t : Tally) → Mem t s.tallies → (k : Opener) → t.opener ≡ k → opener_number k < 256
  opener_fits t m none e = omega arith
  opener_fits t m (some a) e = let g = sizes_of f in omega (arith, opener_below f t m a e)

  reached_fits_lem : (t : Tally) → Mem t s.tallies → (r : Option ℕ) → t.reached ≡ r → reached_number r < 256 ^ 4
  reached_fits_lem t m none e = omega arith
  reached_fits_lem t m (some c) e = let k = clocks_of f in omega (arith, reached_clock f t m c e)

  tally_fits : (t : Tally) → Mem t s.tallies → Fit tally_format (tally_values t)
  tally_fits t m =
      let l = tally_limits f t m in
      (omega arith, (omega arith, ((tally_of_lem f t m).name, (omega arith, (opener_fits t m t.opener refl, (reached_fits_lem t m t.reached refl, tt))))))

  name_fits : (b h parent : ℕ) (l : List ℕ) → linked s.statements h parent (b ∷ l) ≡ true → Fit name_format (b ∷ [])
  name_fits b h parent l e =
      let (x, m, a) = any_find (is_above (suc h) b parent) s.statements (linked_cons s.statements h parent b l e).0 in
      let n = (block_parts (suc h) b x (and_left (is_block (suc h) b x) (eqb parent x.link) a)).2 in
      (rw n (statement_of_lem f x m).name, tt)

  names_fit : (h parent : ℕ) (l : List ℕ) → linked s.statements h parent l ≡ true → Each (λ b. Fit name_format (b ∷ [])) l
  names_fit h parent [] e = tt
  names_fit h parent (b ∷ l) e = (name_fits b h parent l e, names_fit (suc h) b l (linked_cons s.statements h parent b l e).1)

-- ---- the blame masks

pub record Masks (g : Settings) (ms : List ℕ) : Type 0 where
  pub fit : Each (λ m. Fit mask_format (m ∷ [])) (drop 1 ms)
  pub views : length (drop 1 ms) ≡ last_view g.size
  pub none : 0 ∷ drop 1 ms ≡ ms

masks : (g : Settings) → Sizes g → (ms : List ℕ) → blames_good g ms ≡ true → Masks g ms
unfolding blames_good
masks g k [] e = no_bool (sym e)
masks g k (m ∷ ms) e =
    let (first, views, fit) = and_3 (eqb m 0) (eqb (length ms) (last_view g.size)) (all (is_mask g) ms) e in
    record {
      fit =
          each_mem (λ n. Fit mask_format (n ∷ [])) ms
          (λ n i. let l = mask_small {m = n} k (mask_lt g n (all_mem (is_mask g) fit i)) in (omega arith, tt));
      views = eqb-true (length ms) (last_view g.size) views;
      none = ap (◌∷ ms) (sym (eqb-true m 0 first));
    }

pub fitted : (s : State) → well_formed s ≡ true → Fitted s
fitted s e =
    let w = parts s e in
    let m = masks s.settings (sizes_of w.formed) s.blames w.formed.blames in
    record {
      header = header_fits w;
      statements = each_mem (λ x. Fit statement_format (statement_values x)) s.statements (statement_fits w);
      tallies = each_mem (λ t. Fit tally_format (tally_values t)) s.tallies (tally_fits w);
      masks = m.fit;
      names = names_fit w 0 0 s.log w.formed.tables.log;
      few_statements = w.few_statements;
      few_tallies = w.few_tallies;
      few_names = log_length w;
      views = m.views;
      none_blamed = m.none;
    }
