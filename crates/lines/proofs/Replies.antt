-- Whole lines: the order of a first word, what is answered, and what is left of the buffer. Assumes nothing.
use Prim.Native.Nat.{ℕ, zero, suc, ◌+◌, ◌-◌, ◌<◌, ◌≤◌}
use mathlib.Core.Path.{◌≡◌, refl, sym, ap, ◌∙◌}
use mathlib.Core.Bool.{Bool, true, false}
use mathlib.Core.List.{List, [], ◌∷◌, ◌++◌}
use native.Mathlib.Omega.{arith}
use native.Mathlib.Nat.{add-zero, zero-add, add-suc, suc-add}
use lib.ListN.{length, take, drop, get_or, get_or-eq_default}
use lib.Dec.{leb}
use borrow.Author.Tests.{le-leb, lt-leb, leb-true, leb-false}
use Rattle.rules.specs.Lists.{unbe}
use Rattle.rules.specs.Script.{same_list}
use Rattle.laws.proofs.Tests.{by_bool}
use Rattle.fields.specs.Names.{name_of}
use Rattle.outgoing.specs.Wrote.{wrote}
use Rattle.outgoing.specs.Wrote as written
use Rattle.outgoing.proofs.Writing.{length_wrote}
use Rattle.text.specs.Words.{bytes, word, rest, no_word, pairs, is_bytes}
use Rattle.parts.specs.Fields.{Got, got, wrong, onto, reads, field_of}
use Rattle.lines.specs.Script.{freshened, ticked, alone, hex, hexed, slipped, certified, chosen, Meaning, blank, fresh, tick, given, message, log, state, display, bad, meant, Order, orders, ordered, line_of}
use Rattle.text.specs.Places.{WordOf, Lists, placed}
use Rattle.text.specs.declared.Span.{Span}
use Rattle.text.proofs.Runs.{word_some}
use Rattle.parts.specs.Places.{Field}
use Rattle.lines.specs.Answers.{answer, fill, left, filled, Reads, WritesNothing, or_bad}
use Rattle.parts.specs.declared.Flaw.{Flaw}
use Rattle.parts.specs.declared.Flaw.TheVariants as flaw
use Rattle.lines.specs.declared.What.{What}
use Rattle.lines.specs.declared.What.TheVariants.{Message, Slip, Certified, Choose}
use Rattle.lines.specs.declared.Line.{Line}
use Rattle.lines.specs.declared.Line.TheVariants.{Blank, Fresh, Tick, Bytes, Log, State, Display, Bad}
use Rattle.std.proofs.Common.{Result, IsErr, IsErrAnd}
use Rattle.parts.specs.declared.Part.{Part}
use Rattle.parts.proofs.Fields.{small_is, ends_none, ends_extra, gives}
use Rattle.lines.proofs.Messages.{meant_wrong}

-- ---- first words

unfoldable pub firsts : List Order → List (List ℕ)
firsts [] = []
firsts (o ∷ os) = o.first ∷ firsts os

unfoldable pub meanings : List Order → List ℕ → List Meaning
meanings [] s = []
meanings (o ∷ os) s = o.means s ∷ meanings os s

-- the order in a place, counted from 1
unfoldable pub means_of : ℕ → List ℕ → Meaning
means_of zero s = bad flaw.Word
means_of (suc i) s = get_or (meanings orders s) i (bad flaw.Word)

data Picked (os : List Order) (w s : List ℕ) (j p : ℕ) : Type 0 where
  nothing : p ≡ 0 → ordered os w s ≡ bad flaw.Word → Picked os w s j p
  picked : (i : ℕ) → p ≡ suc (j + i) → ordered os w s ≡ get_or (meanings os s) i (bad flaw.Word) → Picked os w s j p

pick : (os : List Order) (w s : List ℕ) (j : ℕ) → Picked os w s j (placed (suc j) (firsts os) w)
unfolding ordered placed firsts meanings
pick [] w s j = nothing refl refl
pick (o ∷ os) w s j =
    by_bool (same_list o.first w)
    (λ e. picked 0 (rw (e, placed) (ap suc (sym (add-zero j)))) (rw (e, ordered)))
    (λ e. later e (pick os w s (suc j)))
  where
    later : same_list o.first w ≡ false → Picked os w s (suc j) (placed (suc (suc j)) (firsts os) w) → Picked (o ∷ os) w s j (placed (suc j) (firsts (o ∷ os)) w)
    later e (nothing p q) = nothing (rw (e, placed) p) (rw (e, ordered) q)
    later e (picked i p q) = picked (suc i) (rw (e, placed) (p ∙ ap suc (suc-add j i ∙ sym (add-suc j i)))) (rw (e, ordered) q)

of_picked : (w s : List ℕ) (k : ℕ) → Picked orders w s 0 k → ordered orders w s ≡ means_of k s
unfolding means_of
of_picked w s k (nothing p q) = q ∙ sym (ap (λ (n : ℕ). means_of n s) p)
of_picked w s k (picked i p q) = q ∙ sym (ap (λ (n : ℕ). means_of n s) (p ∙ ap suc (zero-add i)))

-- the table as the code has it
pub first_words : Lists (firsts orders) (bytes "new-view propose vote blame blame-set status fresh tick message offer log state display envelope choose slip certified")
unfolding firsts orders bytes word rest no_word
first_words =
    (refl, refl, (refl, refl, (refl, refl, (refl, refl, (refl, refl, (refl, refl, (refl, refl, (refl, refl, (refl, refl, (refl, refl, (refl, refl, (refl, refl, (refl, refl, (refl, refl, (refl, refl, (refl, refl, (refl, refl, refl)))))))))))))))))

module _ (s : List ℕ) where
  pub line_blank : no_word s ≡ true → line_of s ≡ blank
  unfolding line_of
  line_blank e = rw (e, line_of)

  pub line_order : (k : ℕ) → no_word s ≡ false → ((ws : List (List ℕ)) → Lists ws (bytes "new-view propose vote blame blame-set status fresh tick message offer log state display envelope choose slip certified") → k ≡ placed 1 ws (word s))
      → line_of s ≡ means_of k (rest s)
  unfolding line_of
  line_order k e h =
      let p : k ≡ placed 1 (firsts orders) (word s) = h (firsts orders) first_words in
      rw (e, line_of) (of_picked (word s) (rest s) k (rw (← p) at (pick orders (word s) (rest s) 0)))

-- the same as the code finds it: the first word is there, and it is word k of the table
pub line_means : {s : List ℕ} {w : Span} {k : ℕ} → WordOf s s w → (w.start ≡ w.end → ⊥)
    → ((ws : List (List ℕ)) → Lists ws (bytes "new-view propose vote blame blame-set status fresh tick message offer log state display envelope choose slip certified") → k ≡ placed 1 ws (take (w.end - w.start) (drop w.start s)))
    → (j : ℕ) → k ≡ j → line_of s ≡ means_of j (drop w.end s)
line_means {s} {w} {k} r n h j e =
    line_order s k (word_some r n) (λ ws l. rw r.is at (h ws l)) ∙ ap (λ (i : ℕ). means_of i (rest s)) e ∙ ap (means_of j) (sym r.after)

pub means_other : (k : ℕ) (s : List ℕ) → (1 ≤ k → k ≤ 17 → ⊥) → means_of k s ≡ bad flaw.Word
unfolding means_of meanings orders
means_other zero s n = refl
means_other (suc i) s n =
    get_or-eq_default (meanings orders s) (bad flaw.Word) {n = i} (by_bool (leb (suc i) 17) (λ e. absurd (n (omega arith) (leb-true (suc i) 17 e))) (λ e. omega (arith, leb-false (suc i) 17 e)))

-- ---- what is answered

answer_fits : (n : ℕ) (m : Meaning) → filled (answer n m) ≤ n
unfolding answer
answer_fits n blank = omega arith
answer_fits n (fresh a d o) = omega arith
answer_fits n (tick k) = omega arith
answer_fits n (given x bs) =
    by_bool (leb (length bs) n) (λ e. rw (e, answer) (leb-true (length bs) n e)) (λ e. rw (e, answer) (omega arith))
answer_fits n log = omega arith
answer_fits n state = omega arith
answer_fits n display = omega arith
answer_fits n (bad f) = omega arith

length_fill : (o bs : List ℕ) → length (fill o bs) ≡ length o
unfolding fill
length_fill o bs = by_bool (leb (length bs) (length o)) (λ e. rw (e, fill) (length_wrote o 0 bs)) (λ e. rw (e, fill))

length_left : (o : List ℕ) (m : Meaning) → length (left o m) ≡ length o
unfolding left
length_left o blank = refl
length_left o (fresh n d own) = refl
length_left o (tick k) = refl
length_left o (given x bs) = length_fill o bs
length_left o log = refl
length_left o state = refl
length_left o display = refl
length_left o (bad f) = refl

pub answered : (m : Meaning) (o o' : List ℕ) (r : Line) → r ≡ answer (length o) m → o' ≡ left o m → Reads m o o' r
answered m o o' r a b =
    record { is = a; out = b; fits = rw a (answer_fits (length o) m); kept = ap length b ∙ length_left o m }

pub reads_as : (m n : Meaning) (o o' : List ℕ) (r : Line) → m ≡ n → Reads n o o' r → Reads m o o' r
reads_as m n o o' r e h = rw e h

-- one that leaves the buffer alone
pub unchanged : (m n : Meaning) (o : List ℕ) (r : Line) → WritesNothing m r → n ≡ m → Reads n o o r
unchanged m n o r s e = rw e (answered m o o r (s.is (length o)) (sym (s.still o)))

-- a line with bytes, where there is room for them and where there is none
module _ (bs o : List ℕ) where
  pub fill_long : length o < length bs → fill o bs ≡ o
  unfolding fill
  fill_long h = rw (lt-leb (length bs) (length o) h, fill)

  pub fill_good : length bs ≤ length o → fill o bs ≡ wrote o 0 bs
  unfolding fill
  fill_good h = rw (le-leb (length bs) (length o) h, fill)

  module _ (x : What) where
    bytes_long : length o < length bs → answer (length o) (given x bs) ≡ Bad flaw.Long
    unfolding answer
    bytes_long h = rw (lt-leb (length bs) (length o) h, answer)

    pub bytes_good : length bs ≤ length o → answer (length o) (given x bs) ≡ Bytes x (length bs)
    unfolding answer
    bytes_good h = rw (le-leb (length bs) (length o) h, answer)

    module _ (m : Meaning) (e : m ≡ given x bs) where
      pub too_long : length o < length bs → Reads m o o (Bad flaw.Long)
      unfolding left
      too_long h = rw e (answered (given x bs) o o _ (sym (bytes_long h)) (sym (fill_long h)))

      pub written_good : length bs ≤ length o → (o' : List ℕ) (n : ℕ) → n ≡ length bs → o' ≡ wrote o 0 bs → Reads m o o' (Bytes x n)
      unfolding left
      written_good h o' n p q = rw e (answered (given x bs) o o' _ (ap (Bytes x) p ∙ sym (bytes_good h)) (q ∙ sym (fill_good h)))

  -- a message in words
  pub spoken_good : (m : Meaning) → m ≡ message bs → length bs ≤ length o → (o' : List ℕ) (n : ℕ) → written.Says o 0 bs o' n → Reads m o o' (Bytes Message n)
  spoken_good m e h o' n s = written_good Message m e h o' n (s.ends ∙ omega arith) s.out

-- ---- lines that leave the buffer alone

module _ (m : Meaning) where
  pub nothing_bad : (f : Flaw) → m ≡ bad f → WritesNothing m (Bad f)
  unfolding answer left
  nothing_bad f e = rw e (record { is = λ _. refl; still = λ _. refl })

  pub nothing_fresh : (n d own : ℕ) → m ≡ fresh n d own → WritesNothing m (Fresh n d own)
  unfolding answer left
  nothing_fresh n d own e = rw e (record { is = λ _. refl; still = λ _. refl })

  pub nothing_tick : (k : ℕ) → m ≡ tick k → WritesNothing m (Tick k)
  unfolding answer left
  nothing_tick k e = rw e (record { is = λ _. refl; still = λ _. refl })

  pub nothing_log : m ≡ log → WritesNothing m Log
  unfolding answer left
  nothing_log e = rw e (record { is = λ _. refl; still = λ _. refl })

  pub nothing_state : m ≡ state → WritesNothing m State
  unfolding answer left
  nothing_state e = rw e (record { is = λ _. refl; still = λ _. refl })

  pub nothing_display : m ≡ display → WritesNothing m Display
  unfolding answer left
  nothing_display e = rw e (record { is = λ _. refl; still = λ _. refl })

  pub nothing_blank : m ≡ blank → WritesNothing m Blank
  unfolding answer left
  nothing_blank e = rw e (record { is = λ _. refl; still = λ _. refl })

-- what is wrong, handed on
pub nothing_refused : {m : Meaning} (r : Result Line Flaw) {f : Flaw} → IsErr r × IsErrAnd r (λ e. e ≡ f) → m ≡ bad f → WritesNothing m (or_bad r)
nothing_refused {m} r {f} h e = rw (gives r f h) (nothing_bad m f e)

pub refused : {m : Meaning} {o : List ℕ} (r : Result Line Flaw) {f : Flaw} → IsErr r × IsErrAnd r (λ e. e ≡ f) → m ≡ bad f → Reads m o o (or_bad r)
refused {m} {o} r {f} h e = unchanged m m o (or_bad r) (nothing_refused r h e) refl

-- the numbers of `fresh` and of `tick`
pub fresh_wrong : (t : List ℕ) (f : Flaw) → reads (0 ∷ 0 ∷ 0 ∷ []) t ≡ wrong f → freshened t ≡ bad f
unfolding freshened
fresh_wrong t f e = meant_wrong _ _ f e

pub fresh_good : {s : List ℕ} {at : ℕ} {n d o : Part} → Field s at 0 n → Field s n.next 0 d → Field s d.next 0 o → reads [] (drop o.next s) ≡ got []
    → freshened (drop at s) ≡ fresh n.value.fourth d.value.fourth o.value.fourth
unfolding freshened onto meant field_of
fresh_good {n = n} {d = d} {o = o} a b c e =
    ap (meant (λ vs. fresh (get_or vs 0 0) (get_or vs 1 0) (get_or vs 2 0))) (a.goes (0 ∷ 0 ∷ []) ∙ ap (onto (name_of n.value)) (b.goes (0 ∷ []) ∙ ap (onto (name_of d.value)) (c.goes [] ∙ ap (onto (name_of o.value)) e)))
    ∙ rw (small_is n.value a.holds.0, small_is d.value b.holds.0, small_is o.value c.holds.0)

pub tick_one : (s : List ℕ) → no_word s ≡ true → ticked s ≡ tick 1
unfolding ticked
tick_one s e = rw (e, ticked)

module _ (s : List ℕ) (at : ℕ) (w : no_word (drop at s) ≡ false) where
  pub tick_wrong : (f : Flaw) → reads (0 ∷ []) (drop at s) ≡ wrong f → ticked (drop at s) ≡ bad f
  unfolding ticked
  tick_wrong f e = rw (w, ticked) (meant_wrong _ _ f e)

  pub tick_good : {n : Part} → Field s at 0 n → reads [] (drop n.next s) ≡ got [] → ticked (drop at s) ≡ tick n.value.fourth
  unfolding ticked onto meant field_of
  tick_good {n = n} a e =
      rw (w, ticked) (ap (meant (λ vs. tick (get_or vs 0 0))) (a.goes [] ∙ ap (onto (name_of n.value)) e) ∙ ap tick (small_is n.value a.holds.0))

-- a line of one word
pub alone_good : (m : Meaning) (t : List ℕ) → reads [] t ≡ got [] → alone m t ≡ m
unfolding alone meant
alone_good m t e = ap (meant (λ _. m)) e

pub alone_wrong : (m : Meaning) (t : List ℕ) (f : Flaw) → reads [] t ≡ wrong f → alone m t ≡ bad f
unfolding alone
alone_wrong m t f e = meant_wrong _ _ f e

-- ---- hex

module _ (t : List ℕ) where
  pub hex_missing : no_word t ≡ true → hex t ≡ wrong flaw.Missing
  unfolding hex
  hex_missing e = rw (e, hex)

  pub hex_not : no_word t ≡ false → is_bytes (word t) ≡ false → hex t ≡ wrong flaw.Hex
  unfolding hex
  hex_not e f = rw (e, f, hex)

  pub hex_rest : no_word t ≡ false → is_bytes (word t) ≡ true → (n : Bool) → no_word (rest t) ≡ n → hex t ≡ elim n [ true ↦ got (pairs (word t)) | false ↦ wrong flaw.Extra ]
  unfolding hex
  hex_rest e f true g = rw (e, f, g, hex)
  hex_rest e f false g = rw (e, f, g, hex)

-- with no word behind it, or one too many
module _ (t : List ℕ) (e : no_word t ≡ false) (f : is_bytes (word t) ≡ true) where
  pub hex_good : reads [] (rest t) ≡ got [] → hex t ≡ got (pairs (word t))
  hex_good g =
      by_bool (no_word (rest t)) (λ q. hex_rest t e f true q)
      (λ q. let z : got [] ≡ wrong flaw.Extra = sym g ∙ ends_extra (rest t) q in let y : ◌≡◌ {A = ℕ} 0 1 = cc in absurd (omega arith))

  pub hex_more : (d : Flaw) → reads [] (rest t) ≡ wrong d → hex t ≡ wrong d
  hex_more d g =
      by_bool (no_word (rest t))
      (λ q. let z : wrong d ≡ got [] = sym g ∙ ends_none (rest t) q in let y : ◌≡◌ {A = ℕ} 0 1 = cc in absurd (omega arith))
      (λ q. hex_rest t e f false q ∙ sym (sym g ∙ ends_extra (rest t) q))

-- bytes in hex
module _ (x : What) (t : List ℕ) where
  pub hexed_wrong : (f : Flaw) → hex t ≡ wrong f → hexed x t ≡ bad f
  unfolding hexed
  hexed_wrong f e = meant_wrong _ _ f e

  pub hexed_good : (bs : List ℕ) → hex t ≡ got bs → hexed x t ≡ given x bs
  unfolding hexed meant
  hexed_good bs e = ap (meant (given x)) e

-- ---- two words of hex

module _ (t : List ℕ) where
  pub chosen_missing : no_word t ≡ true → chosen t ≡ bad flaw.Missing
  unfolding chosen
  chosen_missing e = rw (e, chosen)

  pub chosen_not : no_word t ≡ false → is_bytes (word t) ≡ false → chosen t ≡ bad flaw.Hex
  unfolding chosen
  chosen_not e f = rw (e, f, chosen)

  module _ (e : no_word t ≡ false) (f : is_bytes (word t) ≡ true) where
    chosen_then : chosen t ≡ meant (λ bs. given (Choose (length (pairs (word t)))) (pairs (word t) ++ bs)) (hex (rest t))
    unfolding chosen
    chosen_then = rw (e, f, chosen)

    pub chosen_wrong : (d : Flaw) → hex (rest t) ≡ wrong d → chosen t ≡ bad d
    unfolding meant
    chosen_wrong d q = chosen_then ∙ ap (meant _) q

    pub chosen_both : (n : ℕ) → n ≡ length (pairs (word t)) → (bs : List ℕ) → hex (rest t) ≡ got bs → chosen t ≡ given (Choose n) (pairs (word t) ++ bs)
    unfolding meant
    chosen_both n p bs q = chosen_then ∙ ap (meant _) q ∙ ap (λ (k : ℕ). given (Choose k) (pairs (word t) ++ bs)) (sym p)

-- ---- a name as its bytes

meant_onto : (f : List ℕ → Meaning) (v : ℕ) (g : Got) → meant f (onto v g) ≡ meant (λ vs. f (v ∷ vs)) g
unfolding meant onto
meant_onto f v (got vs) = refl
meant_onto f v (wrong e) = refl

pub meant_got : (m : Meaning) (g : Got) → g ≡ got [] → meant (λ _. m) g ≡ m
unfolding meant
meant_got m g e = ap (meant (λ _. m)) e

pub slip_wrong : (t : List ℕ) (f : Flaw) → reads (4 ∷ []) t ≡ wrong f → slipped t ≡ bad f
unfolding slipped
slip_wrong t f e = meant_wrong _ _ f e

pub slip_is : {s : List ℕ} {at : ℕ} {n : Part} → Field s at 4 n → slipped (drop at s) ≡ meant (λ _. given Slip (unbe 32 (name_of n.value))) (reads [] (drop n.next s))
unfolding slipped
slip_is {s} {at} {n} a =
    let f : List ℕ → Meaning = λ vs. given Slip (unbe 32 (get_or vs 0 0)) in
    ap (meant f) (a.goes []) ∙ meant_onto f (name_of n.value) (reads [] (drop n.next s))

pub certified_wrong : (t : List ℕ) (f : Flaw) → reads (2 ∷ 3 ∷ 4 ∷ []) t ≡ wrong f → certified t ≡ bad f
unfolding certified
certified_wrong t f e = meant_wrong _ _ f e

pub certified_is : {s : List ℕ} {at : ℕ} {v h n : Part} → Field s at 2 v → Field s v.next 3 h → Field s h.next 4 n
    → certified (drop at s) ≡ meant (λ _. given (Certified v.value.fourth h.value.fourth) (unbe 32 (name_of n.value))) (reads [] (drop n.next s))
unfolding certified field_of
certified_is {s} {at} {v} {h} {n} a b c =
    let f : List ℕ → Meaning = λ vs. given (Certified (get_or vs 0 0) (get_or vs 1 0)) (unbe 32 (get_or vs 2 0)) in
    let left = reads [] (drop n.next s) in
    let e : certified (drop at s) ≡ meant (λ _. given (Certified (name_of v.value) (name_of h.value)) (unbe 32 (name_of n.value))) left =
    ap (meant f) (a.goes (3 ∷ 4 ∷ []) ∙ ap (onto (name_of v.value)) (b.goes (4 ∷ []) ∙ ap (onto (name_of h.value)) (c.goes [])))
    ∙ meant_onto f (name_of v.value) (onto (name_of h.value) (onto (name_of n.value) left))
    ∙ meant_onto (λ vs. f (name_of v.value ∷ vs)) (name_of h.value) (onto (name_of n.value) left)
    ∙ meant_onto (λ vs. f (name_of v.value ∷ name_of h.value ∷ vs)) (name_of n.value) left in
    rw (small_is v.value a.holds.0, small_is h.value b.holds.0) at e
