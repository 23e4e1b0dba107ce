-- A line of up to 4,096 bytes says no more, two words of hex at most 2,048 each: no answer with such a buffer is Long. Assumes nothing.
use Prim.Native.Nat.{ℕ, ◌≤◌}
use mathlib.Core.Path.{◌≡◌, sym, ◌∙◌}
use mathlib.Core.Bool.{true, false}
use mathlib.Core.List.{List, [], ◌∷◌, ◌++◌}
use native.Mathlib.Omega.{arith}
use lib.ListN.{length, get_or, length-append}
use Rattle.rules.specs.Lists.{unbe}
use Rattle.rules.specs.Messages as messages
use Rattle.rules.specs.Messages.{write, row_of}
use Rattle.rules.specs.Script.{same_list}
use Rattle.laws.proofs.Bytes.{length_unbe}
use Rattle.laws.proofs.Tests.{by_bool, by_option}
use Rattle.outgoing.proofs.Writing.{length_write_most}
use Rattle.text.specs.Words.{word, rest, no_word, pairs, is_bytes}
use Rattle.parts.specs.Fields.{says, flaw_of, field_of, unlabelled, Got, got, wrong, onto, reads}
use Rattle.lines.specs.Script.{Meaning, blank, fresh, tick, given, message, log, state, display, bad, meant, spoken, freshened, ticked, alone, hex, hexed, chosen, slipped, certified, Order, orders, ordered, line_of}
use Rattle.lines.specs.Answers.{answer, Reads}
use Rattle.parts.specs.declared.Flaw.{Flaw}
use Rattle.parts.specs.declared.Flaw.TheVariants as flaw
use Rattle.lines.specs.declared.Line.{Line}
use Rattle.lines.specs.declared.What.{What}
use Rattle.lines.specs.declared.What.TheVariants.{Message, Offer, Envelope, Slip, Certified, Choose}
use Rattle.lines.specs.declared.Line.TheVariants.{Bytes, Bad}
use Rattle.parts.specs.declared.Sort.{Sort}
use Rattle.parts.specs.declared.Sort.TheVariants.{Number, Name, Mask}
use Rattle.text.proofs.Runs.{word_shorter, rest_shorter}
use Rattle.hex_words.proofs.Hex.{length_pairs}
use Rattle.parts.proofs.Fields.{ends_none, ends_extra, reads_missing, reads_not, reads_is}
use Rattle.lines.proofs.Replies.{bytes_good, hex_missing, hex_not, hex_rest}

-- the bytes have room in 4,096, and nothing is wrong for want of room
abbrev Short : Meaning → Type 0
Short blank = Unit
Short (fresh n d own) = Unit
Short (tick k) = Unit
Short (given x bs) = length bs ≤ 4096
Short log = Unit
Short state = Unit
Short display = Unit
Short (bad f) = f ≡ flaw.Long → ⊥

abbrev Plain : Got → Type 0
Plain (got vs) = Unit
Plain (wrong f) = f ≡ flaw.Long → ⊥

other : {f : Flaw} → (f ≡ flaw.Long → ◌≡◌ {A = ℕ} 0 1) → f ≡ flaw.Long → ⊥
other h e = let z = h e in omega (arith, z)

flaw_plain : (x : Sort) → flaw_of x ≡ flaw.Long → ⊥
unfolding flaw_of
flaw_plain (Number most) = other (λ e. cc)
flaw_plain Name = other (λ e. cc)
flaw_plain Mask = other (λ e. cc)

onto_plain : (v : ℕ) (g : Got) → Plain g → Plain (onto v g)
unfolding onto
onto_plain v (got vs) p = tt
onto_plain v (wrong f) p = p

reads_plain : (ts s : List ℕ) → Plain (reads ts s)
reads_plain [] s = by_bool (no_word s) (λ e. rw (ends_none s e) tt) (λ e. rw (ends_extra s e) (other (λ z. cc)))
reads_plain (t ∷ ts) s =
    let r = unlabelled (field_of t).label s in
    by_bool (no_word r)
    (λ e. rw (reads_missing t s ts e) (other (λ z. cc)))
    (λ e.
    by_option (says (field_of t).sort (word r))
    (λ q. rw (reads_not t s ts e q) (flaw_plain (field_of t).sort))
    (λ v q. rw (reads_is t s ts v e q) (onto_plain v (reads ts (rest r)) (reads_plain ts (rest r)))))

meant_short : (f : List ℕ → Meaning) (g : Got) → ((vs : List ℕ) → Short (f vs)) → Plain g → Short (meant f g)
unfolding meant
meant_short f (got vs) h p = h vs
meant_short f (wrong e) h p = p

-- one word of hex
hex_meant : (f : List ℕ → Meaning) → ((bs : List ℕ) → length bs ≤ 2048 → Short (f bs)) → (t : List ℕ) → length t ≤ 4096 → Short (meant f (hex t))
unfolding meant
hex_meant f h t l =
    by_bool (no_word t)
    (λ e. rw (hex_missing t e) (other (λ z. cc)))
    (λ e.
    by_bool (is_bytes (word t))
    (λ q.
    by_bool (no_word (rest t))
    (λ n. rw (hex_rest t e q true n) (h (pairs (word t)) (omega (arith, length_pairs (word t), word_shorter t))))
    (λ n. rw (hex_rest t e q false n) (other (λ z. cc))))
    (λ q. rw (hex_not t e q) (other (λ z. cc))))

hex_short : (x : What) (t : List ℕ) → length t ≤ 4096 → Short (hexed x t)
unfolding hexed
hex_short x t l = hex_meant (given x) (λ bs h. omega arith) t l

-- two words of it
chosen_short : (t : List ℕ) → length t ≤ 4096 → Short (chosen t)
unfolding chosen
chosen_short t l =
    by_bool (no_word t) (λ e. rw (e, chosen) (other (λ z. cc)))
    (λ e.
    by_bool (is_bytes (word t))
    (λ q.
    rw (e, q, chosen)
    (hex_meant (λ bs. given (Choose (length (pairs (word t)))) (pairs (word t) ++ bs))
    (λ bs h. omega (arith, length-append (pairs (word t)) bs, length_pairs (word t), word_shorter t)) (rest t) (omega (arith, rest_shorter t))))
    (λ q. rw (e, q, chosen) (other (λ z. cc))))

-- a name is 32 bytes
slip_short : (t : List ℕ) → length t ≤ 4096 → Short (slipped t)
unfolding slipped
slip_short t l =
    meant_short (λ vs. given Slip (unbe 32 (get_or vs 0 0))) (reads (4 ∷ []) t) (λ vs. omega (arith, length_unbe 32 (get_or vs 0 0))) (reads_plain (4 ∷ []) t)

certified_short : (t : List ℕ) → length t ≤ 4096 → Short (certified t)
unfolding certified
certified_short t l =
    meant_short (λ vs. given (Certified (get_or vs 0 0) (get_or vs 1 0)) (unbe 32 (get_or vs 2 0))) (reads (2 ∷ 3 ∷ 4 ∷ []) t)
    (λ vs. omega (arith, length_unbe 32 (get_or vs 2 0))) (reads_plain (2 ∷ 3 ∷ 4 ∷ []) t)

abbrev AllShort : List Order → Type 0
AllShort [] = Unit
AllShort (o ∷ os) = ((t : List ℕ) → length t ≤ 4096 → Short (o.means t)) × AllShort os

ordered_short : (os : List Order) → AllShort os → (w t : List ℕ) → length t ≤ 4096 → Short (ordered os w t)
unfolding ordered
ordered_short [] a w t l = other (λ z. cc)
ordered_short (o ∷ os) a w t l =
    by_bool (same_list o.first w) (λ e. rw (e, ordered) (a.0 t l)) (λ e. rw (e, ordered) (ordered_short os a.1 w t l))

said : (m : messages.Message) → length (write m) ≤ 4096
said m = omega (arith, length_write_most m)

ticks_short : (t : List ℕ) → length t ≤ 4096 → Short (ticked t)
unfolding ticked
ticks_short t l =
    by_bool (no_word t) (λ e. rw (e, ticked) tt) (λ e. rw (e, ticked) (meant_short (λ vs. tick (get_or vs 0 0)) (reads (0 ∷ []) t) (λ vs. tt) (reads_plain (0 ∷ []) t)))

spoken_short : (k : ℕ) (t : List ℕ) → length t ≤ 4096 → Short (spoken k t)
unfolding spoken
spoken_short k t l =
    by_option (row_of k)
    (λ e. rw (e, spoken) (other (λ z. cc)))
    (λ row e.
    rw (e, spoken)
    (meant_short (λ vs. message (write (row.make (λ i. get_or vs i 0)))) (reads row.tags t) (λ vs. said (row.make (λ i. get_or vs i 0))) (reads_plain row.tags t)))

fresh_short : (t : List ℕ) → length t ≤ 4096 → Short (freshened t)
unfolding freshened
fresh_short t l =
    meant_short (λ vs. fresh (get_or vs 0 0) (get_or vs 1 0) (get_or vs 2 0)) (reads (0 ∷ 0 ∷ 0 ∷ []) t) (λ vs. tt) (reads_plain (0 ∷ 0 ∷ 0 ∷ []) t)

alone_short : (m : Meaning) → Short m → (t : List ℕ) → length t ≤ 4096 → Short (alone m t)
unfolding alone
alone_short m p t l = meant_short (λ _. m) (reads [] t) (λ vs. p) (reads_plain [] t)

orders_short : AllShort orders
unfolding orders
orders_short = (
  spoken_short 1,
  (
    spoken_short 2,
    (
      spoken_short 3,
      (
        spoken_short 4,
        (
          spoken_short 5,
          (
            spoken_short 6,
            (
              fresh_short,
              (
                ticks_short,
                (
                  hex_short Message,
                  (
                    hex_short Offer,
                    (
                      alone_short log tt,
                      (
                        alone_short state tt,
                        (alone_short display tt, (hex_short Envelope, (chosen_short, (slip_short, (certified_short, tt))))),
                      ),
                    ),
                  ),
                ),
              ),
            ),
          ),
        ),
      ),
    ),
  ),
)

line_short : (s : List ℕ) → length s ≤ 4096 → Short (line_of s)
unfolding line_of
line_short s l =
    by_bool (no_word s)
    (λ e. rw (e, line_of) tt)
    (λ e. rw (e, line_of) (ordered_short orders orders_short (word s) (rest s) (omega (arith, rest_shorter s))))

answer_short : (m : Meaning) (o : List ℕ) → Short m → 4096 ≤ length o → answer (length o) m ≡ Bad flaw.Long → ◌≡◌ {A = ℕ} 0 1
unfolding answer
answer_short blank o p h e = cc
answer_short (fresh n d own) o p h e = cc
answer_short (tick k) o p h e = cc
answer_short (given x bs) o p h e = let z : Bytes x (length bs) ≡ Bad flaw.Long = sym (bytes_good bs o x (omega arith)) ∙ e in cc
answer_short log o p h e = cc
answer_short state o p h e = cc
answer_short display o p h e = cc
answer_short (bad f) o p h e = let z : f ≡ flaw.Long = cc in absurd (p z)

pub never_long : (s o o' : List ℕ) (r : Line) → length s ≤ 4096 → 4096 ≤ length o → Reads (line_of s) o o' r → r ≡ Bad flaw.Long → ⊥
never_long s o o' r l h d e =
    let z = answer_short (line_of s) o (line_short s l) h (sym d.is ∙ e) in omega (arith, z)
