-- Which report is taken, case by case; and a report's bytes: the four of its kind, then its certificate part. Assumes nothing.
use Prim.Native.Nat.{ℕ, suc, ◌+◌, ◌-◌, ◌<◌}
use mathlib.Core.Path.{◌≡◌, refl, sym, ap, ◌∙◌}
use mathlib.Core.Bool.{Bool, true, false, ◌&&◌, ◌||◌}
use mathlib.Core.List.{List, [], ◌∷◌}
use mathlib.Core.Option.{Option, none, some, some-injective}
use native.Mathlib.Nat.{zero-add}
use native.Mathlib.Omega.{arith}
use lib.ListN.{length, take, drop, length-drop}
use lib.Seq.{take_all}
use lib.Dec.{eqb, ltb}
use borrow.Author.Tests.{lt-ltb, le-ltb, eq-eqb, ne_eqb}
use Rattle.fields.specs.Places.{Bytes}
use Rattle.rules.specs.Lists.{unbe}
use Rattle.rules.specs.Messages.{Message, new_view, propose, vote, blame, blame_set, status, field, width, tags_of, row_of, table, kind, values, writes, write, read, allowed, size}
use Rattle.rules.specs.Sizes.{Settings}
use Rattle.rules.specs.Words.{Certificate, below, message}
use Rattle.laws.proofs.Bytes as rules
use Rattle.laws.proofs.ReadBack.{write_read}
use Rattle.laws.proofs.Tests.{by_bool, by_option, no_some}
use Rattle.fields.specs.declared.Name.{Name}
use Rattle.wire.specs.declared.Message as messages
use Rattle.wire.specs.declared.Message.TheVariants.{Stated, Vote, Blame, BlameSet, Status}
use Rattle.wire.specs.Meaning.{message_of}
use Rattle.laws.proofs.Lengths.{length_write}
use Rattle.groups.specs.Groups.{group}
use Rattle.choose.specs.Meaning.{Rank}
use Rattle.choose.specs.Choose.{reported, report, taken, taken_of, Part, certificate_part, chosen}

-- ---- which one is taken

-- two reports by their ranks
ranked : {v h w k : ℕ} {o p : Option Certificate} → Rank v h o → Rank w k p → elim (ltb v w || (eqb v w && ltb h k)) [ true ↦ 2 | false ↦ 1 ] ≡ taken o p
unfolding taken below
ranked r q = rw (r.is, q.is, r.view_is, q.view_is, r.height_is, q.height_is)

pub ranks_higher : {v h w k : ℕ} {o p : Option Certificate} → Rank v h o → Rank w k p → (ltb v w || (eqb v w && ltb h k)) ≡ true → 2 ≡ taken o p
ranks_higher r q t = sym (ap (λ (b : Bool). elim b [ true ↦ 2 | false ↦ 1 ]) t) ∙ ranked r q

pub ranks_not_higher : {v h w k : ℕ} {o p : Option Certificate} → Rank v h o → Rank w k p → (ltb v w || (eqb v w && ltb h k)) ≡ false → 1 ≡ taken o p
ranks_not_higher r q t = sym (ap (λ (b : Bool). elim b [ true ↦ 2 | false ↦ 1 ]) t) ∙ ranked r q

-- the rank of a certificate is its own
own_rank : (c : Certificate) → Rank c.view c.height (some c)
own_rank c = record { certificate = c; is = refl; view_is = refl; height_is = refl }

module _ (c d : Certificate) where
  by_rank : taken (some c) (some d) ≡ elim (ltb c.view d.view || (eqb c.view d.view && ltb c.height d.height)) [ true ↦ 2 | false ↦ 1 ]
  by_rank = sym (ranked (own_rank c) (own_rank d))

  -- "equal rank gives the first", whatever the names
  pub equal_first : c.view ≡ d.view → c.height ≡ d.height → taken (some c) (some d) ≡ 1
  equal_first v h = by_rank ∙ rw (le-ltb c.view d.view (omega arith), eq-eqb c.view d.view v, le-ltb c.height d.height (omega arith))

  -- view before height
  pub later_view : c.view < d.view → taken (some c) (some d) ≡ 2
  later_view h = by_rank ∙ rw (lt-ltb c.view d.view h)

  pub earlier_view : d.view < c.view → taken (some c) (some d) ≡ 1
  earlier_view h = by_rank ∙ rw (le-ltb c.view d.view (omega arith), ne_eqb c.view d.view (λ e. omega arith))

  pub greater_height : c.view ≡ d.view → c.height < d.height → taken (some c) (some d) ≡ 2
  greater_height v h = by_rank ∙ rw (le-ltb c.view d.view (omega arith), eq-eqb c.view d.view v, lt-ltb c.height d.height h)

-- "if only one is readable and allowed", that one; "if neither", none
pub only_first : (c : Certificate) → taken (some c) none ≡ 1
unfolding taken
only_first c = refl

pub only_second : (d : Certificate) → taken none (some d) ≡ 2
unfolding taken
only_second d = refl

pub neither : taken none none ≡ 0
unfolding taken
neither = refl

-- ---- what a message reports

module _ (g : Settings) (s : List ℕ) where
  pub report_unread : read s ≡ none → report g s ≡ none
  unfolding report
  report_unread e = rw (e, report)

  module _ (m : Message) (e : read s ≡ some m) where
    pub report_refused : allowed g m ≡ false → report g s ≡ none
    unfolding report
    report_refused a = rw (e, report, a)

    pub report_is : allowed g m ≡ true → report g s ≡ reported m
    unfolding report
    report_is a = rw (e, report, a)

-- a message of another kind is no report
pub other_kind : (m : messages.Message) → ((h : ℕ) (b : Name) (c k : ℕ) → m ≡ Status h b c k → ⊥) → reported (message_of m) ≡ none
unfolding reported message_of message
other_kind (Stated x) k = by_bool x.is_new_view (λ q. rw (q, message, reported)) (λ q. rw (q, message, reported))
other_kind (Vote v h b a) k = refl
other_kind (Blame v a) k = refl
other_kind (BlameSet v m) k = refl
other_kind (Status h b c m) k = absurd (k h b c m refl)

-- ---- the group

pub group_bad : (k n : ℕ) (a b : List ℕ) → group k n ≡ none → 0 ≡ taken_of k n a b
unfolding taken_of
group_bad k n a b e = rw (e, taken_of)

pub group_good : (k n : ℕ) (a b : List ℕ) (g : Settings) → group k n ≡ some g → taken (report g a) (report g b) ≡ taken_of k n a b
unfolding taken_of
group_good k n a b g e = rw (e, taken_of)

-- ---- the bytes of a report

bytes_all : (s : List ℕ) → Bytes s → rules.Bytes s
bytes_all [] h = rules.none
bytes_all (x ∷ s) h = rules.one (h 0).fits (bytes_all s (λ i. h (suc i)))

-- the status that a certificate is reported by
abbrev pub status_of : Certificate → Message
status_of c = status c.height c.name c.view c.mask

reported_status : (m : Message) (c : Certificate) → reported m ≡ some c → m ≡ status_of c
unfolding reported
reported_status (new_view v h b k m a) c e = no_some e
reported_status (propose v h b p m a) c e = no_some e
reported_status (vote v h b a) c e = no_some e
reported_status (blame v a) c e = no_some e
reported_status (blame_set v m) c e = no_some e
reported_status (status h b k m) c e = ap status_of (some-injective (record { view = k; height = h; name = b; mask = m }) c e)

module _ (g : Settings) (s : List ℕ) (c : Certificate) (e : report g s ≡ some c) where
  -- a report is read as that status
  pub report_read : read s ≡ some (status_of c)
  unfolding report
  report_read =
      by_option (read s) (λ q. no_some (rw (q, report) at e)) λ m q.
      by_bool (allowed g m) (λ a. q ∙ ap some (reported_status m c (rw (q, report, a) at e))) (λ a. no_some (rw (q, report, a) at e))

  module _ (b : Bytes s) where
    abbrev rest : List ℕ
    rest = writes (3 ∷ 4 ∷ 6 ∷ 7 ∷ []) (c.height ∷ c.name ∷ c.view ∷ c.mask ∷ [])

    -- its bytes: those of kind 6, and the rest
    bytes_are : s ≡ 0x01 ∷ 0x00 ∷ 0x01 ∷ 0x06 ∷ rest
    unfolding write writes field width tags_of row_of table kind values unbe
    bytes_are = write_read s (status_of c) (bytes_all s b) report_read

    -- 58 of them
    pub report_length_lem : length s ≡ 58
    unfolding size
    report_length_lem = ap length (write_read s (status_of c) (bytes_all s b) report_read) ∙ length_write (status_of c)

    -- what is handed back, put behind the bytes of kind 6, reads as that status
    pub part_reads : read (0x01 ∷ 0x00 ∷ 0x01 ∷ 0x06 ∷ drop 4 s) ≡ some (status_of c)
    part_reads =
        let d : drop 4 s ≡ rest = ap (drop 4) bytes_are in
        rw d (ap read (sym bytes_are) ∙ report_read)

-- a report that is taken has its 58 bytes
by_first : (o p : Option Certificate) → 1 ≡ taken o p → (c : Certificate) × (o ≡ some c)
unfolding taken
by_first none none e = absurd (omega arith)
by_first none (some d) e = absurd (omega arith)
by_first (some c) p e = (c, refl)

by_second : (o p : Option Certificate) → 2 ≡ taken o p → (d : Certificate) × (p ≡ some d)
unfolding taken
by_second none none e = absurd (omega arith)
by_second (some c) none e = absurd (omega arith)
by_second o (some d) e = (d, refl)

module _ (k n : ℕ) (a b : List ℕ) where
  pub first_length : Bytes a → 1 ≡ taken_of k n a b → length a ≡ 58
  unfolding taken_of
  first_length h e =
      by_option (group k n) (λ q. absurd (let z : ◌≡◌ {A = ℕ} 1 0 = rw (q, taken_of) at e in omega arith)) λ g q.
      let f = by_first (report g a) (report g b) (rw (q, taken_of) at e) in
      report_length_lem g a f.0 f.1 h

  pub second_length : Bytes b → 2 ≡ taken_of k n a b → length b ≡ 58
  unfolding taken_of
  second_length h e =
      by_option (group k n) (λ q. absurd (let z : ◌≡◌ {A = ℕ} 2 0 = rw (q, taken_of) at e in omega arith)) λ g q.
      let f = by_second (report g a) (report g b) (rw (q, taken_of) at e) in
      report_length_lem g b f.0 f.1 h

-- ---- the parts

module _ (k n : ℕ) (x y : Part) where
  -- the part as the code makes it
  abbrev pub cut : Part → Part
  cut p = ((p.0.0, 4 + p.0.1), take (length p.1 - 4) (drop 4 p.1))

  cut_is : (p : Part) → cut p ≡ certificate_part p
  cut_is p = ap (λ (l : List ℕ). ((p.0.0, 4 + p.0.1), l)) (take_all (length p.1 - 4) (drop 4 p.1) (simp length-drop (omega arith)))

  pub first_part : 1 ≡ taken_of k n x.1 y.1 → cut x ≡ chosen k n x y
  unfolding chosen
  first_part e = cut_is x ∙ rw (← e, chosen)

  pub second_part : 2 ≡ taken_of k n x.1 y.1 → cut y ≡ chosen k n x y
  unfolding chosen
  second_part e = cut_is y ∙ rw (← e, chosen, ← e)

  pub empty_part_lem : 0 ≡ taken_of k n x.1 y.1 → ((x.0.0, 0 + x.0.1), take (0 - 0) (drop 0 x.1)) ≡ chosen k n x y
  unfolding chosen
  empty_part_lem e = ap (λ (o : ℕ). ((x.0.0, o), take 0 (drop 0 x.1))) (zero-add x.0.1) ∙ rw (← e, chosen, ← e)
