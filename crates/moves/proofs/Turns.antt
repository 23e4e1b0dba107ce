-- A tick's work, part by part: what each leaves, says and needs. What decides it is known from the store before its clock
-- moves on. Assumes nothing.
use Prim.Native.Nat.{ℕ, suc, ◌+◌, ◌*◌, ◌≤◌, ◌<◌}
use mathlib.Core.Path.{◌≡◌, refl, sym, ap, ◌∙◌}
use mathlib.Core.Bool.{true, false, ◌&&◌}
use mathlib.Core.List.{List, [], ◌∷◌, ◌++◌, append_assoc}
use mathlib.Core.Option.{none, some, map, some-injective}
use native.Mathlib.Omega.{arith}
use lib.Dec.{leb, lit≤}
use lib.ListN.{length, drop, length-drop}
use Rattle.rules.specs.Limits.{Size, small, large, most_statements, most_tallies, last_clock, least_out, most_statements_large}
use Rattle.rules.specs.Lists.{any}
use Rattle.rules.specs.Sizes.{Settings}
use Rattle.rules.specs.Words.{Statement, same_statement, message, own_block, certificate, State, moment}
use Rattle.rules.specs.Inputs.{Work, saying, ◌▸◌, with_clock, with_tables, with_log, certificate_joined, stored, statement, leads, due, logging, votes, complain, leads_now, own_new_view, lead, enter, ticked}
use Rattle.rules.specs.Refusals.{has_room}
use Rattle.rules.specs.WellFormed.{linked}
use Rattle.laws.proofs.Tests.{by_bool}
use Rattle.wire.specs.Meaning.{statement_of}
use Rattle.wire.specs.declared.Statement as code
use Rattle.store.specs.Layout.{size_in}
use Rattle.store.specs.Decode.{state_from, state_of, Left}
use Rattle.store.specs.Meaning.{Loads}
use Rattle.store.specs.declared.Station.{Station}
use Rattle.store.proofs.Loaded.{loaded_clock}
use Rattle.kept.specs.Parts as kept
use Rattle.kept.proofs.Facts.{clocks_of}
use Rattle.laws.proofs.Lengths.{bytes, reports_bytes}
use Rattle.kept.proofs.Logs.{linked_length, proposes_length, commits_linked}
use Rattle.kept.proofs.Phases.{clock_formed}
use Rattle.kept.proofs.Reports.{due_stored}
use Rattle.kept.proofs.Room.{complain_bytes, lead_bytes}
use Rattle.kept.proofs.Ticks.{logging_keeps, complain_keeps, lead_keeps}
use Rattle.commit.specs.Outcome.{tick_log, Gained}
use Rattle.acts.specs.Works.{Formed, Works}
use Rattle.acts.proofs.Answers.{new_room}
use Rattle.acts.proofs.Rooms.{room_made}
use Rattle.acts.proofs.Works.{formed_parts, state_size, works_is, works_end, works_length, works_formed}
use Rattle.reports.specs.Gains.{grown_log, Enough}
use Rattle.turns.proofs.Leading.{now_leads, lead_never, now_fits}
use Rattle.moments.proofs.Moments.{clock_leads}
use Rattle.reports.proofs.Names.{grown_length}
use Rattle.moments.proofs.Sizes.{left_size}
use Rattle.turns.proofs.Parts.{works_then}
use Rattle.turns.proofs.Room.{lead_complained, lead_logged, tick_room}
use Rattle.moves.proofs.Gaining.{gained_log, gained_enough}
use Rattle.moves.proofs.Clocks.{certificate_length, both_length}
use Rattle.moves.specs.Turns.{later, moving, growing, turning}

-- what a tick says at most, part by part, fits the out buffer in both columns
tick_enough : (z : Size) → 299 + 199 * most_statements z ≤ least_out z
unfolding most_statements least_out
tick_enough small = lit≤ tt
tick_enough large = lit≤ tt

-- ---- the leader's moment, one clock ahead

module _ (s : State) where
  pub later_leader : leads_now (later s) ≡ true → leads s ≡ true
  unfolding later
  later_leader q = sym (clock_leads s (s.clock + 1)) ∙ now_leads (later s) q

  later_view : own_new_view s ≡ own_new_view (later s)
  unfolding later with_clock own_new_view
  later_view = refl

  joined_later : (x : Statement) → has_room (certificate_joined x s) ≡ has_room (certificate_joined x (later s))
  unfolding later with_clock certificate_joined with_tables has_room
  joined_later x =
      ap (λ (n : ℕ). leb (length s.statements) (most_statements s.settings.size) && leb n (most_tallies s.settings.size))
      (certificate_length (moment none s) (moment none (later s)) (certificate x) (own_block x 0) s.tallies)

  stored_later : (x : Statement) → has_room (stored x s) ≡ has_room (stored x (later s))
  unfolding later with_clock stored with_tables has_room
  stored_later x =
      ap (λ (n : ℕ). leb (length (s.statements ++ x ∷ [])) (most_statements s.settings.size) && leb n (most_tallies s.settings.size))
      (both_length (moment none s) (moment none (later s)) (certificate x) (own_block x 0) s.tallies)

  later_statements : (later s).statements ≡ s.statements
  unfolding later with_clock
  later_statements = refl

repeated : (x : Statement) (s : State) → any (same_statement x) s.statements ≡ true → has_room (statement x s).now ≡ has_room (certificate_joined x s)
unfolding statement saying
repeated x s q = rw (q, statement)

-- whether a statement fits is the same at every clock
statement_later : (x : Statement) (s : State) → has_room (statement x s).now ≡ has_room (statement x (later s)).now
statement_later x s =
    let e = ap (any (same_statement x)) (later_statements s) in
    by_bool (any (same_statement x) s.statements) (λ q. repeated x s q ∙ joined_later s x ∙ sym (repeated x (later s) (e ∙ q)))
    (λ q. new_room x s q ∙ stored_later s x ∙ sym (new_room x (later s) (e ∙ q)))

module _ {b : List ℕ} (k : Formed b) where
  module _ (s : Station) (e : Loads s b) where
    pub loaded_next : leads_now (with_clock (s.clock + 1) (state_of b)) ≡ leads_now (later (state_of b))
    unfolding later
    loaded_next = ap (λ (c : ℕ). leads_now (with_clock (c + 1) (state_of b))) (loaded_clock s b e)

    pub clock_small : s.clock ≤ last_clock
    clock_small = omega (arith, (clocks_of (formed_parts k).formed).last, loaded_clock s b e)

  pub never_next : leads_now (later (state_of b)) ≡ false → true ≡ has_room (lead (later (state_of b))).now
  unfolding saying later with_clock
  never_next q =
      let w = formed_parts k in
      sym (ap (λ (v : Work). has_room v.now) (sym (lead_never (later (state_of b)) q)) ∙ room_made (later (state_of b)) w.few_statements w.few_tallies)

pub fits_next : (s : State) (x : code.Statement) → leads_now (later s) ≡ true → message (statement_of x none) ≡ own_new_view s
    → has_room (statement (statement_of x none) s).now ≡ has_room (lead (later s)).now
fits_next s x q m = statement_later (statement_of x none) s ∙ now_fits (later s) x q (m ∙ later_view s)

-- ---- after the commits

module _ {b b₁ o o₁ : List ℕ} {at r₁ : ℕ} (k : Formed b) (w : Works (complain (state_of b)) o at b₁ o₁ r₁) where
  pub complained_formed : Formed b₁
  complained_formed = works_formed w (complain_keeps (formed_parts k).formed)

  pub complained_end : (r₁ ≤ at + 37) × (length o₁ ≡ length o)
  complained_end = (works_end w 37 (complain_bytes (state_of b)), works_length w)

  pub complained_room : has_room (lead (state_of b)).now ≡ true → has_room (lead (state_of b₁)).now ≡ true
  complained_room h = ap (λ (s : State). has_room (lead s).now) w.left.is ∙ lead_complained (state_of b) ∙ h

  module _ {b₂ o₂ : List ℕ} {r₂ : ℕ} (v : Works (lead (state_of b₁)) o₁ r₁ b₂ o₂ r₂) where
    pub led_formed : Formed b₂
    led_formed = works_formed v (lead_keeps (formed_parts complained_formed).formed)

    pub led_end : (r₂ ≤ at + 237) × (length o₂ ≡ length o)
    led_end = (omega (arith, works_end v 200 (lead_bytes (state_of b₁)), complained_end.0), works_length v ∙ complained_end.1)

    -- the limits are the same
    pub led_size : size_in b₂ ≡ size_in b
    led_size =
        let size : Settings → Size = λ y. y.size in
        left_size v.left ∙ ap size (lead_keeps (formed_parts complained_formed).formed).settings
        ∙ state_size b₁ ∙ left_size w.left ∙ ap size (complain_keeps (formed_parts k).formed).settings ∙ state_size b

    pub moved : {b₃ o₃ : List ℕ} {r₃ : ℕ} → Works (enter (state_of b₂)) o₂ r₂ b₃ o₃ r₃ → Works (moving (state_of b)) o at b₃ o₃ r₃
    unfolding moving
    moved u = works_then enter (works_then lead w v) u

-- one rule, then two others
then_both : (w : Work) (f g : State → Work) → (w ▸ (λ s. f s ▸ g)) ≡ (w ▸ f ▸ g)
unfolding ◌▸◌
then_both w f g =
    let v = f w.now in
    let u = g v.now in
    let e = sym (append_assoc w.out v.out u.out) in
    λ i. record { now = u.now; out = e i }

then_moving : (l : List ℕ) (s : State) → logging l (later s) ▸ moving ≡ turning l s
unfolding moving turning
then_moving l s = let w = logging l (later s) in then_both w (λ t. complain t ▸ lead) enter ∙ ap (◌▸ enter) (then_both w complain lead)

-- ---- the work of a tick

module _ {b t : List ℕ} {n : ℕ} (k : Formed b) (h : (state_of b).clock < last_clock) (g : Gained b t n) where
  abbrev S : State
  S = state_of b

  abbrev L : List ℕ
  L = grown_log b t n

  later_formed : kept.Formed (later S)
  unfolding later
  later_formed = clock_formed (formed_parts k).formed h

  log_linked : linked (later S).statements 0 0 L ≡ true
  unfolding later with_clock tick_log
  log_linked = commits_linked later_formed (due (later S)) (later S).log L (due_stored (later S)) g.is later_formed.tables.log

  pub turning_room : has_room (turning L S).now ≡ has_room (lead (later S)).now
  unfolding turning
  turning_room = tick_room later_formed L log_linked

  pub turning_ticked : ticked S ≡ some (turning L S)
  unfolding ticked turning later tick_log
  turning_ticked = let now = with_clock (S.clock + 1) S in ap (map (λ l. logging l now ▸ complain ▸ lead ▸ enter)) g.is

  log_few : length L ≤ most_statements (size_in b)
  unfolding later with_clock
  log_few =
      omega (arith, linked_length S.statements L log_linked, proposes_length S.statements, (formed_parts k).few_statements, ap most_statements (state_size b))

  gained_few : n ≤ most_statements (size_in b)
  gained_few = omega (arith, log_few, grown_length b t n g.more)

  log_short : bytes (logging L (later S)).out ≤ 39 * most_statements (size_in b)
  unfolding logging saying later with_clock
  log_short =
      let old = length S.log in
      let a = reports_bytes (suc old) (drop old L) in
      omega (arith, length-drop old L, log_few)

  module _ {c : ℕ} {b₁ : List ℕ} (e : c ≡ S.clock + 1) (l : Left b₁ (with_clock c S)) where
    pub enough_now : {room : ℕ} → length t ≡ most_statements_large → least_out (size_in b) ≤ room → Enough b₁ t n 0 room
    enough_now m p = gained_enough b b₁ t n c g l m gained_few (omega (arith, gained_few, tick_enough (size_in b)))

    now_later : state_of b₁ ≡ later S
    unfolding later
    now_later = l.is ∙ ap (λ (i : ℕ). with_clock i S) e

    same_log : grown_log b₁ t n ≡ L
    same_log = some-injective (grown_log b₁ t n) L (sym (gained_log b b₁ t n c g l) ∙ g.is)

    pub grown : {b₂ o o₂ : List ℕ} {r : ℕ} → Works (logging (grown_log b₁ t n) (state_of b₁)) o 0 b₂ o₂ r → Works (growing L S) o 0 b₂ o₂ r
    unfolding growing
    grown w = works_is (λ i. logging (same_log i) (now_later i)) w

  module _ {b₂ o o₂ : List ℕ} {r : ℕ} (w : Works (growing L S) o 0 b₂ o₂ r) where
    pub grown_formed : Formed b₂
    unfolding growing
    grown_formed = works_formed w (logging_keeps later_formed L log_linked)

    pub grown_room : has_room (lead (later S)).now ≡ true → has_room (lead (state_of b₂)).now ≡ true
    unfolding growing
    grown_room q = ap (λ (s : State). has_room (lead s).now) w.left.is ∙ lead_logged L (later S) ∙ q

    pub grown_votes : {m : ℕ} → m ≡ votes S → m ≡ votes (state_of b₂)
    unfolding growing logging saying with_log later with_clock votes
    grown_votes q = q ∙ sym (ap votes w.left.is)

    grown_size : size_in b₂ ≡ size_in b
    unfolding growing logging saying later with_clock with_log state_of state_from
    grown_size = left_size w.left

    pub grown_space : least_out (size_in b) ≤ length o → r + 299 + 160 * most_statements (size_in b₂) ≤ length o₂
    unfolding growing
    grown_space p =
        omega (arith, works_end w (39 * most_statements (size_in b)) log_short, works_length w, tick_enough (size_in b), ap most_statements grown_size)

    pub turned : {b₃ o₃ : List ℕ} {end : ℕ} → Works (moving (state_of b₂)) o₂ r b₃ o₃ end → Works (turning L S) o 0 b₃ o₃ end
    unfolding growing
    turned u = works_is (then_moving L S) (works_then moving w u)
