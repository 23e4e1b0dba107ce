-- What each act makes of a station's state. Assumes nothing.
use Prim.Native.Nat.{ℕ, ◌^◌, ◌<◌}
use mathlib.Core.Path.{◌≡◌, refl, sym, ap, ap₂, subst, ◌∙◌}
use mathlib.Core.Bool.{Bool, true, false, ◌&&◌}
use mathlib.Core.List.{List, [], ◌∷◌, ◌++◌}
use mathlib.Core.Option.{none}
use native.Mathlib.Omega.{arith}
use lib.ListN.{get_or, set}
use lib.Bits.{bit_or}
use lib.Dec.{eqb}
use lib.Pow.{pow-lt}
use Rattle.rules.specs.Limits.{most_stations, mask_bits}
use Rattle.rules.specs.Lists.{alter}
use Rattle.rules.specs.Sizes.{only, joined}
use Rattle.rules.specs.Messages.{Effect, to_all, blame_set, effect, outgoing}
use Rattle.rules.specs.Words as words
use Rattle.rules.specs.Words.{same_statement, own_block, certificate, join, join_certificate}
use Rattle.rules.specs.Inputs as inputs
use Rattle.laws.proofs.Allowed.{sizes}
use Rattle.settings.specs.Made.{settings_of}
use Rattle.outgoing.specs.Wrote.{Says}
use Rattle.outgoing.proofs.Writing.{says_none, says_one, says_outgoing}
use Rattle.plain_statements.specs.declared.Statements.{Statements}
use Rattle.plain_statements.specs.Meaning as statement_room
use Rattle.plain_statements.specs.Meaning.{statements}
use Rattle.plain_tallies.specs.declared.Tallies.{Tallies}
use Rattle.plain_tallies.specs.Meaning as tally_room
use Rattle.plain_tallies.specs.Meaning.{tallies}
use Rattle.plain_tables.specs.declared.Cause.{Cause}
use Rattle.plain_tables.specs.declared.Phase.{Phase}
use Rattle.plain_tables.specs.declared.Phase.TheVariants.{InView, Waiting, Stopped}
use Rattle.plain_tables.specs.declared.Engine.{Engine}
use Rattle.plain_tables.specs.Meaning.{state, Sized, Gives, phased, tabled, blaming}
use Rattle.plain_tables.proofs.Laws.{gives_phase, gives_blames, gives_tabled}
use Rattle.plain_acts.specs.Works.{Worked}

-- ---- whether the station is in a view

module _ (e : Engine) (v : ℕ) where
  pub in_view_lem : e.phase ≡ InView → eqb v e.view ≡ inputs.is_in v (state e)
  unfolding inputs.is_in state
  in_view_lem p = rw (p, inputs.is_in)

  in_waiting : (q : ℕ) → e.phase ≡ Waiting q → false ≡ inputs.is_in v (state e)
  unfolding inputs.is_in state
  in_waiting q p = rw (p, inputs.is_in)

  in_stopped : (c : Cause) → e.phase ≡ Stopped c → false ≡ inputs.is_in v (state e)
  unfolding inputs.is_in state
  in_stopped c p = rw (p, inputs.is_in)

  pub in_other : (e.phase ≡ InView → ⊥) → false ≡ inputs.is_in v (state e)
  in_other n = go e.phase refl
    where
      go : (p : Phase) → e.phase ≡ p → false ≡ inputs.is_in v (state e)
      go InView q = absurd (n q)
      go (Waiting w) q = in_waiting w q
      go (Stopped c) q = in_stopped c q

-- ---- a change of the station

module _ (e : Engine) (k : Sized e) where
  pub own_small : e.settings.own < most_stations
  own_small = let s = sizes (settings_of e.settings) k.good in omega (arith, s.own, s.most)

  pub quit_gives : (o : List Effect) → Gives (phased (Waiting e.clock) e) (inputs.quit o (state e)).now
  unfolding inputs.quit inputs.saying state
  quit_gives o = gives_phase e k (Waiting e.clock)

  pub blamed_gives : (v m : ℕ) → Gives (blaming (set e.blames v (bit_or (get_or e.blames v 0) m)) e) (inputs.blamed v m (state e))
  unfolding inputs.blamed inputs.blames_of joined state
  blamed_gives v m = gives_blames e k (set e.blames v (bit_or (get_or e.blames v 0) m))

  module _ (m : words.Moment) where
    -- a certificate joins
    certified : (o : words.Opener) (t c : words.Certificate) (ts : Tallies) → m ≡ words.moment o (state e) → c ≡ t
        → tally_room.Holds ts (join_certificate m c (tallies e.tallies))
        → Gives (tabled e.statements ts e) (inputs.with_tables (statements e.statements) (join_certificate (words.moment o (state e)) t (tallies e.tallies)) (state e))
    certified o t c ts em ec h =
        gives_tabled e k e.statements ts (record { within = k.statements; is = refl })
        (record { within = h.within; is = h.is ∙ ap₂ (λ (m : words.Moment) (c : words.Certificate). join_certificate m c (tallies e.tallies)) em ec })

    pub tallied_gives : (o : words.Opener) (t : words.Certificate) (ts : Tallies) → m ≡ words.moment o (state e)
        → tally_room.Holds ts (join_certificate m t (tallies e.tallies)) → Gives (tabled e.statements ts e) (inputs.tallied o t (state e)).now
    unfolding inputs.tallied inputs.saying state
    tallied_gives o t ts em h = certified o t t ts em refl h

    pub certificate_gives : (x : words.Statement) (c : words.Certificate) (ts : Tallies) → m ≡ words.moment none (state e) → c ≡ certificate x
        → tally_room.Holds ts (join_certificate m c (tallies e.tallies)) → Gives (tabled e.statements ts e) (inputs.certificate_joined x (state e))
    unfolding inputs.certificate_joined state
    certificate_gives x c ts em ec h = certified none (certificate x) c ts em ec h

    pub stored_gives : (x : words.Statement) (c b : words.Certificate) (xs : Statements) (ts us : Tallies) → m ≡ words.moment none (state e)
        → c ≡ certificate x → b ≡ own_block x 0 → statement_room.Holds xs (statements e.statements ++ x ∷ [])
        → tallies ts ≡ join_certificate m c (tallies e.tallies) → tally_room.Holds us (join m b (tallies ts)) → Gives (tabled xs us e) (inputs.stored x (state e))
    unfolding inputs.stored state
    stored_gives x c b xs ts us em ec eb hx et hu =
        gives_tabled e k xs us hx
        (record {
          within = hu.within;
          is = hu.is ∙ ap (join m b) (et ∙ ap (λ (c : words.Certificate). join_certificate m c (tallies e.tallies)) ec)
              ∙ ap₂ (λ (m : words.Moment) (b : words.Certificate). join m b (join_certificate m (certificate x) (tallies e.tallies))) em eb;
        })

    pub voted_gives : (x : words.Statement) (b : words.Certificate) (xs : Statements) (us : Tallies) → m ≡ words.moment none (state e)
        → b ≡ own_block x (only e.settings.own) → statement_room.Holds xs (alter (same_statement x) (inputs.noted e.clock) (statements e.statements))
        → tally_room.Holds us (join m b (tallies e.tallies)) → Gives (tabled xs us e) (inputs.voted_for x (state e))
    unfolding inputs.voted_for state
    voted_gives x b xs us em eb hx hu =
        gives_tabled e k xs us hx
        (record { within = hu.within; is = hu.is ∙ ap₂ (λ (m : words.Moment) (b : words.Certificate). join m b (tallies e.tallies)) em eb })

-- ---- what is said besides

-- two effects, one after the other
pub says_two : (f g : Effect) {o p q : List ℕ} {at i j : ℕ} → Says o at (effect f) p i → Says p i (effect g) q j → Says o at (outgoing (f ∷ g ∷ [])) q j
says_two f g {o} {p} {q} {at} {i} {j} y z =
    says_outgoing o at (f ∷ []) (g ∷ []) p q i j (says_one o at f p i y) (says_one p i g q j z)

module _ (x : words.Statement) (e : Engine) (k : Sized e) (o : List ℕ) (at : ℕ) where
  pub passed_over : inputs.below_lock x (state e) ≡ true → Worked (inputs.voting x (state e)) o at (record { engine = e; at = at }) o
  unfolding inputs.voting inputs.saying outgoing
  passed_over q = rw (q, inputs.voting) (record { now = record { sized = k; is = refl }; says = says_none o at })

  pub voted_worked : {r : Engine} {next : ℕ} {left : List ℕ} → inputs.below_lock x (state e) ≡ false → Gives r (inputs.voted_for x (state e))
      → Says o at (outgoing (inputs.ballot x (state e))) left next → Worked (inputs.voting x (state e)) o at (record { engine = r; at = next }) left
  unfolding inputs.voting inputs.saying outgoing
  voted_worked q g y = rw (q, inputs.voting) (record { now = g; says = y })

module _ (v m : ℕ) (e f : Engine) (g : Gives f (inputs.blamed v m (state e))) (o : List ℕ) (at : ℕ) where
  test : Bool
  test = inputs.is_in v (state f) && inputs.blame_full v (state f)

  same_test : test ≡ (inputs.is_in v (inputs.blamed v m (state e)) && inputs.blame_full v (inputs.blamed v m (state e)))
  unfolding test
  same_test = ap (λ (s : words.State). inputs.is_in v s && inputs.blame_full v s) g.is

  pub only_kept : (inputs.is_in v (state f) && inputs.blame_full v (state f)) ≡ false → Worked (inputs.blaming v m (state e)) o at (record { engine = f; at = at }) o
  unfolding inputs.blaming inputs.saying test outgoing
  only_kept q = rw (sym same_test ∙ q, inputs.blaming) (record { now = g; says = says_none o at })

  pub set_sent : {r : Engine} {next : ℕ} {left : List ℕ} (held : ℕ) → (inputs.is_in v (state f) && inputs.blame_full v (state f)) ≡ true → held ≡ inputs.blames_of v (state f)
      → Gives r (inputs.quit [] (state f)).now → Says o at (effect (to_all (blame_set v held))) left next
      → Worked (inputs.blaming v m (state e)) o at (record { engine = r; at = next }) left
  unfolding inputs.blaming inputs.quit inputs.saying test
  set_sent {r} {next} {left} held q b h y =
      rw (sym same_test ∙ q, inputs.blaming)
      (record {
        now = record { sized = h.sized; is = h.is ∙ ap (λ (s : words.State). (inputs.quit [] s).now) g.is };
        says = says_one o at (to_all (blame_set v (inputs.blames_of v (inputs.blamed v m (state e))))) left next
            (subst (λ (k : ℕ). Says o at (effect (to_all (blame_set v k))) left next) (b ∙ ap (inputs.blames_of v) g.is) y);
      })

-- the mask of one station fits
pub only_small : (i : ℕ) → i < mask_bits → only i < 2 ^ mask_bits
unfolding only
only_small i h = pow-lt h
