-- The premises by name, and of a schedule that ends as tests that can be evaluated. proofs/Checked.antt shows that a test that holds is
-- the premise. Assumes nothing.
use Rattle.std.specs.Prelude.{ℕ, zero, suc, ◌+◌, ◌-◌, ◌^◌, ◌≡◌, Bool, false, not, ◌&&◌, ◌||◌, length, get_or}
use Rattle.std.proofs.Math.Bool.{true}
use mathlib.Core.List.{List, [], ◌∷◌, map}
use Rattle.std.proofs.Math.Option.{Option, none, some}
use Rattle.std.proofs.Math.Dec.{leb, ltb, eqb}
use Rattle.rules.specs.Limits.{Size}
use Rattle.rules.specs.Lists.{any, all}
use Rattle.rules.specs.Sizes.{good_settings, faults, bit, count}
use Rattle.rules.specs.Messages.{Message, new_view, propose, vote, blame, blame_set, status, kind, values, read, write, allowed, Effect, to_all, to_one, committed}
use Rattle.rules.specs.Inputs.{offered}
use Rattle.rules.specs.Refusals.{running, step}
use Rattle.rules.specs.Script.{same_list}
use Rattle.agreement.specs.Schedule.{Event, idle, common_tick, tick_of, given, offered_to, ticks, settings_of, at, out, clock, Run, GoodSettings, CommonTicks, ProperBuffers, AtMostF, NeverFull, InTime, NoForgery, OneName, NeverUsedUp}

unfoldable pub implies : Bool → Bool → Bool
implies true b = b
implies false b = true

-- for every number below n; for some
unfoldable pub every : ℕ → (ℕ → Bool) → Bool
every zero p = true
every (suc n) p = p n && every n p

unfoldable pub some? : ℕ → (ℕ → Bool) → Bool
some? zero p = false
some? (suc n) p = p n || some? n p

unfoldable pub same_message : Message → Message → Bool
unfolding kind values same_list
same_message m k = eqb (kind m) (kind k) && same_list (values m) (values k)

unfoldable pub mask_in : Message → ℕ
mask_in (new_view v h b c m a) = m
mask_in (propose v h b p m a) = m
mask_in (vote v h b a) = 0
mask_in (blame v a) = 0
mask_in (blame_set v m) = m
mask_in (status h b c m) = m

-- a message to all that passes a test
unfoldable pub to_all_that : (Message → Bool) → Effect → Bool
to_all_that p (to_all m) = p m
to_all_that p (to_one i m) = false
to_all_that p (committed h b) = false

-- the message that what i says brings to j
unfoldable pub brought : ℕ → ℕ → Effect → Option Message
brought i j (to_all m) = elim (eqb i j) [ true ↦ none | false ↦ some m ]
brought i j (to_one t m) = elim (eqb t j) [ true ↦ some m | false ↦ none ]
brought i j (committed h b) = none

unfoldable pub if_some : {A : Type 0} → Option A → (A → Bool) → Bool
if_some none p = true
if_some (some a) p = p a

unfoldable pub is_common : Event → Bool
is_common idle = true
is_common common_tick = true
is_common (tick_of j) = false
is_common (given j bs) = true
is_common (offered_to j b) = true

unfoldable pub given_to : Event → (ℕ → List ℕ → Bool) → Bool → Bool
given_to idle p d = d
given_to common_tick p d = d
given_to (tick_of j) p d = d
given_to (given j bs) p d = p j bs
given_to (offered_to j b) p d = d

unfoldable pub offered_as : Event → (ℕ → ℕ → Bool) → Bool
offered_as idle p = true
offered_as common_tick p = true
offered_as (tick_of j) p = true
offered_as (given j bs) p = true
offered_as (offered_to j b) p = p j b

-- ---- the premises, by name

pub data Premise : Type 0 where
  settings_good few_faulty never_full common_ticks proper_buffers in_time no_forgery one_name never_used_up : Premise

unfoldable pub premises : List Premise
premises = settings_good ∷ few_faulty ∷ never_full ∷ common_ticks ∷ proper_buffers ∷ in_time ∷ no_forgery ∷ one_name ∷ never_used_up ∷ []

unfoldable pub place : Premise → ℕ
place settings_good = 0
place few_faulty = 1
place never_full = 2
place common_ticks = 3
place proper_buffers = 4
place in_time = 5
place no_forgery = 6
place one_name = 7
place never_used_up = 8

unfoldable pub other : Premise → Premise → Bool
unfolding place
other p q = not (eqb (place p) (place q))

module _ (R : Run) (faulty : ℕ) (height_of parent_of : ℕ → ℕ) where
  abbrev pub Holds : Premise → Type 0
  Holds settings_good = GoodSettings R
  Holds few_faulty = AtMostF R faulty
  Holds never_full = NeverFull R faulty
  Holds common_ticks = CommonTicks R
  Holds proper_buffers = ProperBuffers R
  Holds in_time = InTime R faulty
  Holds no_forgery = NoForgery R faulty
  Holds one_name = OneName R faulty height_of parent_of
  Holds never_used_up = NeverUsedUp R faulty

  -- every premise but one holds
  abbrev pub AllBut : Premise → Type 0
  AllBut q = (p : Premise) → other p q ≡ true → Holds p

-- ---- a schedule that ends

-- the events in order, then idle
unfoldable pub listed : List Event → ℕ → Event
listed es k = get_or es k idle

module _ (size : Size) (n D : ℕ) (es : List Event) (faulty : ℕ) where
  unfoldable pub is_sound : ℕ → Bool
  is_sound i = ltb i n && eqb (bit faulty i) 0

  -- i said to all, before event k, a message that passes a test
  unfoldable pub has_said : ℕ → ℕ → (Message → Bool) → Bool
  unfolding some? any to_all_that out listed
  has_said i k p = some? k (λ l. any (to_all_that p) (out size n D (listed es) i l))

  unfoldable pub voters_voted : (k mask view height name : ℕ) → Bool
  unfolding every implies is_sound has_said same_message
  voters_voted k m v h b = every n (λ i. implies (is_sound i && eqb (bit m i) 1) (has_said i k (same_message (vote v h b i))))

  unfoldable pub has_made : ℕ → ℕ → (ℕ → Message) → Bool
  unfolding has_said same_message mask_in implies is_sound
  has_made i k f = implies (is_sound i) (has_said i k (λ m. same_message (f (mask_in m)) m))

  unfoldable pub is_genuine : ℕ → Message → Bool
  unfolding voters_voted has_made has_said implies every is_sound same_message
  is_genuine k (new_view v h b c m a) = voters_voted k m c h b && has_made a k (λ x. new_view v h b c x a)
  is_genuine k (propose v h b p m a) = voters_voted k m v (h - 1) p && has_made a k (λ x. propose v h b p x a)
  is_genuine k (vote v h b a) = implies (is_sound a) (has_said a k (same_message (vote v h b a)))
  is_genuine k (blame v a) = implies (is_sound a) (has_said a k (same_message (blame v a)))
  is_genuine k (blame_set v m) = every n (λ i. implies (is_sound i && eqb (bit m i) 1) (has_said i k (same_message (blame v i))))
  is_genuine k (status h b c m) = voters_voted k m c h b

  -- what event k hands over to a sound station, which can read it and allows it, passes a test
  unfoldable pub taken : ℕ → (Message → Bool) → Bool
  unfolding given_to listed implies is_sound if_some read allowed
  taken k p =
      given_to (listed es k) (λ j bs. implies (is_sound j) (if_some (read bs) (λ m. implies (allowed (settings_of size n D j) m) (p m)))) true

  unfoldable pub none_forged : Bool
  unfolding every taken is_genuine
  none_forged = every (length es) (λ k. taken k (is_genuine k))

  -- m comes to j after event k and before event l
  unfoldable pub comes : (j k : ℕ) → Message → ℕ → Bool
  unfolding some? given_to same_list write listed
  comes j k m l = some? l (λ h. ltb k h && given_to (listed es h) (λ t bs. eqb t j && same_list bs (write m)) false)

  unfoldable pub comes_in_time : (i j k : ℕ) → Message → Bool
  unfolding every implies ticks clock listed comes
  comes_in_time i j k m =
      every (length es) (λ l. implies (eqb (ticks i (listed es l)) 1 && eqb (clock (listed es) i l) (clock (listed es) i (suc k) + D)) (comes j k m l))

  unfoldable pub said_in_time : (i j k : ℕ) → Effect → Bool
  unfolding if_some brought comes_in_time
  said_in_time i j k e = if_some (brought i j e) (comes_in_time i j k)

  unfoldable pub all_in_time : Bool
  unfolding every implies is_sound said_in_time out listed all
  all_in_time =
      every n (λ i. every n (λ j. implies (is_sound i && is_sound j) (every (length es) (λ k. all (said_in_time i j k) (out size n D (listed es) i k)))))

  unfoldable pub all_run : Bool
  unfolding every implies is_sound running at listed
  all_run = every n (λ i. implies (is_sound i) (every (suc (length es)) (λ k. running (at size n D (listed es) i k))))

  unfoldable pub all_common : Bool
  unfolding every is_common listed
  all_common = every (length es) (λ k. is_common (listed es k))

  unfoldable pub all_lent : Bool
  unfolding every given_to offered_as listed all
  all_lent = every (length es) (λ k. given_to (listed es k) (λ j bs. all (λ b. ltb b 256) bs) true && offered_as (listed es k) (λ j b. ltb b (256 ^ 32)))

  -- no sound station answers 12 to anything
  unfoldable pub all_heard : Bool
  unfolding every given_to listed implies is_sound step at
  all_heard = every (length es) (λ k. given_to (listed es k) (λ j bs. implies (is_sound j) (not (eqb (step bs (at size n D (listed es) j k)).number 12))) true)

  module _ (height_of parent_of : ℕ → ℕ) where
    unfoldable pub is_one_block : Message → Bool
    is_one_block (new_view v h b c m a) = eqb (height_of b) h
    is_one_block (propose v h b p m a) = eqb (height_of b) h && eqb (parent_of b) p
    is_one_block (vote v h b a) = true
    is_one_block (blame v a) = true
    is_one_block (blame_set v m) = true
    is_one_block (status h b c m) = true

    unfoldable pub one_named : Bool
    unfolding every taken is_one_block offered_as listed implies is_sound if_some offered at
    one_named =
        every (length es) (λ k. taken k is_one_block
        && offered_as (listed es k) (λ j b. implies (is_sound j) (if_some (offered b (at size n D (listed es) j k)) is_one_block)))

    -- the test of each premise
    unfoldable pub test : Premise → Bool
    unfolding good_settings count all_run all_common all_lent all_in_time none_forged one_named all_heard
    test settings_good = good_settings (settings_of size n D 0)
    test few_faulty = leb (count faulty) (faults (settings_of size n D 0))
    test never_full = all_run
    test common_ticks = all_common
    test proper_buffers = all_lent
    test in_time = all_in_time
    test no_forgery = none_forged
    test one_name = one_named
    test never_used_up = all_heard

    unfoldable pub verdict : List Bool
    unfolding test
    verdict = map test premises
