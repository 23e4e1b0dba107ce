-- What a statement that may be sent, or is stored, says of its view, its block and its certificate. Assumes nothing.
use mathlib.Core.Path.{◌≡◌, refl, sym, ◌∙◌}
use Prim.Native.Nat.{ℕ, ◌-◌, ◌^◌, ◌≤◌, ◌<◌}
use native.Mathlib.Omega.{arith}
use mathlib.Core.Bool.{Bool, true, false}
use mathlib.Core.List.{List, Memᴰ as Mem}
use mathlib.Core.Option.{none, some}
use lib.Dec.{leb}
use borrow.Author.Tests.{leb-true, le-leb}
use Rattle.rules.specs.Sizes.{Settings, leader}
use Rattle.rules.specs.Messages.{new_view, propose, allowed, view_allowed, block_allowed}
use Rattle.rules.specs.Words.{Statement, message, same_statement, Tally, opened, own_block, certificate, State}
use Rattle.rules.specs.Inputs.{noted}
use Rattle.rules.specs.WellFormed.{is_name, statement_good, opener_good, tally_good, tallies_there}
use Rattle.laws.proofs.Tests.{by_bool, by_option, no_bool}
use Rattle.laws.proofs.Truths.{and_4}
use Rattle.laws.proofs.Allowed.{Sizes, sizes, view_within, view_name, name_lt, lt_name, mask_parts, certificate_mask, allowed_rights}
use Rattle.kept.specs.Parts.{Formed}
use Rattle.kept.specs.Said.{Sendable}
use Rattle.kept.proofs.Lists.{all_mem}
use Rattle.kept.proofs.Sendable.{named, sendable}
use Rattle.kept.proofs.Tallies.{Joinable, by_none, joinable, reached_new, tally_made}

pub record Stated (g : Settings) (x : Statement) : Type 0 where
  pub view : view_allowed g x.view ≡ true
  pub block : block_allowed x.height x.name ≡ true
  pub name : x.name < 256 ^ 32
  pub link : x.link < 256 ^ 32
  pub mask : x.mask < 2 ^ g.n
  pub author : x.author ≡ leader g x.view
  pub certified : (now : ℕ) → Joinable (by_none g now) (certificate x)
  -- a propose stands above its parent
  pub parent : x.is_new_view ≡ false → (1 ≤ x.height) × (block_allowed (x.height - 1) x.link ≡ true)

module _ (g : Settings) (x : Statement) (e : Sendable g (message x)) where
  new_view_stated : x.is_new_view ≡ true → Stated g x
  unfolding message certificate
  new_view_stated k =
      let (v, b, c, d, a) = allowed_rights g (new_view x.view x.height x.name x.link x.mask x.author) (rw (k, message) at e.is_allowed) in
      let n = named (new_view x.view x.height x.name x.link x.mask x.author) (rw (k, message) at e.fits) in
      let w = view_within g x.view v in
      record {
        view = v;
        block = b;
        name = n;
        link = view_name g.size (omega arith);
        mask = certificate_mask g x.mask x.height x.link d;
        author = a;
        certified = λ now. rw (k, certificate) (joinable g now (record { view = x.link; height = x.height; name = x.name; mask = x.mask }) b n d);
        parent = λ q. no_bool (sym k ∙ q);
      }

  propose_stated : x.is_new_view ≡ false → Stated g x
  unfolding message certificate opener_good
  propose_stated k =
      let (v, h, b, c, m, a) = allowed_rights g (propose x.view x.height x.name x.link x.mask x.author) (rw (k, message) at e.is_allowed) in
      let n = named (propose x.view x.height x.name x.link x.mask x.author) (rw (k, message) at e.fits) in
      record {
        view = v;
        block = b;
        name = n.0;
        link = n.1;
        mask = (mask_parts g x.mask m).0;
        author = a;
        certified =
            λ now.
            rw (k, certificate)
            (λ q. tally_made (record { view = v; block = c; name = n.1; mask = (mask_parts g x.mask m).0; opener = refl; reached = reached_new (by_none g now) x.mask }));
        parent = λ q. (h, c);
      }

  pub stated : Stated g x
  stated = by_bool x.is_new_view new_view_stated propose_stated

  -- a vote for it joins the tally of its block
  pub own_good : (now m : ℕ) → m < 2 ^ g.n → tally_good g now (opened (by_none g now) (own_block x m)) ≡ true
  unfolding own_block opener_good
  own_good now m h =
      let k = stated in
      tally_made (record { view = k.view; block = k.block; name = k.name; mask = h; opener = refl; reached = reached_new (by_none g now) m })

-- ---- stored

module _ (s : State) (x : Statement) where
  -- "voted for, if ever, not after the clock"
  unfoldable in_time : Bool
  in_time = elim x.voted [ none ↦ true | some c ↦ leb c s.clock ]

  statement_parts : statement_good s x ≡ true
      → (allowed s.settings (message x) ≡ true) × (is_name x.name ≡ true) × (is_name x.link ≡ true) × (in_time ≡ true)
  unfolding statement_good in_time
  statement_parts e = and_4 (allowed s.settings (message x)) (is_name x.name) (is_name x.link) in_time e

  pub stored_sendable : Sizes s.settings → statement_good s x ≡ true → Sendable s.settings (message x)
  unfolding message
  stored_sendable z e =
      let (a, n, l, _) = statement_parts e in
      sendable (message x) z a
      (by_bool x.is_new_view (λ k. rw (k, message) (name_lt x.name n)) (λ k. rw (k, message) (name_lt x.name n, name_lt x.link l)))

  -- a new one that may be sent may be stored
  pub new_good : Sendable s.settings (message x) → x.voted ≡ none → statement_good s x ≡ true
  unfolding statement_good
  new_good e v =
      let k = stated s.settings x e in
      rw (e.is_allowed, lt_name x.name k.name, lt_name x.link k.link, v)

  pub noted_good : statement_good s x ≡ true → statement_good s (noted s.clock x) ≡ true
  unfolding statement_good noted message
  noted_good e =
      let (a, n, l, _) = statement_parts e in
      rw (a, n, l, le-leb s.clock s.clock (omega arith))

  -- part (6) of a stored statement, for the clock of its vote
  pub voted_le : (c : ℕ) → statement_good s x ≡ true → x.voted ≡ some c → c ≤ s.clock
  unfolding in_time
  voted_le c e v = let t = statement_parts e in leb-true c s.clock (rw (v, in_time) at t.3)

-- a later clock with the same settings
pub later_good : (s t : State) (x : Statement) → t.settings ≡ s.settings → s.clock ≤ t.clock → statement_good s x ≡ true → statement_good t x ≡ true
unfolding statement_good in_time
later_good s t x g l e =
    let (a, n, k, v) = statement_parts s x e in
    rw (g, a, n, k) (by_option x.voted (λ o. rw (o, in_time) refl) (λ c o. rw (o, in_time) (let m = voted_le s x c e o in le-leb c t.clock (omega arith))))

module _ {s : State} (f : Formed s) (x : Statement) (m : Mem x s.statements) where
  pub stored_said : Sendable s.settings (message x)
  stored_said = stored_sendable s x (sizes s.settings f.settings) (all_mem (statement_good s) f.tables.statements m)

  pub stored_stated : Stated s.settings x
  stored_stated = stated s.settings x stored_said

-- ---- the same

-- noting a clock changes neither what is the same nor what is a block
module _ (c : ℕ) (x y : Statement) where
  pub noted_left : same_statement (noted c x) y ≡ same_statement x y
  unfolding same_statement noted
  noted_left = refl

  pub noted_right : same_statement x (noted c y) ≡ same_statement x y
  unfolding same_statement noted
  noted_right = refl

pub noted_there : (c : ℕ) (ts : List Tally) (x : Statement) → tallies_there ts (noted c x) ≡ tallies_there ts x
unfolding tallies_there noted own_block certificate
noted_there c ts x = refl
