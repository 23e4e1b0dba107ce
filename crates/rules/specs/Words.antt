-- 01, 'Words used': statement, same, tally, certified, rank, highest, conflict, and the state of a station. Assumes nothing.
use Rattle.std.specs.Prelude.{ℕ, suc, ◌+◌, ◌-◌, Bool, true, false, not, ◌&&◌, ◌||◌, List, [], ◌∷◌, length, replicate, leb, ltb, eqb}
use Rattle.std.proofs.Math.Option.{Option, none, some}
use Rattle.rules.specs.Limits.{first_view, last_view}
use Rattle.rules.specs.Lists.{iff, keep}
use Rattle.rules.specs.Sizes.{Settings, joined, quorum}
use Rattle.rules.specs.Messages.{Message, new_view, propose}

-- "a statement is a new-view or propose"; its link is a new-view's certificate view, a propose's parent name.
-- The mask is "as received"; the clock of the own vote is there once it was voted for.
pub record Statement : Type 0 where
  pub is_new_view : Bool
  pub view : ℕ
  pub height : ℕ
  pub name : ℕ
  pub link : ℕ
  pub mask : ℕ
  pub author : ℕ
  pub voted : Option ℕ

-- the statement as it is sent: "the mask as received"
unfoldable pub message : Statement → Message
message x =
    elim x.is_new_view [
      | true ↦ new_view x.view x.height x.name x.link x.mask x.author
      | false ↦ propose x.view x.height x.name x.link x.mask x.author
    ]

-- "two are the same when all but the mask agree"
unfoldable pub same_statement : Statement → Statement → Bool
unfolding iff
same_statement x y =
    iff x.is_new_view y.is_new_view && eqb x.view y.view && eqb x.height y.height && eqb x.name y.name
    && eqb x.link y.link && eqb x.author y.author

-- What a statement has against another of its view: "both are new-views; both are proposes of one height with different
-- names; or one is a new-view and the other a propose of no greater height"; and 02, request 4: "at adjacent heights, the
-- upper a propose whose parent is not the lower's name".
unfoldable pub against : Statement → Statement → Bool
against x y =
    elim x.is_new_view [
      | true ↦ y.is_new_view || leb y.height x.height
      | false ↦
          not y.is_new_view && eqb x.height y.height && not (eqb x.name y.name)
          || eqb x.height (y.height + 1) && not (eqb x.link y.name)
    ]

-- "two different statements of one view conflict when" either has something against the other
unfoldable pub conflict : Statement → Statement → Bool
unfolding same_statement against
conflict x y = not (same_statement x y) && eqb x.view y.view && (against x y || against y x)

-- a block of a view, with voters: what a statement, a vote or a status carries, and the lock
pub record Certificate : Type 0 where
  pub view : ℕ
  pub height : ℕ
  pub name : ℕ
  pub mask : ℕ

-- 02: "who opened the tally": nobody, where a statement or a status did, or the author of the vote message that did
abbrev pub Opener : Type 0
Opener = Option ℕ

-- "a tally is (view, height, name) with a mask": a record of the table, which keeps who opened it and, 02, "the clock at which
-- it first reached a quorum in this store, or none"
pub record Tally : Type 0 where
  pub view : ℕ
  pub height : ℕ
  pub name : ℕ
  pub mask : ℕ
  pub opener : Opener
  pub reached : Option ℕ

-- what a joining is told: the settings, the clock, and who opens the tally if it is missing
pub record Moment : Type 0 where
  pub settings : Settings
  pub clock : ℕ
  pub opener : Opener

-- the clock that a tally has kept stays; one that has none keeps the present one once this mask is a quorum
unfoldable pub reached_at : Moment → Option ℕ → ℕ → Option ℕ
unfolding quorum
reached_at k (some c) m = some c
reached_at k none m = elim (quorum k.settings m) [ true ↦ some k.clock | false ↦ none ]

-- what a tally certifies, and a tally that somebody opens for a certificate
abbrev pub certificate_of : Tally → Certificate
certificate_of t = record { view = t.view; height = t.height; name = t.name; mask = t.mask }

abbrev pub opened : Moment → Certificate → Tally
opened k c = record { view = c.view; height = c.height; name = c.name; mask = c.mask; opener = k.opener; reached = reached_at k none c.mask }

-- the statement's "own block in its view", with a mask
unfoldable pub own_block : Statement → ℕ → Certificate
own_block x m = record { view = x.view; height = x.height; name = x.name; mask = m }

-- the statement's certificate: of "its certified block". A propose's "mask certifies (view, height-1, parent)"
unfoldable pub certificate : Statement → Certificate
certificate x =
    elim x.is_new_view [
      | true ↦ record { view = x.link; height = x.height; name = x.name; mask = x.mask }
      | false ↦ record { view = x.view; height = x.height - 1; name = x.link; mask = x.mask }
    ]

unfoldable pub same_block : Certificate → Certificate → Bool
same_block t u = eqb t.view u.view && eqb t.height u.height && eqb t.name u.name

-- a tally is of this block
abbrev pub of_block : Certificate → Tally → Bool
of_block t u = same_block t (certificate_of u)

-- "adding a voter to a tally gives back the grown tally"
unfoldable pub grown : Moment → Tally → ℕ → Tally
unfolding joined reached_at
grown k t m =
    let now = joined t.mask m in
    record { view = t.view; height = t.height; name = t.name; mask = now; opener = t.opener; reached = reached_at k t.reached now }

-- a mask joins its tally, "opened if missing", and who opens it then is said; to open a tally is to join no voters
unfoldable pub join : Moment → Certificate → List Tally → List Tally
unfolding same_block grown reached_at
join k t [] = opened k t ∷ []
join k t (u ∷ us) = elim (same_block t (certificate_of u)) [ true ↦ grown k u t.mask ∷ us | false ↦ u ∷ join k t us ]

-- "genesis is certified in view 0 and has no tally there"
unfoldable pub join_certificate : Moment → Certificate → List Tally → List Tally
unfolding join
join_certificate k t us = elim (eqb t.view 0) [ true ↦ us | false ↦ join k t us ]

-- a tally's opener is this author; how many tallies an author opened
unfoldable pub is_author : ℕ → Opener → Bool
is_author a none = false
is_author a (some b) = eqb a b

unfoldable pub opened_by : ℕ → List Tally → ℕ
unfolding keep is_author
opened_by a ts = length (keep (λ t. is_author a t.opener) ts)

-- the voters that a block's tally has
unfoldable pub voters : Certificate → List Tally → ℕ
unfolding same_block
voters t [] = 0
voters t (u ∷ us) = elim (same_block t (certificate_of u)) [ true ↦ u.mask | false ↦ voters t us ]

-- the clock that a block's tally has kept
unfoldable pub reached_of : Certificate → List Tally → Option ℕ
unfolding same_block
reached_of t [] = none
reached_of t (u ∷ us) = elim (same_block t (certificate_of u)) [ true ↦ u.reached | false ↦ reached_of t us ]

-- "it is certified at f+1 bits"
unfoldable pub certified : Settings → Tally → Bool
unfolding quorum
certified g t = quorum g t.mask

-- "rank is view, then height"
unfoldable pub below : Certificate → Certificate → Bool
below t u = ltb t.view u.view || eqb t.view u.view && ltb t.height u.height

-- "'highest' breaks ties by the smaller name in byte order"
unfoldable pub higher : Certificate → Certificate → Bool
unfolding below
higher t u = below u t || not (below t u) && ltb t.name u.name

abbrev pub genesis : Certificate
genesis = record { view = 0; height = 0; name = 0; mask = 0 }

-- the "highest certificate of an earlier view"
unfoldable pub highest : Settings → ℕ → List Tally → Certificate
unfolding certified higher
highest g v [] = genesis
highest g v (t ∷ ts) =
    let best = highest g v ts in
    elim (ltb t.view v && certified g t && higher (certificate_of t) best) [ true ↦ certificate_of t | false ↦ best ]

-- "a station is in a view, waiting after a quit, or stopped with a cause"
pub data Cause : Type 0 where
  full split clock : Cause

pub data Phase : Type 0 where
  in_view : Phase
  waiting : (quit : ℕ) → Phase
  stopped : Cause → Phase

-- The view is the one held or last quit; entry is the clock at which it was entered. The blame mask of view v stands at
-- place v (nobody blames view 0), the name logged at height h at place h - 1.
pub record State : Type 0 where
  pub settings : Settings
  pub phase : Phase
  pub view : ℕ
  pub entry : ℕ
  pub clock : ℕ
  pub lock : Certificate
  pub statements : List Statement
  pub tallies : List Tally
  pub blames : List ℕ
  pub log : List ℕ

-- what a station tells a joining: its settings and its clock
abbrev pub moment : Opener → State → Moment
moment k s = record { settings = s.settings; clock = s.clock; opener = k }

-- "it starts in view 1, clock 0, lock on genesis"
unfoldable pub fresh : Settings → State
unfolding last_view
fresh g =
    record {
      settings = g;
      phase = in_view;
      view = first_view;
      entry = 0;
      clock = 0;
      lock = genesis;
      statements = [];
      tallies = [];
      blames = replicate (suc (last_view g.size)) 0;
      log = [];
    }
