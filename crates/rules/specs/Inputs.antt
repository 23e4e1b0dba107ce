-- 01, 'What each input does', on unbounded tables: what is left, and what is said in order. Assumes nothing.
use Rattle.std.specs.Prelude.{ℕ, zero, suc, ◌+◌, ◌-◌, ◌*◌, Bool, true, false, not, ◌&&◌, ◌||◌, List, [], ◌∷◌, ◌++◌, length, drop, get_or, set, leb, ltb, eqb}
use Rattle.std.proofs.Math.Option.{Option, none, some, map}
use Rattle.rules.specs.Limits.{last_view, last_height}
use Rattle.rules.specs.Lists.{first, any, keep, alter, sorted}
use Rattle.rules.specs.Sizes.{leader, only, holds, joined, quorum}
use Rattle.rules.specs.Messages.{Message, new_view, propose, vote, blame, blame_set, status, Effect, to_all, to_one, committed}
use Rattle.rules.specs.Words.{Statement, message, same_statement, conflict, Certificate, Opener, Tally, own_block, certificate, join, join_certificate, voters, below, highest, Phase, in_view, waiting, stopped, State, moment}

-- a state on the way, and what was said so far
pub record Work : Type 0 where
  pub now : State
  pub out : List Effect

unfoldable pub saying : State → List Effect → Work
saying s o = record { now = s; out = o }

-- one rule, then another
unfoldable pub ◌▸◌ : Work → (State → Work) → Work
w ▸ f = let next = f w.now in record { now = next.now; out = w.out ++ next.out }

infixl 40 ◌▸◌
-- ---- a state with one part changed

unfoldable pub with_phase : Phase → State → State
with_phase p s =
    record { settings = s.settings; phase = p; view = s.view; entry = s.entry; clock = s.clock; lock = s.lock; statements = s.statements; tallies = s.tallies; blames = s.blames; log = s.log }

unfoldable pub with_clock : ℕ → State → State
with_clock c s =
    record { settings = s.settings; phase = s.phase; view = s.view; entry = s.entry; clock = c; lock = s.lock; statements = s.statements; tallies = s.tallies; blames = s.blames; log = s.log }

unfoldable pub with_tables : List Statement → List Tally → State → State
with_tables xs ts s =
    record { settings = s.settings; phase = s.phase; view = s.view; entry = s.entry; clock = s.clock; lock = s.lock; statements = xs; tallies = ts; blames = s.blames; log = s.log }

unfoldable pub with_blames : List ℕ → State → State
with_blames ms s =
    record { settings = s.settings; phase = s.phase; view = s.view; entry = s.entry; clock = s.clock; lock = s.lock; statements = s.statements; tallies = s.tallies; blames = ms; log = s.log }

unfoldable pub with_log : List ℕ → State → State
with_log l s =
    record { settings = s.settings; phase = s.phase; view = s.view; entry = s.entry; clock = s.clock; lock = s.lock; statements = s.statements; tallies = s.tallies; blames = s.blames; log = l }

unfoldable pub entering : ℕ → Certificate → State → State
entering v t s =
    record { settings = s.settings; phase = in_view; view = v; entry = s.clock; clock = s.clock; lock = t; statements = s.statements; tallies = s.tallies; blames = s.blames; log = s.log }

-- "the station is in that view"
unfoldable pub is_in : ℕ → State → Bool
is_in v s = elim s.phase [ in_view ↦ eqb v s.view | waiting q ↦ false | stopped c ↦ false ]

-- "quitting ends voting and commit timers of the view"
unfoldable pub quit : List Effect → State → Work
unfolding saying with_phase
quit o s = saying (with_phase (waiting s.clock) s) o

-- ---- statement

-- a new-view whose certificate ranks below the lock is not voted for
unfoldable pub below_lock : Statement → State → Bool
unfolding below certificate
below_lock x s = x.is_new_view && below (certificate x) s.lock

-- "notes the clock"
unfoldable pub noted : ℕ → Statement → Statement
noted c x =
    record { is_new_view = x.is_new_view; view = x.view; height = x.height; name = x.name; link = x.link; mask = x.mask; author = x.author; voted = some c }

-- "adds the own vote and notes the clock"
unfoldable pub voted_for : Statement → State → State
unfolding with_tables alter same_statement noted join own_block only
voted_for x s =
    with_tables (alter (same_statement x) (noted s.clock) s.statements) (join (moment none s) (own_block x (only s.settings.own)) s.tallies) s

-- "sends the statement, then the vote"
unfoldable pub ballot : Statement → State → List Effect
unfolding message
ballot x s = to_all (message x) ∷ to_all (vote x.view x.height x.name s.settings.own) ∷ []

-- "a propose is voted for; a new-view is voted for if its certificate ranks at or above the lock"
unfoldable pub voting : Statement → State → Work
unfolding below_lock saying voted_for ballot
voting x s = elim (below_lock x s) [ true ↦ saying s [] | false ↦ saying (voted_for x s) (ballot x s) ]

-- "its certificate mask joins its tally"
unfoldable pub certificate_joined : Statement → State → State
unfolding with_tables join_certificate certificate
certificate_joined x s = with_tables s.statements (join_certificate (moment none s) (certificate x) s.tallies) s

-- "if new, it is stored with the mask as received, and tallies exist from now on for its certified block and its own block"
unfoldable pub stored : Statement → State → State
unfolding with_tables join own_block join_certificate certificate
stored x s = with_tables (s.statements ++ x ∷ []) (join (moment none s) (own_block x 0) (join_certificate (moment none s) (certificate x) s.tallies)) s

-- "where it conflicts with a stored one, the station sends all the earliest stored conflicting one, then this one, and quits"
unfoldable pub statement : Statement → State → Work
unfolding any same_statement saying certificate_joined stored is_in first conflict voting quit message
statement x s =
    elim (any (same_statement x) s.statements) [
      | true ↦ saying (certificate_joined x s) []
      | false ↦
          elim (is_in x.view s) [
            | false ↦ saying (stored x s) []
            | true ↦
                elim (first (conflict x) s.statements) [
                  | none ↦ voting x (stored x s)
                  | some y ↦ quit (to_all (message y) ∷ to_all (message x) ∷ []) (stored x s)
                ]
          ]
    ]

-- ---- vote, status, blame, blame set

-- "vote, status join their tally, opened if missing (a status for genesis in view 0 changes nothing)"; 02: by the vote's author
unfoldable pub tallied : Opener → Certificate → State → Work
unfolding saying with_tables join_certificate
tallied k t s = saying (with_tables s.statements (join_certificate (moment k s) t s.tallies) s) []

-- the blame mask of a view
unfoldable pub blames_of : ℕ → State → ℕ
blames_of v s = get_or s.blames v 0

-- "blame, blame set join the view's mask"
unfoldable pub blamed : ℕ → ℕ → State → State
unfolding with_blames blames_of joined
blamed v m s = with_blames (set s.blames v (joined (blames_of v s) m)) s

-- the "blame mask is full": "at f+1"
unfoldable pub blame_full : ℕ → State → Bool
unfolding quorum blames_of
blame_full v s = quorum s.settings (blames_of v s)

-- "at f+1, while the station is in that view, it sends the set (the mask now held) and quits. Otherwise they are only kept"
unfoldable pub blaming : ℕ → ℕ → State → Work
unfolding blamed is_in blame_full quit blames_of saying
blaming v m s =
    let kept = blamed v m s in
    elim (is_in v kept && blame_full v kept) [ true ↦ quit (to_all (blame_set v (blames_of v kept)) ∷ []) kept | false ↦ saying kept [] ]

-- ---- a message

unfoldable pub handled : Message → State → Work
unfolding statement tallied blaming only
handled (new_view v h b c m a) = statement (record { is_new_view = true; view = v; height = h; name = b; link = c; mask = m; author = a; voted = none })
handled (propose v h b p m a) = statement (record { is_new_view = false; view = v; height = h; name = b; link = p; mask = m; author = a; voted = none })
handled (vote v h b a) = tallied (some a) (record { view = v; height = h; name = b; mask = only a })
handled (blame v a) = blaming v (only a)
handled (blame_set v m) = blaming v m
handled (status h b c m) = tallied none (record { view = c; height = h; name = b; mask = m })

-- ---- offer of a name

-- "is in a view, leads it"
unfoldable pub leads : State → Bool
unfolding is_in leader
leads s = is_in s.view s && eqb (leader s.settings s.view) s.settings.own

-- "has a new-view of that view stored"
unfoldable pub is_opened : State → Bool
unfolding any
is_opened s = any (λ x. x.is_new_view && eqb x.view s.view) s.statements

-- "the name or parent of any stored statement"
unfoldable pub is_used : ℕ → State → Bool
unfolding any
is_used b s = any (λ x. eqb b x.name || not x.is_new_view && eqb b x.link) s.statements

-- "the greatest-height statement of the view", the first of several
unfoldable pub top : ℕ → List Statement → Option Statement
top v [] = none
top v (x ∷ xs) =
    elim (eqb x.view v) [
      | false ↦ top v xs
      | true ↦ elim (top v xs) [ none ↦ some x | some y ↦ elim (ltb x.height y.height) [ true ↦ some y | false ↦ some x ] ]
    ]

-- "is certified in this view, that height is below 65,535"
unfoldable pub extendable : Statement → State → Bool
unfolding quorum voters own_block
extendable x s = quorum s.settings (voters (own_block x 0) s.tallies) && ltb x.height last_height

-- "the propose above that one, with the tally's mask"
unfoldable pub above : Statement → ℕ → State → Message
unfolding voters own_block
above x b s = propose s.view (x.height + 1) b x.name (voters (own_block x 0) s.tallies) s.settings.own

-- what an offer makes, if it is to be taken
unfoldable pub offered : ℕ → State → Option Message
unfolding leads is_opened is_used top extendable above
offered b s =
    elim (leads s && is_opened s && not (eqb b 0) && not (is_used b s)) [
      | false ↦ none
      | true ↦ elim (top s.view s.statements) [ none ↦ none | some x ↦ elim (extendable x s) [ true ↦ some (above x b s) | false ↦ none ] ]
    ]

-- ---- tick: commit

-- "every propose of this view voted for at least 2D+1 ticks ago"
unfoldable pub is_due : State → Statement → Bool
unfolding is_in
is_due s x =
    not x.is_new_view && is_in x.view s && elim x.voted [ none ↦ false | some c ↦ leb (2 * s.settings.D + 1) (s.clock - c) ]

-- "by ascending height, then by place"
unfoldable pub due : State → List Statement
unfolding sorted keep is_due
due s = sorted (λ x. x.height) (keep (is_due s) s.statements)

-- "the first stored propose of that name, one height lower, of any view"
unfoldable pub is_block : ℕ → ℕ → Statement → Bool
is_block h b x = not x.is_new_view && eqb h x.height && eqb b x.name

-- the names from height 1 up to the block b of height h, then those above it; none where "an ancestor is not stored"
unfoldable pub chain_to : List Statement → ℕ → ℕ → List ℕ → Option (List ℕ)
unfolding first is_block
chain_to xs zero b above = some above
chain_to xs (suc h) b above = elim (first (is_block (suc h) b) xs) [ none ↦ none | some x ↦ chain_to xs h x.link (b ∷ above) ]

-- "a block's chain runs from it to height 1": from the voted propose's own record and parent on
unfoldable pub chain : List Statement → Statement → Option (List ℕ)
unfolding chain_to
chain xs x = chain_to xs (x.height - 1) x.link (x.name ∷ [])

-- a chain joins the log: the longer of both, or none where "any chain name differs from the log's at its height"
unfoldable pub merge : List ℕ → List ℕ → Option (List ℕ)
merge [] l = some l
merge (b ∷ bs) [] = some (b ∷ bs)
merge (b ∷ bs) (c ∷ l) = elim (eqb b c) [ true ↦ map (c ∷◌) (merge bs l) | false ↦ none ]

-- "a block with an ancestor not stored is passed over"
unfoldable pub commit : List Statement → Statement → List ℕ → Option (List ℕ)
unfolding chain merge
commit xs x l = elim (chain xs x) [ none ↦ some l | some bs ↦ merge bs l ]

-- the due ones in turn, each against "the log as it then stands"
unfoldable pub commits : List Statement → List Statement → List ℕ → Option (List ℕ)
unfolding commit
commits xs [] l = some l
commits xs (x ∷ ds) l = elim (commit xs x l) [ none ↦ none | some l' ↦ commits xs ds l' ]

-- the names that the log gained, by ascending height: "each reported once"
unfoldable pub reports : ℕ → List ℕ → List Effect
reports h [] = []
reports h (b ∷ bs) = committed h b ∷ reports (suc h) bs

unfoldable pub logging : List ℕ → State → Work
unfolding saying with_log reports
logging l s = saying (with_log l s) (reports (suc (length s.log)) (drop (length s.log) l))

-- ---- tick: blame, new-view, entry

-- "m being proposes voted for in this view"
unfoldable pub votes : State → ℕ
unfolding keep
votes s =
    length (keep (λ x. not x.is_new_view && eqb x.view s.view && elim x.voted [ none ↦ false | some c ↦ true ]) s.statements)

-- "in a view and with its own bit clear in that view's blame mask, if clock minus entry is at least (2m+6)D+2"
unfoldable pub overdue : State → Bool
unfolding is_in holds blames_of votes
overdue s =
    is_in s.view s && not (holds (blames_of s.view s) s.settings.own)
    && leb ((2 * votes s + 6) * s.settings.D + 2) (s.clock - s.entry)

-- "send a blame and join it to the mask; at f+1 send the set and quit"
unfoldable pub complain : State → Work
unfolding overdue saying blaming only ◌▸◌
complain s =
    elim (overdue s) [
      | true ↦ saying s (to_all (blame s.view s.settings.own) ∷ []) ▸ blaming s.view (only s.settings.own)
      | false ↦ saying s []
    ]

-- "its leader at exactly entry+2D+1"
unfoldable pub leads_now : State → Bool
unfolding leads
leads_now s = leads s && eqb s.clock (s.entry + 2 * s.settings.D + 1)

-- "a new-view from the highest certificate of an earlier view"
unfoldable pub own_new_view : State → Message
unfolding highest
own_new_view s =
    let t = highest s.settings s.view s.tallies in
    new_view s.view t.height t.name t.view t.mask s.settings.own

unfoldable pub lead : State → Work
unfolding leads_now handled own_new_view saying
lead s = elim (leads_now s) [ true ↦ handled (own_new_view s) s | false ↦ saying s [] ]

-- "a waiting station below view 32 enters the next at exactly quit+D+1"
unfoldable pub enters_now : State → Bool
unfolding last_view
enters_now s =
    elim s.phase [ in_view ↦ false | waiting q ↦ ltb s.view (last_view s.settings.size) && eqb s.clock (q + s.settings.D + 1) | stopped c ↦ false ]

-- "locks on the highest certificate of an earlier view"
unfoldable pub next_lock : State → Certificate
unfolding highest
next_lock s = highest s.settings (s.view + 1) s.tallies

-- "sends it as status to the new leader unless it is the leader"
unfoldable pub report : State → List Effect
unfolding leader next_lock
report s =
    let to = leader s.settings (s.view + 1) in
    let t = next_lock s in
    elim (eqb to s.settings.own) [ true ↦ [] | false ↦ to_one to (status t.height t.name t.view t.mask) ∷ [] ]

unfoldable pub entered : State → Work
unfolding saying entering next_lock report
entered s = saying (entering (s.view + 1) (next_lock s) s) (report s)

-- the stored statements of the view
unfoldable pub current : State → List Statement
unfolding keep
current s = keep (λ x. eqb x.view s.view) s.statements

-- "two stored statements of it conflict (least place of the earlier, then of the later)"
unfoldable pub pair : List Statement → Option (Statement × Statement)
unfolding first conflict
pair [] = none
pair (x ∷ xs) = elim (first (conflict x) xs) [ none ↦ pair xs | some y ↦ some (x, y) ]

-- "new-view first, then by height, then by place"
unfoldable pub in_order : List Statement → List Statement
unfolding sorted
in_order xs = sorted (λ x. elim x.is_new_view [ true ↦ 0 | false ↦ suc x.height ]) xs

unfoldable pub voting_all : List Statement → State → Work
unfolding saying voting ◌▸◌
voting_all [] s = saying s []
voting_all (x ∷ xs) s = voting x s ▸ voting_all xs

-- "quits if the new view's blame mask is full, or if two stored statements of it conflict (if both causes hold, the set
-- only); else votes on stored statements of it by the rules above"
unfoldable pub arrive : State → Work
unfolding blame_full quit blames_of pair current message voting_all in_order
arrive s =
    elim (blame_full s.view s) [
      | true ↦ quit (to_all (blame_set s.view (blames_of s.view s)) ∷ []) s
      | false ↦
          elim (pair (current s)) [
            | some p ↦ quit (to_all (message p.0) ∷ to_all (message p.1) ∷ []) s
            | none ↦ voting_all (in_order (current s)) s
          ]
    ]

unfoldable pub enter : State → Work
unfolding enters_now entered arrive saying ◌▸◌
enter s = elim (enters_now s) [ true ↦ entered s ▸ arrive | false ↦ saying s [] ]

-- ---- tick

-- "in order: clock plus 1. Commit .. Then .. blame. Then .. new-view. .. enters"; none where a due commit differs from the log
unfoldable pub ticked : State → Option Work
unfolding with_clock commits due logging complain lead enter ◌▸◌
ticked s =
    let now = with_clock (s.clock + 1) s in
    map (λ l. logging l now ▸ complain ▸ lead ▸ enter) (commits now.statements (due now) now.log)
